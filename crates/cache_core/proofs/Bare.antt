-- What is laid in the records, seen without the keys that Ghost remembers.
use Rattle.std.proofs.Common.{◌≡◌, ℕ, zero, suc, List, [], ◌∷◌, length, refl, sym, ap, ◌∙◌}
use Rattle.records.specs.declared.column.Column.TheVariants.{Resident, Remembered}
use Rattle.records.specs.declared.record.Record.{Record}
use Rattle.records.specs.Columns.{keyed}
use Rattle.cache_core.specs.View.{valued, bare, rekeyed, revalued}

module _ {K V : Type 0} where
  pub bare_noted : (rs : List (Record K V)) (p : ℕ) (k : K) → bare (keyed Remembered rs p k) ≡ bare rs
  bare_noted [] p k = refl
  bare_noted (r ∷ rs) zero k = refl
  bare_noted (r ∷ rs) (suc p) k = ap (λ (l : List (K × V)). (r.key, r.value) ∷ l) (bare_noted rs p k)

  pub bare_keyed : (rs : List (Record K V)) (p : ℕ) (k : K) → bare (keyed Resident rs p k) ≡ rekeyed p k (bare rs)
  bare_keyed [] p k = refl
  bare_keyed (r ∷ rs) zero k = refl
  bare_keyed (r ∷ rs) (suc p) k = ap (λ (l : List (K × V)). (r.key, r.value) ∷ l) (bare_keyed rs p k)

  pub bare_valued : (rs : List (Record K V)) (p : ℕ) (v : V) → bare (valued rs p v) ≡ revalued p v (bare rs)
  bare_valued [] p v = refl
  bare_valued (r ∷ rs) zero v = refl
  bare_valued (r ∷ rs) (suc p) v = ap (λ (l : List (K × V)). (r.key, r.value) ∷ l) (bare_valued rs p v)

  bare_length : (rs : List (Record K V)) → length (bare rs) ≡ length rs
  bare_length [] = refl
  bare_length (r ∷ rs) = ap suc (bare_length rs)

  rekeyed_length : (p : ℕ) (k : K) (rs : List (K × V)) → length (rekeyed p k rs) ≡ length rs
  rekeyed_length p k [] = refl
  rekeyed_length zero k (r ∷ rs) = refl
  rekeyed_length (suc p) k (r ∷ rs) = ap suc (rekeyed_length p k rs)

  pub long_kept : (rs qs : List (Record K V)) (p : ℕ) (k : K) → bare qs ≡ rekeyed p k (bare rs) → length qs ≡ length rs
  long_kept rs qs p k e = sym (bare_length qs) ∙ (ap length e ∙ (rekeyed_length p k (bare rs) ∙ bare_length rs))
