-- What is read off the records, and the capacity that they are opened with.
use Rattle.std.proofs.Common.{◌≡◌, ℕ, zero, suc, ◌<◌, ◌≤◌, Bool, true, false, cond, eqb, leb, List, [], ◌∷◌, length, get_or, Ok, Err, sym, refl, ap, ◌∙◌, inl, inr, le_of_suc-le-suc, arith}
use Rattle.std.proofs.lemmas.Bool.Decides.{eqb_tells}
use Rattle.machine.specs.declared.refusal.Refusal.TheVariants.{NoRecords, TooManyRecords}
use Rattle.machine.specs.Measure.{or_none, opened_with}
use Rattle.policy.specs.View.{allowed}
use Rattle.records.specs.declared.record.Record.{Record}
use Rattle.cache_core.specs.View.{value_at, bare, rekeyed}

pub value_read : {K V : Type 0} (d : V) (rs : List (Record K V)) (p : ℕ) (x : Record K V) → p < length rs → (get_or rs p x).value ≡ value_at d rs p
value_read d [] p x h = absurd (omega arith)
value_read d (r ∷ rs) zero x h = refl
value_read d (r ∷ rs) (suc p) x h = value_read d rs p x (le_of_suc-le-suc h)

opened_by : (n : ℕ) (none few : Bool) → (none ≡ true → n ≡ 0) → cond few n 0 ≡ or_none (cond none (Err NoRecords) (cond few (Ok n) (Err (TooManyRecords n))))
opened_by n true true zero_is = zero_is refl
opened_by n true false zero_is = refl
opened_by n false true zero_is = refl
opened_by n false false zero_is = refl

pub allowed_opened : (n : ℕ) → allowed n ≡ opened_with n
allowed_opened n =
    opened_by n (eqb n 0) (leb n 512) (λ e. elim (eqb_tells n 0) [ inl s ↦ s.1 | inr s ↦ absurd (let z : ◌≡◌ {A = ℕ} 0 1 = (let q : true ≡ false = sym e ∙ s.0 in cc) in omega arith) ])

allowed_few : (n : ℕ) (b : Bool) → cond b n 0 ≤ n
allowed_few n true = omega arith
allowed_few n false = omega arith

pub allowed_within : (n : ℕ) → allowed n ≤ n
allowed_within n = allowed_few n (leb n 512)

-- ## Values seen without the keys that Ghost remembers

module _ {K V : Type 0} where
  abbrev value_by : V → List (K × V) → ℕ → V
  value_by d [] p = d
  value_by d (r ∷ rs) zero = r.1
  value_by d (r ∷ rs) (suc p) = value_by d rs p

  value_bare : (d : V) (rs : List (Record K V)) (p : ℕ) → value_at d rs p ≡ value_by d (bare rs) p
  value_bare d [] p = refl
  value_bare d (r ∷ rs) zero = refl
  value_bare d (r ∷ rs) (suc p) = value_bare d rs p

  value_rekeyed : (d : V) (rs : List (K × V)) (p : ℕ) (k : K) (q : ℕ) → value_by d (rekeyed p k rs) q ≡ value_by d rs q
  value_rekeyed d [] p k q = refl
  value_rekeyed d (r ∷ rs) zero k zero = refl
  value_rekeyed d (r ∷ rs) zero k (suc q) = refl
  value_rekeyed d (r ∷ rs) (suc p) k zero = refl
  value_rekeyed d (r ∷ rs) (suc p) k (suc q) = value_rekeyed d rs p k q

  -- a key laid changes no value
  pub value_kept : (d : V) (rs qs : List (Record K V)) (p : ℕ) (k : K) (q : ℕ) → bare qs ≡ rekeyed p k (bare rs) → value_at d qs q ≡ value_at d rs q
  value_kept d rs qs p k q e = value_bare d qs q ∙ (ap (λ (l : List (K × V)). value_by d l q) e ∙ (value_rekeyed d (bare rs) p k q ∙ sym (value_bare d rs q)))

  -- within the records no other value is read
  pub value_any : (d u : V) (rs : List (Record K V)) (p : ℕ) → p < length rs → value_at u rs p ≡ value_at d rs p
  value_any d u [] p h = absurd (omega arith)
  value_any d u (r ∷ rs) zero h = refl
  value_any d u (r ∷ rs) (suc p) h = value_any d u rs p (le_of_suc-le-suc h)

  pub value_past : (d : V) (rs : List (Record K V)) (p : ℕ) → length rs ≤ p → d ≡ value_at d rs p
  value_past d [] p h = refl
  value_past d (r ∷ rs) zero h = absurd (omega arith)
  value_past d (r ∷ rs) (suc p) h = value_past d rs p (le_of_suc-le-suc h)
