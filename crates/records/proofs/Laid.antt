-- A key laid in a record and filed in an index that is tied to places.
use Rattle.std.proofs.Common.{◌≡◌, ℕ, suc, ◌<◌, cond, ltb, List, ◌∷◌, Some, Ok, Err, Result, sym, ap, ◌∙◌, subst, inl, inr, arith}
use Rattle.std.specs.Option.{option_map}
use Rattle.std.proofs.lemmas.Bool.Decides.{leb_tells}
use Rattle.handles.specs.declared.refusal.TableRefusal.{TableRefusal}
use Rattle.handles.specs.declared.refusal.TableRefusal.TheVariants.{Full}
use Rattle.index.specs.declared.index.KeyIndex.{KeyIndex}
use Rattle.index.specs.Filed.{is_key, bears, size, Files}
use Rattle.index.specs.Ties.{occurs, Ties, TiesIn}
use Rattle.index.proofs.Joined.{ties_laid, same_count}
use Rattle.records.specs.declared.column.Column.{Column}
use Rattle.records.specs.declared.record.Record.{Record}
use Rattle.records.specs.Columns.{word_at, keyed, Lays, TiedLay}
use Rattle.records.proofs.Keyed.{key_here, key_elsewhere}

module _ {K V : Type 0} (mean : K → List ℕ) (i j : KeyIndex) (rs : List (Record K V)) (column : Column) (place hash : ℕ) (key : K) (r : Result (Unit {0}) TableRefusal) where
  -- the index took the key
  pub lays_done : (qs : List (Record K V)) → r ≡ Ok tt → Files i hash place r j → qs ≡ keyed column rs place key → Lays i rs column place hash key r j qs
  lays_done qs ok f is =
      record {
        files = f;
        records =
            elim (leb_tells (suc (size i)) 768) [
              | inl t ↦ is ∙ ap (λ b. cond b (keyed column rs place key) rs) (sym t.0)
              | inr t ↦
                  absurd (let e : Ok tt ≡ Err (Full 768) = sym ok ∙ f.answer ∙ ap (λ b. cond b (Ok tt) (Err (Full 768))) t.0 in
                  cc)
            ];
      }

  -- the keys of the tied places are as before
  elsewhere : (ps : List ℕ) → occurs place ps ≡ 0 → (p : ℕ) → 0 < occurs p ps → word_at mean column (keyed column rs place key) p ≡ word_at mean column rs p
  elsewhere ps gone p some =
      ap (option_map mean) (key_elsewhere column rs place key p (λ e. (let z = ap (λ (q : ℕ). occurs q ps) e in omega arith)))

  pub lays_tied : (qs : List (Record K V)) → qs ≡ cond (ltb (size i) 768) (keyed column rs place key) rs → TiesIn i hash place r j → TiedLay mean i rs column place hash (mean key) r j qs
  lays_tied qs is into = λ hashed ps t h within gone none few.
      let laid = word_at mean column (keyed column rs place key) in
      let same = elsewhere ps gone in
      let here : laid place ≡ Some (mean key) = ap (option_map mean) (key_here column rs place key within) in
      let still = same_count (bears laid (mean key)) (bears (word_at mean column rs) (mean key)) ps (λ p some. ap (is_key (mean key)) (same p some)) in
      let d = into hashed laid ps (mean key) (ties_laid hashed (word_at mean column rs) laid ps i same t) here h (still ∙ none) few in
      let w = t.whole in
      let q : qs ≡ keyed column rs place key =
      elim (leb_tells (suc (size i)) 768) [
        | inl s ↦ is ∙ ap (λ b. cond b (keyed column rs place key) rs) s.0
        | inr s ↦ absurd (omega (arith, s.1))
      ] in
      (d.0, subst (λ (l : List (Record K V)). Ties hashed (word_at mean column l) (place ∷ ps) j) (sym q) d.1)
