-- A value laid in a place changes the resident of the place alone.
use Rattle.std.proofs.Common.{◌≡◌, ℕ, zero, suc, ◌<◌, ◌≤◌, Bool, true, false, cond, eqb, ◌⊎◌, List, [], ◌∷◌, map, length, get_or, set, Some, sym, refl, ap, ◌∙◌, inl, inr, le_of_suc-le-suc, arith}
use Rattle.std.specs.Option.{option_map}
use Rattle.std.proofs.lemmas.Bool.Decides.{eqb_tells}
use Rattle.machine.specs.Replacement.{Resident, Parts}
use Rattle.machine.specs.Machine.{Item, same, is_at, relaid, relaid_if, lays}
use Rattle.handles.specs.Seek.{first_by}
use Rattle.index.specs.declared.index.KeyIndex.{KeyIndex}
use Rattle.index.specs.Filed.{is_key, bears}
use Rattle.index.specs.Ties.{occurs}
use Rattle.index.proofs.Joined.{same_count, ties_laid}
use Rattle.records.specs.declared.column.Column.{Column}
use Rattle.records.specs.declared.column.Column.TheVariants.{Resident as of_resident, Remembered as of_ghost}
use Rattle.records.specs.declared.record.Record.{Record}
use Rattle.records.specs.Columns.{key_at_lem, word_at}
use Rattle.cache_core.specs.View.{places, or_empty, value_at, valued, word_in, item_at, cell_at, seen}
use Rattle.cache_core.specs.Tied.{TiedWithin}
use Rattle.cache_core.proofs.Looked.{here}
use Rattle.cache_core.proofs.Standing.{Orderly}
use Rattle.cache_core.proofs.Leaving.{items, items_append}
use Rattle.cache_core.proofs.Arrived.{map_agree}
use Rattle.cache_core.proofs.Residing.{place_there, only_place}

-- functions that agree on a list's numbers map it alike
agree_on : {B : Type 0} (f g : ℕ → B) (xs : List ℕ) → ((q : ℕ) → 0 < occurs q xs → f q ≡ g q) → map f xs ≡ map g xs
agree_on f g [] agree = refl
agree_on f g (x ∷ xs) agree = let a = agree x (here x xs) in let b = agree_on f g xs (λ q some. agree q (omega arith)) in cc

module _ {K V : Type 0} where
  pub valued_past : (rs : List (Record K V)) (p : ℕ) (v : V) → length rs ≤ p → rs ≡ valued rs p v
  valued_past [] p v h = refl
  valued_past (r ∷ rs) zero v h = absurd (omega arith)
  valued_past (r ∷ rs) (suc p) v h = ap (λ (l : List (Record K V)). r ∷ l) (valued_past rs p v (le_of_suc-le-suc h))

  pub valued_set : (rs : List (Record K V)) (p : ℕ) (v : V) (d : Record K V) → p < length rs → set rs p (record { key = (get_or rs p d).key; value = v; remembered = (get_or rs p d).remembered }) ≡ valued rs p v
  valued_set [] p v d h = absurd (omega arith)
  valued_set (r ∷ rs) zero v d h = refl
  valued_set (r ∷ rs) (suc p) v d h = ap (λ (l : List (Record K V)). r ∷ l) (valued_set rs p v d (le_of_suc-le-suc h))

  pub valued_length : (rs : List (Record K V)) (p : ℕ) (v : V) → length (valued rs p v) ≡ length rs
  valued_length [] p v = refl
  valued_length (r ∷ rs) zero v = refl
  valued_length (r ∷ rs) (suc p) v = ap suc (valued_length rs p v)

  key_valued : (column : Column) (rs : List (Record K V)) (p : ℕ) (v : V) (q : ℕ) → key_at_lem column (valued rs p v) q ≡ key_at_lem column rs q
  key_valued column [] p v q = refl
  key_valued of_resident (r ∷ rs) zero v zero = refl
  key_valued of_ghost (r ∷ rs) zero v zero = refl
  key_valued column (r ∷ rs) zero v (suc q) = refl
  key_valued column (r ∷ rs) (suc p) v zero = refl
  key_valued column (r ∷ rs) (suc p) v (suc q) = key_valued column rs p v q

  value_here : (d : V) (rs : List (Record K V)) (p : ℕ) (v : V) → p < length rs → value_at d (valued rs p v) p ≡ v
  value_here d [] p v h = absurd (omega arith)
  value_here d (r ∷ rs) zero v h = refl
  value_here d (r ∷ rs) (suc p) v h = value_here d rs p v (le_of_suc-le-suc h)

  value_elsewhere : (d : V) (rs : List (Record K V)) (p : ℕ) (v : V) (q : ℕ) → (q ≡ p → ⊥) → value_at d (valued rs p v) q ≡ value_at d rs q
  value_elsewhere d [] p v q ne = refl
  value_elsewhere d (r ∷ rs) zero v zero ne = absurd (ne refl)
  value_elsewhere d (r ∷ rs) zero v (suc q) ne = refl
  value_elsewhere d (r ∷ rs) (suc p) v zero ne = refl
  value_elsewhere d (r ∷ rs) (suc p) v (suc q) ne = value_elsewhere d rs p v q (λ e. ne (ap suc e))

  module _ (mean : K → List ℕ) (rs : List (Record K V)) (place : ℕ) (v : V) where
    word_valued : (column : Column) (q : ℕ) → word_at mean column (valued rs place v) q ≡ word_at mean column rs q
    word_valued column q = ap (option_map mean) (key_valued column rs place v q)

    -- no key changes
    pub valued_tied : (hashed : List ℕ → ℕ) (c : ℕ) (s : Parts ℕ ℕ ℕ) (i j : KeyIndex) → TiedWithin mean hashed c rs s i j → TiedWithin mean hashed c (valued rs place v) s i j
    valued_tied hashed c s i j t =
        record {
          sized = (let z = t.sized in let e = valued_length rs place v in omega arith);
          residents = ties_laid hashed (word_at mean of_resident rs) (word_at mean of_resident (valued rs place v)) (places s) i (λ q some. word_valued of_resident q) t.residents;
          remembered = ties_laid hashed (word_at mean of_ghost rs) (word_at mean of_ghost (valued rs place v)) s.remembered j (λ q some. word_valued of_ghost q) t.remembered;
          alone = λ x.
              (let a = t.alone x in
              let b = same_count (bears (word_at mean of_resident (valued rs place v)) x) (bears (word_at mean of_resident rs) x) (places s) (λ q some. ap (is_key x) (word_valued of_resident q)) in
              let e = same_count (bears (word_at mean of_ghost (valued rs place v)) x) (bears (word_at mean of_ghost rs) x) s.remembered (λ q some. ap (is_key x) (word_valued of_ghost q)) in
              omega arith);
        }

    module _ (d : V) (w : List ℕ) (hashed : List ℕ → ℕ) (c : ℕ) (s : Parts ℕ ℕ ℕ) (i j : KeyIndex) (t : TiedWithin mean hashed c rs s i j) (o : Orderly c s) (within : (q : ℕ) → 0 < occurs q (places s) → q < length rs) (found : Some place ≡ first_by (bears (word_at mean of_resident rs) w) (places s)) where
      abbrev old : ℕ → Item V
      old = item_at mean d rs

      abbrev new : ℕ → Item V
      new = item_at mean d (valued rs place v)

      there : 0 < occurs place (places s)
      there = place_there mean rs w hashed c s i j place t o within found

      value_by : (q : ℕ) → 0 < occurs q (places s) → value_at d (valued rs place v) q ≡ cond (same w (word_in mean of_resident rs q)) v (value_at d rs q)
      value_by q some = decide (eqb_tells q place)
        where
          test : (b : Bool) → eqb q place ≡ b → same w (word_in mean of_resident rs q) ≡ b
          test b e = only_place mean rs w hashed c s i j place t o within found q some ∙ e

          decide : ((eqb q place ≡ true) × (q ≡ place)) ⊎ ((eqb q place ≡ false) × (q ≡ place → ⊥)) → value_at d (valued rs place v) q ≡ cond (same w (word_in mean of_resident rs q)) v (value_at d rs q)
          decide (inl e) =
              ap (value_at d (valued rs place v)) e.1
              ∙ (value_here d rs place v (within place there) ∙ ap (λ (b : Bool). cond b v (value_at d rs q)) (sym (test true e.0)))
          decide (inr e) = value_elsewhere d rs place v q e.1 ∙ ap (λ (b : Bool). cond b v (value_at d rs q)) (sym (test false e.0))

      item_by : (q : ℕ) → 0 < occurs q (places s) → new q ≡ relaid_if (is_at w (old q)) v (old q)
      item_by q some = λ k. record { word = ap or_empty (word_valued of_resident q) k; place = q; value = value_by q some k }

      all_by : (xs : List (Resident ℕ)) → ((q : ℕ) → 0 < occurs q (items xs) → new q ≡ relaid_if (is_at w (old q)) v (old q)) → map (λ r. record { item = new r.item; mark = r.mark }) xs ≡ map (relaid w v) (map (λ r. record { item = old r.item; mark = r.mark }) xs)
      all_by [] by = refl
      all_by (x ∷ xs) by =
          let a : ◌≡◌ {A = Resident (Item V)} (record { item = new x.item; mark = x.mark }) (relaid w v (record { item = old x.item; mark = x.mark })) =
          ap (λ (y : Item V). record { item = y; mark = x.mark }) (by x.item (here x.item (items xs))) in
          let b = all_by xs (λ q some. by q (omega arith)) in
          cc

      pub lays_place : seen mean d (valued rs place v) s ≡ lays w v (seen mean d rs s)
      lays_place =
          let a = all_by s.small (λ q some. item_by q (let z = items_append q s.small s.main in omega arith)) in
          let b = all_by s.main (λ q some. item_by q (let z = items_append q s.small s.main in omega arith)) in
          let e = map_agree (word_in mean of_ghost (valued rs place v)) (word_in mean of_ghost rs) s.remembered (λ q. ap or_empty (word_valued of_ghost q)) in
          let f = agree_on (cell_at mean d (valued rs place v)) (cell_at mean d rs) s.free
          (λ q some. ap (λ (y : V). record { place = q; value = y }) (value_elsewhere d rs place v q
          (λ same_place. let z = ap (λ (k : ℕ). occurs k s.free) same_place in let u = o.once place in let h = there in omega arith))) in
          λ k. record { small = a k; main = b k; remembered = e k; free = f k; opened = s.opened }
