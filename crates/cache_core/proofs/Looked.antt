-- What is found in an index is what the machine finds among its residents and in Ghost.
use Rattle.std.proofs.Common.{◌≡◌, ℕ, zero, suc, ◌<◌, Bool, true, false, cond, ◌&&◌, ◌||◌, eqb, List, [], ◌∷◌, ◌++◌, map, length, is_some, IfSome, Some, None, Option, refl, ap, ◌∙◌, le_of_suc-le-suc, arith, eq-eqb}
use Rattle.std.specs.Option.{option_map}
use Rattle.std.proofs.lemmas.List.{map-append}
use Rattle.handles.specs.Meaning.{alike}
use Rattle.handles.specs.Seek.{first_by}
use Rattle.machine.specs.Replacement.{Resident, Parts}
use Rattle.machine.specs.Machine.{Item, same, has, find, look}
use Rattle.index.specs.declared.index.KeyIndex.{KeyIndex}
use Rattle.index.specs.Filed.{bears, Found}
use Rattle.index.specs.Ties.{occurs}
use Rattle.index.proofs.Firsts.{counts_one}
use Rattle.records.specs.declared.column.Column.{Column}
use Rattle.records.specs.declared.column.Column.TheVariants.{Resident as of_resident, Remembered as of_ghost}
use Rattle.records.specs.declared.record.Record.{Record}
use Rattle.records.specs.Columns.{word_at}
use Rattle.cache_core.specs.View.{places, word_in, item_at, seen}

-- the two tests of meanings are one
pub same_alike : (x y : List ℕ) → same x y ≡ alike x y
same_alike [] [] = refl
same_alike [] (y ∷ ys) = refl
same_alike (x ∷ xs) [] = refl
same_alike (x ∷ xs) (y ∷ ys) = ap (λ b. eqb x y && b) (same_alike xs ys)

pub here : (x : ℕ) (xs : List ℕ) → 0 < occurs x (x ∷ xs)
here x xs = let o = counts_one (eqb x x) (eq-eqb x x refl) in omega arith

module _ {K V : Type 0} (mean : K → List ℕ) where
  -- within the records, a place bears a key where its word is the key's
  pub same_bears : (column : Column) (rs : List (Record K V)) (w : List ℕ) (p : ℕ) → p < length rs → same w (word_in mean column rs p) ≡ bears (word_at mean column rs) w p
  same_bears column [] w p h = absurd (omega arith)
  same_bears of_resident (r ∷ rs) w zero h = same_alike w (mean r.key)
  same_bears of_ghost (r ∷ rs) w zero h = same_alike w (mean r.remembered)
  same_bears column (r ∷ rs) w (suc p) h = same_bears column rs w p (le_of_suc-le-suc h)

  -- a place that bears a key is a record's
  pub bears_within : (column : Column) (rs : List (Record K V)) (w : List ℕ) (p : ℕ) → bears (word_at mean column rs) w p ≡ true → p < length rs
  bears_within column [] w p e = absurd (let z : ◌≡◌ {A = ℕ} 0 1 = cc in omega arith)
  bears_within column (r ∷ rs) w zero e = omega arith
  bears_within column (r ∷ rs) w (suc p) e = let ih = bears_within column rs w p e in omega arith

  pub found_within : (i : KeyIndex) (column : Column) (rs : List (Record K V)) (w : List ℕ) (hash : ℕ) (r : Option ℕ) → Found i (word_at mean column rs) w hash r → IfSome r (λ p. p < length rs)
  found_within i column rs w hash None f = tt
  found_within i column rs w hash (Some p) f = bears_within column rs w p f.0

  module _ (d : V) (rs : List (Record K V)) (w : List ℕ) where
    abbrev item : ℕ → Item V
    item = item_at mean d rs

    pub find_first : (xs : List (Resident ℕ)) → ((p : ℕ) → 0 < occurs p (map (λ r. r.item) xs) → p < length rs) → option_map item (first_by (bears (word_at mean of_resident rs) w) (map (λ r. r.item) xs)) ≡ find w (map (λ r. record { item = item r.item; mark = r.mark }) xs)
    find_first [] within = refl
    find_first (x ∷ xs) within =
        let ih = find_first xs (λ p some. within p (omega arith)) in
        let t = same_bears of_resident rs w x.item (within x.item (here x.item (map (λ r. r.item) xs))) in
        go (same w (item x.item).word) (bears (word_at mean of_resident rs) w x.item) t ih
      where
        go : (a b : Bool) → a ≡ b → option_map item (first_by (bears (word_at mean of_resident rs) w) (map (λ r. r.item) xs)) ≡ find w (map (λ r. record { item = item r.item; mark = r.mark }) xs) → option_map item (cond b (Some x.item) (first_by (bears (word_at mean of_resident rs) w) (map (λ r. r.item) xs))) ≡ cond a (Some (item x.item)) (find w (map (λ r. record { item = item r.item; mark = r.mark }) xs))
        go true true e h = refl
        go false false e h = h
        go true false e h = absurd (let z : ◌≡◌ {A = ℕ} 0 1 = cc in omega arith)
        go false true e h = absurd (let z : ◌≡◌ {A = ℕ} 0 1 = cc in omega arith)

    pub look_first : (s : Parts ℕ ℕ ℕ) → ((p : ℕ) → 0 < occurs p (places s) → p < length rs) → option_map item (first_by (bears (word_at mean of_resident rs) w) (places s)) ≡ look w (seen mean d rs s)
    look_first s within =
        find_first (s.small ++ s.main) within
        ∙ ap (find w) (map-append (λ r. record { item = item r.item; mark = r.mark }) s.small s.main)

  module _ (rs : List (Record K V)) (w : List ℕ) where
    pub has_first : (xs : List ℕ) → ((p : ℕ) → 0 < occurs p xs → p < length rs) → is_some (first_by (bears (word_at mean of_ghost rs) w) xs) ≡ has w (map (word_in mean of_ghost rs) xs)
    has_first [] within = refl
    has_first (x ∷ xs) within =
        let ih = has_first xs (λ p some. within p (omega arith)) in
        let t = same_bears of_ghost rs w x (within x (here x xs)) in
        go (same w (word_in mean of_ghost rs x)) (bears (word_at mean of_ghost rs) w x) t ih
      where
        go : (a b : Bool) → a ≡ b → is_some (first_by (bears (word_at mean of_ghost rs) w) xs) ≡ has w (map (word_in mean of_ghost rs) xs) → is_some (cond b (Some x) (first_by (bears (word_at mean of_ghost rs) w) xs)) ≡ a || has w (map (word_in mean of_ghost rs) xs)
        go true true e h = refl
        go false false e h = h
        go true false e h = absurd (let z : ◌≡◌ {A = ℕ} 0 1 = cc in omega arith)
        go false true e h = absurd (let z : ◌≡◌ {A = ℕ} 0 1 = cc in omega arith)
