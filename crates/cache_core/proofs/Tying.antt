-- The indexes stay tied over an insertion.
use Rattle.std.proofs.Common.{◌≡◌, ℕ, zero, suc, ◌+◌, ◌<◌, ◌≤◌, Bool, true, false, cond, not, eqb, List, [], ◌∷◌, ◌++◌, map, length, is_some, Some, filter, sym, refl, ap, ◌∙◌, subst, inl, inr, arith, eq-eqb}
use Rattle.std.proofs.lemmas.Bool.Decides.{eqb_tells}
use Rattle.machine.specs.declared.report.Part.{Part}
use Rattle.machine.specs.declared.report.Part.TheVariants.{Small, Main}
use Rattle.machine.specs.Limits.{window}
use Rattle.machine.specs.Replacement.{Mark, Resident, Parts, Vacated, marked, plain, aged, seated_in, seated}
use Rattle.handles.proofs.Meaning.{alike_decides}
use Rattle.handle_laws.specs.Runs.{how_many}
use Rattle.policy.specs.Insertion.{place_at}
use Rattle.index.specs.declared.index.KeyIndex.{KeyIndex}
use Rattle.index.specs.Filed.{is_key, bears}
use Rattle.index.specs.Ties.{occurs, Ties}
use Rattle.index.proofs.Firsts.{counts_one}
use Rattle.index.proofs.Joined.{Alike, alike_count, alike_length, alike_kept, counts_none, same_count, ties_alike}
use Rattle.records.specs.declared.column.Column.TheVariants.{Resident as of_resident, Remembered as of_ghost}
use Rattle.records.specs.declared.record.Record.{Record}
use Rattle.records.specs.Columns.{word_at}
use Rattle.cache_core.specs.View.{places}
use Rattle.cache_core.specs.Tied.{TiedWithin}
use Rattle.cache_core.proofs.Looked.{here}
use Rattle.cache_core.proofs.Standing.{Orderly}
use Rattle.cache_core.proofs.Leaving.{items, items_append, Leaves, gone, single}

-- ## Lists

-- numbers below n, each once, are at most n
pub pigeon : (n : ℕ) (xs : List ℕ) → ((q : ℕ) → occurs q xs ≤ 1) → ((q : ℕ) → 0 < occurs q xs → q < n) → length xs ≤ n
pigeon zero [] once low = omega arith
pigeon zero (x ∷ xs) once low = absurd (let a = low x (here x xs) in omega arith)
pigeon (suc n) xs once low =
    elim (eqb_tells (occurs n xs) 0) [
      | inl none ↦
          (let ih = pigeon n xs once (λ q some.
          elim (eqb_tells q n) [
            | inl e ↦ absurd (let a = ap (λ (k : ℕ). occurs k xs) e.1 in omega (arith, none.1))
            | inr e ↦ (let a = low q some in apart_below q n a e.1)
          ]) in
          omega arith)
      | inr some ↦
          (let rest = filter (λ q. not (eqb q n)) xs in
          let a = once n in
          let one : occurs n xs ≡ 1 = positive (occurs n xs) a some.1 in
          let alike = alike_kept n xs one in
          let len = alike_length xs (n ∷ rest) alike in
          let ih = pigeon n rest
          (λ q. let b = once q in let e = alike q in omega arith)
          (λ q some_q.
          elim (eqb_tells q n) [
            | inl e ↦
                absurd (let b = once q in
                let f = alike q in
                let o = counts_one (eqb q n) e.0 in
                omega arith)
            | inr e ↦ (let f = alike q in let z = counts_none (eqb q n) e.0 in apart_below q n (low q (omega arith)) e.1)
          ]) in
          omega arith)
    ]
  where
    apart_below : (q n : ℕ) → q < suc n → (q ≡ n → ⊥) → q < n
    apart_below q n lt ne = elim (eqb_tells q n) [ inl e ↦ absurd (ne e.1) | inr e ↦ omega (arith, e.1) ]

    positive : (k : ℕ) → k ≤ 1 → (k ≡ 0 → ⊥) → k ≡ 1
    positive zero h ne = absurd (ne refl)
    positive (suc zero) h ne = refl
    positive (suc (suc k)) h ne = absurd (omega arith)

-- the numbers of marked residents are their own
items_marked : (f : Resident ℕ → Mark) (xs : List (Resident ℕ)) → items (map (λ r. marked (f r) r) xs) ≡ items xs
items_marked f [] = refl
items_marked f (x ∷ xs) = ap (λ (l : List ℕ). x.item ∷ l) (items_marked f xs)

seated_in_lem : (c place : ℕ) (part : Part) (s : Parts ℕ ℕ ℕ) → Alike (place ∷ places s) (places (seated_in c part place s))
seated_in_lem c place Small s = λ p.
    let a = items_append p s.small s.main in
    let b = items_append p (map (λ r. marked (aged (window c) r.mark) r) s.small) s.main in
    let e = ap (occurs p) (items_marked (λ r. aged (window c) r.mark) s.small) in
    omega arith
seated_in_lem c place Main s = λ p.
    let a = items_append p s.small s.main in
    let b = items_append p s.small (s.main ++ record { item = place; mark = plain } ∷ []) in
    let e = items_append p s.main (record { item = place; mark = plain } ∷ []) in
    omega arith

-- the newcomer's place beside the others
pub places_seated : (c place : ℕ) (v : Vacated ℕ ℕ ℕ) → Alike (place ∷ places v.parts) (places (seated c v place))
places_seated c place v = seated_in_lem c place v.joins v.parts

free_seated : (c place : ℕ) (part : Part) (s : Parts ℕ ℕ ℕ) → (seated_in c part place s).remembered ≡ s.remembered
free_seated c place Small s = refl
free_seated c place Main s = refl

pub ghost_seated : (c place : ℕ) (v : Vacated ℕ ℕ ℕ) → (seated c v place).remembered ≡ v.parts.remembered
ghost_seated c place v = free_seated c place v.joins v.parts

-- the vacated place is nobody's
pub nobodys : (c c' place : ℕ) (v : Vacated ℕ ℕ ℕ) → Orderly c' (seated c v place) → occurs place (places v.parts) ≡ 0
nobodys c c' place v o =
    let a = places_seated c place v place in
    let b = o.once place in
    let h = counts_one (eqb place place) (eq-eqb place place refl) in
    omega arith

-- ## Who left

module _ (c node : ℕ) (s : Parts ℕ ℕ ℕ) (v : Vacated ℕ ℕ ℕ) (l : Leaves c node s v) where
  gone_at : (b : Bool) → is_some v.left ≡ b → (p : ℕ) → gone v p ≡ cond b (single p (place_at v.spot)) 0
  gone_at b e p = ap (λ z. cond z (single p (place_at v.spot)) 0) e

  pub somebody_left : is_some v.left ≡ true → Alike (places s) (place_at v.spot ∷ places v.parts)
  somebody_left e = λ p. (let a = l.counts p in let b = gone_at true e p in omega arith)

  pub nobody_left : is_some v.left ≡ false → Alike (places s) (places v.parts)
  nobody_left e = λ p. (let a = l.counts p in let b = gone_at false e p in omega arith)

  -- what a test counts among the residents, with the one who left apart
  pub count_left : (f : ℕ → Bool) → how_many f (places s) ≡ cond (is_some v.left) (cond (f (place_at v.spot)) 1 0) 0 + how_many f (places v.parts)
  count_left f = go (is_some v.left) refl
    where
      go : (b : Bool) → is_some v.left ≡ b → how_many f (places s) ≡ cond b (cond (f (place_at v.spot)) 1 0) 0 + how_many f (places v.parts)
      go true e = alike_count f (places s) (place_at v.spot ∷ places v.parts) (somebody_left e)
      go false e = alike_count f (places s) (places v.parts) (nobody_left e) ∙ (let z : how_many f (places v.parts) ≡ 0 + how_many f (places v.parts) = omega arith in z)

-- ## The indexes after

apart_count : (b : Bool) (left others old new : ℕ) → left + others + old ≤ 1 → new ≤ left + old → (b ≡ true → (left + others ≡ 0) × (old ≡ 0)) → cond b 1 0 + others + new ≤ 1
apart_count true left others old new one less none = let a = (none refl).0 in let e = (none refl).1 in omega arith
apart_count false left others old new one less none = omega arith

module _ {K V : Type 0} (mean : K → List ℕ) (hashed : List ℕ → ℕ) (c node place : ℕ) (s : Parts ℕ ℕ ℕ) (v : Vacated ℕ ℕ ℕ) (l : Leaves c node s v) (at : place ≡ place_at v.spot) where
  pub tied_after :
      (rs rs'' : List (Record K V)) (i j i' j' : KeyIndex) (word : List ℕ) →
      TiedWithin mean hashed c rs s i j → length rs'' ≡ length rs →
      how_many (bears (word_at mean of_resident rs) word) (places s) ≡ 0 → how_many (bears (word_at mean of_ghost rs) word) s.remembered ≡ 0 →
      ((q : ℕ) → 0 < occurs q (places v.parts) → word_at mean of_resident rs'' q ≡ word_at mean of_resident rs q) → word_at mean of_resident rs'' place ≡ Some word →
      Ties hashed (word_at mean of_resident rs'') (place ∷ places v.parts) i' →
      Ties hashed (word_at mean of_ghost rs'') v.parts.remembered j' →
      ((x : List ℕ) → how_many (bears (word_at mean of_ghost rs'') x) v.parts.remembered ≤ cond (is_some v.left) (cond (bears (word_at mean of_resident rs) x place) 1 0) 0 + how_many (bears (word_at mean of_ghost rs) x) s.remembered) →
      TiedWithin mean hashed c rs'' (seated c v place) i' j'
  tied_after rs rs'' i j i' j' word t len no_resident no_ghost same new ti tj ghosts =
      let old = word_at mean of_resident rs in
      let now = word_at mean of_resident rs'' in
      let g = ghost_seated c place v in
      record {
        sized = (let z = t.sized in omega arith);
        residents = ties_alike hashed now (place ∷ places v.parts) (places (seated c v place)) i' (places_seated c place v) ti;
        remembered = subst (λ (ns : List ℕ). Ties hashed (word_at mean of_ghost rs'') ns j') (sym g) tj;
        alone = λ x.
            (let a = alike_count (bears now x) (place ∷ places v.parts) (places (seated c v place)) (places_seated c place v) in
            let b : bears now x place ≡ is_key x (Some word) = ap (is_key x) new in
            let b1 : ◌≡◌ {A = ℕ} (cond (bears now x place) 1 0) (cond (is_key x (Some word)) 1 0) = ap (λ z. cond z 1 0) b in
            let e = same_count (bears now x) (bears old x) (places v.parts) (λ q some. ap (is_key x) (same q some)) in
            let f = count_left c node s v l (bears old x) in
            let f1 : ◌≡◌ {A = ℕ} (cond (is_some v.left) (cond (bears old x (place_at v.spot)) 1 0) 0) (cond (is_some v.left) (cond (bears old x place) 1 0) 0) =
            ap (λ (k : ℕ). cond (is_some v.left) (cond (bears old x k) 1 0) 0) (sym at) in
            let h = ap (λ (ns : List ℕ). how_many (bears (word_at mean of_ghost rs'') x) ns) g in
            let m = ghosts x in
            let one = t.alone x in
            let sum = apart_count (is_key x (Some word)) (cond (is_some v.left) (cond (bears old x place) 1 0) 0) (how_many (bears old x) (places v.parts)) (how_many (bears (word_at mean of_ghost rs) x) s.remembered) (how_many (bears (word_at mean of_ghost rs'') x) v.parts.remembered)
            (omega arith) m
            (λ is.
            let k : x ≡ word = (alike_decides x word).0 is in
            let k1 = ap (λ (w : List ℕ). how_many (bears old w) (places s)) k in
            let k2 = ap (λ (w : List ℕ). how_many (bears (word_at mean of_ghost rs) w) s.remembered) k in
            (omega arith, omega arith)) in
            omega arith);
      }
