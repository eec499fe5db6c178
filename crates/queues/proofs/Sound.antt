-- What always holds of the slots, and the moves of a place that keep it.
use Rattle.std.proofs.Common.{◌≡◌, ℕ, suc, ◌+◌, ◌<◌, ◌≤◌, true, false, cond, eqb, leb, List, [], ◌∷◌, map, length, sym, refl, ◌∙◌, inl, inr, arith, length-append}
use Rattle.std.proofs.lemmas.Bool.{cases_lt, lt-ltb, ltb-true, and_parts, and_from, le-leb, leb-true}
use Rattle.links.specs.Rows.{occurs, without, pushed_front, pushed_back, nth}
use Rattle.links.proofs.Counts.{length_without}
use Rattle.links.proofs.Members.{stands, lacks, home_is, no_more, low_node}
use Rattle.links.proofs.Whole.{four}
use Rattle.queues.specs.declared.residents.Residents.{Residents}
use Rattle.queues.specs.declared.slots.Slots.{Slots}
use Rattle.queues.specs.Slots.{list_of, home_in, age_of, rising, Sized, Listed, Counted, Sorted, Recent, Rising}

-- the young are younger than b; b is the window, but for a moment while a newcomer is seated
pub record Sound (b : ℕ) (s : Slots) : Type 0 where
  pub sized : Sized s
  pub listed : Listed s
  pub counted : Counted s
  pub sorted : Sorted s
  pub recent : (p : ℕ) → home_in s p ≡ 0 → age_of s p < b
  pub rising : Rising s

-- how often a place stands in each list
pub in_list : (s : Slots) (p k : ℕ) → k < 4 → home_in s p ≡ k → occurs p (list_of k s) ≡ 1
in_list s = stands s.line

pub out_of_list : (s : Slots) (p k : ℕ) → k < 4 → (home_in s p ≡ k → ⊥) → occurs p (list_of k s) ≡ 0
out_of_list s = lacks s.line

pub home_from : (s : Slots) (p k : ℕ) → k < 4 → 1 ≤ occurs p (list_of k s) → home_in s p ≡ k
home_from s = home_is s.line

pub at_most_once : (s : Slots) (p k : ℕ) → k < 4 → occurs p (list_of k s) ≤ 1
at_most_once s = no_more s.line

-- a place below the number opened has a list, and lies below 512
pub opened_home : (s : Slots) → Listed s → (p : ℕ) → p < s.opened → home_in s p < 4
opened_home s h p l = ltb-true (home_in s p) 4 (h p ∙ lt-ltb p s.opened l)

pub home_opened : (s : Slots) → Listed s → (p : ℕ) → home_in s p < 4 → p < s.opened
home_opened s h p l = ltb-true p s.opened (sym (h p) ∙ lt-ltb (home_in s p) 4 l)

pub home_low : (s : Slots) (p : ℕ) → home_in s p < 4 → p < 512
home_low s = low_node s.line

pub opened_low : (s : Slots) → Listed s → s.opened ≤ 512
opened_low s h =
    elim (cases_lt 512 s.opened) [
      | inl l ↦ let i = home_low s 512 (opened_home s h 512 l) in absurd (omega arith)
      | inr l ↦ l
    ]

-- numbers that rise still rise from lower on, and without one of them
pub rising_lower : (a b : ℕ) (xs : List ℕ) → b ≤ a → rising a xs ≡ true → rising b xs ≡ true
rising_lower a b [] h r = refl
rising_lower a b (x ∷ xs) h r =
    let p = and_parts (leb a x) (rising (suc x) xs) r in
    let l = leb-true a x p.0 in
    and_from (leb b x) (rising (suc x) xs) (le-leb b x (omega arith)) p.1

pub rising_without : (f : ℕ → ℕ) (p a : ℕ) (xs : List ℕ) → rising a (map f xs) ≡ true → rising a (map f (without p xs)) ≡ true
rising_without f p a [] r = refl
rising_without f p a (x ∷ xs) r =
    let q = and_parts (leb a (f x)) (rising (suc (f x)) (map f xs)) r in
    let l = leb-true a (f x) q.0 in
    let ih = rising_without f p (suc (f x)) xs q.1 in
    (elim (eqb p x) as (λ b. rising a (map f (cond b (without p xs) (x ∷ without p xs))) ≡ true) [
      | true ↦ rising_lower (suc (f x)) a (map f (without p xs)) (omega arith) ih
      | false ↦ and_from (leb a (f x)) (rising (suc (f x)) (map f (without p xs))) q.0 ih
    ])

-- all lists together are as long after a push as before
abbrev pub all_long : List (List ℕ) → ℕ
all_long xss = length (nth 0 xss) + length (nth 1 xss) + length (nth 2 xss) + length (nth 3 xss)

module _ (p : ℕ) (y o m f : List ℕ) where
  pub front_long : (k : ℕ) → k < 4 → all_long (pushed_front p k (y ∷ o ∷ m ∷ f ∷ [])) + (occurs p y + occurs p o + occurs p m + occurs p f) ≡ all_long (y ∷ o ∷ m ∷ f ∷ []) + 1
  front_long =
      let a = length_without p y in
      let b = length_without p o in
      let c = length_without p m in
      let d = length_without p f in
      four (λ k. all_long (pushed_front p k (y ∷ o ∷ m ∷ f ∷ [])) + (occurs p y + occurs p o + occurs p m + occurs p f) ≡ all_long (y ∷ o ∷ m ∷ f ∷ []) + 1)
      (omega arith) (omega arith) (omega arith) (omega arith)

  pub back_long : (k : ℕ) → k < 4 → all_long (pushed_back p k (y ∷ o ∷ m ∷ f ∷ [])) + (occurs p y + occurs p o + occurs p m + occurs p f) ≡ all_long (y ∷ o ∷ m ∷ f ∷ []) + 1
  back_long =
      let a = length_without p y in
      let b = length_without p o in
      let c = length_without p m in
      let d = length_without p f in
      let a' = length-append (without p y) (p ∷ []) in
      let b' = length-append (without p o) (p ∷ []) in
      let c' = length-append (without p m) (p ∷ []) in
      let d' = length-append (without p f) (p ∷ []) in
      four (λ k. all_long (pushed_back p k (y ∷ o ∷ m ∷ f ∷ [])) + (occurs p y + occurs p o + occurs p m + occurs p f) ≡ all_long (y ∷ o ∷ m ∷ f ∷ []) + 1)
      (omega arith) (omega arith) (omega arith) (omega arith)

-- a place in some list stands once in all
pub one_in_all : (s : Slots) (p : ℕ) → home_in s p < 4 → occurs p (list_of 0 s) + occurs p (list_of 1 s) + occurs p (list_of 2 s) + occurs p (list_of 3 s) ≡ 1
one_in_all s p l =
    let at = λ (k : ℕ) (h : k < 4). s.line.once p k h in
    let a = at 0 (omega arith) in
    let b = at 1 (omega arith) in
    let c = at 2 (omega arith) in
    let d = at 3 (omega arith) in
    four (λ k. home_in s p ≡ k → occurs p (list_of 0 s) + occurs p (list_of 1 s) + occurs p (list_of 2 s) + occurs p (list_of 3 s) ≡ 1)
    (λ i. rw (a, b, c, d, i)) (λ i. rw (a, b, c, d, i)) (λ i. rw (a, b, c, d, i)) (λ i. rw (a, b, c, d, i)) (home_in s p) l refl

pub none_in_all : (s : Slots) (p : ℕ) → 4 ≤ home_in s p → occurs p (list_of 0 s) + occurs p (list_of 1 s) + occurs p (list_of 2 s) + occurs p (list_of 3 s) ≡ 0
none_in_all s p l =
    let a = out_of_list s p 0 (omega arith) (λ e. omega arith) in
    let b = out_of_list s p 1 (omega arith) (λ e. omega arith) in
    let c = out_of_list s p 2 (omega arith) (λ e. omega arith) in
    let d = out_of_list s p 3 (omega arith) (λ e. omega arith) in
    omega arith

-- the ghost fields, as a function that writes the slots owes them
abbrev pub Ghosts : Slots → Type 0
Ghosts s =
    record {
      sized : Sized s;
      listed : Listed s;
      counted : Counted s;
      sorted : Sorted s;
      recent : Recent s;
      rising : Rising s;
      «open» : (1 ≤ s.window) × (s.window ≤ 255);
    }

pub ghosts : (s : Slots) → Sound s.window s → (1 ≤ s.window) × (s.window ≤ 255) → Ghosts s
ghosts s h w = record { sized = h.sized; listed = h.listed; counted = h.counted; sorted = h.sorted; recent = h.recent; rising = h.rising; «open» = w }

pub sound_of : (r : Residents) → Sound r.slots.window r.slots
sound_of r =
    record { sized = r.sized; listed = r.listed; counted = r.counted; sorted = r.sorted; recent = r.recent; rising = r.rising }
