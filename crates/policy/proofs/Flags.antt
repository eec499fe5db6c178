-- Releasing the flagged places one by one, from the lowest on, drops them all, and the highest is on top of the stack.
use Rattle.std.proofs.Common.{◌≡◌, ℕ, ◌+◌, ◌<◌, ◌≤◌, Bool, true, false, cond, not, ◌&&◌, eqb, ltb, List, [], ◌∷◌, ◌++◌, map, filter, sym, refl, ap, ◌∙◌, inl, inr, append_assoc, add-one, arith}
use Rattle.std.proofs.lemmas.List.Elements.{filter-append}
use Rattle.std.proofs.lemmas.Bool.{cases_eq, cases_lt, eq-eqb, ne_eqb, lt-ltb, le-ltb, and_right}
use Rattle.links.specs.Rows.{occurs}
use Rattle.links.proofs.Counts.{occurs_same}
use Rattle.machine.specs.Replacement.{Resident, Parts, drops, highest_first}
use Rattle.queues.specs.Steps.{released}

-- tests of places that agree on the places of residents keep alike
kept_same : (f g : ℕ → Bool) (rs : List (Resident ℕ)) → ((q : ℕ) → 1 ≤ occurs q (map (λ r. r.item) rs) → f q ≡ g q) → filter (λ r. f r.item) rs ≡ filter (λ r. g r.item) rs
kept_same f g [] h = refl
kept_same f g (r ∷ rs) h =
    let o = occurs_same r.item (map (λ x. x.item) rs) in
    let here = h r.item (omega arith) in
    let ih = kept_same f g rs (λ q o. h q (omega arith)) in
    rw (here, ih)

kept_all : (f : ℕ → Bool) → ((q : ℕ) → f q ≡ true) → (rs : List (Resident ℕ)) → filter (λ r. f r.item) rs ≡ rs
kept_all f h [] = refl
kept_all f h (r ∷ rs) = let here = h r.item in let ih = kept_all f h rs in rw (here, ih)

kept_none : (f : ℕ → Bool) → ((q : ℕ) → f q ≡ false) → (rs : List (Resident ℕ)) → filter (λ r. f r.item) rs ≡ []
kept_none f h [] = refl
kept_none f h (r ∷ rs) = let here = h r.item in rw here (kept_none f h rs)

-- one filter after another
kept_twice : (f g : ℕ → Bool) (rs : List (Resident ℕ)) → filter (λ r. f r.item) (filter (λ r. g r.item) rs) ≡ filter (λ r. g r.item && f r.item) rs
kept_twice f g [] = refl
kept_twice f g (r ∷ rs) =
    let ih = kept_twice f g rs in
    (elim (g r.item) as (λ b. filter (λ x. f x.item) (cond b (r ∷ filter (λ x. g x.item) rs) (filter (λ x. g x.item) rs)) ≡ cond (b && f r.item) (r ∷ filter (λ x. g x.item && f x.item) rs) (filter (λ x. g x.item && f x.item) rs)) [
      | true ↦ ap (λ (xs : List (Resident ℕ)). cond (f r.item) (r ∷ xs) xs) ih
      | false ↦ ih
    ])

-- a filter of places is one of their residents
kept_items : (f : ℕ → Bool) (rs : List (Resident ℕ)) → filter f (map (λ r. r.item) rs) ≡ map (λ r. r.item) (filter (λ r. f r.item) rs)
kept_items f [] = refl
kept_items f (r ∷ rs) =
    let ih = kept_items f rs in
    (elim (f r.item) as (λ b. cond b (r.item ∷ filter f (map (λ x. x.item) rs)) (filter f (map (λ x. x.item) rs)) ≡ map (λ x. x.item) (cond b (r ∷ filter (λ x. f x.item) rs) (filter (λ x. f x.item) rs))) [
      | true ↦ ap (λ (xs : List ℕ). r.item ∷ xs) ih
      | false ↦ ih
    ])

-- what a filter leaves of one place
module _ (p : ℕ → Bool) (i : ℕ) (rs : List (Resident ℕ)) where
  one_kept : p i ≡ true → filter (λ r. eqb r.item i) (filter (λ r. p r.item) rs) ≡ filter (λ r. eqb r.item i) rs
  one_kept h =
      kept_twice (λ q. eqb q i) p rs
      ∙ kept_same (λ q. p q && eqb q i) (λ q. eqb q i) rs
      (λ q o. elim (cases_eq q i) [ inl e ↦ rw (e, h) | inr e ↦ let n = ne_eqb q i e in and_right (p q) (eqb q i) n ∙ sym n ])

  one_lost : p i ≡ false → filter (λ r. eqb r.item i) (filter (λ r. p r.item) rs) ≡ []
  one_lost h =
      kept_twice (λ q. eqb q i) p rs
      ∙ kept_none (λ q. p q && eqb q i) (λ q. elim (cases_eq q i) [ inl e ↦ rw (e, h) | inr e ↦ and_right (p q) (eqb q i) (ne_eqb q i e) ]) rs

-- the flagged places below i
abbrev pub below : ℕ → (ℕ → Bool) → ℕ → Bool
below i at q = ltb q i && at q

-- the flagged below i are dropped
abbrev pub up_to : ℕ → (ℕ → Bool) → Parts ℕ ℕ ℕ → Parts ℕ ℕ ℕ
up_to i at s =
    record {
      small = filter (λ r. not (below i at r.item)) s.small;
      main = filter (λ r. not (below i at r.item)) s.main;
      remembered = s.remembered;
      free = highest_first (λ q. q) i (map (λ r. r.item) (filter (λ r. at r.item) (s.small ++ s.main))) ++ s.free;
      opened = s.opened;
    }

module _ (at : ℕ → Bool) where
  below_other : (i q : ℕ) → (q ≡ i → ⊥) → below i at q ≡ below (i + 1) at q
  below_other i q n =
      elim (cases_lt q i) [
        | inl l ↦ let a = lt-ltb q i l in let b = lt-ltb q (i + 1) (omega arith) in rw (a, b)
        | inr g ↦
            elim (cases_lt i q) [
              | inl l ↦ let a = le-ltb q i g in let b = le-ltb q (i + 1) (omega arith) in rw (a, b)
              | inr l ↦ absurd (n (omega arith))
            ]
      ]

  below_here : (i : ℕ) → below (i + 1) at i ≡ at i
  below_here i = let a = lt-ltb i (i + 1) (omega arith) in rw a

  not_below : (i : ℕ) → not (below i at i) ≡ true
  not_below i = let a = le-ltb i i (omega arith) in rw a

  module _ (i : ℕ) where
    -- place i is released after those below it
    next_kept : at i ≡ true → (rs : List (Resident ℕ)) → filter (λ r. not (eqb r.item i)) (filter (λ r. not (below i at r.item)) rs) ≡ filter (λ r. not (below (i + 1) at r.item)) rs
    next_kept h rs =
        kept_twice (λ q. not (eqb q i)) (λ q. not (below i at q)) rs
        ∙ kept_same (λ q. not (below i at q) && not (eqb q i)) (λ q. not (below (i + 1) at q)) rs
        (λ q o.
        elim (cases_eq q i) [
          | inl e ↦
              let a = below_here i ∙ h in
              let b = not_below i in
              rw (e, a, b, eq-eqb i i refl)
          | inr e ↦
              let a = below_other i q e in
              let n = ne_eqb q i e in
              rw (n, a) (keeps (not (below (i + 1) at q)))
        ])
      where
        keeps : (b : Bool) → (b && true) ≡ b
        keeps true = refl
        keeps false = refl

    -- or stays, as it is not flagged
    next_same : at i ≡ false → (rs : List (Resident ℕ)) → filter (λ r. not (below i at r.item)) rs ≡ filter (λ r. not (below (i + 1) at r.item)) rs
    next_same h rs =
        kept_same (λ q. not (below i at q)) (λ q. not (below (i + 1) at q)) rs
        (λ q o.
        elim (cases_eq q i) [
          | inl e ↦ let a = below_here i ∙ h in let b = not_below i in rw (e, a, b)
          | inr e ↦ ap not (below_other i q e)
        ])

  module _ (s : Parts ℕ ℕ ℕ) where
    abbrev all : List (Resident ℕ)
    all = s.small ++ s.main

    -- what goes onto the stack at place i
    stacked : (i : ℕ) → highest_first (λ q. q) (i + 1) (map (λ r. r.item) (filter (λ r. at r.item) all)) ≡ map (λ r. r.item) (filter (λ r. eqb r.item i) (filter (λ r. at r.item) all)) ++ highest_first (λ q. q) i (map (λ r. r.item) (filter (λ r. at r.item) all))
    stacked i = rw add-one (ap (λ (xs : List ℕ). xs ++ highest_first (λ q. q) i (map (λ r. r.item) (filter (λ r. at r.item) all))) (kept_items (λ q. eqb q i) (filter (λ r. at r.item) all)))

    pub none_yet : s ≡ up_to 0 at s
    none_yet =
        let none = λ (q : ℕ). let a = le-ltb q 0 (omega arith) in let b : not (below 0 at q) ≡ true = rw a in b in
        let a = kept_all (λ q. not (below 0 at q)) none s.small in
        let b = kept_all (λ q. not (below 0 at q)) none s.main in
        rw (a, b)

    pub one_more : (i : ℕ) → at i ≡ true → released i (up_to i at s) ≡ up_to (i + 1) at s
    one_more i h =
        let a = next_kept i h s.small in
        let b = next_kept i h s.main in
        let c = filter-append (λ r. not (below i at r.item)) s.small s.main in
        let d = one_kept (λ q. not (below i at q)) i all (not_below i) in
        let e = one_kept at i all h in
        let f = stacked i in
        rw (a, b, ← c, d, f, e, append_assoc)

    pub passed_over : (i : ℕ) → at i ≡ false → up_to i at s ≡ up_to (i + 1) at s
    passed_over i h =
        let a = next_same i h s.small in
        let b = next_same i h s.main in
        let c = one_lost at i all h in
        let d = stacked i in
        rw (a, b, d, c)

    pub all_dropped : ((q : ℕ) → 1 ≤ occurs q (map (λ r. r.item) s.small) + occurs q (map (λ r. r.item) s.main) → q < s.opened) → up_to s.opened at s ≡ drops (highest_first (λ q. q)) (λ q. q) at s
    all_dropped low =
        let over = λ (q : ℕ) (l : q < s.opened). let a = lt-ltb q s.opened l in let b : not (below s.opened at q) ≡ not (at q) = rw a in b in
        let a = kept_same (λ q. not (below s.opened at q)) (λ q. not (at q)) s.small (λ q o. over q (low q (omega arith))) in
        let b = kept_same (λ q. not (below s.opened at q)) (λ q. not (at q)) s.main (λ q o. over q (low q (omega arith))) in
        rw (a, b)
