-- In every policy each opened place is a resident's or free, once, and each node below Ghost's limit.
use Rattle.std.proofs.Common.{◌≡◌, ℕ, ◌+◌, ◌<◌, ◌≤◌, eqb, ◌⊎◌, List, [], ◌∷◌, ◌++◌, map, length, refl, ap, ◌∙◌, inl, inr, arith, length-append}
use Rattle.std.proofs.lemmas.Bool.{cases_eq, cases_lt}
use Rattle.std.proofs.lemmas.List.{map-append}
use Rattle.links.specs.Rows as rows
use Rattle.links.proofs.Members.{home_is, no_more}
use Rattle.machine.specs.Limits.{ghost_limit}
use Rattle.machine.specs.Replacement.{Parts}
use Rattle.queues.specs.declared.slots.Slots.{Slots}
use Rattle.queues.specs.Slots.{list_of, home_in}
use Rattle.queues.specs.Held.{resident}
use Rattle.queues.proofs.Sound.{in_list, out_of_list, home_opened}
use Rattle.policy.specs.declared.policy.Policy.{Policy}
use Rattle.policy.specs.View.{view}
use Rattle.handle_laws.proofs.Counting.{how_many_append}
use Rattle.index.specs.Ties.{occurs}
use Rattle.cache_core.specs.View.{places}

-- how often a place or node stands in the parts, and where
pub record Orderly (c : ℕ) (s : Parts ℕ ℕ ℕ) : Type 0 where
  pub once : (p : ℕ) → occurs p (places s) + occurs p s.free ≤ 1
  pub within : (p : ℕ) → 0 < occurs p (places s) + occurs p s.free → p < s.opened
  pub opened : s.opened ≤ c
  pub noted_once : (n : ℕ) → occurs n s.remembered ≤ 1
  pub noted_within : (n : ℕ) → 0 < occurs n s.remembered → n < ghost_limit c
  pub few : length (places s) ≤ 512
  pub noted_few : length s.remembered ≤ ghost_limit c
  pub low : c ≤ 512

-- the two counts are one
pub same_occurs : (p : ℕ) (xs : List ℕ) → rows.occurs p xs ≡ occurs p xs
same_occurs p [] = refl
same_occurs p (x ∷ xs) = let ih = same_occurs p xs in omega arith

-- the places of residents are the lists' own
own_places : (s : Slots) (xs : List ℕ) → map (λ r. r.item) (map (resident s) xs) ≡ xs
own_places s [] = refl
own_places s (x ∷ xs) = ap (λ (l : List ℕ). x ∷ l) (own_places s xs)

half : (c : ℕ) → ghost_limit c ≤ c
half c = omega arith

module _ (q : Policy) where
  abbrev slots : Slots
  slots = q.core.residents.slots

  whole_places : places (view q.core) ≡ (list_of 0 slots ++ list_of 1 slots) ++ list_of 2 slots
  whole_places =
      let xs = list_of 0 slots ++ list_of 1 slots in
      map-append (λ r. r.item) (map (resident slots) xs) (map (resident slots) (list_of 2 slots))
      ∙ ap (λ (l : List ℕ). l ++ map (λ r. r.item) (map (resident slots) (list_of 2 slots))) (own_places slots xs)
      ∙ ap (λ (l : List ℕ). xs ++ l) (own_places slots (list_of 2 slots))

  count_places : (p : ℕ) → occurs p (places (view q.core)) ≡ rows.occurs p (list_of 0 slots) + rows.occurs p (list_of 1 slots) + rows.occurs p (list_of 2 slots)
  count_places p =
      let xs = list_of 0 slots ++ list_of 1 slots in
      let a = ap (occurs p) whole_places in
      let b = how_many_append (eqb p) xs (list_of 2 slots) in
      let c = how_many_append (eqb p) (list_of 0 slots) (list_of 1 slots) in
      let d = same_occurs p (list_of 0 slots) in
      let e = same_occurs p (list_of 1 slots) in
      let f = same_occurs p (list_of 2 slots) in
      omega arith

  -- where a place stands, by its home
  stands_at : (p k : ℕ) → k < 4 → ((home_in slots p ≡ k) × (rows.occurs p (list_of k slots) ≡ 1)) ⊎ ((home_in slots p ≡ k → ⊥) × (rows.occurs p (list_of k slots) ≡ 0))
  stands_at p k lt =
      elim (cases_eq (home_in slots p) k) [ inl e ↦ inl (e, in_list slots p k lt e) | inr e ↦ inr (e, out_of_list slots p k lt e) ]

  counted : (p : ℕ) → (rows.occurs p (list_of 0 slots) + rows.occurs p (list_of 1 slots) + rows.occurs p (list_of 2 slots) + rows.occurs p (list_of 3 slots) ≤ 1) × (0 < rows.occurs p (list_of 0 slots) + rows.occurs p (list_of 1 slots) + rows.occurs p (list_of 2 slots) + rows.occurs p (list_of 3 slots) → home_in slots p < 4)
  counted p =
      elim (stands_at p 0 (omega arith)) [
        | inl a ↦
            (let b = out_of_list slots p 1 (omega arith) (λ e. omega (arith, a.0)) in
            let c = out_of_list slots p 2 (omega arith) (λ e. omega (arith, a.0)) in
            let d = out_of_list slots p 3 (omega arith) (λ e. omega (arith, a.0)) in
            (omega (arith, a.1), λ some. omega (arith, a.0)))
        | inr a ↦
            elim (stands_at p 1 (omega arith)) [
              | inl b ↦
                  (let c = out_of_list slots p 2 (omega arith) (λ e. omega (arith, b.0)) in
                  let d = out_of_list slots p 3 (omega arith) (λ e. omega (arith, b.0)) in
                  (omega (arith, a.1, b.1), λ some. omega (arith, b.0)))
              | inr b ↦
                  elim (stands_at p 2 (omega arith)) [
                    | inl c ↦
                        (let d = out_of_list slots p 3 (omega arith) (λ e. omega (arith, c.0)) in
                        (omega (arith, a.1, b.1, c.1), λ some. omega (arith, c.0)))
                    | inr c ↦
                        elim (stands_at p 3 (omega arith)) [
                          | inl d ↦ (omega (arith, a.1, b.1, c.1, d.1), λ some. omega (arith, d.0))
                          | inr d ↦ (omega (arith, a.1, b.1, c.1, d.1), λ some. absurd (omega (arith, a.1, b.1, c.1, d.1)))
                        ]
                  ]
            ]
      ]

  pub orderly : Orderly q.core.capacity (view q.core)
  orderly =
      let notes = q.core.ghosts.notes in
      record {
        once = λ p. (let a = (counted p).0 in let b = count_places p in let c = same_occurs p (list_of 3 slots) in omega arith);
        within = λ p some.
            (let b = count_places p in
            let c = same_occurs p (list_of 3 slots) in
            home_opened slots q.core.residents.listed p ((counted p).1 (omega arith)));
        opened = q.kept.2;
        noted_once = λ n. (let a = no_more notes.line n 0 (omega arith) in let b = same_occurs n (view q.core).remembered in omega arith);
        noted_within = λ n some.
            (let b = same_occurs n (view q.core).remembered in
            let h = home_is notes.line n 0 (omega arith) (omega arith) in
            let w = q.core.ghosts.within in
            let limit = q.limited.4 in
            elim (cases_lt n notes.opened) [
              | inl l ↦ omega (arith, l, w.0)
              | inr g ↦ absurd (let u = q.core.ghosts.unopened n g in omega arith)
            ]);
        few =
            (let xs = list_of 0 slots ++ list_of 1 slots in
            let a = ap length whole_places in
            let b = length-append xs (list_of 2 slots) in
            let e = length-append (list_of 0 slots) (list_of 1 slots) in
            let f = q.core.residents.counted in
            let g = q.kept.2 in
            let h = q.limited.0 in
            omega arith);
        noted_few = (let a = q.core.ghosts.counted in let b = q.core.ghosts.within.0 in let e = q.limited.4 in omega arith);
        low = q.limited.0;
      }

  -- within as many records as the capacity says
  pub place_within : (n : ℕ) → q.core.capacity ≤ n → (p : ℕ) → 0 < occurs p (places (view q.core)) → p < n
  place_within n e p some = let a = orderly.within p (omega arith) in let b = orderly.opened in omega arith

  pub node_within : (n : ℕ) → q.core.capacity ≤ n → (p : ℕ) → 0 < occurs p (view q.core).remembered → p < n
  node_within n e p some = let a = orderly.noted_within p some in let b = half q.core.capacity in omega arith
