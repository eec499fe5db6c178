-- The part that holds a place, by the list that does.
use Rattle.std.proofs.Common.{◌≡◌, ℕ, ◌+◌, ◌<◌, ◌≤◌, true, false, ◌⊎◌, ◌++◌, map, Some, None, Option, Bool, sym, refl, ◌∙◌, inl, inr, arith}
use Rattle.std.proofs.lemmas.Bool.{cases_lt, le-ltb, ne_eqb}
use Rattle.links.specs.Lists.{lists}
use Rattle.links.specs.Rows.{occurs, holder}
use Rattle.links.proofs.Counts.{occurs_append}
use Rattle.links.proofs.Whole.{four}
use Rattle.links.proofs.Found.{held, unheld}
use Rattle.queues.specs.declared.slots.Slots.{Slots}
use Rattle.queues.specs.declared.location.Location.{Location}
use Rattle.queues.specs.declared.location.Location.TheVariants.{Free, Small, Main}
use Rattle.queues.specs.Slots.{list_of, home_in}
use Rattle.queues.specs.Held.{resident, parts_of, locate, has, part_at, resides}
use Rattle.queues.proofs.Maps.{has_some, has_none}
use Rattle.queues.proofs.Sound.{in_list, out_of_list}

-- no part has a list of this number
pub part_past : (k : ℕ) → 4 ≤ k → part_at k ≡ Free
part_past k h = rw (le-ltb k 2 (omega arith), ne_eqb k 2 (λ e. omega arith))

module _ (s : Slots) (p : ℕ) where
  in_small : 1 ≤ occurs p (list_of 0 s) + occurs p (list_of 1 s) → has p (map (resident s) (list_of 0 s ++ list_of 1 s)) ≡ true
  in_small h = has_some (resident s) (λ q. refl) p (list_of 0 s ++ list_of 1 s) (let a = occurs_append p (list_of 0 s) (list_of 1 s) in omega arith)

  not_small : occurs p (list_of 0 s) + occurs p (list_of 1 s) ≡ 0 → has p (map (resident s) (list_of 0 s ++ list_of 1 s)) ≡ false
  not_small h = has_none (resident s) (λ q. refl) p (list_of 0 s ++ list_of 1 s) (let a = occurs_append p (list_of 0 s) (list_of 1 s) in omega arith)

  in_main : 1 ≤ occurs p (list_of 2 s) → has p (map (resident s) (list_of 2 s)) ≡ true
  in_main h = has_some (resident s) (λ q. refl) p (list_of 2 s) h

  not_main : occurs p (list_of 2 s) ≡ 0 → has p (map (resident s) (list_of 2 s)) ≡ false
  not_main h = has_none (resident s) (λ q. refl) p (list_of 2 s) h

  pub at_small : home_in s p < 2 → locate p (parts_of s) ≡ Small
  at_small l =
      four (λ k. k < 2 → home_in s p ≡ k → locate p (parts_of s) ≡ Small)
      (λ h e. rw (in_small (let o = in_list s p 0 (omega arith) e in omega arith)))
      (λ h e. rw (in_small (let o = in_list s p 1 (omega arith) e in omega arith)))
      (λ h e. absurd (omega arith)) (λ h e. absurd (omega arith)) (home_in s p) (omega arith) l refl

  out_of_small : 2 ≤ home_in s p → has p (map (resident s) (list_of 0 s ++ list_of 1 s)) ≡ false
  out_of_small h =
      let a = out_of_list s p 0 (omega arith) (λ i. omega arith) in
      let b = out_of_list s p 1 (omega arith) (λ i. omega arith) in
      not_small (omega arith)

  pub at_main : home_in s p ≡ 2 → locate p (parts_of s) ≡ Main
  at_main e =
      let a = out_of_small (omega arith) in
      let b = in_main (let o = in_list s p 2 (omega arith) e in omega arith) in
      rw (a, b)

  pub at_free : 3 ≤ home_in s p → locate p (parts_of s) ≡ Free
  at_free h =
      let a = out_of_small (omega arith) in
      let b = not_main (out_of_list s p 2 (omega arith) (λ i. omega arith)) in
      rw (a, b)

  pub located_some : (k : ℕ) → Some k ≡ holder p 0 (lists s.line) → part_at k ≡ locate p (parts_of s)
  located_some k e =
      elim (cases_lt (home_in s p) 4) [
        | inl l ↦
            four (λ j. home_in s p ≡ j → part_at k ≡ locate p (parts_of s))
            (λ i. let h : Some k ≡ Some 0 = e ∙ sym (held s.line.cells s.line.sized s.line.linked s.line.once p 0 (omega arith) i) in let z : k ≡ 0 = cc in rw z (sym (at_small (omega arith))))
            (λ i. let h : Some k ≡ Some 1 = e ∙ sym (held s.line.cells s.line.sized s.line.linked s.line.once p 1 (omega arith) i) in let z : k ≡ 1 = cc in rw z (sym (at_small (omega arith))))
            (λ i. let h : Some k ≡ Some 2 = e ∙ sym (held s.line.cells s.line.sized s.line.linked s.line.once p 2 (omega arith) i) in let z : k ≡ 2 = cc in rw z (sym (at_main (omega arith))))
            (λ i. let h : Some k ≡ Some 3 = e ∙ sym (held s.line.cells s.line.sized s.line.linked s.line.once p 3 (omega arith) i) in let z : k ≡ 3 = cc in rw z (sym (at_free (omega arith))))
            (home_in s p) l refl
        | inr g ↦
            let h : ◌≡◌ {A = Option ℕ} (Some k) None = e ∙ sym (unheld s.line.cells s.line.sized s.line.linked s.line.once p g) in
            let w : ◌≡◌ {A = ℕ} 0 1 = cc in
            absurd (omega arith)
      ]

  pub located_none : None ≡ holder p 0 (lists s.line) → Free ≡ locate p (parts_of s)
  located_none e =
      elim (cases_lt (home_in s p) 4) [
        | inl l ↦
            let h : ◌≡◌ {A = Option ℕ} None (Some (home_in s p)) = e ∙ sym (held s.line.cells s.line.sized s.line.linked s.line.once p (home_in s p) l refl) in
            let w : ◌≡◌ {A = ℕ} 0 1 = cc in
            absurd (omega arith)
        | inr g ↦ sym (at_free (omega arith))
      ]

  -- and back: what a location says of the home
  pub resides_is : resides p (parts_of s) ≡ true → home_in s p < 3
  resides_is h =
      elim (cases_lt (home_in s p) 3) [
        | inl l ↦ l
        | inr g ↦
            let a = out_of_small (omega arith) in
            let b = not_main (out_of_list s p 2 (omega arith) (λ i. omega arith)) in
            let z : ◌≡◌ {A = Bool} false true = (rw (a, b) at h) in
            let w : ◌≡◌ {A = ℕ} 0 1 = cc in
            absurd (omega arith)
      ]

  pub free_is : Free ≡ locate p (parts_of s) → 3 ≤ home_in s p
  free_is h =
      elim (cases_lt (home_in s p) 2) [
        | inl l ↦ let a = at_small l in let w : ◌≡◌ {A = ℕ} 0 1 = cc in absurd (omega arith)
        | inr g ↦
            elim (cases_lt (home_in s p) 3) [
              | inl l ↦ let a = at_main (omega arith) in let w : ◌≡◌ {A = ℕ} 0 1 = cc in absurd (omega arith)
              | inr l ↦ l
            ]
      ]

  pub held_is : (locate p (parts_of s) ≡ Free → ⊥) → home_in s p < 3
  held_is h = elim (cases_lt (home_in s p) 3) [ inl l ↦ l | inr g ↦ absurd (h (at_free g)) ]

pub not_free : (l m : Location) → m ≡ l → (m ≡ Small) ⊎ (m ≡ Main) → l ≡ Free → ⊥
not_free l m e (inl a) f = let z : ◌≡◌ {A = ℕ} 0 1 = cc in omega arith
not_free l m e (inr a) f = let z : ◌≡◌ {A = ℕ} 0 1 = cc in omega arith
