-- In every policy each opened place is a resident's or free, once, and no other place is either.
use Rattle.std.proofs.Common.{◌≡◌, ℕ, ◌+◌, ◌<◌, ◌≤◌, List, [], ◌∷◌, ◌++◌, map, refl, ap, ◌∙◌, inl, inr, arith}
use Rattle.std.proofs.lemmas.Bool.{cases_lt}
use Rattle.links.specs.Rows.{occurs}
use Rattle.links.proofs.Counts.{occurs_append}
use Rattle.machine.specs.Replacement.{Resident, Parts}
use Rattle.queues.specs.declared.slots.Slots.{Slots}
use Rattle.queues.specs.declared.residents.Residents.{Residents}
use Rattle.queues.specs.Slots.{list_of, home_in}
use Rattle.queues.specs.Held.{resident, held}
use Rattle.queues.proofs.Sound.{one_in_all, none_in_all, opened_home, home_opened}

-- the places of residents
abbrev pub places : List (Resident ℕ) → List ℕ
places rs = map (λ r. r.item) rs

-- how often a place is a resident's or free
abbrev pub stands : ℕ → Parts ℕ ℕ ℕ → ℕ
stands p s = occurs p (places s.small) + occurs p (places s.main) + occurs p s.free

own_places : (s : Slots) (xs : List ℕ) → map (λ r. r.item) (map (resident s) xs) ≡ xs
own_places s [] = refl
own_places s (x ∷ xs) = ap (λ (l : List ℕ). x ∷ l) (own_places s xs)

module _ (r : Residents) (p : ℕ) where
  in_lists : stands p (held r) ≡ occurs p (list_of 0 r.slots) + occurs p (list_of 1 r.slots) + occurs p (list_of 2 r.slots) + occurs p (list_of 3 r.slots)
  in_lists =
      let a = ap (occurs p) (own_places r.slots (list_of 0 r.slots ++ list_of 1 r.slots)) in
      let b = occurs_append p (list_of 0 r.slots) (list_of 1 r.slots) in
      let c = ap (occurs p) (own_places r.slots (list_of 2 r.slots)) in
      omega arith

  pub opened_once : p < (held r).opened → stands p (held r) ≡ 1
  opened_once l = in_lists ∙ one_in_all r.slots p (opened_home r.slots r.listed p l)

  pub unopened_never : (held r).opened ≤ p → stands p (held r) ≡ 0
  unopened_never g =
      elim (cases_lt (home_in r.slots p) 4) [
        | inl l ↦ let o = home_opened r.slots r.listed p l in absurd (omega arith)
        | inr h ↦ in_lists ∙ none_in_all r.slots p h
      ]

  -- so none stands twice, and each that stands was opened
  pub stands_once : stands p (held r) ≤ 1
  stands_once =
      elim (cases_lt p (held r).opened) [
        | inl l ↦ let e = opened_once l in omega arith
        | inr g ↦ let e = unopened_never g in omega arith
      ]

  pub stands_low : 1 ≤ stands p (held r) → p < (held r).opened
  stands_low o =
      elim (cases_lt p (held r).opened) [
        | inl l ↦ l
        | inr g ↦ let e = unopened_never g in absurd (omega arith)
      ]
