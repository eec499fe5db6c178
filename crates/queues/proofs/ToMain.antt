-- A place goes to Main's end, plain: from Main's front, from Small's tail, or from the free stack.
use Rattle.std.proofs.Common.{◌≡◌, ℕ, ◌+◌, ◌<◌, ◌≤◌, false, List, [], ◌∷◌, ◌++◌, map, length, Some, sym, refl, ap, ◌∙◌, inl, inr, arith}
use Rattle.std.proofs.lemmas.List.{map-append}
use Rattle.std.proofs.lemmas.Bool.{cases_eq, cases_lt, lt-ltb, ne_eqb}
use Rattle.links.specs.Lists.{lists}
use Rattle.links.specs.Rows.{occurs, without, backed, pushed_back, nth}
use Rattle.links.proofs.Counts.{occurs_same, occurs_append, occurs_lost, without_absent, without_append, without_first, without_last}
use Rattle.machine.specs.declared.report.Part.TheVariants.{Main}
use Rattle.machine.specs.Replacement.{plain, ended, is_used}
use Rattle.queues.specs.declared.slots.Slots.{Slots}
use Rattle.queues.specs.declared.state.SlotState.{SlotState}
use Rattle.queues.specs.declared.state.SlotState.TheVariants.{Plain, Young, Used}
use Rattle.queues.specs.declared.state.Event.TheVariants.{Chance, Promotion}
use Rattle.queues.specs.State.{met, seen, is_young, was_used}
use Rattle.queues.specs.Slots.{list_of, home_in, state_of}
use Rattle.queues.specs.Held.{resident, parts_of}
use Rattle.queues.specs.Steps.{passed, promoted, seated_top}
use Rattle.queues.proofs.Sound.{Sound, out_of_list, home_from, at_most_once}
use Rattle.queues.proofs.Moved.{Restated, residents_kept, state_here}
use Rattle.queues.proofs.Ends.{ended_map}

pub promotion_plain : (st : SlotState) → met st Promotion ≡ Plain
promotion_plain Plain = refl
promotion_plain Young = refl
promotion_plain Used = refl

pub chance_plain : (st : SlotState) → is_young st ≡ false → met st Chance ≡ Plain
chance_plain Plain h = refl
chance_plain Young h = let z : ◌≡◌ {A = ℕ} 0 1 = cc in absurd (omega arith)
chance_plain Used h = refl

pub used_seen : (st : SlotState) (a : ℕ) → is_used (seen st a) ≡ was_used st
used_seen Plain a = refl
used_seen Young a = refl
used_seen Used a = refl

-- a place outside list 0 is not young
pub calm_at : (b : ℕ) (s : Slots) → Sound b s → (p : ℕ) → (home_in s p ≡ 0 → ⊥) → is_young (state_of s p) ≡ false
calm_at b s h p n = h.sorted p ∙ ne_eqb (home_in s p) 0 n

-- what stands in Small is in list 0 or 1, at most once
pub small_home : (s : Slots) (p : ℕ) → 1 ≤ occurs p (list_of 0 s) + occurs p (list_of 1 s) → home_in s p < 2
small_home s p o =
    elim (cases_lt (home_in s p) 2) [
      | inl l ↦ l
      | inr g ↦
          let a = out_of_list s p 0 (omega arith) (λ i. omega arith) in
          let b = out_of_list s p 1 (omega arith) (λ i. omega arith) in
          absurd (omega arith)
    ]

pub small_once : (s : Slots) (p : ℕ) → occurs p (list_of 0 s) + occurs p (list_of 1 s) ≤ 1
small_once s p =
    elim (cases_eq (home_in s p) 0) [
      | inl e ↦ let a = at_most_once s p 0 (omega arith) in let b = out_of_list s p 1 (omega arith) (λ i. omega arith) in omega arith
      | inr e ↦ let a = out_of_list s p 0 (omega arith) e in let b = at_most_once s p 1 (omega arith) in omega arith
    ]

module _ (s t : Slots) (p : ℕ) (st : SlotState) (re : Restated s t p st) (calm : st ≡ Plain) (low : p < 512) (long : length s.places ≡ 512) (to : lists t.line ≡ backed p 2 (lists s.line)) where
  here : resident t p ≡ record { item = p; mark = plain }
  here =
      let a = state_here s t p st re (omega arith) in
      rw (a, calm)

  pub to_main_lem : parts_of t ≡ record { small = map (resident s) (without p (list_of 0 s) ++ without p (list_of 1 s)); main = map (resident s) (without p (list_of 2 s)) ++ record { item = p; mark = plain } ∷ []; remembered = []; free = without p (list_of 3 s); opened = s.opened }
  to_main_lem =
      let e : lists t.line ≡ pushed_back p 2 (lists s.line) = to ∙ rw (lt-ltb p 512 low) in
      let y = ap (λ (xss : List (List ℕ)). nth 0 xss) e in
      let o = ap (λ (xss : List (List ℕ)). nth 1 xss) e in
      let m = ap (λ (xss : List (List ℕ)). nth 2 xss) e in
      let f = ap (λ (xss : List (List ℕ)). nth 3 xss) e in
      let l0 = occurs_lost p (list_of 0 s) in
      let l1 = occurs_lost p (list_of 1 s) in
      let l2 = occurs_lost p (list_of 2 s) in
      let ka = residents_kept s t p st re (without p (list_of 0 s) ++ without p (list_of 1 s)) (let h = occurs_append p (without p (list_of 0 s)) (without p (list_of 1 s)) in omega arith) in
      let kb = residents_kept s t p st re (without p (list_of 2 s)) (omega arith) in
      let j = map-append (resident t) (without p (list_of 2 s)) (p ∷ []) in
      let q = re.opened in
      let h = here in
      rw (y, o, m, f, j, ka, kb, h, q)

  -- from Main's front
  pub pass_parts : (rest : List ℕ) → list_of 2 s ≡ p ∷ rest → parts_of t ≡ passed (parts_of s).main (parts_of s)
  pass_parts rest e =
      let n = occurs_same p rest in
      let c : occurs p (list_of 2 s) ≡ occurs p (p ∷ rest) = ap (λ (xs : List ℕ). occurs p xs) e in
      let h = home_from s p 2 (omega arith) (omega arith) in
      let u = without_absent p (list_of 0 s) (out_of_list s p 0 (omega arith) (λ i. omega arith)) in
      let v = without_absent p (list_of 1 s) (out_of_list s p 1 (omega arith) (λ i. omega arith)) in
      let x = without_absent p (list_of 3 s) (out_of_list s p 3 (omega arith) (λ i. omega arith)) in
      let o = at_most_once s p 2 (omega arith) in
      let w : without p (list_of 2 s) ≡ rest = ap (without p) e ∙ without_first p rest (omega arith) in
      to_main_lem ∙ rw (u, v, w, x, e)

  -- from Small's tail
  pub promote_parts : (rest : List ℕ) → list_of 0 s ++ list_of 1 s ≡ rest ++ p ∷ [] → parts_of t ≡ promoted (ended (parts_of s).small) (parts_of s)
  promote_parts rest e =
      let n = occurs_append p rest (p ∷ []) in
      let n' = occurs_same p [] in
      let c : occurs p (list_of 0 s ++ list_of 1 s) ≡ occurs p (rest ++ p ∷ []) = ap (λ (xs : List ℕ). occurs p xs) e in
      let d = occurs_append p (list_of 0 s) (list_of 1 s) in
      let near = small_home s p (omega arith) in
      let once = small_once s p in
      let w = without_absent p (list_of 2 s) (out_of_list s p 2 (omega arith) (λ i. omega arith)) in
      let x = without_absent p (list_of 3 s) (out_of_list s p 3 (omega arith) (λ i. omega arith)) in
      let g : without p (list_of 0 s) ++ without p (list_of 1 s) ≡ rest = sym (without_append p (list_of 0 s) (list_of 1 s)) ∙ (ap (without p) e ∙ without_last p rest (omega arith)) in
      let k : ended (map (resident s) (list_of 0 s ++ list_of 1 s)) ≡ Some (record { front = map (resident s) rest; tail = resident s p }) = ap (λ (xs : List ℕ). ended (map (resident s) xs)) e ∙ ended_map (resident s) rest p in
      to_main_lem ∙ rw (g, w, x, k)

  -- from the top of the free stack
  pub seat_main_parts : (window : ℕ) (rest : List ℕ) → list_of 3 s ≡ p ∷ rest → parts_of t ≡ seated_top window Main (parts_of s).free (parts_of s)
  seat_main_parts window rest e =
      let n = occurs_same p rest in
      let c : occurs p (list_of 3 s) ≡ occurs p (p ∷ rest) = ap (λ (xs : List ℕ). occurs p xs) e in
      let h = home_from s p 3 (omega arith) (omega arith) in
      let u = without_absent p (list_of 0 s) (out_of_list s p 0 (omega arith) (λ i. omega arith)) in
      let v = without_absent p (list_of 1 s) (out_of_list s p 1 (omega arith) (λ i. omega arith)) in
      let w = without_absent p (list_of 2 s) (out_of_list s p 2 (omega arith) (λ i. omega arith)) in
      let o = at_most_once s p 3 (omega arith) in
      let x : without p (list_of 3 s) ≡ rest = ap (without p) e ∙ without_first p rest (omega arith) in
      to_main_lem ∙ rw (u, v, w, x, e)
