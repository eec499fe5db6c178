-- A resident's place goes onto the free stack; a place that is no resident's stays where it is.
use Rattle.std.proofs.Common.{◌≡◌, ℕ, ◌+◌, ◌<◌, ◌≤◌, Bool, true, false, cond, not, ◌||◌, eqb, List, [], ◌∷◌, ◌++◌, map, replicate, filter, refl, ap, ◌∙◌, arith}
use Rattle.std.proofs.lemmas.List.{map-append}
use Rattle.std.proofs.lemmas.Bool.{lt-ltb}
use Rattle.links.specs.Lists.{lists}
use Rattle.links.specs.Rows.{occurs, without, fronted, pushed_front, nth}
use Rattle.links.proofs.Counts.{occurs_append, occurs_lost, without_absent, without_append}
use Rattle.machine.specs.Replacement.{Parts}
use Rattle.queues.specs.declared.slots.Slots.{Slots}
use Rattle.queues.specs.declared.location.Location.TheVariants.{Free, Small, Main}
use Rattle.queues.specs.declared.state.SlotState.{SlotState}
use Rattle.queues.specs.Slots.{list_of, home_in}
use Rattle.queues.specs.Held.{resident, parts_of, locate, has, resides}
use Rattle.queues.specs.Steps.{released}
use Rattle.queues.proofs.Maps.{kept_without, kept_only}
use Rattle.queues.proofs.Sound.{one_in_all, out_of_list, home_low}
use Rattle.queues.proofs.Moved.{Restated, residents_kept}

pub resides_not : (p : ℕ) (s : Parts ℕ ℕ ℕ) → Free ≡ locate p s → false ≡ resides p s
resides_not p s =
    go (has p s.small) (has p s.main)
  where
    go : (a b : Bool) → Free ≡ cond a Small (cond b Main Free) → false ≡ (a || b)
    go true b e = let z : ◌≡◌ {A = ℕ} 0 1 = cc in absurd (omega arith)
    go false true e = let z : ◌≡◌ {A = ℕ} 0 1 = cc in absurd (omega arith)
    go false false e = refl

pub resides_so : (p : ℕ) (s : Parts ℕ ℕ ℕ) → (locate p s ≡ Free → ⊥) → true ≡ resides p s
resides_so p s =
    go (has p s.small) (has p s.main)
  where
    go : (a b : Bool) → (cond a Small (cond b Main Free) ≡ Free → ⊥) → true ≡ (a || b)
    go true b e = refl
    go false true e = refl
    go false false e = absurd (e refl)

-- the lists of the residents without the place, and what the free stack gains
module _ (s : Slots) (p : ℕ) where
  pub rest_small : filter (λ r. not (eqb r.item p)) (map (resident s) (list_of 0 s ++ list_of 1 s)) ≡ map (resident s) (without p (list_of 0 s) ++ without p (list_of 1 s))
  rest_small =
      kept_without (resident s) (λ q. refl) p (list_of 0 s ++ list_of 1 s)
      ∙ ap (map (resident s)) (without_append p (list_of 0 s) (list_of 1 s))

  pub rest_main : filter (λ r. not (eqb r.item p)) (map (resident s) (list_of 2 s)) ≡ map (resident s) (without p (list_of 2 s))
  rest_main = kept_without (resident s) (λ q. refl) p (list_of 2 s)

  pub gained : map (λ r. r.item) (filter (λ r. eqb r.item p) (map (resident s) (list_of 0 s ++ list_of 1 s) ++ map (resident s) (list_of 2 s))) ≡ replicate (occurs p (list_of 0 s) + occurs p (list_of 1 s) + occurs p (list_of 2 s)) p
  gained =
      let j = map-append (resident s) (list_of 0 s ++ list_of 1 s) (list_of 2 s) in
      let k = kept_only (resident s) (λ q. refl) p ((list_of 0 s ++ list_of 1 s) ++ list_of 2 s) in
      let a = occurs_append p (list_of 0 s) (list_of 1 s) in
      let b = occurs_append p (list_of 0 s ++ list_of 1 s) (list_of 2 s) in
      let n : occurs p ((list_of 0 s ++ list_of 1 s) ++ list_of 2 s) ≡ occurs p (list_of 0 s) + occurs p (list_of 1 s) + occurs p (list_of 2 s) = omega arith in
      rw (← j, ← n) k

  pub unreleased : 3 ≤ home_in s p → parts_of s ≡ released p (parts_of s)
  unreleased far =
      let a = out_of_list s p 0 (omega arith) (λ e. omega arith) in
      let b = out_of_list s p 1 (omega arith) (λ e. omega arith) in
      let c = out_of_list s p 2 (omega arith) (λ e. omega arith) in
      let x = rest_small in
      let y = rest_main in
      let u = without_absent p (list_of 0 s) a in
      let v = without_absent p (list_of 1 s) b in
      let w = without_absent p (list_of 2 s) c in
      let g = gained in
      let n : occurs p (list_of 0 s) + occurs p (list_of 1 s) + occurs p (list_of 2 s) ≡ 0 = omega arith in
      let g' : map (λ r. r.item) (filter (λ r. eqb r.item p) (map (resident s) (list_of 0 s ++ list_of 1 s) ++ map (resident s) (list_of 2 s))) ≡ [] = g ∙ rw n in
      rw (x, y, u, v, w, g')

module _ (s t : Slots) (p : ℕ) (st : SlotState) (re : Restated s t p st) (near : home_in s p < 3) (to : lists t.line ≡ fronted p 3 (lists s.line)) where
  pub released_parts : parts_of t ≡ released p (parts_of s)
  released_parts =
      let i = home_low s p (omega arith) in
      let e : lists t.line ≡ pushed_front p 3 (lists s.line) = to ∙ rw (lt-ltb p 512 i) in
      let y = ap (λ (xss : List (List ℕ)). nth 0 xss) e in
      let o = ap (λ (xss : List (List ℕ)). nth 1 xss) e in
      let m = ap (λ (xss : List (List ℕ)). nth 2 xss) e in
      let f : list_of 3 t ≡ p ∷ list_of 3 s = ap (λ (xss : List (List ℕ)). nth 3 xss) e ∙ ap (λ (xs : List ℕ). p ∷ xs) (without_absent p (list_of 3 s) (out_of_list s p 3 (omega arith) (λ z. omega arith))) in
      let one = one_in_all s p (omega arith) in
      let none = out_of_list s p 3 (omega arith) (λ z. omega arith) in
      let n : occurs p (list_of 0 s) + occurs p (list_of 1 s) + occurs p (list_of 2 s) ≡ 1 = omega arith in
      let g : map (λ r. r.item) (filter (λ r. eqb r.item p) (map (resident s) (list_of 0 s ++ list_of 1 s) ++ map (resident s) (list_of 2 s))) ≡ p ∷ [] = gained s p ∙ rw n in
      let a = rest_small s p in
      let b = rest_main s p in
      let l0 = occurs_lost p (list_of 0 s) in
      let l1 = occurs_lost p (list_of 1 s) in
      let l2 = occurs_lost p (list_of 2 s) in
      let ka = residents_kept s t p st re (without p (list_of 0 s) ++ without p (list_of 1 s)) (let h = occurs_append p (without p (list_of 0 s)) (without p (list_of 1 s)) in omega arith) in
      let kb = residents_kept s t p st re (without p (list_of 2 s)) (omega arith) in
      let q = re.opened in
      rw (y, o, m, f, a, b, g, ka, kb, q)
