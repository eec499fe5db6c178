-- Releasing Main's first, or Small's tail, takes it alone.
use Rattle.std.proofs.Common.{◌≡◌, ℕ, ◌+◌, eqb, List, [], ◌∷◌, ◌++◌, map, Some, filter, sym, refl, ap, ◌∙◌, arith}
use Rattle.links.specs.Rows.{occurs, without}
use Rattle.links.proofs.Counts.{occurs_same, occurs_append, without_absent, without_append, without_first, without_last}
use Rattle.machine.specs.Replacement.{Resident, Ended, ended}
use Rattle.queues.specs.declared.slots.Slots.{Slots}
use Rattle.queues.specs.declared.residents.Residents.{Residents}
use Rattle.queues.specs.Slots.{list_of}
use Rattle.queues.specs.Held.{resident, parts_of, held}
use Rattle.queues.specs.Steps.{place_of, released}
use Rattle.queues.proofs.Sound.{out_of_list, home_from, at_most_once}
use Rattle.queues.proofs.Ends.{ended_map}
use Rattle.queues.proofs.ToMain.{small_home, small_once}
use Rattle.queues.proofs.Tail.{tail_split}
use Rattle.queues.proofs.Released.{rest_small, rest_main, gained}

module _ (s : Slots) (p : ℕ) where
  main_out_lem : (ps : List ℕ) → list_of 2 s ≡ p ∷ ps → released p (parts_of s) ≡ record { small = (parts_of s).small; main = map (resident s) ps; remembered = []; free = p ∷ (parts_of s).free; opened = s.opened }
  main_out_lem ps e =
      let n = occurs_same p ps in
      let c : occurs p (list_of 2 s) ≡ occurs p (p ∷ ps) = ap (λ (xs : List ℕ). occurs p xs) e in
      let h = home_from s p 2 (omega arith) (omega arith) in
      let o0 = out_of_list s p 0 (omega arith) (λ i. omega arith) in
      let o1 = out_of_list s p 1 (omega arith) (λ i. omega arith) in
      let o2 = at_most_once s p 2 (omega arith) in
      let u = without_absent p (list_of 0 s) o0 in
      let v = without_absent p (list_of 1 s) o1 in
      let w : without p (list_of 2 s) ≡ ps = ap (without p) e ∙ without_first p ps (omega arith) in
      let k : occurs p (list_of 0 s) + occurs p (list_of 1 s) + occurs p (list_of 2 s) ≡ 1 = omega arith in
      let g : map (λ r. r.item) (filter (λ r. eqb r.item p) (map (resident s) (list_of 0 s ++ list_of 1 s) ++ map (resident s) (list_of 2 s))) ≡ p ∷ [] = gained s p ∙ rw k in
      let a = rest_small s p in
      let b = rest_main s p in
      rw (a, b, g, u, v, w)

  small_out : (ps : List ℕ) → list_of 0 s ++ list_of 1 s ≡ ps ++ p ∷ [] → released p (parts_of s) ≡ record { small = map (resident s) ps; main = (parts_of s).main; remembered = []; free = p ∷ (parts_of s).free; opened = s.opened }
  small_out ps e =
      let n = occurs_append p ps (p ∷ []) in
      let n' = occurs_same p [] in
      let c : occurs p (list_of 0 s ++ list_of 1 s) ≡ occurs p (ps ++ p ∷ []) = ap (λ (xs : List ℕ). occurs p xs) e in
      let d = occurs_append p (list_of 0 s) (list_of 1 s) in
      let h = small_home s p (omega arith) in
      let once = small_once s p in
      let o2 = out_of_list s p 2 (omega arith) (λ i. omega arith) in
      let w = without_absent p (list_of 2 s) o2 in
      let x : without p (list_of 0 s) ++ without p (list_of 1 s) ≡ ps = sym (without_append p (list_of 0 s) (list_of 1 s)) ∙ (ap (without p) e ∙ without_last p ps (omega arith)) in
      let k : occurs p (list_of 0 s) + occurs p (list_of 1 s) + occurs p (list_of 2 s) ≡ 1 = omega arith in
      let g : map (λ r. r.item) (filter (λ r. eqb r.item p) (map (resident s) (list_of 0 s ++ list_of 1 s) ++ map (resident s) (list_of 2 s))) ≡ p ∷ [] = gained s p ∙ rw k in
      let a = rest_small s p in
      let b = rest_main s p in
      rw (a, b, g, w, x)

-- Main's first
pub first_released : (q : Residents) (r : Resident ℕ) (rs : List (Resident ℕ)) → (held q).main ≡ r ∷ rs → released r.item (held q) ≡ record { small = (held q).small; main = rs; remembered = []; free = r.item ∷ (held q).free; opened = (held q).opened }
first_released q r rs = go (list_of 2 q.slots) refl
  where
    go : (xs : List ℕ) → list_of 2 q.slots ≡ xs → map (resident q.slots) (list_of 2 q.slots) ≡ r ∷ rs → released r.item (held q) ≡ record { small = (held q).small; main = rs; remembered = []; free = r.item ∷ (held q).free; opened = (held q).opened }
    go [] e h =
        let i : ◌≡◌ {A = List (Resident ℕ)} [] (r ∷ rs) = sym (ap (map (resident q.slots)) e) ∙ h in
        let z : ◌≡◌ {A = ℕ} 0 1 = cc in
        absurd (omega arith)
    go (p ∷ ps) e h =
        let i : resident q.slots p ∷ map (resident q.slots) ps ≡ r ∷ rs = sym (ap (map (resident q.slots)) e) ∙ h in
        let a : resident q.slots p ≡ r = cc in
        let b : map (resident q.slots) ps ≡ rs = cc in
        let c : p ≡ r.item = ap (λ (x : Resident ℕ). x.item) a in
        rw (← c, ← b) (main_out_lem q.slots p ps e)

-- Small's tail
pub tail_released : (q : Residents) (e : Ended (Resident ℕ)) → ended (held q).small ≡ Some e → released e.tail.item (held q) ≡ record { small = e.front; main = (held q).main; remembered = []; free = e.tail.item ∷ (held q).free; opened = (held q).opened }
tail_released q e h =
    let p = e.tail.item in
    let w = tail_split q.slots p (sym (ap place_of h)) in
    let k : ended (map (resident q.slots) (list_of 0 q.slots ++ list_of 1 q.slots)) ≡ Some (record { front = map (resident q.slots) w.rest; tail = resident q.slots p }) = ap (λ (xs : List ℕ). ended (map (resident q.slots) xs)) w.is ∙ ended_map (resident q.slots) w.rest p in
    let i : Some e ≡ Some (record { front = map (resident q.slots) w.rest; tail = resident q.slots p }) = sym h ∙ k in
    let j : e ≡ record { front = map (resident q.slots) w.rest; tail = resident q.slots p } = cc in
    let f : e.front ≡ map (resident q.slots) w.rest = ap (λ (x : Ended (Resident ℕ)). x.front) j in
    rw f (small_out q.slots p w.rest w.is)
