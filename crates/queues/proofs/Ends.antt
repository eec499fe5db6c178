-- The ends of a list of places, and of what they carry.
use Rattle.std.proofs.Common.{◌≡◌, ℕ, List, [], ◌∷◌, ◌++◌, map, Some, refl, ap, arith}
use Rattle.links.specs.Rows.{occurs, first_of, last_of}
use Rattle.machine.specs.Replacement.{Resident, ended}
use Rattle.links.proofs.Ends.{split_last, split_first}
use Rattle.links.proofs.Counts.{occurs_same, occurs_append}
use Rattle.queues.specs.declared.slots.Slots.{Slots}
use Rattle.queues.specs.Slots.{list_of, home_in}
use Rattle.queues.proofs.Sound.{home_from}

pub ended_map : (f : ℕ → Resident ℕ) (xs : List ℕ) (p : ℕ) → ended (map f (xs ++ p ∷ [])) ≡ Some (record { front = map f xs; tail = f p })
ended_map f [] p = refl
ended_map f (x ∷ xs) p = rw (ended_map f xs p)

-- the place on top of the free stack, and that of the oldest young
pub top_home : (s : Slots) (p : ℕ) → Some p ≡ first_of (list_of 3 s) → home_in s p ≡ 3
top_home s p e =
    let w = split_first (list_of 3 s) p e in
    let c : occurs p (list_of 3 s) ≡ occurs p (p ∷ w.rest) = ap (λ (xs : List ℕ). occurs p xs) w.is in
    let n = occurs_same p w.rest in
    home_from s p 3 (omega arith) (omega arith)

pub oldest_home : (s : Slots) (p : ℕ) → Some p ≡ last_of (list_of 0 s) → home_in s p ≡ 0
oldest_home s p e =
    let w = split_last (list_of 0 s) p e in
    let c : occurs p (list_of 0 s) ≡ occurs p (w.rest ++ p ∷ []) = ap (λ (xs : List ℕ). occurs p xs) w.is in
    let a = occurs_append p w.rest (p ∷ []) in
    let n = occurs_same p [] in
    home_from s p 0 (omega arith) (omega arith)
