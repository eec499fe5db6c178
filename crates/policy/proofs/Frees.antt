-- A sweep of somebody has a victim, and a queue of somebody a tail.
use Rattle.std.proofs.Common.{◌≡◌, ℕ, suc, ◌+◌, ◌≤◌, true, false, cond, List, [], ◌∷◌, ◌++◌, length, Some, None, arith, length-append}
use Rattle.machine.specs.Replacement.{Resident, ended, sweep_from, is_used, marked, plain}
use Rattle.queues.specs.Steps.{told, place_of}

-- a sweep of somebody has a victim, and a queue of somebody a tail
pub victim_there : (n : ℕ) (passed rs : List (Resident ℕ)) → 1 ≤ length passed + length rs → None ≡ told (sweep_from n passed rs) → ⊥
victim_there n [] [] l e = omega arith
victim_there n (r ∷ passed) [] l e = let z : ◌≡◌ {A = ℕ} 0 1 = cc in omega arith
victim_there n passed (r ∷ rs) l e =
    (elim (is_used r.mark) as (λ b. None ≡ told (cond b (sweep_from (suc n) (passed ++ marked plain r ∷ []) rs) (Some (record { victim = r; rest = rs ++ passed; chances = n }))) → ⊥) [
      | true ↦ λ i. victim_there (suc n) (passed ++ marked plain r ∷ []) rs (let a = length-append passed (marked plain r ∷ []) in omega arith) i
      | false ↦ λ i. let z : ◌≡◌ {A = ℕ} 0 1 = cc in omega arith
    ]) e

pub tail_there : (rs : List (Resident ℕ)) → 1 ≤ length rs → None ≡ place_of (ended rs) → ⊥
tail_there [] l e = omega arith
tail_there (r ∷ rs) l e = let z : ◌≡◌ {A = ℕ} 0 1 = cc in omega arith

pub ended_there : (rs : List (Resident ℕ)) → 1 ≤ length rs → ended rs ≡ None → ⊥
ended_there [] l e = omega arith
ended_there (r ∷ rs) l e = let z : ◌≡◌ {A = ℕ} 0 1 = cc in omega arith
