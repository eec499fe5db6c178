-- The limits add up, and what stands in the parts when an insertion begins.
use Rattle.std.proofs.Common.{◌≡◌, ℕ, ◌+◌, ◌/◌, ◌≤◌, max, ◌++◌, length, inl, inr, arith}
use Rattle.std.proofs.lemmas.List.{length-map, length-append}
use Rattle.std.proofs.lemmas.Bool.{cases_lt, le-leb, lt-leb}
use Rattle.machine.specs.Limits.{small_limit, main_limit, ghost_limit, window}
use Rattle.queues.specs.Slots.{list_of}
use Rattle.queues.specs.Held.{resident}
use Rattle.policy.specs.declared.makeup.Core.{Core}
use Rattle.policy.specs.View.{view}

pub record Limits (c : ℕ) : Type 0 where
  pub sum : small_limit c + main_limit c ≡ c
  pub main : 1 ≤ main_limit c
  pub ghosts : 1 ≤ small_limit c → 1 ≤ ghost_limit c
  pub window : 1 ≤ small_limit c → 1 ≤ window c

pub limits : (c : ℕ) → 1 ≤ c → Limits c
limits c h =
    elim (cases_lt c 2) [
      | inl l ↦
          let e : small_limit c ≡ 0 = rw (le-leb c 1 (omega arith)) in
          record { sum = rw e (omega arith); main = rw e (omega arith); ghosts = λ i. absurd (omega arith); window = λ i. absurd (omega arith) }
      | inr l ↦
          let e : small_limit c ≡ max (c / 10) 1 = rw (lt-leb c 1 (omega arith)) in
          record { sum = rw e (omega arith); main = rw e (omega arith); ghosts = λ i. omega arith; window = λ i. rw e (omega arith) }
    ]

-- everybody has a place that was opened
pub everybody : (p : Core) → length (view p).small + length (view p).main + length (view p).free ≡ (view p).opened
everybody p =
    let s = p.residents.slots in
    let a = length-map (list_of 0 s ++ list_of 1 s) (resident s) in
    let b = length-append (list_of 0 s) (list_of 1 s) in
    let c = length-map (list_of 2 s) (resident s) in
    let d = p.residents.counted in
    omega arith
