-- The limits of a capacity of at least one: Small's and Main's add up to it, Main's is never 0, and where Small has room there is a window.
use Rattle.std.proofs.Common.{◌≡◌, ℕ, ◌+◌, ◌/◌, ◌%◌, ◌<◌, ◌≤◌, max, Bool, true, false, cond, leb, refl, arith}
use Rattle.std.proofs.lemmas.Bool.{leb-true, leb-false}
use Rattle.machine.specs.Limits.{small_limit, main_limit, ghost_limit, window}

below : (c : ℕ) (b : Bool) → leb c 1 ≡ b → 1 ≤ c → cond b 0 (max (c / 10) 1) < c
below c true e p = omega arith
below c false e p = let l = leb-false c 1 e in omega arith

pub small_below : (c : ℕ) → 1 ≤ c → small_limit c < c
small_below c p = below c (leb c 1) refl p

pub limits_add : (c : ℕ) → 1 ≤ c → small_limit c + main_limit c ≡ c
limits_add c p = let l = small_below c p in omega arith

pub main_some : (c : ℕ) → 1 ≤ c → 1 ≤ main_limit c
main_some c p = let l = small_below c p in omega arith

some : (c : ℕ) (b : Bool) → leb c 1 ≡ b → 2 ≤ c → 1 ≤ cond b 0 (max (c / 10) 1)
some c true e p = let l = leb-true c 1 e in absurd (omega arith)
some c false e p = omega arith

pub small_some : (c : ℕ) → 2 ≤ c → 1 ≤ small_limit c
small_some c p = some c (leb c 1) refl p

half : (n : ℕ) → 1 ≤ n → 0 < n / 2 + n % 2
half n p = omega arith

pub window_some : (c : ℕ) → 1 ≤ small_limit c → 0 < window c
window_some c p = half (small_limit c) p

pub ghost_some : (c : ℕ) → 2 ≤ c → 1 ≤ ghost_limit c
ghost_some c p = omega arith
