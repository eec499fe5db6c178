-- The limits of Small, Main and Ghost and the window, as functions of the capacity.
use Rattle.std.specs.Prelude.{ℕ, ◌+◌, ◌-◌, ◌/◌, ◌%◌, max, cond, nat_le}
use Rattle.machine.specs.declared.limits.Limits.{Limits}

-- Small's limit: none for one record, else a tenth, but at least 1
abbrev pub small_limit : ℕ → ℕ
small_limit c = cond (nat_le c 1) 0 (max (c / 10) 1)

-- Main's limit: the rest
abbrev pub main_limit : ℕ → ℕ
main_limit c = c - small_limit c

-- Ghost's limit: half the capacity
abbrev pub ghost_limit : ℕ → ℕ
ghost_limit c = c / 2

-- the window: half of Small, rounded up
abbrev pub window : ℕ → ℕ
window c = small_limit c / 2 + small_limit c % 2

-- all four
abbrev pub limits_of : ℕ → Limits
limits_of c = record { small = small_limit c; main = main_limit c; ghost_keys = ghost_limit c; window = window c }
