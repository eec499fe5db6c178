-- Where a walk from home stops: at an empty slot, or at a smaller displacement than its own.
use Rattle.std.specs.Prelude.{ℕ, zero, suc, ◌+◌, cond, List, nat_le}
use Rattle.handles.specs.Slots.{rank}
use Rattle.handles.specs.declared.slot.Slot.{Slot}

abbrev pub stop_from : {X : Type 0} → ℕ → List (Slot X) → ℕ → ℕ → ℕ → ℕ
stop_from n xs home zero d = d
stop_from n xs home (suc left) d = cond (nat_le (rank n xs (home + d)) d) d (stop_from n xs home left (d + 1))

-- the displacement at which a walk over n slots stops
abbrev pub stop : {X : Type 0} → ℕ → List (Slot X) → ℕ → ℕ
stop n xs home = stop_from n xs home n 0
