-- When an entry may be put into a slot whose run then moves forward.
use Rattle.std.specs.Prelude.{◌≡◌, ℕ, ◌+◌, ◌%◌, ◌≤◌, List, ◌≢◌}
use Rattle.handles.specs.Slots.{rank, rank_of, empty}
use Rattle.handles.specs.declared.slot.Slot.{Slot}

-- s may come to stand at p: it is no empty slot, not too far above the slot before, and no lower than what stands at p
abbrev pub Carries : {X : Type 0} → ℕ → List (Slot X) → ℕ → Slot X → Type 0
Carries n xs p s =
    ((q : ℕ) → (q + 1) % n ≡ p % n → rank_of s.meta ≤ rank n xs q + 1)
    × (rank n xs p ≤ rank_of s.meta)
    × (s.meta ≢ empty)
