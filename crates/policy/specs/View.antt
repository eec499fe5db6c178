-- The policy as the machine sees it: the parts of its state, over places and the nodes of Ghost.
use Rattle.std.specs.Prelude.{◌≡◌, ℕ, ◌≤◌, max, Bool, false, cond, List, length, nat_le, slice_index_or}
use Rattle.machine.specs.Limits.{small_limit, main_limit, ghost_limit, window}
use Rattle.machine.specs.Replacement.{Parts}
use Rattle.queues.specs.Held.{held}
use Rattle.ghosts.specs.Remembered.{remembered}
use Rattle.policy.specs.declared.makeup.Core.{Core}

-- the parts with what Ghost remembers
abbrev pub noting : List ℕ → Parts ℕ ℕ ℕ → Parts ℕ ℕ ℕ
noting g s = record { small = s.small; main = s.main; remembered = g; free = s.free; opened = s.opened }

abbrev pub view : Core → Parts ℕ ℕ ℕ
view p = noting (remembered p.ghosts) (held p.residents)

-- a capacity above 512 is none
abbrev pub allowed : ℕ → ℕ
allowed c = cond (nat_le c 512) c 0

-- the limits follow from the capacity
abbrev pub Limited : Core → Type 0
Limited p =
    (p.capacity ≤ 512) × (p.small.capacity ≡ small_limit p.capacity) × (p.main.capacity ≡ main_limit p.capacity)
    × (p.residents.slots.window ≡ max (window p.capacity) 1) × (p.ghosts.notes.capacity ≡ ghost_limit p.capacity)

-- and are kept
abbrev pub Kept : Core → Type 0
Kept p =
    (length (view p).small ≤ small_limit p.capacity) × (length (view p).main ≤ main_limit p.capacity) × ((view p).opened ≤ p.capacity)

-- the places whose flag is up
abbrev pub flagged : List Bool → ℕ → Bool
flagged flags p = slice_index_or flags p false
