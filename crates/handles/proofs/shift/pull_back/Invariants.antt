use Rattle.std.proofs.Common.{◌≡◌, ◌+◌, ◌<◌, length}
use Rattle.handles.specs.Slots.{rank}
use Rattle.handles.specs.Shift.{pulled, away}
use Rattle.handles.specs.declared.slot.Slot.{Slot}
use Rattle.handles.proofs.Pushing.{Ring}
use Rattle.handles.proofs.shift.pull_back.Given as goal

abbrev pub invariant-run : goal.invariant-run
invariant-run g l =
    Ring (length l.initial.slots) l.slots
    × (0 < rank (length l.initial.slots) l.slots l.hole)
    × (l.hole < length l.initial.slots)
    × ((d : Slot g.row.X.Denot) →
    pulled (length l.initial.slots) l.slots l.hole (away (length l.initial.slots) l.slots (l.hole + 1)) d
    ≡ pulled (length l.initial.slots) l.initial.slots l.at (away (length l.initial.slots) l.initial.slots (l.at + 1)) d)

abbrev pub decreases-run : goal.decreases-run
decreases-run g l = away (length l.initial.slots) l.slots (l.hole + 1)
