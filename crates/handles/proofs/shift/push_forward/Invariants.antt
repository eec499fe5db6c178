use Rattle.std.proofs.Common.{◌≡◌, ◌<◌, length}
use Rattle.handles.specs.Shift.{pushed, run}
use Rattle.handles.specs.Carry.{Carries}
use Rattle.handles.proofs.Pushing.{Ring}
use Rattle.handles.proofs.shift.push_forward.Given as goal

abbrev pub invariant-run : goal.invariant-run
invariant-run g l =
    Ring (length l.initial.slots) l.slots
    × Carries (length l.initial.slots) l.slots l.slot l.carried
    × (l.slot < length l.initial.slots)
    × (pushed (length l.initial.slots) l.slots l.slot (run (length l.initial.slots) l.slots l.slot) l.carried
    ≡ pushed (length l.initial.slots) l.initial.slots l.at (run (length l.initial.slots) l.initial.slots l.at) l.initial.carried)

abbrev pub decreases-run : goal.decreases-run
decreases-run g l = run (length l.initial.slots) l.slots l.slot
