use Rattle.std.proofs.Common.{◌≡◌, ◌++◌, map, take, drop}
use Rattle.handles.specs.Shift.{vacated}
use Rattle.handles.proofs.entries.empty_all.Given as goal

abbrev pub invariant-loop-slot : goal.invariant-loop-slot
invariant-loop-slot g l = l.slots ≡ map vacated (take l.slot-index l.initial.slots) ++ drop l.slot-index l.initial.slots
