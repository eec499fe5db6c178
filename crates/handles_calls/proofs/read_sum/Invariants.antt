use Rattle.std.proofs.Common.{◌≡◌}
use Rattle.handles.specs.Seek.{candidates, to_come}
use Rattle.handles_calls.specs.Made.{sum_of}
use Rattle.handles_calls.proofs.read_sum.Given as goal

abbrev pub invariant-loop-place : goal.invariant-loop-place
invariant-loop-place l =
    sum_of l.sum (to_come l.place-iterator.probe.slots.now l.place-iterator.probe.home l.place-iterator.probe.print l.place-iterator.displacement)
    ≡ sum_of 0 (candidates l.table.slots.now l.hash)
