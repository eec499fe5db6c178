use Rattle.std.proofs.Common.{◌≤◌, length}
use Rattle.handles_c.proofs.handles_run.Given as goal

abbrev pub invariant-loop-i : goal.invariant-loop-i
invariant-loop-i l = (l.at ≤ length l.metas) × (l.at ≤ length l.places)
