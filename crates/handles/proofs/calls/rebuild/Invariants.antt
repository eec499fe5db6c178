use Rattle.handles.proofs.Rebuilding.{Midway}
use Rattle.handles.proofs.calls.rebuild.Given as goal

abbrev pub invariant-old : goal.invariant-old
invariant-old g l =
    Midway (λ x. g.R.Rehash.rehashed l.rule (g.X.Handle.meaning x)) l.old l.initial.fresh l.fresh l.slot-index
