use Rattle.cache_calls.proofs.Sifted.{Midway}
use Rattle.cache_calls.proofs.retaining.retain.Given as goal

abbrev pub invariant-places : goal.invariant-places
invariant-places g l =
    Midway {K = g.row.K.Denot} {V = g.row.V.Denot} {R = g.row.R.Denot} g.K.Key.meaning g.K.HashedKey.hashed g.R.AskedKeepRule.keeps g.R.AskedKeepRule.after l.initial.inner l.initial.rule l.place l.inner l.rule l.flags
