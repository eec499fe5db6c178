use Rattle.cache.proofs.Performing.{Midway}
use Rattle.std.proofs.Common.{◌≡◌, min, length}
use Rattle.cache.proofs.cache.Cache.perform_all.Given as goal

abbrev pub invariant-calls : goal.invariant-calls
invariant-calls g l =
    (count : l.count ≡ min (length l.calls) (length l.initial.answers)) ×
    Midway {K = g.row.K.Denot} {V = g.row.V.Denot} {R = g.row.R.Denot} g.K.Key.meaning g.K.HashedKey.hashed g.R.AskedKeepRule.keeps (g.L.Loader.given l.initial.loader) l.initial.self.inner l.calls l.initial.answers l.count count l.i l.answers (g.L.Loader.given l.loader) l.self.inner
