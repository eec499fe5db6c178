use Rattle.std.proofs.Common.{sym, ◌∙◌}
use Rattle.cache.proofs.Playing.{played}
use Rattle.cache.proofs.runs.play.Goals as goal

pub returns-clause-played : goal.returns-clause-played
returns-clause-played g c =
    played {K = g.row.K.Denot} {V = g.row.V.Denot} {R = g.row.R.Denot} g.K.Key.meaning g.K.HashedKey.hashed g.R.AskedKeepRule.keeps (g.L.Loader.given c.args.loader.now) c.args.records.now c.open-cache.result.inner c.perform_all.new.self.inner c.args.calls.now c.args.answers.now c.perform_all.new.answers c.perform_all.result c.in_ok-measure.field-0
    (sym c.measure.ensures ∙ c.in_ok-measure.was) c.open-cache.ensures.capacity c.open-cache.ensures.state c.open-cache.ensures.right c.perform_all.ensures.performed
