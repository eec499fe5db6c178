use Rattle.std.proofs.Common.{length, arith}
use Rattle.policy.specs.View.{view}
use Rattle.cache_core.proofs.Cleared.{nothing_tied}
use Rattle.cache_calls.proofs.Lying.{allowed_within}
use Rattle.cache_calls.proofs.opening.open.Goals as goal

pub returns-clause-tied : goal.returns-clause-tied
returns-clause-tied g c =
    let rs = c.args.records.now in
    let q = c.open-policy.result in
    nothing_tied {K = g.row.K.Denot} {V = g.row.V.Denot} g.K.Key.meaning g.K.HashedKey.hashed q.core.capacity rs (view q.core) c.new.result c.new-2.result
    (let a = c.open-policy.ensures.capacity in let b = allowed_within (length rs) in omega arith) c.open-policy.ensures.view c.new.ensures c.new-2.ensures
