use Rattle.std.proofs.Common.{◌+◌, sym, ◌∙◌, arith}
use Rattle.loaders.proofs.Looking.{roll_more}
use Rattle.loaders.proofs.roll.first_match.Goals as goal

pub returns-then-same : goal.returns-then-same
returns-then-same g c =
    let meaning = g.K.Key.meaning in
    let i = c.loop-record.record-index in
    let step = roll_more {K = g.row.K.Denot} {V = g.row.V.Denot} meaning c.args.records.now (meaning c.args.key.now) (i + 1) i c.record-item.result c.same.result (omega arith) c.record-item.is c.same.ensures in
    sym (rw c.if-same.true at step) ∙ c.loop-record.invariant

pub loop-record-preserved : goal.loop-record-preserved
loop-record-preserved g c =
    let meaning = g.K.Key.meaning in
    let i = c.loop-record.record-index in
    let step = roll_more {K = g.row.K.Denot} {V = g.row.V.Denot} meaning c.args.records.now (meaning c.args.key.now) (i + 1) i c.record-item.result c.same.result (omega arith) c.record-item.is c.same.ensures in
    sym (rw c.if-same.false at step) ∙ c.loop-record.invariant
