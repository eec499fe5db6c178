use Rattle.std.proofs.Common.{◌<◌, ◌≤◌, length, ap, ◌∙◌, arith}
use Rattle.records.specs.declared.record.Record.{Record}
use Rattle.cache_calls.proofs.Lying.{value_read, value_past}
use Rattle.cache_calls.proofs.inserting.value_or.Goals as goal

pub returns-in-Some : goal.returns-in-Some
returns-in-Some g c =
    let found = c.in-Some.ensures.lookup in
    let inside : c.args.place < length c.args.records.now = (let t = found.0 in grind arith) in
    ap (λ (r : Record g.row.K.Denot g.row.V.Denot). r.value) found.1
    ∙ value_read {K = g.row.K.Denot} {V = g.row.V.Denot} c.args.other c.args.records.now c.args.place c.in-Some.record.now inside

pub returns-in-None : goal.returns-in-None
returns-in-None g c =
    let past : length c.args.records.now ≤ c.args.place = (let t = c.in-None.ensures.lookup.0 in grind arith) in
    value_past {K = g.row.K.Denot} {V = g.row.V.Denot} c.args.other c.args.records.now c.args.place past
