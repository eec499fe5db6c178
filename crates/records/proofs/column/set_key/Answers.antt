use Rattle.std.proofs.Common.{set, ap, ◌∙◌}
use Rattle.records.proofs.Keyed.{keyed_past, keyed_set}
use Rattle.records.proofs.column.set_key.Goals as goal

pub returns-then-place-records : goal.returns-then-place-records
returns-then-place-records g c =
    let rs = c.args.records.now in
    ap (set rs c.args.place) c.rekey.ensures
    ∙ keyed_set {K = g.row.K.Denot} {V = g.row.V.Denot} c.args.column rs c.args.place c.args.key c.index-records-place.result c.if-place-records.true

pub returns-else-place-records : goal.returns-else-place-records
returns-else-place-records g c = keyed_past {K = g.row.K.Denot} {V = g.row.V.Denot} c.args.column c.args.records.now c.args.place c.args.key c.if-place-records.false
