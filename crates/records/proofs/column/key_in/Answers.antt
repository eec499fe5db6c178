use Rattle.std.proofs.Common.{Some, ap, ◌∙◌}
use Rattle.records.specs.declared.record.Record.{Record}
use Rattle.records.specs.Columns.{key_of}
use Rattle.records.proofs.Keyed.{key_past, key_read}
use Rattle.records.proofs.column.key_in.Goals as goal

pub returns-in_err-record : goal.returns-in_err-record
returns-in_err-record g c =
    c.from_residual.ensures
    ∙ key_past {K = g.row.K.Denot} {V = g.row.V.Denot} c.args.column c.args.records.now c.args.place c.in_err-record.ensures.lookup.3

pub returns : goal.returns
returns g c =
    let r = c.in_ok-record.record.now in
    let at = c.in_ok-record.ensures.lookup in
    ap Some c.in_column.ensures
    ∙ ap (λ (s : Record g.row.K.Denot g.row.V.Denot). Some (key_of c.args.column s)) at.1
    ∙ key_read {K = g.row.K.Denot} {V = g.row.V.Denot} c.args.column c.args.records.now c.args.place r at.3.0
