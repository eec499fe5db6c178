use Rattle.std.proofs.Common.{Ok, refl}
use Rattle.records.proofs.Laid.{lays_done, lays_tied}
use Rattle.records.proofs.filing.lay_key.Goals as goal

pub returns : goal.returns
returns g c =
    let mean = g.K.Key.meaning in
    let i = c.args.index.now in
    let j = c.file.new.self in
    let rs = c.args.records.now in
    let qs = c.set_key.new.records in
    let f = c.in_ok-file.ensures in
    let done = lays_done {K = g.row.K.Denot} {V = g.row.V.Denot} mean i j rs c.args.column c.args.place c.args.hash c.args.key (Ok tt) qs refl f.files c.set_key.ensures in
    record { lays = done; tied = lays_tied {K = g.row.K.Denot} {V = g.row.V.Denot} mean i j rs c.args.column c.args.place c.args.hash c.args.key (Ok tt) qs done.records f.tied }
