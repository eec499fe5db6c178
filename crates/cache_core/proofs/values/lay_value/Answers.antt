use Rattle.cache_core.proofs.Valued.{valued_past, valued_set}
use Rattle.cache_core.proofs.values.lay_value.Goals as goal

pub returns-then-place-records : goal.returns-then-place-records
returns-then-place-records g c = valued_past {K = g.row.K.Denot} {V = g.row.V.Denot} c.args.records.now c.args.place c.args.value c.if-place-records.true

pub returns : goal.returns
returns g c = valued_set {K = g.row.K.Denot} {V = g.row.V.Denot} c.args.records.now c.args.place c.args.value c.index-records-place.result c.if-place-records.false
