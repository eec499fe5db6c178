use Rattle.cache_calls.proofs.Lying.{value_read}
use Rattle.cache_calls.proofs.reading.value_of.Goals as goal

pub returns : goal.returns
returns g c = λ d. value_read {K = g.row.K.Denot} {V = g.row.V.Denot} d c.args.inner.now.records.now c.args.place c.index-inner-place.result c.requires
