use Rattle.std.proofs.Common.{Option, sym, subst}
use Rattle.cache_core.specs.Filing.{Unfiled}
use Rattle.cache_core.proofs.Filings.{unfiled_some}
use Rattle.cache_core.proofs.filing.unfile_key.Goals as goal

pub returns-in-Some : goal.returns-in-Some
returns-in-Some g c =
    subst (λ (o : Option g.row.K.Denot). Unfiled {K = g.row.K.Denot} g.K.Key.meaning g.K.HashedKey.hashed c.args.index.now o c.args.place c.unfile.new.self) (sym c.in-Some.is)
    (unfiled_some {K = g.row.K.Denot} g.K.Key.meaning g.K.HashedKey.hashed c.args.index.now c.unfile.new.self c.in-Some.key c.args.place c.hash.result c.unfile.result c.hash.ensures c.unfile.ensures.tied)
