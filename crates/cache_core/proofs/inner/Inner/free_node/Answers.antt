use Rattle.std.proofs.Common.{refl}
use Rattle.records.specs.declared.column.Column.TheVariants.{Remembered}
use Rattle.cache_core.proofs.Filings.{frees_some, frees_none}
use Rattle.cache_core.proofs.inner.Inner.free_node.Goals as goal

pub returns-then-noted : goal.returns-then-noted
returns-then-noted g c =
    let x = c.args.self.now in
    record {
      tied = λ old within told t.
          frees_some {K = g.row.K.Denot} g.K.Key.meaning g.K.HashedKey.hashed {V = g.row.V.Denot} Remembered x.records.now x.remembered c.unfile_key.new.index c.key_of-key.result c.args.noted.node c.args.noted.forgot old c.if-noted.true c.key_of-key.ensures c.unfile_key.ensures within told t;
      kept = (refl, (refl, refl));
    }

pub returns-else-noted : goal.returns-else-noted
returns-else-noted g c =
    let x = c.args.self.now in
    record {
      tied = λ old within told t.
          frees_none {K = g.row.K.Denot} g.K.Key.meaning g.K.HashedKey.hashed {V = g.row.V.Denot} Remembered x.records.now x.remembered c.args.noted.node c.args.noted.forgot old c.if-noted.false told t;
      kept = (refl, (refl, refl));
    }
