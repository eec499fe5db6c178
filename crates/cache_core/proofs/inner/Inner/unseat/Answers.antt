use Rattle.std.proofs.Common.{refl}
use Rattle.records.specs.declared.column.Column.TheVariants.{Resident}
use Rattle.cache_core.proofs.Filings.{unfiled_key}
use Rattle.cache_core.proofs.inner.Inner.unseat.Goals as goal

pub returns : goal.returns
returns g c =
    let x = c.args.self.now in
    record {
      tied = λ ps within t.
          unfiled_key {K = g.row.K.Denot} g.K.Key.meaning g.K.HashedKey.hashed {V = g.row.V.Denot} Resident x.records.now x.residents c.unfile_key.new.index c.key_of-key.result c.args.place ps c.key_of-key.ensures c.unfile_key.ensures within t;
      kept = (refl, (refl, refl));
    }
