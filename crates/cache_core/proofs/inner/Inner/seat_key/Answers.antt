use Rattle.std.proofs.Common.{refl}
use Rattle.records.specs.declared.column.Column.TheVariants.{Resident}
use Rattle.cache_core.proofs.Filings.{laid}
use Rattle.cache_core.proofs.inner.Inner.seat_key.Goals as goal

pub returns : goal.returns
returns g c =
    let x = c.args.self.now in
    record {
      tied = λ h.
          laid {K = g.row.K.Denot} g.K.Key.meaning g.K.HashedKey.hashed {V = g.row.V.Denot} Resident x.records.now c.lay_key.new.records x.residents c.lay_key.new.index c.args.place c.args.hash c.args.key c.lay_key.result h c.lay_key.ensures.lays c.lay_key.ensures.tied;
      kept = (refl, refl);
    }
