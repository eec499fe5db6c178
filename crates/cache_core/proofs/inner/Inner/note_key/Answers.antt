use Rattle.std.proofs.Common.{◌≡◌, Some, sym, refl, ◌∙◌, subst}
use Rattle.records.specs.declared.column.Column.TheVariants.{Remembered}
use Rattle.cache_core.specs.Filing.{Laid}
use Rattle.cache_core.proofs.Filings.{laid}
use Rattle.cache_core.proofs.inner.Inner.note_key.Goals as goal

pub returns-in-Some : goal.returns-in-Some
returns-in-Some g c =
    let x = c.args.self.now in
    let key = c.in-Some.key in
    record {
      tied = λ k is.
          (let e : Some key ≡ Some k = sym c.in-Some.is ∙ is in
          let same : key ≡ k = cc in
          subst (λ (z : g.row.K.Denot). Laid {K = g.row.K.Denot} g.K.Key.meaning g.K.HashedKey.hashed {V = g.row.V.Denot} Remembered x.records.now x.remembered c.args.node z c.lay_key.new.records c.lay_key.new.index) same
          (laid {K = g.row.K.Denot} g.K.Key.meaning g.K.HashedKey.hashed {V = g.row.V.Denot} Remembered x.records.now c.lay_key.new.records x.remembered c.lay_key.new.index c.args.node c.hash-hash.result key c.lay_key.result c.hash-hash.ensures c.lay_key.ensures.lays c.lay_key.ensures.tied));
      kept = (refl, refl);
    }
