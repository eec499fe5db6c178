use Rattle.std.proofs.Common.{is_some, ap, ◌∙◌}
use Rattle.policy.specs.View.{view}
use Rattle.records.specs.declared.column.Column.TheVariants.{Remembered}
use Rattle.cache_core.proofs.Standing.{node_within}
use Rattle.cache_core.proofs.Looked.{found_within, has_first}
use Rattle.cache_core.proofs.inner.Inner.find_remembered.Goals as goal

pub returns : goal.returns
returns g c =
    let mean = g.K.Key.meaning in
    let x = c.args.self.now in
    let rs = x.records.now in
    let nodes = (view x.policy.core).remembered in
    let word = mean c.args.key.now in
    record {
      within = found_within {K = g.row.K.Denot} {V = g.row.V.Denot} mean x.remembered Remembered rs word c.args.hash c.find_key.result c.find_key.ensures.found;
      first = λ t h. c.find_key.ensures.tied g.K.HashedKey.hashed nodes t.remembered h;
      has = λ t h.
          ap is_some (c.find_key.ensures.tied g.K.HashedKey.hashed nodes t.remembered h)
          ∙ has_first {K = g.row.K.Denot} {V = g.row.V.Denot} mean rs word nodes (node_within x.policy _ t.sized);
    }
