use Rattle.std.proofs.Common.{ap, ◌∙◌}
use Rattle.std.specs.Option.{option_map}
use Rattle.policy.specs.View.{view}
use Rattle.records.specs.declared.column.Column.TheVariants.{Resident}
use Rattle.cache_core.specs.View.{places, item_at}
use Rattle.cache_core.proofs.Standing.{place_within}
use Rattle.cache_core.proofs.Looked.{found_within, look_first}
use Rattle.cache_core.proofs.inner.Inner.find_resident.Goals as goal

pub returns : goal.returns
returns g c =
    let mean = g.K.Key.meaning in
    let x = c.args.self.now in
    let rs = x.records.now in
    let s = view x.policy.core in
    let word = mean c.args.key.now in
    record {
      within = found_within {K = g.row.K.Denot} {V = g.row.V.Denot} mean x.residents Resident rs word c.args.hash c.find_key.result c.find_key.ensures.found;
      first = λ t h. c.find_key.ensures.tied g.K.HashedKey.hashed (places s) t.residents h;
      look = λ d t h.
          ap (option_map (item_at {K = g.row.K.Denot} {V = g.row.V.Denot} mean d rs)) (c.find_key.ensures.tied g.K.HashedKey.hashed (places s) t.residents h)
          ∙ look_first {K = g.row.K.Denot} {V = g.row.V.Denot} mean d rs word s (place_within x.policy _ t.sized);
    }
