use Rattle.std.proofs.Common.{◌∙◌}
use Rattle.cache_core.proofs.Filings.{remembered_after}
use Rattle.cache_core.proofs.inner.Inner.remember.Goals as goal

pub returns : goal.returns
returns g c =
    let x = c.args.self.now in
    let x' = c.free_node.new.self in
    let y = c.note_key.new.self in
    let freed = c.free_node.ensures.kept in
    let laid = c.note_key.ensures.kept in
    record {
      tied = λ old k within told named none few t.
          remembered_after {K = g.row.K.Denot} g.K.Key.meaning g.K.HashedKey.hashed {V = g.row.V.Denot} x.records.now x'.records.now y.records.now x'.remembered y.remembered c.args.place c.args.noted.node c.key_of-key.result old k freed.0 c.key_of-key.ensures c.note_key.ensures.tied named (c.free_node.ensures.tied old within told t) within none few;
      kept = (laid.0 ∙ freed.1.0, laid.1 ∙ freed.1.1);
    }
