use Rattle.index.proofs.Counted.{over, table_clears}
use Rattle.index.proofs.Tied.{tied_none}
use Rattle.index.proofs.index.KeyIndex.clear.Goals as goal

pub returns : goal.returns
returns c =
    let u = c.clear.new.self in
    let e = table_clears c.args.self.now.table u c.clear.ensures in
    tied_none (over u) e.0 e.1
