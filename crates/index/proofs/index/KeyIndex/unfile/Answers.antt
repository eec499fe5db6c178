use Rattle.index.proofs.Counted.{over, table_unfiles}
use Rattle.index.proofs.Tied.{unfiles_ties}
use Rattle.index.proofs.index.KeyIndex.unfile.Goals as goal

pub returns : goal.returns
returns c =
    let t = c.args.self.now.table in
    let u = c.remove.new.self in
    let f = table_unfiles t u c.args.hash c.args.place c.remove.result c.remove.ensures in
    record { unfiles = f; tied = unfiles_ties (over t) (over u) c.args.hash c.args.place c.remove.result f }
