use Rattle.index.proofs.Counted.{over, table_files}
use Rattle.index.proofs.Tied.{files_ties}
use Rattle.index.proofs.index.KeyIndex.file.Goals as goal

pub returns : goal.returns
returns c =
    let t = c.args.self.now.table in
    let u = c.insert.new.self in
    let f = table_files t u c.args.hash c.args.place c.insert.result c.insert.ensures in
    record { files = f; tied = files_ties (over t) (over u) c.args.hash c.args.place c.insert.result f }
