use Rattle.std.proofs.Common.{arith}
use Rattle.links.proofs.line.Line.first.Goals as goal
use Rattle.links.proofs.Found.{first_is}

pub returns : goal.returns
returns c =
    let l = c.args.self.now in
    let n = c.len.ensures in
    first_is l.cells l.sized l.linked l.once c.args.list (omega arith)
