use Rattle.std.proofs.Common.{arith}
use Rattle.links.proofs.line.Line.last.Goals as goal
use Rattle.links.proofs.Found.{last_is}

pub returns : goal.returns
returns c =
    let l = c.args.self.now in
    let n = c.len.ensures in
    last_is l.cells l.sized l.linked l.once c.args.list (omega arith)
