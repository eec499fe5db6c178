use Rattle.std.proofs.Common.{arith}
use Rattle.links.proofs.line.Line.push_back.Goals as goal
use Rattle.links.proofs.Pushes.{left_ok, right_ok, counted_ok, room_ok, before_ok, back_sized, back_linked, back_once, back_lists}

pub detach-requires-clause-before : goal.detach-requires-clause-before
detach-requires-clause-before c = let l = c.args.self.now in left_ok l.cells l.sized l.linked l.once c.args.node c.args.list (omega arith) (omega arith)

pub detach-requires-clause-after : goal.detach-requires-clause-after
detach-requires-clause-after c = let l = c.args.self.now in right_ok l.cells l.sized l.linked l.once c.args.node c.args.list (omega arith) (omega arith)

pub detach-requires-clause-counted : goal.detach-requires-clause-counted
detach-requires-clause-counted c = let l = c.args.self.now in counted_ok l.cells l.sized l.linked l.once c.args.node c.args.list (omega arith) (omega arith)

pub attach-requires-clause-left : goal.attach-requires-clause-left
attach-requires-clause-left c =
    let l = c.args.self.now in
    before_ok l.cells l.sized l.linked l.once c.args.node c.args.list (omega arith) (omega arith) c.detach.new.cells c.detach.ensures

pub attach-requires-clause-room : goal.attach-requires-clause-room
attach-requires-clause-room c =
    let l = c.args.self.now in
    room_ok l.cells l.sized l.linked l.once c.args.node c.args.list (omega arith) (omega arith) c.detach.new.cells c.detach.ensures

pub invariant_of-self : goal.invariant_of-self
invariant_of-self c =
    let l = c.args.self.now in
    record {
      sized = back_sized l.cells l.sized l.linked l.once c.args.node c.args.list (omega arith) (omega arith) c.detach.new.cells c.detach.ensures c.attach.new.cells c.attach.ensures;
      linked = back_linked l.cells l.sized l.linked l.once c.args.node c.args.list (omega arith) (omega arith) c.detach.new.cells c.detach.ensures c.attach.new.cells c.attach.ensures;
      once = back_once l.cells l.sized l.linked l.once c.args.node c.args.list (omega arith) (omega arith) c.detach.new.cells c.detach.ensures c.attach.new.cells c.attach.ensures;
    }

pub returns-then-list-lt-LISTS-clause-lists : goal.returns-then-list-lt-LISTS-clause-lists
returns-then-list-lt-LISTS-clause-lists c =
    let l = c.args.self.now in
    back_lists l.cells l.sized l.linked l.once c.args.node c.args.list (omega arith) (omega arith) c.detach.new.cells c.detach.ensures c.attach.new.cells c.attach.ensures
