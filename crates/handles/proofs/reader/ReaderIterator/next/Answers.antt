use Rattle.handles.proofs.Reading.{next_some, next_none}
use Rattle.handles.proofs.reader.ReaderIterator.next.Goals as goal

pub returns-in_err-displacement-clause-steps : goal.returns-in_err-displacement-clause-steps
returns-in_err-displacement-clause-steps g c =
    let p = c.args.self.now.probe in
    let e = next_none p.home p.print c.args.self.now.displacement p.slots.now c.in_err-displacement.ensures.value in
    rw c.from_residual.ensures (e, e)

pub returns-clause-steps : goal.returns-clause-steps
returns-clause-steps g c =
    let p = c.args.self.now.probe in
    next_some p.home p.print c.args.self.now.displacement p.slots.now c.in_ok-displacement.displacement c.handle_at.result
    c.in_ok-displacement.ensures.short.1 c.in_ok-displacement.ensures.value c.handle_at.ensures
