use Rattle.std.proofs.Common.{arith}
use Rattle.ghosts.proofs.Moves.{chosen_low, newest_ghosts, newest_pushed}
use Rattle.ghosts.proofs.queue.GhostQueue.push.Goals as goal

pub overflow_add-noted : goal.overflow_add-noted
overflow_add-noted c =
    let g = c.args.self.now in
    let l = chosen_low g.notes g.counted g.unopened g.within c.in_ok-noted.noted c.in_ok-noted.ensures in
    omega arith

pub invariant_of-self : goal.invariant_of-self
invariant_of-self c =
    let g = c.args.self.now in
    newest_ghosts g.notes g.counted g.unopened g.within c.in_ok-noted.noted c.in_ok-noted.ensures c.push_front.new.self c.push_front.ensures.lists c.push_front.ensures.homes c.max-self.result c.max-self.ensures

pub returns-clause-pushed : goal.returns-clause-pushed
returns-clause-pushed c =
    let g = c.args.self.now in
    newest_pushed g.notes g.counted g.unopened g.within c.in_ok-noted.noted c.in_ok-noted.ensures c.push_front.new.self c.push_front.ensures.lists c.push_front.ensures.homes
