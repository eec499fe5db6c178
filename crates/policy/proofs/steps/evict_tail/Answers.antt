use Rattle.ghosts.specs.Remembered.{remembered}
use Rattle.policy.proofs.Outs.{tail_evicted_lem}
use Rattle.policy.proofs.steps.evict_tail.Goals as goal

pub returns-clause-evicted : goal.returns-clause-evicted
returns-clause-evicted c =
    let q = c.args.core.now.residents in
    let g = c.args.core.now.ghosts in
    tail_evicted_lem q c.release.new.self c.in_ok-tail.tail g.notes.capacity (remembered g) (remembered c.push.new.self) c.push.result
    c.in_ok-tail.ensures c.release.ensures.held c.push.ensures.pushed
