use Rattle.std.proofs.Common.{refl, ap, ◌∙◌}
use Rattle.machine.specs.Replacement.{sweep}
use Rattle.queues.specs.Held.{held}
use Rattle.ghosts.specs.Remembered.{remembered}
use Rattle.policy.specs.View.{noting}
use Rattle.policy.proofs.Outs.{victim_out, noted_out}
use Rattle.policy.proofs.steps.evict_main.Goals as goal

pub returns-clause-view : goal.returns-clause-view
returns-clause-view c =
    let q = c.args.core.now.residents in
    let g = remembered c.args.core.now.ghosts in
    ap (noting g)
    (victim_out c.sweep.new.self c.release.new.self (held q) (sweep (held q).main) c.in_ok-selected.selected refl
    c.in_ok-selected.ensures.answer c.sweep.ensures.held c.release.ensures.held)
    ∙ noted_out g (held q) (sweep (held q).main)
