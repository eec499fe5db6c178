use Rattle.std.proofs.Common.{ℕ, List, ap, ◌∙◌}
use Rattle.queues.specs.Held.{held}
use Rattle.ghosts.specs.Remembered.{remembered}
use Rattle.policy.specs.View.{noting}
use Rattle.policy.proofs.Keeps.{without_kept}
use Rattle.policy.proofs.policy.Policy.discard.Goals as goal

pub returns-clause-view : goal.returns-clause-view
returns-clause-view c =
    ap (λ (g : List ℕ). noting g (held c.args.self.now.core.residents)) (c.discard.ensures.forgets ∙ without_kept c.args.node (remembered c.args.self.now.core.ghosts))
