use Rattle.std.proofs.Common.{◌∙◌, arith}
use Rattle.machine.specs.Replacement.{highest_first}
use Rattle.queues.specs.Held.{held}
use Rattle.policy.specs.View.{flagged}
use Rattle.policy.proofs.Keeps.{fewer_drops}
use Rattle.policy.proofs.policy.Policy.remove_flagged.Goals as goal

pub invariant_of-self : goal.invariant_of-self
invariant_of-self c =
    let k = c.args.self.now.kept in
    let l = c.args.self.now.limited in
    let f = fewer_drops (highest_first (λ q. q)) (flagged c.args.flags.now) (held c.args.self.now.core.residents) (held c.release_flagged.new.residents) c.release_flagged.ensures.held in
    record {
      limited = (l.0, l.1, l.2, c.release_flagged.ensures.window ∙ l.3, l.4);
      kept = (let a = f.small in let b = k.0 in omega arith, let a = f.main in let b = k.1 in omega arith, let a = f.opened in let b = k.2 in omega arith);
    }
