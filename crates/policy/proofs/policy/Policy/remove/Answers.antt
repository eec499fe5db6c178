use Rattle.std.proofs.Common.{eqb, ◌∙◌, arith}
use Rattle.queues.specs.Held.{held}
use Rattle.policy.proofs.Keeps.{fewer_drops}
use Rattle.policy.proofs.policy.Policy.remove.Goals as goal

pub invariant_of-self : goal.invariant_of-self
invariant_of-self c =
    let k = c.args.self.now.kept in
    let l = c.args.self.now.limited in
    let f = fewer_drops (λ _ ps. ps) (λ q. eqb q c.args.place) (held c.args.self.now.core.residents) (held c.release.new.self) c.release.ensures.held in
    record {
      limited = (l.0, l.1, l.2, c.release.ensures.window ∙ l.3, l.4);
      kept = (let a = f.small in let b = k.0 in omega arith, let a = f.main in let b = k.1 in omega arith, let a = f.opened in let b = k.2 in omega arith);
    }
