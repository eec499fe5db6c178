use Rattle.std.proofs.Common.{ℕ, max, sym, ap, ◌∙◌, arith}
use Rattle.machine.specs.Limits.{small_limit, main_limit, ghost_limit, window}
use Rattle.machine.specs.Replacement.{seated, vacated}
use Rattle.policy.specs.View.{view}
use Rattle.policy.specs.Insertion.{node_of}
use Rattle.policy.proofs.Readiness.{limits, everybody}
use Rattle.policy.proofs.Fits.{inserted_fits, fits_at}
use Rattle.policy.proofs.policy.Policy.insert.Goals as goal

pub invariant_of-self : goal.invariant_of-self
invariant_of-self c =
    let p = c.args.self.now.core in
    let k = c.args.self.now.kept in
    let m = c.args.self.now.limited in
    let s = c.insert_in.ensures.same in
    let d = c.insert_in.ensures.done in
    let r = c.insert_in.result in
    let f = inserted_fits (λ _. node_of r.vacancy.noted) p.capacity (limits p.capacity (omega arith)) (view p) (record { small = k.0; main = k.1; opened = k.2 }) (everybody p) r.place c.args.ghost_hit in
    record {
      limited = (
        let a = m.0 in let b = s.0 in omega arith,
        s.1 ∙ (m.1 ∙ ap small_limit (sym s.0)),
        s.2 ∙ (m.2 ∙ ap main_limit (sym s.0)),
        s.3 ∙ (m.3 ∙ ap (λ (x : ℕ). max (window x) 1) (sym s.0)),
        s.4 ∙ (m.4 ∙ ap ghost_limit (sym s.0)),
      );
      kept = fits_at p.capacity c.insert_in.new.core.capacity (seated p.capacity (vacated (λ _. node_of r.vacancy.noted) (λ q. q) p.capacity c.args.ghost_hit (view p)) r.place) (view c.insert_in.new.core) s.0 d.parts f;
    }
