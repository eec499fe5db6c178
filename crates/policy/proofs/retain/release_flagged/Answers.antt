use Rattle.std.proofs.Common.{◌≡◌, ℕ, refl, ap, ◌∙◌, arith}
use Rattle.queues.specs.declared.residents.Residents.{Residents}
use Rattle.queues.specs.Held.{held}
use Rattle.queues.specs.Steps.{released}
use Rattle.queues.proofs.Sound.{opened_low}
use Rattle.policy.specs.View.{flagged}
use Rattle.policy.proofs.Flags.{up_to, none_yet, one_more, passed_over, all_dropped}
use Rattle.policy.proofs.Standing.{stands_low}
use Rattle.policy.proofs.retain.release_flagged.Goals as goal
use Rattle.policy.proofs.retain.release_flagged.Goals.{then-flags-place, else-flags-place}

pub loop-place-init : goal.loop-place-init
loop-place-init c = (none_yet (flagged c.args.flags.now) (held c.args.residents.now), refl)

pub bounds-flags-place : goal.bounds-flags-place
bounds-flags-place c =
    let l = opened_low c.args.residents.now.slots c.args.residents.now.listed in
    omega arith

pub loop-place-preserved : goal.loop-place-preserved
loop-place-preserved c =
    let at = flagged c.args.flags.now in
    let s = held c.args.residents.now in
    let i = c.loop-place.place in
    let inv = c.loop-place.invariant in
    elim c.if-flags-place.branch [
      | then-flags-place w ↦ (
        ap held w.residents-is ∙ (w.release.ensures.held ∙ (ap (released i) inv.0 ∙ one_more at s i w.if-flags-place.true)),
        ap (λ (r : Residents). r.slots.window) w.residents-is ∙ (w.release.ensures.window ∙ inv.1),
      )
      | else-flags-place w ↦ (
        ap held w.residents-is ∙ (inv.0 ∙ passed_over at s i w.if-flags-place.false),
        ap (λ (r : Residents). r.slots.window) w.residents-is ∙ inv.1,
      )
    ]

pub returns-clause-held : goal.returns-clause-held
returns-clause-held c =
    let at = flagged c.args.flags.now in
    let s = held c.args.residents.now in
    let e : c.loop-place.place ≡ s.opened = omega arith in
    c.loop-place.invariant.0
    ∙ (ap (λ (i : ℕ). up_to i at s) e ∙ all_dropped at s (λ q o. stands_low c.args.residents.now q (omega arith)))
