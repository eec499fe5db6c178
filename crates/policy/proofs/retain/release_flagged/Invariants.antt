use Rattle.std.proofs.Common.{◌≡◌}
use Rattle.queues.specs.Held.{held}
use Rattle.policy.specs.View.{flagged}
use Rattle.policy.proofs.Flags.{up_to}
use Rattle.policy.proofs.retain.release_flagged.Given as goal

abbrev pub invariant-loop-place : goal.invariant-loop-place
invariant-loop-place l =
    (held l.residents ≡ up_to l.place (flagged l.flags) (held l.initial.residents))
    × (l.residents.slots.window ≡ l.initial.residents.slots.window)
