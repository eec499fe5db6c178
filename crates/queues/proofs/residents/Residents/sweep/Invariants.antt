use Rattle.std.proofs.Common.{◌≡◌, ◌-◌, ◌≤◌, length}
use Rattle.machine.specs.Replacement.{sweep}
use Rattle.queues.specs.Held.{held}
use Rattle.queues.proofs.Turns.{after, left_to_sweep, mained}
use Rattle.queues.proofs.residents.Residents.sweep.Given as goal

abbrev pub invariant-loop-place : goal.invariant-loop-place
invariant-loop-place l =
    (l.chances ≤ length (held l.initial.self).main)
    × (held l.self ≡ mained (after l.chances (held l.initial.self).main) (held l.initial.self))
    × (left_to_sweep l.chances (held l.initial.self).main ≡ sweep (held l.initial.self).main)
    × (l.self.slots.window ≡ l.initial.self.slots.window)

abbrev pub decreases-loop-place : goal.decreases-loop-place
decreases-loop-place l = length (held l.initial.self).main - l.chances
