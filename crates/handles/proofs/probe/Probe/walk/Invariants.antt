use Rattle.std.proofs.Common.{◌≡◌, ◌+◌, ◌-◌, ◌%◌, length}
use Rattle.handles.specs.Walk.{stop_from, stop}
use Rattle.handles.proofs.Walking.{Passed}
use Rattle.handles.proofs.probe.Probe.walk.Given as goal

abbrev pub invariant-probe : goal.invariant-probe
invariant-probe g l =
    Passed (length l.self.slots.now) l.self.slots.now l.self.home l.displacement
    × (l.slot ≡ (l.self.home + l.displacement) % length l.self.slots.now)
    × (stop_from (length l.self.slots.now) l.self.slots.now l.self.home (length l.self.slots.now - l.displacement) l.displacement
    ≡ stop (length l.self.slots.now) l.self.slots.now l.self.home)

abbrev pub decreases-probe : goal.decreases-probe
decreases-probe g l = length l.self.slots.now - l.displacement
