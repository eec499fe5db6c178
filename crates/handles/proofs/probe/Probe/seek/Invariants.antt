use Rattle.std.proofs.Common.{◌≡◌, ◌-◌, length}
use Rattle.handles.specs.Seek.{seek_from}
use Rattle.handles.proofs.probe.Probe.seek.Given as goal

abbrev pub invariant-loop-displacement : goal.invariant-loop-displacement
invariant-loop-displacement g l =
    seek_from (g.S.Sought.fits l.sought) (length l.self.slots.now) l.self.slots.now l.self.home l.self.print (length l.self.slots.now - l.displacement) l.displacement
    ≡ seek_from (g.S.Sought.fits l.sought) (length l.self.slots.now) l.self.slots.now l.self.home l.self.print (length l.self.slots.now - l.from) l.from
