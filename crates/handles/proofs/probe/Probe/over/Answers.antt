use Rattle.std.proofs.Common.{sym}
use Rattle.handles.proofs.Reading.{empty_candidates}
use Rattle.handles.proofs.probe.Probe.over.Goals as goal

pub returns-then-len-eq0 : goal.returns-then-len-eq0
returns-then-len-eq0 g c =
    sym (empty_candidates c.args.slots.now c.args.len c.args.hash c.requires c.if-len-eq0.true)
