use Rattle.std.proofs.Common.{ap, ◌∙◌}
use Rattle.handles.specs.Seek.{first_by}
use Rattle.handles.proofs.Reading.{find_some, find_none}
use Rattle.handles.proofs.search.find_slots.Goals as goal

pub returns-in_err-displacement : goal.returns-in_err-displacement
returns-in_err-displacement g c =
    let p = c.over-probe.result in
    let ok = g.S.Sought.fits c.args.sought.now in
    c.from_residual.ensures ∙ find_none p.home p.print 0 ok p.slots.now c.in_err-displacement.ensures.value ∙ ap (first_by ok) c.over-probe.ensures

pub returns : goal.returns
returns g c =
    let p = c.over-probe.result in
    let ok = g.S.Sought.fits c.args.sought.now in
    find_some p.home p.print 0 ok p.slots.now c.in_ok-displacement.displacement c.handle_at.result
    c.in_ok-displacement.ensures.short.1 c.in_ok-displacement.ensures.value c.handle_at.ensures
    ∙ ap (first_by ok) c.over-probe.ensures
