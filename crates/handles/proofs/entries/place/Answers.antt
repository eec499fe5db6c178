use Rattle.std.proofs.Common.{◌∙◌}
use Rattle.handles.proofs.Pushing.{ring_made}
use Rattle.handles.proofs.Placing.{place_carries, place_is}
use Rattle.handles.proofs.entries.place.Goals as goal

pub push_forward-requires-clause-carries : goal.push_forward-requires-clause-carries
push_forward-requires-clause-carries g c =
    let p = c.new-probe in
    let w = c.walk-slot in
    place_carries c.args.slots.now p.result.slots.now c.args.hash p.result.home w.result.0 w.result.1 p.result.print c.args.handle
    p.ensures.slots p.ensures.home p.ensures.print w.ensures.displacement w.ensures.slot
    (ring_made c.args.slots.now c.requires)

pub returns : goal.returns
returns g c =
    let p = c.new-probe in
    let w = c.walk-slot in
    c.push_forward.ensures
    ∙ place_is c.args.slots.now p.result.slots.now c.args.hash p.result.home w.result.0 w.result.1 p.result.print c.args.handle
    p.ensures.slots p.ensures.home p.ensures.print w.ensures.displacement w.ensures.slot
