use Rattle.std.proofs.Common.{Some, None, sym, ◌∙◌}
use Rattle.handles.specs.Slots.{empty}
use Rattle.handles.proofs.Calling.{remove_none, sought_empty, sought_is, remove_made, remove_slot}
use Rattle.handles.proofs.calls.remove_slots.Goals as goal

pub returns-then-len-eq0-clause-removes : goal.returns-then-len-eq0-clause-removes
returns-then-len-eq0-clause-removes g c =
    remove_none g.X.Handle.meaning c.args.slots.now c.args.hash c.args.handle
    (sought_empty g.X.Handle.meaning c.args.slots.now c.args.hash c.args.handle c.args.len.now c.requires c.if-len-eq0.true)

pub returns-in_default-clause-removes : goal.returns-in_default-clause-removes
returns-in_default-clause-removes g c =
    let p = c.new-probe in
    remove_none g.X.Handle.meaning c.args.slots.now c.args.hash c.args.handle
    (sought_is g.X.Handle.meaning c.args.slots.now c.args.hash c.args.handle p.result.slots.now p.result.home p.result.print None
    p.ensures.slots p.ensures.home p.ensures.print (sym c.in_default.is ∙ c.seek.ensures.value))

pub pull_back-requires-clause-taken : goal.pull_back-requires-clause-taken
pull_back-requires-clause-taken g c =
    let p = c.new-probe in
    let e = c.in-Some.displacement in
    let is = sought_is g.X.Handle.meaning c.args.slots.now c.args.hash c.args.handle p.result.slots.now p.result.home p.result.print (Some e)
    p.ensures.slots p.ensures.home p.ensures.print (sym c.in-Some.is ∙ c.seek.ensures.value) in
    (remove_slot g.X.Handle.meaning c.args.slots.now c.args.hash c.args.handle p.result.slots.now c.args.len.now e p.result.home c.slot_at-slot.result
    c.requires c.if-len-eq0.false p.ensures.slots p.ensures.home is c.slot_at-slot.ensures).0

pub returns : goal.returns
returns g c =
    let p = c.new-probe in
    let e = c.in-Some.displacement in
    let is = sought_is g.X.Handle.meaning c.args.slots.now c.args.hash c.args.handle p.result.slots.now p.result.home p.result.print (Some e)
    p.ensures.slots p.ensures.home p.ensures.print (sym c.in-Some.is ∙ c.seek.ensures.value) in
    let s = remove_slot g.X.Handle.meaning c.args.slots.now c.args.hash c.args.handle p.result.slots.now c.args.len.now e p.result.home c.slot_at-slot.result
    c.requires c.if-len-eq0.false p.ensures.slots p.ensures.home is c.slot_at-slot.ensures in
    let m = remove_made g.X.Handle.meaning c.args.slots.now c.args.hash c.args.handle c.args.len.now e c.slot_at-slot.result c.pull_back.new.slots
    c.requires c.if-len-eq0.false is s.1 (c.pull_back.ensures (record { meta = empty; handle = c.args.handle })) in
    record { removes = m.0; sound = m.1 }
