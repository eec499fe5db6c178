use Rattle.std.proofs.Common.{◌+◌, length, ◌∙◌}
use Rattle.handles.proofs.Ring.{masked}
use Rattle.handles.proofs.Pushing.{ring_pos, push_turn, push_last, push_fits}
use Rattle.handles.proofs.shift.push_forward.Goals as goal

pub overflow_add-carried : goal.overflow_add-carried
overflow_add-carried g c =
    let h = push_fits (length c.args.slots.now) c.run.slots c.run.slot c.index-slots-slot.result
    c.run.invariant.0 c.run.invariant.2 c.index-slots-slot.is c.if-displaced.false in
    record { fits = h }

pub run-smaller : goal.run-smaller
run-smaller g c =
    let n = length c.args.slots.now in
    let r = c.run.invariant.0 in
    (push_turn n c.run.slots c.run.slot _ c.run.carried c.index-slots-slot.result
    r c.run.invariant.1 c.run.invariant.2 c.index-slots-slot.is c.if-displaced.false
    (masked n (c.run.slot + 1) c.requires.movable.size (ring_pos n c.run.slots r))).4

pub run-preserved : goal.run-preserved
run-preserved g c =
    let n = length c.args.slots.now in
    let r = c.run.invariant.0 in
    let t = push_turn n c.run.slots c.run.slot _ c.run.carried c.index-slots-slot.result
    r c.run.invariant.1 c.run.invariant.2 c.index-slots-slot.is c.if-displaced.false
    (masked n (c.run.slot + 1) c.requires.movable.size (ring_pos n c.run.slots r)) in
    (t.0, t.1, t.2, t.3 ∙ c.run.invariant.3)

pub returns : goal.returns
returns g c =
    push_last (length c.args.slots.now) c.run.slots c.run.slot c.run.carried c.index-slots-slot.result
    c.run.invariant.0 c.run.invariant.2 c.index-slots-slot.is c.if-displaced.true
    ∙ c.run.invariant.3
