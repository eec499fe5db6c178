use Rattle.std.proofs.Common.{◌+◌, ◌-◌, ◌<◌, ◌≤◌, length, ◌∙◌, mod-lt, arith, rules}
use lib.Bits.{bit_and}
use Rattle.handles.specs.Slots.{rank_of}
use Rattle.handles.proofs.Ring.{masked}
use Rattle.handles.proofs.Pushing.{ring_pos}
use Rattle.handles.proofs.Pulling.{pull_turn, pull_last}
use Rattle.handles.proofs.shift.pull_back.Goals as goal

pub offset_bounds-slots-next : goal.offset_bounds-slots-next
offset_bounds-slots-next g c =
    let n = length c.args.slots.now in
    let pos = ring_pos n c.run.slots c.run.invariant.0 in
    let m = masked n (c.run.hole + 1) c.requires.movable.size pos in
    let lt = mod-lt (c.run.hole + 1) pos in
    let k = c.run.auto.slots in
    let h : bit_and (c.run.hole + 1) (length c.args.slots.now - 1) < length c.run.slots = omega arith in
    search rules

pub run-smaller : goal.run-smaller
run-smaller g c =
    let n = length c.args.slots.now in
    let r = c.run.invariant.0 in
    let far : 1 < rank_of c.index-slots-next.result.meta = (let l = c.if-rank-le1.false in let e = c.rank.ensures in omega arith) in
    (pull_turn n c.run.slots c.run.hole _ c.index-slots-next.result r c.run.invariant.1 c.run.invariant.2
    (masked n (c.run.hole + 1) c.requires.movable.size (ring_pos n c.run.slots r)) c.index-slots-next.is far).4

pub run-preserved : goal.run-preserved
run-preserved g c =
    let n = length c.args.slots.now in
    let r = c.run.invariant.0 in
    let far : 1 < rank_of c.index-slots-next.result.meta = (let l = c.if-rank-le1.false in let e = c.rank.ensures in omega arith) in
    let t = pull_turn n c.run.slots c.run.hole _ c.index-slots-next.result r c.run.invariant.1 c.run.invariant.2
    (masked n (c.run.hole + 1) c.requires.movable.size (ring_pos n c.run.slots r)) c.index-slots-next.is far in
    (t.1, t.2, t.3, (λ d. t.5 d ∙ c.run.invariant.3 d))

pub returns : goal.returns
returns g c =
    let n = length c.args.slots.now in
    let r = c.run.invariant.0 in
    let home : rank_of c.index-slots-next.result.meta ≤ 1 = (let l = c.if-rank-le1.true in let e = c.rank.ensures in omega arith) in
    λ d.
    pull_last n c.run.slots c.run.hole _ c.index-slots-hole.result c.index-slots-next.result r c.run.invariant.1 c.run.invariant.2
    (masked n (c.run.hole + 1) c.requires.movable.size (ring_pos n c.run.slots r)) c.index-slots-next.is home d
    ∙ c.run.invariant.3 d
