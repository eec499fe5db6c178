use Rattle.std.proofs.Common.{◌≡◌, true, ◌∙◌, arith, rules}
use Rattle.std.proofs.lemmas.List.{length-map}
use Rattle.queues.specs.Slots.{list_of}
use Rattle.queues.specs.Held.{held, resident}
use Rattle.queues.proofs.Sound.{opened_low}
use Rattle.queues.proofs.Turns.{at_hand, turn_parts, stop_parts}
use Rattle.queues.proofs.residents.Residents.sweep.Goals as goal

pub overflow_add-chances : goal.overflow_add-chances
overflow_add-chances c =
    let h = at_hand (held c.loop-place.self).main _ _ c.in_ok-place.ensures in
    let u : c.in_ok-place.used ≡ true = search rules in
    let t = turn_parts (held c.args.self.now) (held c.loop-place.self) c.loop-place.chances c.loop-place.invariant.1 _ _ h u (held c.pass.new.self) c.pass.ensures.held in
    let s = c.args.self.now.slots in
    let l = t.0 in
    let m = length-map (list_of 2 s) (resident s) in
    let n = c.args.self.now.counted in
    let o = opened_low s c.args.self.now.listed in
    omega arith

pub loop-place-preserved : goal.loop-place-preserved
loop-place-preserved c =
    let h = at_hand (held c.loop-place.self).main _ _ c.in_ok-place.ensures in
    let u : c.in_ok-place.used ≡ true = search rules in
    let t = turn_parts (held c.args.self.now) (held c.loop-place.self) c.loop-place.chances c.loop-place.invariant.1 _ _ h u (held c.pass.new.self) c.pass.ensures.held in
    (t.0, t.1, t.2 ∙ c.loop-place.invariant.2, c.pass.ensures.window ∙ c.loop-place.invariant.3)

pub returns : goal.returns
returns c =
    let h = at_hand (held c.loop-place.self).main _ _ c.in_ok-place.ensures in
    let t = stop_parts (held c.args.self.now) (held c.loop-place.self) c.loop-place.chances c.loop-place.invariant.1 _ _ h (search rules) c.loop-place.invariant.2 in
    record { answer = t.0; held = t.1; window = c.loop-place.invariant.3 }
