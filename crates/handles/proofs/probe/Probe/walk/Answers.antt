use Rattle.std.proofs.Common.{◌≡◌, ℕ, ◌+◌, ◌-◌, ◌%◌, ◌<◌, ◌≤◌, length, sym, refl, ap, ◌∙◌, arith}
use native.Mathlib.Nat.{mod-add-mod}
use Rattle.handles.specs.Slots.{rank}
use Rattle.handles.proofs.Ring.{masked}
use Rattle.handles.proofs.Ranks.{rank_read}
use Rattle.handles.proofs.Walking.{passed_short, passed_more, stop_here, stop_on}
use Rattle.handles.proofs.probe.Probe.walk.Goals as goal

pub probe-smaller : goal.probe-smaller
probe-smaller g c =
    let d = passed_short (length c.args.self.now.slots.now) c.args.self.now.slots.now c.args.self.now.home c.probe.displacement
    refl c.requires c.probe.invariant.0 in
    omega arith

pub probe-preserved : goal.probe-preserved
probe-preserved g c =
    let n = length c.args.self.now.slots.now in
    let xs = c.args.self.now.slots.now in
    let home = c.args.self.now.home in
    let d = c.probe.displacement in
    let pos : 0 < n = (let h = c.requires in omega arith) in
    let short = passed_short n xs home d refl c.requires c.probe.invariant.0 in
    let read = rank_read n xs (home + d) c.probe.slot c.index-slots-slot.result refl pos c.probe.invariant.1 in
    let here : d < rank n xs (home + d) = (let l = c.if-rank-displacement.false in let e = c.rank.ensures in omega arith) in
    let one : home + d + 1 ≡ home + (d + 1) = omega arith in (
      passed_more n xs home d c.probe.invariant.0 here,
      masked n (c.probe.slot + 1) c.args.self.now.sized pos
          ∙ ap (λ (k : ℕ). (k + 1) % n) c.probe.invariant.1
          ∙ mod-add-mod (home + d) n 1
          ∙ ap (λ (k : ℕ). k % n) one,
      sym (stop_on n xs home d short here) ∙ c.probe.invariant.2,
    )

pub returns-clause-short : goal.returns-clause-short
returns-clause-short g c =
    passed_short (length c.args.self.now.slots.now) c.args.self.now.slots.now c.args.self.now.home c.probe.displacement refl c.requires c.probe.invariant.0

pub returns-clause-displacement : goal.returns-clause-displacement
returns-clause-displacement g c =
    let n = length c.args.self.now.slots.now in
    let xs = c.args.self.now.slots.now in
    let home = c.args.self.now.home in
    let d = c.probe.displacement in
    let pos : 0 < n = (let h = c.requires in omega arith) in
    let read = rank_read n xs (home + d) c.probe.slot c.index-slots-slot.result refl pos c.probe.invariant.1 in
    let here : rank n xs (home + d) ≤ d = (let l = c.if-rank-displacement.true in let e = c.rank.ensures in omega arith) in
    sym (stop_here n xs home (n - d) d here) ∙ c.probe.invariant.2
