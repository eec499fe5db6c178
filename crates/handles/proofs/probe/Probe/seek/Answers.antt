use Rattle.std.proofs.Common.{◌≡◌, ◌+◌, ◌-◌, ◌<◌, ◌≤◌, true, false, length, get_or, sym, refl, ◌∙◌, arith}
use Rattle.handles.specs.Slots.{rank}
use Rattle.handles.proofs.Ranks.{rank_read}
use Rattle.handles.proofs.Seeking.{seek_stop, seek_step, hits, hits_both, hits_meta, hits_not}
use Rattle.handles.proofs.probe.Probe.seek.Goals as goal

pub returns-then-rank-displacement-clause-value : goal.returns-then-rank-displacement-clause-value
returns-then-rank-displacement-clause-value g c =
    let xs = c.args.self.now.slots.now in
    let n = length xs in
    let home = c.args.self.now.home in
    let d = c.loop-displacement.displacement in
    let lt : d < n = c.loop-displacement-test.true in
    let r = rank_read n xs (home + d) c.slot_at.result c.index-self-slot_at.result refl (omega arith) c.slot_at.ensures in
    let here : rank n xs (home + d) ≤ d = (let e = c.rank.ensures in let l = c.if-rank-displacement.true in omega arith) in
    sym (seek_stop (g.S.Sought.fits c.args.sought.now) n xs home c.args.self.now.print (n - d) d here) ∙ c.loop-displacement.invariant

pub returns-then-matches-clause-value : goal.returns-then-matches-clause-value
returns-then-matches-clause-value g c =
    let xs = c.args.self.now.slots.now in
    let n = length xs in
    let home = c.args.self.now.home in
    let print = c.args.self.now.print in
    let d = c.loop-displacement.displacement in
    let ok = g.S.Sought.fits c.args.sought.now in
    let s = c.index-self-slot_at.result in
    let lt : d < n = c.loop-displacement-test.true in
    let r = rank_read n xs (home + d) c.slot_at.result s refl (omega arith) c.slot_at.ensures in
    let far : d < rank n xs (home + d) = (let e = c.rank.ensures in let l = c.if-rank-displacement.false in omega arith) in
    let hit = hits_both ok print d (get_or xs c.slot_at.result s) c.if-x-displacement.true (sym c.matches.ensures ∙ c.if-matches.true) in
    sym (seek_step ok n xs home print d true c.slot_at.result s refl lt c.slot_at.ensures far hit) ∙ c.loop-displacement.invariant

pub loop-displacement-preserved : goal.loop-displacement-preserved
loop-displacement-preserved g c =
    let xs = c.args.self.now.slots.now in
    let n = length xs in
    let home = c.args.self.now.home in
    let print = c.args.self.now.print in
    let d = c.loop-displacement.displacement in
    let ok = g.S.Sought.fits c.args.sought.now in
    let s = c.index-self-slot_at.result in
    let lt : d < n = c.loop-displacement-test.true in
    let r = rank_read n xs (home + d) c.slot_at.result s refl (omega arith) c.slot_at.ensures in
    let far : d < rank n xs (home + d) = (let e = c.rank.ensures in let l = c.if-rank-displacement.false in omega arith) in
    let miss : hits ok print d (get_or xs c.slot_at.result s) ≡ false =
    elim c.else-x-displacement.branch [
      | goal.else-x-displacement-via-then-x-displacement+else-matches w ↦
          hits_not ok print d (get_or xs c.slot_at.result s) (sym w.matches.ensures ∙ w.if-matches.false)
      | goal.else-x-displacement-via-else-x-displacement w ↦
          hits_meta ok print d (get_or xs c.slot_at.result s) w.if-x-displacement.false
    ] in
    sym (seek_step ok n xs home print d false c.slot_at.result s refl lt c.slot_at.ensures far miss) ∙ c.loop-displacement.invariant
