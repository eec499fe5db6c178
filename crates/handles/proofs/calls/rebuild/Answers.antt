use Rattle.std.proofs.Common.{◌≡◌, ℕ, ◌+◌, ◌≤◌, true, List, length, sym, refl, ap, ◌∙◌, subst, arith}
use Rattle.handles.specs.Slots.{Sound, occupied, room, allowed}
use Rattle.handles.specs.Shift.{inserted}
use Rattle.handles.specs.declared.slot.Slot.{Slot}
use Rattle.handles.proofs.Placing.{cleared_sound, cleared_occupied, roomy_ring}
use Rattle.handles.proofs.Rebuilding.{Midway, midway_room, midway_place, midway_pass}
use Rattle.handles.proofs.calls.rebuild.Goals as goal

pub old-init : goal.old-init
old-init g c =
    let z : occupied c.empty_all.new.slots ≡ 0 = ap occupied c.empty_all.ensures ∙ cleared_occupied c.args.fresh.now in (
      refl,
      subst (λ (n : ℕ). Sound c.empty_all.new.slots n) (sym z)
          (subst (λ (xs : List (Slot g.row.X.Denot)). Sound xs 0) (sym c.empty_all.ensures) (cleared_sound c.args.fresh.now)),
      omega arith,
    )

pub place-requires : goal.place-requires
place-requires g c =
    let same : length c.old.fresh ≡ length c.args.fresh.now = omega arith in
    let top : occupied c.args.old.now ≤ room (length c.old.fresh) =
    subst (λ (n : ℕ). occupied c.args.old.now ≤ room n) (sym same) c.requires.room in
    let lt = midway_room (λ x. g.R.Rehash.rehashed c.args.rule.now (g.X.Handle.meaning x)) c.args.old.now c.empty_all.new.slots c.old.fresh
    c.old.slot-index c.slot-item.result c.old.invariant c.old-test.true c.slot-item.is c.if-slot.true top in
    let r = roomy_ring c.old.fresh (occupied c.old.fresh) (occupied c.old.fresh) c.old.invariant.1 lt in
    record {
      size = subst (λ (n : ℕ). allowed n ≡ true) (sym same) c.requires.size;
      vacancy = r.room;
      level = c.old.invariant.1.0;
    }

pub old-preserved : goal.old-preserved
old-preserved g c =
    let same : length c.old.fresh ≡ length c.args.fresh.now = omega arith in
    let top : occupied c.args.old.now ≤ room (length c.old.fresh) =
    subst (λ (n : ℕ). occupied c.args.old.now ≤ room n) (sym same) c.requires.room in
    let rule = λ (x : g.row.X.Denot). g.R.Rehash.rehashed c.args.rule.now (g.X.Handle.meaning x) in
    let s = c.slot-item.result in
    elim c.if-slot.branch [
      | goal.then-slot w ↦
          midway_place rule c.args.old.now c.empty_all.new.slots c.old.fresh c.if-slot.fresh c.old.slot-index s
          c.old.invariant c.old-test.true c.slot-item.is w.if-slot.true top
          (w.fresh-is ∙ w.place.ensures ∙ ap (λ (h : ℕ). inserted c.old.fresh h s.handle) w.hash_of.ensures)
      | goal.else-slot w ↦
          subst (λ (ys : List (Slot g.row.X.Denot)). Midway rule c.args.old.now c.empty_all.new.slots ys (c.old.slot-index + 1)) (sym w.fresh-is)
          (midway_pass rule c.args.old.now c.empty_all.new.slots c.old.fresh c.old.slot-index s
          c.old.invariant c.old-test.true c.slot-item.is w.if-slot.false)
    ]
