use Rattle.std.proofs.Common.{set, sym, ap, ◌∙◌}
use Rattle.std.proofs.lemmas.List.Edits.{map_over_more}
use Rattle.handles.specs.Shift.{vacated}
use Rattle.handles.specs.declared.slot.Slot.{Slot}
use Rattle.handles.proofs.entries.empty_all.Goals as goal

pub loop-slot-preserved : goal.loop-slot-preserved
loop-slot-preserved g c =
    ap (λ (s : Slot g.row.X.Denot). set c.loop-slot.slots c.loop-slot.slot-index (vacated s)) (sym c.slot-item.is)
    ∙ map_over_more vacated c.args.slots.now c.loop-slot.slots c.loop-slot.slot-index c.slot-item.result
    c.loop-slot-test.true c.loop-slot.invariant c.slot-item.is
