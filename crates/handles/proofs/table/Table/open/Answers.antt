use Rattle.std.proofs.Common.{List, sym, subst}
use Rattle.handles.specs.Slots.{Sound}
use Rattle.handles.specs.declared.slot.Slot.{Slot}
use Rattle.handles.proofs.Placing.{cleared_sound}
use Rattle.handles.proofs.table.Table.open.Goals as goal

pub invariant_of-result-clause-sound : goal.invariant_of-result-clause-sound
invariant_of-result-clause-sound g c = subst (λ (xs : List (Slot g.row.X.Denot)). Sound xs 0) (sym c.empty_all.ensures) (cleared_sound c.args.slots.now)
