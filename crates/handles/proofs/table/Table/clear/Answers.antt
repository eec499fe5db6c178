use Rattle.std.proofs.Common.{List, sym, subst}
use Rattle.handles.specs.Slots.{Sound}
use Rattle.handles.specs.declared.slot.Slot.{Slot}
use Rattle.handles.proofs.Placing.{cleared_sound}
use Rattle.handles.proofs.table.Table.clear.Goals as goal

pub invariant_of-self-clause-sound : goal.invariant_of-self-clause-sound
invariant_of-self-clause-sound g c = subst (λ (xs : List (Slot g.row.X.Denot)). Sound xs 0) (sym c.empty_all.ensures) (cleared_sound c.args.self.now.slots.now)
