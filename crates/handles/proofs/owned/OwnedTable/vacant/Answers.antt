use Rattle.std.proofs.Common.{replicate, sym, subst}
use Rattle.std.proofs.lemmas.List.{length-replicate}
use Rattle.handles.specs.Slots.{Sound}
use Rattle.handles.specs.declared.slot.Slot.{Slot}
use Rattle.handles.proofs.Placing.{vacant_sound}
use Rattle.handles.proofs.owned.OwnedTable.vacant.Goals as goal

pub invariant_of-result-clause-sound : goal.invariant_of-result-clause-sound
invariant_of-result-clause-sound g c =
    subst (λ (s : Slot g.row.X.Denot). Sound (replicate g.row.N s) 0) (sym c.vacant.ensures) (vacant_sound g.row.N c.args.handle)

pub invariant_of-result-clause-sized : goal.invariant_of-result-clause-sized
invariant_of-result-clause-sized g c = length-replicate g.row.N c.vacant.result
