-- The number of each refusal.
use Rattle.std.specs.Prelude.{ℕ}
use Rattle.handles.specs.declared.refusal.TableRefusal.{TableRefusal}
use Rattle.handles.specs.declared.refusal.TableRefusal.TheVariants.{Full, SlotCount, TooFewSlots}

abbrev pub number_of : TableRefusal → ℕ
number_of (Full capacity) = 9
number_of (SlotCount slots) = 10
number_of (TooFewSlots capacity entries wanted) = 11
