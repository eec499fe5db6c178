-- What an event makes of a slot's state, and the mark that a state stands for.
use Rattle.std.specs.Prelude.{ℕ, Bool, true, false}
use Rattle.queues.specs.declared.state.SlotState.{SlotState}
use Rattle.queues.specs.declared.state.SlotState.TheVariants.{Plain, Young, Used}
use Rattle.queues.specs.declared.state.Event.{Event}
use Rattle.queues.specs.declared.state.Event.TheVariants.{Hit, WindowClosed, Chance, Promotion}
use Rattle.queues.specs.declared.slots.ResidentSlot.{ResidentSlot}
use Rattle.machine.specs.Replacement.{Mark, young, plain, used}

-- a use turns plain to used; young turns plain as its window closes; a chance turns used to plain, and a promotion all
abbrev pub met : SlotState → Event → SlotState
met Plain Hit = Used
met Plain WindowClosed = Plain
met Plain Chance = Plain
met Plain Promotion = Plain
met Young Hit = Young
met Young WindowClosed = Plain
met Young Chance = Young
met Young Promotion = Plain
met Used Hit = Used
met Used WindowClosed = Used
met Used Chance = Plain
met Used Promotion = Plain

abbrev pub is_young : SlotState → Bool
is_young Plain = false
is_young Young = true
is_young Used = false

abbrev pub was_used : SlotState → Bool
was_used Plain = false
was_used Young = false
was_used Used = true

-- the mark, with the newcomers that have joined Small since the resident did
abbrev pub seen : SlotState → ℕ → Mark
seen Plain since = plain
seen Young since = young since
seen Used since = used

-- a slot with another state
abbrev pub with_state : ResidentSlot → SlotState → ResidentSlot
with_state r st = record { state = st; admitted = r.admitted }
