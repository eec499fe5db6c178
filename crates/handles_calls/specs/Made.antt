-- What each call answers, and the slots after it.
use Rattle.std.specs.Prelude.{ℕ, ◌+◌, ◌*◌, ◌%◌, ◌^◌, cond, List, [], ◌∷◌, length, is_some, Ok, Err}
use Rattle.handles.specs.Slots.{room}
use Rattle.handles.specs.Shift.{cleared}
use Rattle.handles.specs.Seek.{candidates}
use Rattle.handles.specs.Kinds.{place_meaning}
use Rattle.handles.specs.Calls.{roomy, insertion, removal, sought}
use Rattle.handles.specs.declared.slot.Slot.{Slot}
use Rattle.handles.specs.declared.kinds.Place.{Place}
use Rattle.handles.specs.declared.refusal.TableRefusal.TheVariants.{Full}
use Rattle.handles_calls.specs.declared.call.Call.{Call}
use Rattle.handles_calls.specs.declared.call.Call.TheVariants.{Insert, Remove, Clear, Read}
use Rattle.handles_calls.specs.declared.call.Answer.{Answer}
use Rattle.handles_calls.specs.declared.call.Answer.TheVariants.{Inserted, Removed, Cleared, Read as was_read}

-- places in order, as one number that begins with `sum`
abbrev pub sum_of : ℕ → List Place → ℕ
sum_of sum [] = sum
sum_of sum (x ∷ xs) = sum_of ((sum * 65599 % 2 ^ 64 + (x.0 + 1)) % 2 ^ 64) xs

-- what a call answers
abbrev pub told : List (Slot Place) → Call → Answer
told xs (Insert hash place) = Inserted (cond (roomy xs) (Ok tt) (Err (Full (room (length xs)))))
told xs (Remove hash place) = Removed (is_some (sought place_meaning xs hash (record { 0 = place })))
told xs Clear = Cleared
told xs (Read hash) = was_read (sum_of 0 (candidates xs hash))

-- the slots after it
abbrev pub made : List (Slot Place) → Call → List (Slot Place)
made xs (Insert hash place) = insertion xs hash (record { 0 = place })
made xs (Remove hash place) = removal place_meaning xs hash (record { 0 = place })
made xs Clear = cleared xs
made xs (Read hash) = xs
