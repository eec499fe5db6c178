-- The words of the laws: uses, writes, newcomers, comings in and passings, each read off what a call did.
-- A history is a list of events, newest first. No mark or count that the machine keeps shows in an event.
use Rattle.std.specs.Prelude.{ℕ, ◌+◌, Bool, true, false, cond, not, ◌&&◌, ◌||◌, List, [], ◌∷◌, take, is_some, Some, None, Option, nat_le}
use Rattle.std.specs.Option.{option_or}
use Rattle.machine.specs.declared.report.Report.{Report}
use Rattle.machine.specs.declared.report.Part.{Part}
use Rattle.machine.specs.declared.report.Part.TheVariants.{Small, Main}
use Rattle.machine.specs.declared.call.Call.TheVariants.{Contains, Peek, Get, GetAt, Put, Fetch, WriteAt, Remove, Retain, Clear}
use Rattle.machine.specs.declared.call.Answer.{Answer}
use Rattle.machine.specs.declared.call.Answer.TheVariants.{Yes, No, Held, Absent, Old, New, Loaded, Done, Refused}
use Rattle.machine.specs.Machine.{Word, Asked, same, has}
use Rattle.machine.specs.Run.{Queues, Event}

-- ## Of lists

-- how often a key stands in a list
abbrev pub once : Word → Word → ℕ
once k x = cond (same k x) 1 0

abbrev pub occurs : Word → List Word → ℕ
occurs k [] = 0
occurs k (x ∷ xs) = once k x + occurs k xs

abbrev pub any : {A : Type 0} → (A → Bool) → List A → Bool
any p [] = false
any p (x ∷ xs) = p x || any p xs

-- of a history, what came after the last event that p names
abbrev pub since : {V : Type 0} → (Event V → Bool) → List (Event V) → List (Event V)
since p [] = []
since p (e ∷ h) = cond (p e) [] (e ∷ since p h)

-- the same, with that event
abbrev pub since_with : {V : Type 0} → (Event V → Bool) → List (Event V) → List (Event V)
since_with p [] = []
since_with p (e ∷ h) = cond (p e) (e ∷ []) (e ∷ since_with p h)

-- ## Of one event

-- a key is resident where it stands in Small or in Main
abbrev pub resident : Word → Queues → Bool
resident k q = has k q.small || has k q.main

-- the call is about this key
abbrev pub names : {V : Type 0} → Word → Asked V → Bool
names k (Contains j) = same j k
names k (Peek j) = same j k
names k (Get j) = same j k
names k (GetAt p j) = same j k
names k (Put j v) = same j k
names k (Fetch j) = same j k
names k (WriteAt p j v) = same j k
names k (Remove j) = same j k
names k (Retain keeps) = false
names k Clear = false

-- the value that an answer brings
abbrev pub value_in : {V : Type 0} → Answer V → Option V
value_in Yes = None
value_in No = None
value_in (Held v) = Some v
value_in Absent = None
value_in (Old v) = Some v
value_in (New report) = None
value_in (Loaded v report) = Some v
value_in Done = None
value_in (Refused why) = None

-- the report that an answer brings
abbrev pub report_in : {V : Type 0} → Answer V → Option Report
report_in Yes = None
report_in No = None
report_in (Held v) = None
report_in Absent = None
report_in (Old v) = None
report_in (New report) = Some report
report_in (Loaded v report) = Some report
report_in Done = None
report_in (Refused why) = None

abbrev pub is_refused : {V : Type 0} → Answer V → Bool
is_refused Yes = false
is_refused No = false
is_refused (Held v) = false
is_refused Absent = false
is_refused (Old v) = false
is_refused (New report) = false
is_refused (Loaded v report) = false
is_refused Done = false
is_refused (Refused why) = true

-- a use: a get, put or fetch that finds its key resident, or a get_at that answers a value
abbrev pub is_use_of : {V : Type 0} → Asked V → Answer V → Queues → Bool
is_use_of (Contains j) a q = false
is_use_of (Peek j) a q = false
is_use_of (Get j) a q = resident j q
is_use_of (GetAt p j) a q = is_some (value_in a)
is_use_of (Put j v) a q = resident j q
is_use_of (Fetch j) a q = resident j q
is_use_of (WriteAt p j v) a q = false
is_use_of (Remove j) a q = false
is_use_of (Retain keeps) a q = false
is_use_of Clear a q = false

abbrev pub is_use : {V : Type 0} → Event V → Bool
is_use e = is_use_of e.call e.answer e.before

-- a use hits this key
abbrev pub hits : {V : Type 0} → Word → Event V → Bool
hits k e = names k e.call && is_use e

-- the value that a put or a write of this key lays, where the call is not refused
abbrev pub laid_by : {V : Type 0} → Asked V → Option V
laid_by (Contains j) = None
laid_by (Peek j) = None
laid_by (Get j) = None
laid_by (GetAt p j) = None
laid_by (Put j v) = Some v
laid_by (Fetch j) = None
laid_by (WriteAt p j v) = Some v
laid_by (Remove j) = None
laid_by (Retain keeps) = None
laid_by Clear = None

abbrev pub lays : {V : Type 0} → Word → Event V → Option V
lays k e = cond (names k e.call && not (is_refused e.answer)) (laid_by e.call) None

-- a call that takes keys out of the cache or out of Ghost
abbrev pub takes_out : {V : Type 0} → Asked V → Bool
takes_out (Contains j) = false
takes_out (Peek j) = false
takes_out (Get j) = false
takes_out (GetAt p j) = false
takes_out (Put j v) = false
takes_out (Fetch j) = false
takes_out (WriteAt p j v) = false
takes_out (Remove j) = true
takes_out (Retain keeps) = true
takes_out Clear = true

-- the value that is answered under this key
abbrev pub answered : {V : Type 0} → Word → Event V → Option V
answered k e = cond (names k e.call) (value_in e.answer) None

-- the key comes in: it is resident after the call and was not before
abbrev pub comes_in : {V : Type 0} → Word → Event V → Bool
comes_in k e = not (resident k e.before) && resident k e.after

-- the key comes to stand in Small, in Main
abbrev pub enters_small : {V : Type 0} → Word → Event V → Bool
enters_small k e = not (has k e.before.small) && has k e.after.small

abbrev pub joins_main : {V : Type 0} → Word → Event V → Bool
joins_main k e = not (has k e.before.main) && has k e.after.main

-- a newcomer joined Small
abbrev pub is_small : Part → Bool
is_small Small = true
is_small Main = false

abbrev pub joined_small : Option Report → Bool
joined_small None = false
joined_small (Some report) = is_small report.joined

abbrev pub newcomer : {V : Type 0} → Event V → Bool
newcomer e = joined_small (report_in e.answer)

-- the second chances that the call reports
abbrev pub chances_told : Option Report → ℕ
chances_told None = 0
chances_told (Some report) = report.chances

abbrev pub chances : {V : Type 0} → Event V → ℕ
chances e = chances_told (report_in e.answer)

-- the hand passed this key: it stood among the first of Main, as many as had a second chance
abbrev pub passes : {V : Type 0} → Word → Event V → Bool
passes k e = has k (take (chances e) e.before.main)

-- it joined Main, or the hand passed it
abbrev pub renews : {V : Type 0} → Word → Event V → Bool
renews k e = joins_main k e || passes k e

-- ## Of a history

abbrev pub newcomers : {V : Type 0} → List (Event V) → ℕ
newcomers [] = 0
newcomers (e ∷ h) = cond (newcomer e) 1 0 + newcomers h

abbrev pub uses_in : {V : Type 0} → List (Event V) → ℕ
uses_in [] = 0
uses_in (e ∷ h) = cond (is_use e) 1 0 + uses_in h

abbrev pub chances_in : {V : Type 0} → List (Event V) → ℕ
chances_in [] = 0
chances_in (e ∷ h) = chances e + chances_in h

-- in these events a use hit the key after at least w newcomers
abbrev pub hit_after : {V : Type 0} → ℕ → Word → List (Event V) → Bool
hit_after w k [] = false
hit_after w k (e ∷ h) = (hits k e && nat_le w (newcomers h)) || hit_after w k h

-- a use hit the key after its window closed: once w newcomers had joined Small after it
abbrev pub hit_late : {V : Type 0} → ℕ → Word → List (Event V) → Bool
hit_late w k h = hit_after w k (since (enters_small k) h)

-- a use has hit the key since it joined Main or the hand last passed it
abbrev pub hit_since : {V : Type 0} → Word → List (Event V) → Bool
hit_since k h = any (hits k) (since (renews k) h)

-- the value of the last put or write of the key
abbrev pub last_laid : {V : Type 0} → Word → List (Event V) → Option V
last_laid k [] = None
last_laid k (e ∷ h) = option_or (lays k e) (last_laid k h)

-- what came since the key last came in, and that event with it; nothing, if it comes in only now
abbrev pub stay : {V : Type 0} → Word → List (Event V) → Event V → List (Event V)
stay k h e = cond (comes_in k e) [] (since_with (comes_in k) h)
