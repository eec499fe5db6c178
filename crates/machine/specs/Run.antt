-- Runs of the machine from its opening, newest call first, and what each call of a run did.
use Rattle.std.specs.Prelude.{ℕ, Bool, List, [], ◌∷◌, map, Result}
use Rattle.loaders.specs.declared.fault.Fault.{Fault}
use Rattle.machine.specs.declared.call.Answer.{Answer}
use Rattle.machine.specs.declared.call.Call.{Call}
use Rattle.machine.specs.declared.call.Call.TheVariants.{Contains, Peek, Get, GetAt, Put, Fetch, WriteAt, Remove, Retain, Clear}
use Rattle.machine.specs.Replacement.{Resident, nothing}
use Rattle.machine.specs.Machine.{Word, Item, State, Order, Asked, step}

-- the keys that stand in Small, newest first, in Main, from the hand on, and in Ghost, newest first
pub record Queues : Type 0 where
  pub small : List Word
  pub main : List Word
  pub remembered : List Word

abbrev pub word_of : {V : Type 0} → Resident (Item V) → Word
word_of r = r.item.word

abbrev pub queues : {V : Type 0} → State V → Queues
queues s = record { small = map word_of s.small; main = map word_of s.main; remembered = s.remembered }

-- what a call did: the keys before it, the call, its answer, the keys after it
pub record Event (V : Type 0) : Type 0 where
  pub before : Queues
  pub call : Asked V
  pub answer : Answer V
  pub after : Queues

abbrev pub event_of : {V : Type 0} → State V → Asked V → State V × Answer V → Event V
event_of s x d = record { before = queues s; call = x; answer = d.1; after = queues d.0 }

module _ {V : Type 0} (c : ℕ) (loader : Word → Result V Fault) (order : Order V) where
  -- the state after these calls, and what they did
  abbrev pub state_after : List (Asked V) → State V
  state_after [] = nothing
  state_after (x ∷ past) = (step c loader order (state_after past) x).0

  abbrev pub history : List (Asked V) → List (Event V)
  history [] = []
  history (x ∷ past) = event_of (state_after past) x (step c loader order (state_after past) x) ∷ history past

-- ## The program's calls by their meaning

-- a call with its key and its keep rule as they are meant
abbrev pub meant : {K V R : Type 0} → (K → Word) → (R → Word → V → Bool) → Call K V R → Asked V
meant meaning keeps (Contains k) = Contains (meaning k)
meant meaning keeps (Peek k) = Peek (meaning k)
meant meaning keeps (Get k) = Get (meaning k)
meant meaning keeps (GetAt p k) = GetAt p (meaning k)
meant meaning keeps (Put k v) = Put (meaning k) v
meant meaning keeps (Fetch k) = Fetch (meaning k)
meant meaning keeps (WriteAt p k v) = WriteAt p (meaning k) v
meant meaning keeps (Remove k) = Remove (meaning k)
meant meaning keeps (Retain r) = Retain (keeps r)
meant meaning keeps Clear = Clear
