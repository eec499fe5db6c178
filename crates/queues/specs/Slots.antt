-- The lists and marks that the slots of the residents hold.
use Rattle.std.specs.Prelude.{◌≡◌, ℕ, suc, ◌+◌, ◌-◌, ◌%◌, ◌<◌, Bool, true, ◌&&◌, List, [], ◌∷◌, map, length, ◌==◌, nat_le, nat_lt, slice_index_or}
use Rattle.links.specs.Lists.{lists, home_of}
use Rattle.links.specs.Rows.{nth}
use Rattle.queues.specs.declared.slots.Slots.{Slots}
use Rattle.queues.specs.declared.slots.ResidentSlot.{ResidentSlot}
use Rattle.queues.specs.declared.state.SlotState.{SlotState}
use Rattle.queues.specs.declared.state.SlotState.TheVariants.{Plain}
use Rattle.queues.specs.State.{is_young}

-- list 0 has the young of Small, newest first, list 1 the others of Small, list 2 Main from the hand on, list 3 the free stack from its top
abbrev pub list_of : ℕ → Slots → List ℕ
list_of k s = nth k (lists s.line)

abbrev pub home_in : Slots → ℕ → ℕ
home_in s p = home_of s.line p

abbrev pub slot_of : Slots → ℕ → ResidentSlot
slot_of s p = slice_index_or s.places p (record { state = Plain; admitted = 0 })

abbrev pub state_of : Slots → ℕ → SlotState
state_of s p = (slot_of s p).state

-- how many have joined Small since the admission numbered a; the numbers go round at 256
abbrev pub since : ℕ → ℕ → ℕ
since now a = (now + (256 - a % 256)) % 256

abbrev pub age_of : Slots → ℕ → ℕ
age_of s p = since s.admissions (slot_of s p).admitted

-- whether numbers rise, from low on
abbrev pub rising : ℕ → List ℕ → Bool
rising low [] = true
rising low (a ∷ rest) = nat_le low a && rising (suc a) rest

abbrev pub Sized : Slots → Type 0
Sized s = length s.places ≡ 512

-- each place below the number opened is in a list, and no other
abbrev pub Listed : Slots → Type 0
Listed s = (p : ℕ) → nat_lt (home_in s p) 4 ≡ nat_lt p s.opened

abbrev pub Counted : Slots → Type 0
Counted s = length (list_of 0 s) + length (list_of 1 s) + length (list_of 2 s) + length (list_of 3 s) ≡ s.opened

-- the young are those of list 0
abbrev pub Sorted : Slots → Type 0
Sorted s = (p : ℕ) → is_young (state_of s p) ≡ (home_in s p == 0)

-- their windows are open
abbrev pub Recent : Slots → Type 0
Recent s = (p : ℕ) → home_in s p ≡ 0 → age_of s p < s.window

-- and the newer is the younger
abbrev pub Rising : Slots → Type 0
Rising s = rising 0 (map (age_of s) (list_of 0 s)) ≡ true
