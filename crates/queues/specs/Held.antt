-- The residents as the machine sees them: the parts of its state, over places.
use Rattle.std.specs.Prelude.{ℕ, Bool, false, cond, ◌||◌, List, [], ◌∷◌, ◌++◌, map, ◌==◌, nat_lt}
use Rattle.machine.specs.Replacement.{Resident, Parts}
use Rattle.queues.specs.declared.location.Location.{Location}
use Rattle.queues.specs.declared.location.Location.TheVariants.{Free, Small, Main}
use Rattle.queues.specs.declared.slots.Slots.{Slots}
use Rattle.queues.specs.declared.residents.Residents.{Residents}
use Rattle.queues.specs.State.{seen}
use Rattle.queues.specs.Slots.{list_of, state_of, age_of}

abbrev pub resident : Slots → ℕ → Resident ℕ
resident s p = record { item = p; mark = seen (state_of s p) (age_of s p) }

-- the parts without Ghost
abbrev pub parts_of : Slots → Parts ℕ ℕ ℕ
parts_of s =
    record {
      small = map (resident s) (list_of 0 s ++ list_of 1 s);
      main = map (resident s) (list_of 2 s);
      remembered = [];
      free = list_of 3 s;
      opened = s.opened;
    }

abbrev pub held : Residents → Parts ℕ ℕ ℕ
held r = parts_of r.slots

-- whether a place is one of these residents'
abbrev pub has : ℕ → List (Resident ℕ) → Bool
has p [] = false
has p (r ∷ rs) = r.item == p || has p rs

-- the part that holds a place
abbrev pub locate : ℕ → Parts ℕ ℕ ℕ → Location
locate p s = cond (has p s.small) Small (cond (has p s.main) Main Free)

abbrev pub resides : ℕ → Parts ℕ ℕ ℕ → Bool
resides p s = has p s.small || has p s.main

-- the part whose list has this number
abbrev pub part_at : ℕ → Location
part_at list = cond (nat_lt list 2) Small (cond (list == 2) Main Free)
