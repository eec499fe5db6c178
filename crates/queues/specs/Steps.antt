-- The steps of an insertion and of a sweep, as the machine takes them, over places.
use Rattle.std.specs.Prelude.{ℕ, suc, Bool, List, [], ◌∷◌, ◌++◌, map, Some, None, Option, nat_eq}
use Rattle.machine.specs.declared.report.Part.{Part}
use Rattle.machine.specs.declared.report.Part.TheVariants.{Small, Main}
use Rattle.queues.specs.declared.selected.Selected.{Selected}
use Rattle.machine.specs.Replacement.{young, plain, Resident, Parts, Swept, Ended, marked, aged, drops, is_used}

-- a place, if it is resident, goes onto the free stack
abbrev pub released : ℕ → Parts ℕ ℕ ℕ → Parts ℕ ℕ ℕ
released p s = drops (λ _ ps. ps) (λ q. q) (λ q. nat_eq q p) s

-- the next place never opened goes onto the free stack
abbrev pub unlocked : Parts ℕ ℕ ℕ → Parts ℕ ℕ ℕ
unlocked s = record { small = s.small; main = s.main; remembered = s.remembered; free = s.opened ∷ s.free; opened = suc s.opened }

-- the hand has come to a sweep's victim, which is first now
abbrev pub turned : Option (Swept ℕ) → Parts ℕ ℕ ℕ → Parts ℕ ℕ ℕ
turned None s = s
turned (Some w) s = record { small = s.small; main = w.victim ∷ w.rest; remembered = s.remembered; free = s.free; opened = s.opened }

-- Small's tail joins Main's end, plain
abbrev pub promoted : Option (Ended (Resident ℕ)) → Parts ℕ ℕ ℕ → Parts ℕ ℕ ℕ
promoted None s = s
promoted (Some e) s =
    record { small = e.front; main = s.main ++ marked plain e.tail ∷ []; remembered = s.remembered; free = s.free; opened = s.opened }

-- the place on top of the free stack becomes Small's newest, and every other of Small is a newcomer older; or it becomes Main's last
abbrev pub joins : ℕ → Part → ℕ → List ℕ → Parts ℕ ℕ ℕ → Parts ℕ ℕ ℕ
joins w Small p free s =
    record {
      small = record { item = p; mark = young 0 } ∷ map (λ r. marked (aged w r.mark) r) s.small;
      main = s.main;
      remembered = s.remembered;
      free = free;
      opened = s.opened;
    }
joins w Main p free s =
    record { small = s.small; main = s.main ++ record { item = p; mark = plain } ∷ []; remembered = s.remembered; free = free; opened = s.opened }

abbrev pub seated_top : ℕ → Part → List ℕ → Parts ℕ ℕ ℕ → Parts ℕ ℕ ℕ
seated_top w part [] s = s
seated_top w part (p ∷ free) s = joins w part p free s

-- the place of a list's end, if there is one
abbrev pub place_of : Option (Ended (Resident ℕ)) → Option ℕ
place_of None = None
place_of (Some e) = Some e.tail.item

-- Main's first turns plain and goes to the end
abbrev pub passed : List (Resident ℕ) → Parts ℕ ℕ ℕ → Parts ℕ ℕ ℕ
passed [] s = s
passed (r ∷ rs) s = record { small = s.small; main = rs ++ marked plain r ∷ []; remembered = s.remembered; free = s.free; opened = s.opened }

-- Main's first, and whether it is used
abbrev pub hand_at : List (Resident ℕ) → Option (ℕ × Bool)
hand_at [] = None
hand_at (r ∷ rs) = Some (r.item, is_used r.mark)

-- what a sweep tells
abbrev pub told : Option (Swept ℕ) → Option Selected
told None = None
told (Some w) = Some (record { victim = w.victim.item; chances = w.chances })
