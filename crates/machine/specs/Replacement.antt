-- The replacement machine: Small, Main and Ghost, marks, the sweep, and an insertion in its two halves.
-- It is written over any kind of thing: `R` is what a resident carries, `G` what Ghost keeps of a resident that Small gave up,
-- `F` what the free stack keeps of a place. No decision looks at them: marks, lengths and one Bool, whether Ghost remembered the newcomer, decide.
use Rattle.std.specs.Prelude.{ℕ, zero, suc, ◌+◌, Bool, true, false, cond, not, ◌&&◌, ◌||◌, List, [], ◌∷◌, ◌++◌, map, length, take, Some, None, filter, Option, ◌==◌, nat_eq, nat_le, nat_lt}
use Rattle.machine.specs.declared.report.Part.{Part}
use Rattle.machine.specs.declared.report.Part.TheVariants.{Small, Main}
use Rattle.machine.specs.Limits.{small_limit, main_limit, ghost_limit, window}

-- ## Marks

-- young, with the newcomers that have joined Small since; plain; or used
pub data Mark : Type 0 where
  young : ℕ → Mark
  plain : Mark
  used : Mark

-- a use turns plain to used and leaves the others
abbrev pub touched : Mark → Mark
touched (young since) = young since
touched plain = used
touched used = used

-- one more newcomer in Small: the window of a young one closes at the last that it waits for
abbrev pub aged : ℕ → Mark → Mark
aged w (young since) = cond (nat_le w (suc since)) plain (young (suc since))
aged w plain = plain
aged w used = used

abbrev pub is_used : Mark → Bool
is_used (young since) = false
is_used plain = false
is_used used = true

-- ## The state

-- a resident: what it carries, and its mark
pub record Resident (R : Type 0) : Type 0 where
  pub item : R
  pub mark : Mark

abbrev pub marked : {R : Type 0} → Mark → Resident R → Resident R
marked m r = record { item = r.item; mark = m }

-- Small newest first, Main from the hand on, Ghost newest first, the free stack from its top, and how many places were ever opened
pub record Parts (R G F : Type 0) : Type 0 where
  pub small : List (Resident R)
  pub main : List (Resident R)
  pub remembered : List G
  pub free : List F
  pub opened : ℕ

abbrev pub nothing : {R G F : Type 0} → Parts R G F
nothing = record { small = []; main = []; remembered = []; free = []; opened = 0 }

-- a use of the residents that the test names
abbrev pub hit_if : Bool → Mark → Mark
hit_if hit m = cond hit (touched m) m

abbrev pub hit : {R : Type 0} → (R → Bool) → Resident R → Resident R
hit at r = marked (hit_if (at r.item) r.mark) r

abbrev pub uses : {R G F : Type 0} → (R → Bool) → Parts R G F → Parts R G F
uses at s = record { small = map (hit at) s.small; main = map (hit at) s.main; remembered = s.remembered; free = s.free; opened = s.opened }

-- Ghost without what the test names
abbrev pub forgets : {R G F : Type 0} → (G → Bool) → Parts R G F → Parts R G F
forgets at s =
    record { small = s.small; main = s.main; remembered = filter (λ g. not (at g)) s.remembered; free = s.free; opened = s.opened }

-- the residents that the test names leave; `order` says how their places go onto the free stack, top first
abbrev pub drops : {R G F : Type 0} → (ℕ → List F → List F) → (R → F) → (R → Bool) → Parts R G F → Parts R G F
drops order spot at s =
    record {
      small = filter (λ r. not (at r.item)) s.small;
      main = filter (λ r. not (at r.item)) s.main;
      remembered = s.remembered;
      free = order s.opened (map (λ r. spot r.item) (filter (λ r. at r.item) (s.small ++ s.main))) ++ s.free;
      opened = s.opened;
    }

-- ## The sweep

-- what a sweep leaves: the victim, Main from the hand on without it, and the chances given
pub record Swept (R : Type 0) : Type 0 where
  pub victim : Resident R
  pub rest : List (Resident R)
  pub chances : ℕ

-- the hand has passed all: the first is plain now, and is the victim
abbrev pub came_round : {R : Type 0} → ℕ → List (Resident R) → Option (Swept R)
came_round n [] = None
came_round n (r ∷ rs) = Some (record { victim = r; rest = rs; chances = n })

-- while the first is used, it turns plain, goes to the end, and one chance is counted; the first is then the victim
abbrev pub sweep_from : {R : Type 0} → ℕ → List (Resident R) → List (Resident R) → Option (Swept R)
sweep_from n passed [] = came_round n passed
sweep_from n passed (r ∷ rs) =
    cond (is_used r.mark) (sweep_from (suc n) (passed ++ marked plain r ∷ []) rs) (Some (record { victim = r; rest = rs ++ passed; chances = n }))

abbrev pub sweep : {R : Type 0} → List (Resident R) → Option (Swept R)
sweep main = sweep_from 0 [] main

-- ## Insertion, steps 2 to 6: a place is vacated

-- a list's last element, and the rest
pub record Ended (A : Type 0) : Type 0 where
  pub front : List A
  pub tail : A

abbrev pub before : {A : Type 0} → A → Option (Ended A) → Ended A
before x None = record { front = []; tail = x }
before x (Some e) = record { front = x ∷ e.front; tail = e.tail }

abbrev pub ended : {A : Type 0} → List A → Option (Ended A)
ended [] = None
ended (x ∷ xs) = Some (before x (ended xs))

-- the place for the newcomer: one that was opened before, or the next never opened
pub data Spot (F : Type 0) : Type 0 where
  reused : F → Spot F
  fresh : ℕ → Spot F

-- the state between the halves, in which the place is nobody's, with what the report will tell
pub record Vacated (R G F : Type 0) : Type 0 where
  pub parts : Parts R G F
  pub spot : Spot F
  pub joins : Part
  pub left : Option Part
  pub chances : ℕ

-- what an insertion does before the newcomer is seated
pub data Plan : Type 0 where
  -- Small, or Main, has room in the cache
  grow : Part → Plan
  -- Main holds its limit: a sweep's victim makes room in Main
  evict_main : Plan
  -- no vacancy, and the tail of Small is used: it joins Main, where a sweep's victim makes room
  promote_tail : Plan
  -- no vacancy, and the tail of Small is not used: it goes to Ghost
  evict_tail : Plan

abbrev pub plan : (to_main vacancy main_full tail_used : Bool) → Plan
plan true vacancy true tail_used = evict_main
plan true vacancy false tail_used = grow Main
plan false true main_full tail_used = grow Small
plan false false main_full true = promote_tail
plan false false main_full false = evict_tail

-- fewer than the capacity are resident
abbrev pub vacancy : {R G F : Type 0} → ℕ → Parts R G F → Bool
vacancy c s = nat_lt (length s.small + length s.main) c

-- the newcomer goes to Main: it was remembered, or Small has no room at all, or there is vacancy and Small holds its limit
abbrev pub to_main : {R G F : Type 0} → ℕ → Bool → Parts R G F → Bool
to_main c known s = known || (small_limit c == 0 || (vacancy c s && nat_le (small_limit c) (length s.small)))

abbrev pub main_full : {R G F : Type 0} → ℕ → Parts R G F → Bool
main_full c s = nat_le (main_limit c) (length s.main)

abbrev pub is_tail_used : {R : Type 0} → Option (Ended (Resident R)) → Bool
is_tail_used None = false
is_tail_used (Some e) = is_used e.tail.mark

abbrev pub plan_of : {R G F : Type 0} → ℕ → Bool → Parts R G F → Plan
plan_of c known s = plan (to_main c known s) (vacancy c s) (main_full c s) (is_tail_used (ended s.small))

-- the top of the free stack, else the next place never opened
abbrev pub popped : {R G F : Type 0} → Part → Parts R G F → List F → Vacated R G F
popped joins s [] =
    record {
      parts = record { small = s.small; main = s.main; remembered = s.remembered; free = []; opened = suc s.opened };
      spot = fresh s.opened;
      joins = joins;
      left = None;
      chances = 0;
    }
popped joins s (f ∷ fs) =
    record {
      parts = record { small = s.small; main = s.main; remembered = s.remembered; free = fs; opened = s.opened };
      spot = reused f;
      joins = joins;
      left = None;
      chances = 0;
    }

module _ {R G F : Type 0} (note : R → G) (spot : R → F) (c : ℕ) where
  -- a sweep's victim gives its place to a newcomer of Main
  abbrev pub main_evicted : Parts R G F → Option (Swept R) → Vacated R G F
  main_evicted s None = popped Main s s.free
  main_evicted s (Some w) =
      record {
        parts = record { small = s.small; main = w.rest; remembered = s.remembered; free = s.free; opened = s.opened };
        spot = reused (spot w.victim.item);
        joins = Main;
        left = Some Main;
        chances = w.chances;
      }

  -- the tail of Small joins Main's end, plain, and a sweep's victim gives its place to a newcomer of Small
  abbrev pub tail_promoted : Parts R G F → Option (Ended (Resident R)) → Option (Swept R) → Vacated R G F
  tail_promoted s None w = popped Small s s.free
  tail_promoted s (Some e) None = popped Small s s.free
  tail_promoted s (Some e) (Some w) =
      record {
        parts = record { small = e.front; main = w.rest ++ marked plain e.tail ∷ []; remembered = s.remembered; free = s.free; opened = s.opened };
        spot = reused (spot w.victim.item);
        joins = Small;
        left = Some Main;
        chances = w.chances;
      }

  -- the tail of Small gives its place to a newcomer of Small and becomes Ghost's newest; above its limit Ghost loses its oldest
  abbrev pub tail_evicted : Parts R G F → Option (Ended (Resident R)) → Vacated R G F
  tail_evicted s None = popped Small s s.free
  tail_evicted s (Some e) =
      record {
        parts = record { small = e.front; main = s.main; remembered = take (ghost_limit c) (note e.tail.item ∷ s.remembered); free = s.free; opened = s.opened };
        spot = reused (spot e.tail.item);
        joins = Small;
        left = Some Small;
        chances = 0;
      }

  abbrev pub carried_out : Plan → Parts R G F → Vacated R G F
  carried_out (grow part) s = popped part s s.free
  carried_out evict_main s = main_evicted s (sweep s.main)
  carried_out promote_tail s = tail_promoted s (ended s.small) (sweep s.main)
  carried_out evict_tail s = tail_evicted s (ended s.small)

  -- the first half: a place is vacated for a newcomer, which Ghost remembered or not and has forgotten
  abbrev pub vacated : Bool → Parts R G F → Vacated R G F
  vacated known s = carried_out (plan_of c known s) s

-- ## Insertion, step 7: the newcomer is seated

-- Small's newest, young, and every other in Small one newcomer older; or Main's last, plain
abbrev pub seated_in : {R G F : Type 0} → ℕ → Part → R → Parts R G F → Parts R G F
seated_in c Small newcomer s =
    record {
      small = record { item = newcomer; mark = young 0 } ∷ map (λ r. marked (aged (window c) r.mark) r) s.small;
      main = s.main;
      remembered = s.remembered;
      free = s.free;
      opened = s.opened;
    }
seated_in c Main newcomer s =
    record { small = s.small; main = s.main ++ record { item = newcomer; mark = plain } ∷ []; remembered = s.remembered; free = s.free; opened = s.opened }

-- the second half
abbrev pub seated : {R G F : Type 0} → ℕ → Vacated R G F → R → Parts R G F
seated c v newcomer = seated_in c v.joins newcomer v.parts

-- ## The order of a retain

-- of what a retain drops, the highest place first, so that the places go onto the stack rising
abbrev pub highest_first : {F : Type 0} → (F → ℕ) → ℕ → List F → List F
highest_first place zero fs = []
highest_first place (suc n) fs = filter (λ f. nat_eq (place f) n) fs ++ highest_first place n fs
