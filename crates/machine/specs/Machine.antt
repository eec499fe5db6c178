-- The plain machine: what each call answers and the state that it leaves. Keys are their meanings here.
use Rattle.std.specs.Prelude.{ℕ, Bool, true, false, cond, not, ◌&&◌, ◌||◌, List, [], ◌∷◌, ◌++◌, map, is_some, Some, None, Ok, Err, Option, Result, ◌==◌}
use Rattle.std.specs.Option.{option_map}
use Rattle.loaders.specs.declared.fault.Fault.{Fault}
use Rattle.machine.specs.declared.report.Report.{Report}
use Rattle.machine.specs.declared.refusal.Refusal.{Refusal}
use Rattle.machine.specs.declared.refusal.Refusal.TheVariants.{NoCapacity, NotInPlace, NotLoaded}
use Rattle.machine.specs.declared.call.Call.{Call}
use Rattle.machine.specs.declared.call.Call.TheVariants.{Contains, Peek, Get, GetAt, Put, Fetch, WriteAt, Remove, Retain, Clear}
use Rattle.machine.specs.declared.call.Placed.{Placed}
use Rattle.machine.specs.declared.call.Placed.TheVariants as placed
use Rattle.machine.specs.declared.call.Fetched.{Fetched}
use Rattle.machine.specs.declared.call.Fetched.TheVariants as fetched
use Rattle.machine.specs.declared.call.Claimed.{Claimed}
use Rattle.machine.specs.declared.call.Claimed.TheVariants as claimed
use Rattle.machine.specs.declared.call.Answer.{Answer}
use Rattle.machine.specs.declared.call.Answer.TheVariants.{Yes, No, Held, Absent, Old, New, Loaded, Done, Refused}
use Rattle.machine.specs.Replacement.{Resident, Parts, Spot, reused, fresh, Vacated, nothing, uses, forgets, drops, vacated, seated}

-- ## Keys

-- a key's meaning
abbrev pub Word : Type 0
Word = List ℕ

-- keys of equal meaning are one key
abbrev pub same : Word → Word → Bool
same [] [] = true
same [] (y ∷ ys) = false
same (x ∷ xs) [] = false
same (x ∷ xs) (y ∷ ys) = x == y && same xs ys

abbrev pub has : Word → List Word → Bool
has k [] = false
has k (x ∷ xs) = same k x || has k xs

-- ## The state

-- what a resident carries
pub record Item (V : Type 0) : Type 0 where
  pub word : Word
  pub place : ℕ
  pub value : V

-- a free place, and the value last laid in it
pub record Cell (V : Type 0) : Type 0 where
  pub place : ℕ
  pub value : V

-- Ghost keeps keys; each opened place is a resident's or on the free stack, with its value
abbrev pub State : Type 0 → Type 0
State V = Parts (Item V) Word (Cell V)

abbrev pub cell_of : {V : Type 0} → Item V → Cell V
cell_of i = record { place = i.place; value = i.value }

-- how a retain stacks the places that it drops, top first: of the number of places opened and of what it drops
abbrev pub Order : Type 0 → Type 0
Order V = ℕ → List (Cell V) → List (Cell V)

abbrev pub is_at : {V : Type 0} → Word → Item V → Bool
is_at k i = same k i.word

abbrev pub find : {V : Type 0} → Word → List (Resident (Item V)) → Option (Item V)
find k [] = None
find k (r ∷ rs) = cond (same k r.item.word) (Some r.item) (find k rs)

-- the resident of this key
abbrev pub look : {V : Type 0} → Word → State V → Option (Item V)
look k s = find k (s.small ++ s.main)

-- a resident, if it is in this place
abbrev pub in_place : {V : Type 0} → ℕ → Option (Item V) → Option (Item V)
in_place p None = None
in_place p (Some i) = cond (p == i.place) (Some i) None

-- the resident of this key has this value from now on
abbrev pub relaid_if : {V : Type 0} → Bool → V → Item V → Item V
relaid_if here v i = record { word = i.word; place = i.place; value = cond here v i.value }

abbrev pub relaid : {V : Type 0} → Word → V → Resident (Item V) → Resident (Item V)
relaid k v r = record { item = relaid_if (is_at k r.item) v r.item; mark = r.mark }

abbrev pub lays : {V : Type 0} → Word → V → State V → State V
lays k v s =
    record { small = map (relaid k v) s.small; main = map (relaid k v) s.main; remembered = s.remembered; free = s.free; opened = s.opened }

-- ## Insertion of an absent key

abbrev pub place_of : {V : Type 0} → Spot (Cell V) → ℕ
place_of (reused cell) = cell.place
place_of (fresh p) = p

-- what a claim finds in the place: its old value, or in a place never opened the given one
abbrev pub lying : {V : Type 0} → V → Spot (Cell V) → V
lying given (reused cell) = cell.value
lying given (fresh p) = given

-- Ghost forgets the key, which then counts as remembered, and a place is vacated for it
abbrev pub arrival : {V : Type 0} → ℕ → Word → State V → Vacated (Item V) Word (Cell V)
arrival c k s = vacated (λ i. i.word) cell_of c (has k s.remembered) (forgets (same k) s)

-- the key is seated with this value
abbrev pub settled : {V : Type 0} → ℕ → Word → V → Vacated (Item V) Word (Cell V) → State V
settled c k v a = seated c a (record { word = k; place = place_of a.spot; value = v })

abbrev pub report_of : {V : Type 0} → Vacated (Item V) Word (Cell V) → Report
report_of a = record { place = place_of a.spot; joined = a.joins; left = a.left; chances = a.chances }

-- ## Each call: the state that it leaves, and what it says

abbrev pub contains : {V : Type 0} → State V → Word → Bool
contains s k = is_some (look k s)

abbrev pub peek : {V : Type 0} → State V → Word → Option V
peek s k = option_map (λ i. i.value) (look k s)

abbrev pub got : {V : Type 0} → State V → Word → Option (Item V) → State V × Option V
got s k None = (s, None)
got s k (Some i) = (uses (is_at k) s, Some i.value)

abbrev pub get : {V : Type 0} → State V → Word → State V × Option V
get s k = got s k (look k s)

abbrev pub get_at : {V : Type 0} → State V → ℕ → Word → State V × Option V
get_at s p k = got s k (in_place p (look k s))

abbrev pub written : {V : Type 0} → State V → ℕ → Word → V → Option (Item V) → State V × Result (Unit {0}) Refusal
written s p k v None = (s, Err (NotInPlace p))
written s p k v (Some i) = (lays k v s, Ok tt)

abbrev pub write_at_lem : {V : Type 0} → State V → ℕ → Word → V → State V × Result (Unit {0}) Refusal
write_at_lem s p k v = written s p k v (in_place p (look k s))

abbrev pub removed : {V : Type 0} → State V → Word → Option (Item V) → State V × Bool
removed s k None = (forgets (same k) s, false)
removed s k (Some i) = (drops (λ _ cells. cells) cell_of (is_at k) s, true)

abbrev pub remove : {V : Type 0} → State V → Word → State V × Bool
remove s k = removed s k (look k s)

abbrev pub retain : {V : Type 0} → Order V → (Word → V → Bool) → State V → State V
retain order keeps s = drops order cell_of (λ i. not (keeps i.word i.value)) s

-- the calls that may insert, at capacity c

abbrev pub put_on : {V : Type 0} → ℕ → State V → Word → V → Option (Item V) → State V × Result (Placed V) Refusal
put_on c s k v (Some i) = (lays k v (uses (is_at k) s), Ok (placed.Old i.value))
put_on c s k v None = (settled c k v (arrival c k s), Ok (placed.New (report_of (arrival c k s))))

abbrev pub loaded_on : {V : Type 0} → ℕ → State V → Word → Result V Fault → State V × Result (Fetched V) Refusal
loaded_on c s k (Err fault) = (s, Err (NotLoaded fault))
loaded_on c s k (Ok v) = (settled c k v (arrival c k s), Ok (fetched.New v (report_of (arrival c k s))))

abbrev pub fetch_on : {V : Type 0} → ℕ → (Word → Result V Fault) → State V → Word → Option (Item V) → State V × Result (Fetched V) Refusal
fetch_on c loader s k (Some i) = (uses (is_at k) s, Ok (fetched.Held i.value))
fetch_on c loader s k None = loaded_on c s k (loader k)

abbrev pub claim_on : {V : Type 0} → ℕ → State V → Word → V → Option (Item V) → State V × Result (Claimed V) Refusal
claim_on c s k given (Some i) = (uses (is_at k) s, Ok (claimed.Held (i.place, i.value)))
claim_on c s k given None =
    let a = arrival c k s in
    let v = lying given a.spot in
    (settled c k v a, Ok (claimed.New (place_of a.spot, v) (report_of a)))

-- at capacity 0 each is refused before anything else
abbrev pub unless : {V A : Type 0} → Bool → State V → State V × Result A Refusal → State V × Result A Refusal
unless true s go = (s, Err NoCapacity)
unless false s go = go

abbrev pub put : {V : Type 0} → ℕ → State V → Word → V → State V × Result (Placed V) Refusal
put c s k v = unless (c == 0) s (put_on c s k v (look k s))

abbrev pub fetch : {V : Type 0} → ℕ → (Word → Result V Fault) → State V → Word → State V × Result (Fetched V) Refusal
fetch c loader s k = unless (c == 0) s (fetch_on c loader s k (look k s))

abbrev pub claim : {V : Type 0} → ℕ → State V → Word → V → State V × Result (Claimed V) Refusal
claim c s k given = unless (c == 0) s (claim_on c s k given (look k s))

-- ## A step: any call of a run, with its answer in one type

abbrev pub says_if_lem : {V : Type 0} → Bool → Answer V
says_if_lem true = Yes
says_if_lem false = No

abbrev pub says_found_lem : {V : Type 0} → Option V → Answer V
says_found_lem None = Absent
says_found_lem (Some v) = Held v

abbrev pub says_placed_lem : {V : Type 0} → Result (Placed V) Refusal → Answer V
says_placed_lem (Ok (placed.Old v)) = Old v
says_placed_lem (Ok (placed.New report)) = New report
says_placed_lem (Err why) = Refused why

abbrev pub says_fetched_lem : {V : Type 0} → Result (Fetched V) Refusal → Answer V
says_fetched_lem (Ok (fetched.Held v)) = Held v
says_fetched_lem (Ok (fetched.New v report)) = Loaded v report
says_fetched_lem (Err why) = Refused why

abbrev pub says_done_lem : {V : Type 0} → Result (Unit {0}) Refusal → Answer V
says_done_lem (Ok done) = Done
says_done_lem (Err why) = Refused why

abbrev pub saying : {V A : Type 0} → (A → Answer V) → State V × A → State V × Answer V
saying f d = (d.0, f d.1)

-- a call of a run, with keys and keep rules by their meanings
abbrev pub Asked : Type 0 → Type 0
Asked V = Call Word V (Word → V → Bool)

module _ {V : Type 0} (c : ℕ) (loader : Word → Result V Fault) (order : Order V) where
  abbrev pub step : State V → Asked V → State V × Answer V
  step s (Contains k) = (s, says_if_lem (contains s k))
  step s (Peek k) = (s, says_found_lem (peek s k))
  step s (Get k) = saying says_found_lem (get s k)
  step s (GetAt p k) = saying says_found_lem (get_at s p k)
  step s (Put k v) = saying says_placed_lem (put c s k v)
  step s (Fetch k) = saying says_fetched_lem (fetch c loader s k)
  step s (WriteAt p k v) = saying says_done_lem (write_at_lem s p k v)
  step s (Remove k) = saying says_if_lem (remove s k)
  step s (Retain keeps) = (retain order keeps s, Done)
  step s Clear = (nothing, Done)
