-- Worked cases: a table of limits, one of runs with their answers and the keys that they leave, and one of claims.
use Rattle.std.specs.Prelude.{◌≡◌, ℕ, cond, List, [], ◌∷◌, ◌++◌, map, reverse, ℤ, pos, negsuc, Some, None, Ok, Err, Option, Result}
use Rattle.std.specs.List.{AllByRecursion}
use Rattle.loaders.specs.declared.fault.Cause.TheVariants.{NoRecord}
use Rattle.loaders.specs.declared.fault.Fault.{Fault}
use Rattle.machine.specs.declared.limits.Limits.{Limits}
use Rattle.machine.specs.declared.report.Part.{Part}
use Rattle.machine.specs.declared.report.Part.TheVariants.{Small, Main}
use Rattle.machine.specs.declared.report.Report.{Report}
use Rattle.machine.specs.declared.refusal.Refusal.{Refusal}
use Rattle.machine.specs.declared.refusal.Refusal.TheVariants.{NoCapacity, NotInPlace, NotLoaded}
use Rattle.machine.specs.declared.call.Call.TheVariants.{Contains, Peek, Get, GetAt, Put, Fetch, WriteAt, Remove, Retain, Clear}
use Rattle.machine.specs.declared.call.Claimed.{Claimed}
use Rattle.machine.specs.declared.call.Claimed.TheVariants as claimed
use Rattle.machine.specs.declared.call.Answer.{Answer}
use Rattle.machine.specs.declared.call.Answer.TheVariants.{Yes, No, Held, Absent, Old, New, Loaded, Done, Refused}
use Rattle.machine.specs.Limits.{limits_of}
use Rattle.machine.specs.Replacement.{highest_first}
use Rattle.machine.specs.Machine.{Word, Order, Asked, same, claim}
use Rattle.machine.specs.Run.{Queues, queues, state_after, history}

-- ## Limits

abbrev pub limits : (small main ghost window : ℕ) → Limits
limits s m g w = record { small = s; main = m; ghost_keys = g; window = w }

-- a capacity with its limits of Small, Main and Ghost and its window
abbrev pub limit_table : List (ℕ × Limits)
limit_table = (1, limits 0 1 0 0) ∷ (2, limits 1 1 1 1) ∷ (19, limits 1 18 9 1) ∷ (20, limits 2 18 10 1) ∷ []

-- ## Runs

-- east, north and up
abbrev pub Station : Type 0
Station = ℤ × ℤ × ℤ

-- the key survey.station
abbrev pub key : ℕ → ℕ → Word
key survey station = survey ∷ station ∷ []

-- a sheet with the record 1.9 alone
abbrev pub sheet : Word → Result Station Fault
sheet k = cond (same k (key 1 9)) (Ok (pos 70, negsuc 3, pos 12)) (Err (record { cause = NoRecord; depth = 0 }))

-- a capacity, the calls in their order, what they answer, and the keys that stand in Small, Main and Ghost after them
pub record Case : Type 0 where
  pub capacity : ℕ
  pub calls : List (Asked Station)
  pub answers : List (Answer Station)
  pub leaves : Queues

abbrev report : ℕ → Part → Option Part → ℕ → Report
report place joined left chances = record { place = place; joined = joined; left = left; chances = chances }

abbrev stand : (small main remembered : List Word) → Queues
stand small main remembered = record { small = small; main = main; remembered = remembered }

-- two records: the Main record that was used has its second chance, and none is loaded that the sheet lacks
abbrev pub replayed : Case
replayed =
    record {
      capacity = 2;
      calls =
          Put (key 1 1) (pos 1, pos 0, pos 0)
          ∷ Fetch (key 1 9)
          ∷ Get (key 1 9)
          ∷ Put (key 1 4) (pos 2, pos 0, pos 0)
          ∷ Put (key 1 1) (pos 1, pos 0, pos 0)
          ∷ Fetch (key 2 2)
          ∷ [];
      answers =
          New (report 0 Small None 0)
          ∷ Loaded (pos 70, negsuc 3, pos 12) (report 1 Main None 0)
          ∷ Held (pos 70, negsuc 3, pos 12)
          ∷ New (report 0 Small (Some Small) 0)
          ∷ New (report 1 Main (Some Main) 1)
          ∷ Refused (NotLoaded (record { cause = NoRecord; depth = 0 }))
          ∷ [];
      leaves = stand (key 1 4 ∷ []) (key 1 1 ∷ []) [];
    }

-- the keys k1, k2, .., each put with its number as its value
abbrev k : ℕ → Word
k n = n ∷ []

abbrev value_of : ℕ → Station
value_of n = (pos n, pos 0, pos 0)

abbrev puts : List ℕ → List (Asked Station)
puts ns = map (λ n. Put (k n) (value_of n)) ns

-- each comes in at the next place never opened
abbrev came : Part → List ℕ → List (Answer Station)
came part places = map (λ p. New (report p part None 0)) places

abbrev three_to_twenty : List ℕ
three_to_twenty = 3 ∷ 4 ∷ 5 ∷ 6 ∷ 7 ∷ 8 ∷ 9 ∷ 10 ∷ 11 ∷ 12 ∷ 13 ∷ 14 ∷ 15 ∷ 16 ∷ 17 ∷ 18 ∷ 19 ∷ 20 ∷ []

abbrev two_to_nineteen : List ℕ
two_to_nineteen = 2 ∷ 3 ∷ 4 ∷ 5 ∷ 6 ∷ 7 ∷ 8 ∷ 9 ∷ 10 ∷ 11 ∷ 12 ∷ 13 ∷ 14 ∷ 15 ∷ 16 ∷ 17 ∷ 18 ∷ 19 ∷ []

-- twenty records: a get of k1 after its window closed moves it to Main when k21 comes, and k3 leaves place 2
abbrev pub hit_late : Case
hit_late =
    record {
      capacity = 20;
      calls = puts (1 ∷ 2 ∷ three_to_twenty) ++ Get (k 1) ∷ puts (21 ∷ []);
      answers = came Small (0 ∷ 1 ∷ []) ++ came Main two_to_nineteen ++ Held (value_of 1) ∷ New (report 2 Small (Some Main) 0) ∷ [];
      leaves = stand (k 21 ∷ k 2 ∷ []) (map k (4 ∷ 5 ∷ 6 ∷ 7 ∷ 8 ∷ 9 ∷ 10 ∷ 11 ∷ 12 ∷ 13 ∷ 14 ∷ 15 ∷ 16 ∷ 17 ∷ 18 ∷ 19 ∷ 20 ∷ 1 ∷ [])) [];
    }

-- had the get come before k2, k1 would go to Ghost, and k21 take its place
abbrev pub hit_early : Case
hit_early =
    record {
      capacity = 20;
      calls = puts (1 ∷ []) ++ Get (k 1) ∷ puts (2 ∷ three_to_twenty ++ 21 ∷ []);
      answers = came Small (0 ∷ []) ++ Held (value_of 1) ∷ came Small (1 ∷ []) ++ came Main two_to_nineteen ++ New (report 0 Small (Some Small) 0) ∷ [];
      leaves = stand (k 21 ∷ k 2 ∷ []) (map k three_to_twenty) (k 1 ∷ []);
    }

-- three records: each call once at least, a refused write, and places that a retain has stacked, the highest to be reused first
abbrev pub every_call : Case
every_call =
    record {
      capacity = 3;
      calls =
          Contains (k 1)
          ∷ Put (k 1) (value_of 1)
          ∷ Contains (k 1)
          ∷ Peek (k 1)
          ∷ Put (k 2) (value_of 2)
          ∷ WriteAt 1 (k 2) (value_of 5)
          ∷ WriteAt 0 (k 2) (value_of 6)
          ∷ GetAt 1 (k 2)
          ∷ GetAt 0 (k 2)
          ∷ Put (k 2) (value_of 7)
          ∷ Put (k 3) (value_of 3)
          ∷ Get (k 4)
          ∷ Retain (λ word value. same word (k 3))
          ∷ Put (k 4) (value_of 4)
          ∷ Remove (k 3)
          ∷ Remove (k 3)
          ∷ Fetch (key 1 9)
          ∷ [];
      answers =
          No
          ∷ New (report 0 Small None 0)
          ∷ Yes
          ∷ Held (value_of 1)
          ∷ New (report 1 Main None 0)
          ∷ Done
          ∷ Refused (NotInPlace 0)
          ∷ Held (value_of 5)
          ∷ Absent
          ∷ Old (value_of 5)
          ∷ New (report 2 Main None 0)
          ∷ Absent
          ∷ Done
          ∷ New (report 1 Small None 0)
          ∷ Yes
          ∷ No
          ∷ Loaded (pos 70, negsuc 3, pos 12) (report 2 Main None 0)
          ∷ [];
      leaves = stand (k 4 ∷ []) (key 1 9 ∷ []) [];
    }

-- a cleared machine is as opened: the next place is 0 again
abbrev pub cleared : Case
cleared =
    record {
      capacity = 3;
      calls = puts (1 ∷ 2 ∷ []) ++ Clear ∷ puts (3 ∷ []);
      answers = came Small (0 ∷ []) ++ came Main (1 ∷ []) ++ Done ∷ came Small (0 ∷ []);
      leaves = stand (k 3 ∷ []) [] [];
    }

-- capacity 0: a fetch is refused before the loader is asked
abbrev pub without_records : Case
without_records =
    record {
      capacity = 0;
      calls = Put (k 1) (value_of 1) ∷ Fetch (key 2 2) ∷ Get (k 1) ∷ WriteAt 0 (k 1) (value_of 1) ∷ Remove (k 1) ∷ Clear ∷ [];
      answers = Refused NoCapacity ∷ Refused NoCapacity ∷ Absent ∷ Refused (NotInPlace 0) ∷ No ∷ Done ∷ [];
      leaves = stand [] [] [];
    }

abbrev pub run_table : List Case
run_table = replayed ∷ hit_late ∷ hit_early ∷ every_call ∷ cleared ∷ without_records ∷ []

abbrev order : Order Station
order = highest_first (λ cell. cell.place)

-- the run of a case answers and leaves what the table says
abbrev pub Runs : Case → Type 0
Runs case =
    let calls = reverse case.calls in
    (reverse (map (λ e. e.answer) (history case.capacity sheet order calls)) ≡ case.answers) × (queues (state_after case.capacity sheet order calls) ≡ case.leaves)

-- ## Claims

-- after these calls, a claim of k2 with a given value answers so
pub record ClaimCase : Type 0 where
  pub capacity : ℕ
  pub calls : List (Asked Station)
  pub answer : Result (Claimed Station) Refusal

abbrev given : Station
given = value_of 9

-- k2 is resident; it takes a place never opened, with the given value; it takes a place that k1 left, and finds the value of k1; there is no record
abbrev pub claim_table : List ClaimCase
claim_table =
    record { capacity = 2; calls = puts (2 ∷ []); answer = Ok (claimed.Held (0, value_of 2)) }
    ∷ record { capacity = 2; calls = puts (1 ∷ []); answer = Ok (claimed.New (1, given) (report 1 Main None 0)) }
    ∷ record { capacity = 2; calls = puts (1 ∷ []) ++ Remove (k 1) ∷ []; answer = Ok (claimed.New (0, value_of 1) (report 0 Small None 0)) }
    ∷ record { capacity = 0; calls = []; answer = Err NoCapacity }
    ∷ []

abbrev pub Claims : ClaimCase → Type 0
Claims case = (claim case.capacity (state_after case.capacity sheet order (reverse case.calls)) (k 2) given).1 ≡ case.answer

-- ## All of them

abbrev pub WorkedCases : Type 0
WorkedCases = AllByRecursion (λ (row : ℕ × Limits). limits_of row.0 ≡ row.1) limit_table × AllByRecursion Runs run_table × AllByRecursion Claims claim_table
