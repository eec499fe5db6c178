-- The laws: what holds of every event of every run, in the words of the run.
use Rattle.std.specs.Prelude.{◌≡◌, ℕ, ◌+◌, ◌≤◌, Bool, true, false, not, ◌&&◌, ◌||◌, ◌⊎◌, ◌↔◌, List, [], ◌∷◌, ◌++◌, map, length, Some, None, Ok, Err, Option, Result, ◌==◌, nat_le, nat_lt}
use Rattle.std.specs.List.{AllByRecursion}
use Rattle.loaders.specs.declared.fault.Fault.{Fault}
use Rattle.machine.specs.declared.refusal.Refusal.TheVariants.{NotLoaded}
use Rattle.machine.specs.declared.call.Call.TheVariants.{Fetch}
use Rattle.machine.specs.declared.call.Answer.TheVariants.{Refused}
use Rattle.machine.specs.Limits.{small_limit, main_limit, window}
use Rattle.machine.specs.declared.call.Call.{Call}
use Rattle.machine.specs.Machine.{Word, Order, State, has, step}
use Rattle.machine.specs.Run.{Event, event_of, state_after, history, meant}
use Rattle.machine_laws.specs.Words.{occurs, any, resident, takes_out, answered, comes_in, newcomer, chances, uses_in, chances_in, hit_late, hit_since, last_laid, stay}

-- ## Values

-- the last put or write, or, lacking one, the loader's value
abbrev pub IsLast : {V : Type 0} → Option V → Result V Fault → V → Type 0
IsLast (Some u) given v = u ≡ v
IsLast None given v = given ≡ Ok v

module _ {V : Type 0} (loader : Word → Result V Fault) (h : List (Event V)) (e : Event V) where
  pub record Values : Type 0 where
    -- a value answered under a key is the last earlier put or write there since the key last came in, or, lacking one, the loader's
    pub last : (k : Word) (v : V) → answered k e ≡ Some v → IsLast (last_laid k (stay k h e)) (loader k) v
    -- a fetch faults exactly when its key is not resident and the loader refuses it, with the loader's fault
    pub faults :
        (k : Word) (fault : Fault) → e.call ≡ Fetch k → (e.answer ≡ Refused (NotLoaded fault)) ↔ ((resident k e.before ≡ false) × (loader k ≡ Err fault))

-- ## Replacement

module _ {V : Type 0} (c : ℕ) (h : List (Event V)) (e : Event V) where
  -- Small's last key t, the others before it, and what becomes of it
  pub record TailGoes (k : Word) : Type 0 where
    pub front : List Word
    pub tail : Word
    pub stood : e.before.small ≡ front ++ tail ∷ []
    pub newest : e.after.small ≡ k ∷ front
    -- it stands in Main exactly when a use hit it after its window closed, and in Ghost exactly when none did
    pub moves : has tail e.after.main ≡ hit_late (window c) tail h
    pub sinks : has tail e.after.remembered ≡ not (hit_late (window c) tail h)

  -- the hand passes those before the first that no use has hit, which leaves; the joiner takes its stand behind all
  pub record FirstIdle (joiner : Word) : Type 0 where
    pub passed : List Word
    pub victim : Word
    pub rest : List Word
    pub stood : e.before.main ≡ passed ++ victim ∷ rest
    pub hit : AllByRecursion (λ x. hit_since x h ≡ true) passed
    pub idle : hit_since victim h ≡ false
    pub moved : e.after.main ≡ rest ++ passed ++ joiner ∷ []
    pub told : chances e ≡ length passed

  -- every one was hit: the hand passes all, comes round to the first, and that one leaves
  pub record AllHit (joiner : Word) : Type 0 where
    pub victim : Word
    pub rest : List Word
    pub stood : e.before.main ≡ victim ∷ rest
    pub hit : AllByRecursion (λ x. hit_since x h ≡ true) (victim ∷ rest)
    pub moved : e.after.main ≡ rest ++ joiner ∷ []
    pub told : chances e ≡ length (victim ∷ rest)

  -- Main gives one up: who stood in Main is resident no more
  abbrev pub gives_up : Bool
  gives_up = any (λ x. not (resident x e.after)) e.before.main

  -- the newcomer or the tail joins Main
  abbrev pub someone_joins : Bool
  someone_joins = any (λ x. not (has x e.before.main)) e.after.main

  -- there is vacancy where fewer than the capacity are resident
  abbrev pub vacant : Bool
  vacant = nat_lt (length e.before.small + length e.before.main) c

  pub record Arrival (k : Word) : Type 0 where
    -- the newcomer joins Main if Ghost held it, if Small has no room at all, or if there is vacancy and Small holds its limit; else Small
    pub part : has k e.after.main ≡ (has k e.before.remembered || (small_limit c == 0 || (vacant && nat_le (small_limit c) (length e.before.small))))
    -- and the report tells which, so that newcomers of Small are counted rightly
    pub told : newcomer e ≡ not (has k e.after.main)
    -- unknown to a full cache of two or more and to its Ghost
    pub tail_goes : 2 ≤ c → vacant ≡ false → has k e.before.remembered ≡ false → TailGoes k
    -- Main gives one up exactly when it holds its limit and someone joins
    pub exactly : gives_up ≡ (nat_le (main_limit c) (length e.before.main) && someone_joins)
    -- and then the first that the hand reaches that no use has hit since it joined Main or the hand last passed it
    pub first : gives_up ≡ true → (joiner : Word) × (FirstIdle joiner ⊎ AllHit joiner)

  pub record Replacement : Type 0 where
    -- of every key that comes in
    pub arrives : (k : Word) → comes_in k e ≡ true → Arrival k
    -- no key moves from Small to Main, whatever the call, but by a use after its window closed
    pub only_late : (k : Word) → has k e.before.small ≡ true → has k e.after.main ≡ true → hit_late (window c) k h ≡ true
    -- where no key comes in and the call takes none out, every key stands where it stood
    pub still : ((k : Word) → comes_in k e ≡ false) → takes_out e.call ≡ false → e.after ≡ e.before

-- ## Chances

module _ {V : Type 0} (h : List (Event V)) (e : Event V) where
  pub record Chances : Type 0 where
    -- second chances reported so far never outnumber the uses so far
    pub earned : chances_in (e ∷ h) ≤ uses_in (e ∷ h)
    -- no call reports more than Main held as it began
    pub within : chances e ≤ length e.before.main
    -- no key is resident twice, or both resident and in Ghost
    pub alone : (k : Word) → occurs k e.after.small + occurs k e.after.main + occurs k e.after.remembered ≤ 1

-- ## Every event of a history

module _ {V : Type 0} (c : ℕ) (loader : Word → Result V Fault) where
  pub record LawfulEvent (h : List (Event V)) (e : Event V) : Type 0 where
    pub values : Values loader h e
    pub replacement : Replacement c h e
    pub told : Chances h e

  abbrev pub Lawful : List (Event V) → Type 0
  Lawful [] = Unit {0}
  Lawful (e ∷ h) = LawfulEvent h e × Lawful h

-- ## Every run

-- A run is a list of a program's calls, newest first, with keys, values and keep rules of any kind and one loader behind every fetch,
-- on a machine that is opened with a capacity from 1 to 512 and stacks what a retain drops in any order.
module _ {K V L R : Type 0} (meaning : K → Word) (given : L → Word → Result V Fault) (keeps : R → Word → V → Bool) where
  -- P holds of each event, with its past, of every run
  abbrev pub OfEveryEvent : (ℕ → (Word → Result V Fault) → List (Event V) → Event V → Type 0) → Type 0
  OfEveryEvent P =
      (c : ℕ) → 1 ≤ c → c ≤ 512 → (loader : L) (order : Order V) (past : List (Call K V R)) (call : Call K V R) →
      let calls = map (meant meaning keeps) past in
      let s = state_after c (given loader) order calls in
      let x = meant meaning keeps call in
      P c (given loader) (history c (given loader) order calls) (event_of s x (step c (given loader) order s x))

  abbrev pub ValuesHold : Type 0
  ValuesHold = OfEveryEvent (λ c loader h e. Values loader h e)

  abbrev pub ReplacementHolds : Type 0
  ReplacementHolds = OfEveryEvent (λ c loader h e. Replacement c h e)

  abbrev pub ChancesHold : Type 0
  ChancesHold = OfEveryEvent (λ c loader h e. Chances h e)

  -- from 2 to 19 records no key moves from Small to Main
  abbrev pub SmallCachesNeverPromote : Type 0
  SmallCachesNeverPromote = OfEveryEvent (λ c loader h e. 2 ≤ c → c ≤ 19 → (k : Word) → has k e.before.small ≡ true → has k e.after.main ≡ false)

  -- all three of a whole run at once
  abbrev pub RunsAreLawful : Type 0
  RunsAreLawful =
      (c : ℕ) → 1 ≤ c → c ≤ 512 → (loader : L) (order : Order V) (calls : List (Call K V R)) → Lawful c (given loader) (history c (given loader) order (map (meant meaning keeps) calls))

  -- all three of one call, after every past that leads to the state before it
  abbrev pub CallsAreLawful : Type 0
  CallsAreLawful =
      (c : ℕ) → 1 ≤ c → c ≤ 512 → (loader : L) (order : Order V) (past : List (Call K V R)) (s : State V) → state_after c (given loader) order (map (meant meaning keeps) past) ≡ s →
      (call : Call K V R) →
      let x = meant meaning keeps call in
      LawfulEvent c (given loader) (history c (given loader) order (map (meant meaning keeps) past)) (event_of s x (step c (given loader) order s x))
