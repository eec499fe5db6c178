-- What lists of calls answer and leave, and the laws of a whole run.
use Rattle.std.specs.Prelude.{◌≡◌, ℕ, ◌≤◌, min, Bool, List, [], ◌∷◌, map, reverse, length, take, drop, Ok, Err, Result}
use Rattle.loaders.specs.declared.fault.Fault.{Fault}
use Rattle.machine.specs.declared.refusal.Refusal.{Refusal}
use Rattle.machine.specs.declared.call.Call.{Call}
use Rattle.machine.specs.declared.call.Answer.{Answer}
use Rattle.machine.specs.Measure.{measured}
use Rattle.machine.specs.Machine.{Word, Asked, State, step}
use Rattle.machine.specs.Run.{event_of, state_after, history, meant}
use Rattle.machine_laws.specs.Laws.{Lawful, LawfulEvent}
use Rattle.cache_core.specs.declared.inner.Inner.{Inner}
use Rattle.cache_core.specs.View.{state, bare}
use Rattle.cache_core.specs.Tied.{Within}
use Rattle.cache_calls.specs.Retain.{rising}
use Rattle.cache.specs.Records.{laid_by}

module _ {K V R : Type 0} (mean : K → Word) (keeps : R → Word → V → Bool) (c : ℕ) (loader : Word → Result V Fault) where
  -- the machine's step for a call
  abbrev pub stepped : State V → Call K V R → State V × Answer V
  stepped s call = step c loader rising s (meant mean keeps call)

  -- calls one after the other from a state: where they lead, what they answer, and what they lay in the records
  abbrev pub state_from : State V → List (Call K V R) → State V
  state_from s [] = s
  state_from s (x ∷ xs) = state_from (stepped s x).0 xs

  abbrev pub answers_from : State V → List (Call K V R) → List (Answer V)
  answers_from s [] = []
  answers_from s (x ∷ xs) = (stepped s x).1 ∷ answers_from (stepped s x).0 xs

  abbrev pub laid_from : State V → List (Call K V R) → List (K × V) → List (K × V)
  laid_from s [] rs = rs
  laid_from s (x ∷ xs) rs = laid_from (stepped s x).0 xs (laid_by mean keeps c loader x s rs)

  -- a call is lawful after every past that leads to the state before it
  abbrev pub LawfulCall : State V → Call K V R → State V → Answer V → Type 0
  LawfulCall s call t a =
      1 ≤ c → c ≤ 512 → (past : List (Call K V R)) → state_after c loader rising (map (meant mean keeps) past) ≡ s →
      LawfulEvent c loader (history c loader rising (map (meant mean keeps) past)) (event_of s (meant mean keeps call) (t, a))

-- ## A list of calls on a cache

module _ {K V R : Type 0} (mean : K → Word) (hashed : Word → ℕ) (keeps : R → Word → V → Bool) (loader : Word → Result V Fault) where
  -- where the indexes are right, n calls lead, answer and lay as the machine does, and the indexes are right afterwards
  pub record Performs (x : Inner K V) (calls : List (Call K V R)) (n : ℕ) (after : List (Answer V)) (y : Inner K V) (d : V) : Type 0 where
    pub next : state mean d y ≡ state_from mean keeps x.policy.core.capacity loader (state mean d x) (take n calls)
    pub answers : take n after ≡ answers_from mean keeps x.policy.core.capacity loader (state mean d x) (take n calls)
    pub records : bare y.records.now ≡ laid_from mean keeps x.policy.core.capacity loader (state mean d x) (take n calls) (bare x.records.now)
    pub right : Within mean hashed y

  -- as many calls as there is room for answers; the rest of the answers stay
  pub record Performed (x : Inner K V) (calls : List (Call K V R)) (before after : List (Answer V)) (n : ℕ) (y : Inner K V) : Type 0 where
    pub count : n ≡ min (length calls) (length before)
    pub rest : drop n after ≡ drop n before
    pub does : Within mean hashed x → (d : V) → Performs x calls n after y d

-- ## A run from the opening on

module _ {K V R : Type 0} (mean : K → Word) (keeps : R → Word → V → Bool) (c : ℕ) (loader : Word → Result V Fault) where
  -- the run of these calls, the newest first
  abbrev pub run_of : List (Call K V R) → List (Asked V)
  run_of calls = map (meant mean keeps) (reverse calls)

  -- n calls on a cache of c records: their answers are those of the run, whose every event is lawful
  pub record Played (calls : List (Call K V R)) (before after : List (Answer V)) (n : ℕ) : Type 0 where
    pub some : 1 ≤ c
    pub few : c ≤ 512
    pub count : n ≡ min (length calls) (length before)
    pub answers : take n after ≡ reverse (map (λ e. e.answer) (history c loader rising (run_of (take n calls))))
    pub rest : drop n after ≡ drop n before
    pub lawful : Lawful c loader (history c loader rising (run_of (take n calls)))

  -- or the records are refused, and nothing is answered
  abbrev pub Plays : List (Call K V R) → List (Answer V) → List (Answer V) → Result ℕ Refusal → Type 0
  Plays calls before after (Ok n) = Played calls before after n
  Plays calls before after (Err why) = (measured c ≡ Err why) × (after ≡ before)
