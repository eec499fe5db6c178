-- What a call does to a cache: the plain machine's step where the indexes are right, and what it lays in the records.
use Rattle.std.specs.Prelude.{◌≡◌, ℕ, Bool, true, false, List, Some, None, Ok, Err, Option, Result}
use Rattle.machine.specs.declared.refusal.Refusal.{Refusal}
use Rattle.machine.specs.declared.refusal.Refusal.TheVariants.{NoRecords, TooManyRecords, NoCapacity, NotInPlace, NotLoaded}
use Rattle.machine.specs.declared.call.Placed.{Placed}
use Rattle.machine.specs.declared.call.Placed.TheVariants as placed
use Rattle.machine.specs.declared.call.Fetched.{Fetched}
use Rattle.machine.specs.declared.call.Fetched.TheVariants as fetched
use Rattle.machine.specs.declared.call.Claimed.{Claimed}
use Rattle.machine.specs.declared.call.Claimed.TheVariants as claimed
use Rattle.machine.specs.Machine.{Item, State}
use Rattle.cache_core.specs.declared.inner.Inner.{Inner}
use Rattle.cache_core.specs.View.{state, rekeyed, revalued}
use Rattle.cache_core.specs.Tied.{Within}

module _ {K V : Type 0} (mean : K → List ℕ) (hashed : List ℕ → ℕ) where
  -- what a call that changes nothing answers
  abbrev pub Tells : {A : Type 0} → (State V → A) → Inner K V → A → Type 0
  Tells says x a = Within mean hashed x → (d : V) → a ≡ says (state mean d x)

  -- what a call answers and leaves: the indexes are right afterwards too
  abbrev pub Does : {A : Type 0} → (State V → State V × A) → Inner K V → A → Inner K V → Type 0
  Does step x a y = Within mean hashed x → ((d : V) → step (state mean d x) ≡ (state mean d y, a)) × Within mean hashed y

-- ## What a call lays in the records, the keys that Ghost remembers aside

module _ {K V : Type 0} where
  -- a newcomer's key and value
  abbrev pub newcomer : ℕ → K → V → List (K × V) → List (K × V)
  newcomer p k v rs = revalued p v (rekeyed p k rs)

  -- a value in the place of a resident
  abbrev pub given : Option (Item V) → V → List (K × V) → List (K × V)
  given None v rs = rs
  given (Some i) v rs = revalued i.place v rs

  abbrev pub put_lays : Result (Placed V) Refusal → Option (Item V) → K → V → List (K × V) → List (K × V)
  put_lays (Ok (placed.Old old)) found k v rs = given found v rs
  put_lays (Ok (placed.New report)) found k v rs = newcomer report.place k v rs
  put_lays (Err why) found k v rs = rs

  abbrev pub fetch_lays : Result (Fetched V) Refusal → K → List (K × V) → List (K × V)
  fetch_lays (Ok (fetched.Held v)) k rs = rs
  fetch_lays (Ok (fetched.New v report)) k rs = newcomer report.place k v rs
  fetch_lays (Err why) k rs = rs

  abbrev pub claim_lays : Result (Claimed V) Refusal → K → List (K × V) → List (K × V)
  claim_lays (Ok (claimed.Held pair)) k rs = rs
  claim_lays (Ok (claimed.New pair report)) k rs = newcomer pair.0 k pair.1 rs
  claim_lays (Err why) k rs = rs

  abbrev pub write_lays : Result (Unit {0}) Refusal → ℕ → V → List (K × V) → List (K × V)
  write_lays (Ok done) p v rs = revalued p v rs
  write_lays (Err why) p v rs = rs

-- ## Whether a fetch asked its loader

abbrev pub is_fault : Refusal → Bool
is_fault NoRecords = false
is_fault (TooManyRecords records) = false
is_fault NoCapacity = false
is_fault (NotInPlace place) = false
is_fault (NotLoaded fault) = true

abbrev pub asks : {V : Type 0} → Result (Fetched V) Refusal → Bool
asks (Ok (fetched.Held v)) = false
asks (Ok (fetched.New v report)) = true
asks (Err why) = is_fault why
