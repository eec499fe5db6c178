-- What the inner steps of the calls do.
use Rattle.std.specs.Prelude.{◌≡◌, ℕ, List}
use Rattle.machine.specs.declared.report.Report.{Report}
use Rattle.machine.specs.Replacement.{uses}
use Rattle.machine.specs.Machine.{is_at, lying, arrival, settled, report_of}
use Rattle.policy.specs.View.{view}
use Rattle.cache_core.specs.declared.inner.Inner.{Inner}
use Rattle.cache_core.specs.View.{places, value_at, bare, state}
use Rattle.cache_core.specs.Tied.{Within, Resides}
use Rattle.cache_core.specs.Admitting.{Absent}
use Rattle.cache_calls.specs.Calls.{newcomer}

module _ {K V : Type 0} (mean : K → List ℕ) (hashed : List ℕ → ℕ) where
  -- a use of the resident of a place, and its value
  pub record Used (x : Inner K V) (place : ℕ) (v : V) (y : Inner K V) : Type 0 where
    pub value : (d : V) → v ≡ value_at d x.records.now place
    pub next : (d : V) (word : List ℕ) → Within mean hashed x → Resides mean hashed word place x → state mean d y ≡ uses (is_at word) (state mean d x)
    pub tied : Within mean hashed x → Within mean hashed y
    pub records : y.records.now ≡ x.records.now
    pub places : places (view y.policy.core) ≡ places (view x.policy.core)
    pub capacity : y.policy.core.capacity ≡ x.policy.core.capacity

  -- a key comes in with a value
  pub record Brought (x : Inner K V) (key : K) (v : V) (report : Report) (y : Inner K V) : Type 0 where
    pub next : (d : V) → state mean d y ≡ settled x.policy.core.capacity (mean key) v (arrival x.policy.core.capacity (mean key) (state mean d x))
    pub told : (d : V) → report ≡ report_of (arrival x.policy.core.capacity (mean key) (state mean d x))
    pub tied : Within mean hashed y
    pub laid : bare y.records.now ≡ newcomer report.place key v (bare x.records.now)

  abbrev pub Brings : Inner K V → ℕ → K → V → Report → Inner K V → Type 0
  Brings x hash key v report y =
      (y.policy.core.capacity ≡ x.policy.core.capacity) × (Within mean hashed x → hash ≡ hashed (mean key) → Absent mean hashed (mean key) x → Brought x key v report y)

  -- a key comes in with the value that a claim finds in its place
  abbrev pub Claims : Inner K V → ℕ → K → V → V × Report → Inner K V → Type 0
  Claims x hash key given r y =
      (y.policy.core.capacity ≡ x.policy.core.capacity)
      × (Within mean hashed x → hash ≡ hashed (mean key) → Absent mean hashed (mean key) x →
      Brought x key r.0 r.1 y × ((d : V) → r.0 ≡ lying given (arrival x.policy.core.capacity (mean key) (state mean d x)).spot))
