-- What bringing a key in answers and makes of a cache.
use Rattle.std.specs.Prelude.{◌≡◌, ℕ, ◌≤◌, cond, List, Some, None, Option, ◌==◌}
use Rattle.handle_laws.specs.Runs.{how_many}
use Rattle.machine.specs.Machine.{lays, lying, arrival, settled, report_of}
use Rattle.index.specs.Filed.{bears}
use Rattle.policy.specs.View.{view}
use Rattle.policy.specs.declared.plan.Inserted.{Inserted}
use Rattle.records.specs.declared.column.Column.TheVariants.{Resident}
use Rattle.records.specs.Columns.{word_at}
use Rattle.cache_core.specs.declared.inner.Inner.{Inner}
use Rattle.cache_core.specs.View.{places, value_at, bare, rekeyed, state}
use Rattle.cache_core.specs.Tied.{TiedInner, Within, Resides}

module _ {K V : Type 0} (mean : K → List ℕ) (hashed : List ℕ → ℕ) where
  -- no resident has this key
  abbrev pub Absent : List ℕ → Inner K V → Type 0
  Absent word x = how_many (bears (word_at mean Resident x.records.now) word) (places (view x.policy.core)) ≡ 0

  -- the machine's state and report, and the indexes right
  pub record Admitted (x : Inner K V) (word : List ℕ) (r : Inserted) (y : Inner K V) : Type 0 where
    pub next : (d : V) → state mean d y ≡ settled x.policy.core.capacity word (value_at d x.records.now r.place) (arrival x.policy.core.capacity word (state mean d x))
    -- and with any value laid in the newcomer's place after
    pub settles : (d v : V) → lays word v (state mean d y) ≡ settled x.policy.core.capacity word v (arrival x.policy.core.capacity word (state mean d x))
    pub report : (d : V) → report_of (arrival x.policy.core.capacity word (state mean d x)) ≡ record { place = r.place; joined = r.joined; left = r.vacancy.left; chances = r.vacancy.chances }
    pub resides : Resides mean hashed word r.place y
    pub tied : TiedInner mean hashed y

  abbrev pub Admits : Inner K V → ℕ → List ℕ → Option Inserted → Inner K V → Type 0
  Admits x hash word None y = x.policy.core.capacity ≡ 0
  Admits x hash word (Some r) y = TiedInner mean hashed x → hash ≡ hashed word → Absent word x → Admitted x word r y

  -- the same with records to spare
  pub record AdmittedWithin (x : Inner K V) (word : List ℕ) (r : Inserted) (y : Inner K V) : Type 0 where
    pub next : (d : V) → state mean d y ≡ settled x.policy.core.capacity word (value_at d x.records.now r.place) (arrival x.policy.core.capacity word (state mean d x))
    -- and with any value laid in the newcomer's place after
    pub settles : (d v : V) → lays word v (state mean d y) ≡ settled x.policy.core.capacity word v (arrival x.policy.core.capacity word (state mean d x))
    pub report : (d : V) → report_of (arrival x.policy.core.capacity word (state mean d x)) ≡ record { place = r.place; joined = r.joined; left = r.vacancy.left; chances = r.vacancy.chances }
    -- what a claim finds in the place: the given value if it was never opened, else what lies there
    pub lies : (d given : V) → lying given (arrival x.policy.core.capacity word (state mean d x)).spot ≡ cond (r.place == (view x.policy.core).opened) given (value_at d x.records.now r.place)
    pub resides : Resides mean hashed word r.place y
    pub within : Within mean hashed y

  -- the key lies in the newcomer's place; no value has changed, nor any other key but those that Ghost remembers
  abbrev pub LaidIn : Inner K V → K → Inserted → Inner K V → Type 0
  LaidIn x key r y = bare y.records.now ≡ rekeyed r.place key (bare x.records.now)

  abbrev pub Unchanged : Inner K V → Inner K V → Type 0
  Unchanged x y = (y.records.now ≡ x.records.now) × (y.policy ≡ x.policy) × (y.residents ≡ x.residents) × (y.remembered ≡ x.remembered)

  -- nothing changes at capacity 0; else a newcomer is brought in
  abbrev pub AdmitsWithin : Inner K V → ℕ → K → Option Inserted → Inner K V → Type 0
  AdmitsWithin x hash key None y = (x.policy.core.capacity ≡ 0) × Unchanged x y
  AdmitsWithin x hash key (Some r) y =
      (1 ≤ x.policy.core.capacity)
      × ((y.policy.core.capacity ≡ x.policy.core.capacity) × (Within mean hashed x → hash ≡ hashed (mean key) → Absent (mean key) x → AdmittedWithin x (mean key) r y × LaidIn x key r y))
