-- The plain machine's state, read off the policy's places and nodes and what the records hold there.
use Rattle.std.specs.Prelude.{ℕ, zero, suc, List, [], ◌∷◌, ◌++◌, map, Some, None, Option}
use Rattle.machine.specs.Replacement.{Parts}
use Rattle.machine.specs.Machine.{Item, Cell, State}
use Rattle.policy.specs.View.{view}
use Rattle.records.specs.declared.column.Column.{Column}
use Rattle.records.specs.declared.column.Column.TheVariants.{Resident as of_resident, Remembered as of_ghost}
use Rattle.records.specs.declared.record.Record.{Record}
use Rattle.records.specs.Columns.{word_at}
use Rattle.cache_core.specs.declared.inner.Inner.{Inner}

-- the places of the residents
abbrev pub places : Parts ℕ ℕ ℕ → List ℕ
places s = map (λ r. r.item) (s.small ++ s.main)

abbrev pub or_empty : Option (List ℕ) → List ℕ
or_empty None = []
or_empty (Some word) = word

module _ {K V : Type 0} where
  -- the value in a place; d is read past the end only
  abbrev pub value_at : V → List (Record K V) → ℕ → V
  value_at d [] p = d
  value_at d (r ∷ rs) zero = r.value
  value_at d (r ∷ rs) (suc p) = value_at d rs p

  -- the records with another value in a place
  abbrev pub valued : List (Record K V) → ℕ → V → List (Record K V)
  valued [] p v = []
  valued (r ∷ rs) zero v = record { key = r.key; value = v; remembered = r.remembered } ∷ rs
  valued (r ∷ rs) (suc p) v = r ∷ valued rs p v

  -- the records without the keys that Ghost remembers
  abbrev pub bare : List (Record K V) → List (K × V)
  bare [] = []
  bare (r ∷ rs) = (r.key, r.value) ∷ bare rs

  -- these with another key in a place
  abbrev pub rekeyed : ℕ → K → List (K × V) → List (K × V)
  rekeyed p k [] = []
  rekeyed zero k (r ∷ rs) = (k, r.1) ∷ rs
  rekeyed (suc p) k (r ∷ rs) = r ∷ rekeyed p k rs

  -- with another value in a place
  abbrev pub revalued : ℕ → V → List (K × V) → List (K × V)
  revalued p v [] = []
  revalued zero v (r ∷ rs) = (r.0, v) ∷ rs
  revalued (suc p) v (r ∷ rs) = r ∷ revalued p v rs

  module _ (mean : K → List ℕ) where
    -- the meaning of the key in a place
    abbrev pub word_in : Column → List (Record K V) → ℕ → List ℕ
    word_in column rs p = or_empty (word_at mean column rs p)

    -- the resident and the free place that a record is
    abbrev pub item_at : V → List (Record K V) → ℕ → Item V
    item_at d rs p = record { word = word_in of_resident rs p; place = p; value = value_at d rs p }

    abbrev pub cell_at : V → List (Record K V) → ℕ → Cell V
    cell_at d rs p = record { place = p; value = value_at d rs p }

    abbrev pub seen : V → List (Record K V) → Parts ℕ ℕ ℕ → State V
    seen d rs s =
        record {
          small = map (λ r. record { item = item_at d rs r.item; mark = r.mark }) s.small;
          main = map (λ r. record { item = item_at d rs r.item; mark = r.mark }) s.main;
          remembered = map (word_in of_ghost rs) s.remembered;
          free = map (cell_at d rs) s.free;
          opened = s.opened;
        }

    abbrev pub state : V → Inner K V → State V
    state d x = seen d x.records.now (view x.policy.core)

    -- the keys that Ghost remembers, newest first
    abbrev pub ghost_words : Inner K V → List (List ℕ)
    ghost_words x = map (word_in of_ghost x.records.now) (view x.policy.core).remembered
