-- What becomes of the key of who left for a newcomer.
use Rattle.std.specs.Prelude.{◌≡◌, ℕ, ◌<◌, List, ◌∷◌, length, Some, None, Option}
use Rattle.machine.specs.declared.report.Part.{Part}
use Rattle.index.specs.declared.index.KeyIndex.{KeyIndex}
use Rattle.index.specs.Ties.{Ties}
use Rattle.ghosts.specs.declared.noted.Noted.{Noted}
use Rattle.records.specs.declared.column.Column.TheVariants.{Resident}
use Rattle.records.specs.declared.record.Record.{Record}
use Rattle.records.specs.Columns.{word_at}
use Rattle.cache_core.specs.declared.inner.Inner.{Inner}
use Rattle.cache_core.specs.Filing.{Remembers, OnlyResidents}

module _ {K V : Type 0} (mean : K → List ℕ) (hashed : List ℕ → ℕ) where
  -- an index of the residents loses a place
  abbrev pub Loses : List (Record K V) → KeyIndex → ℕ → KeyIndex → Type 0
  Loses rs i place j =
      (ps : List ℕ) → place < length rs → Ties hashed (word_at mean Resident rs) (place ∷ ps) i → Ties hashed (word_at mean Resident rs) ps j

  abbrev pub Departs : Inner K V → ℕ → Option Noted → Option Part → Inner K V → Type 0
  Departs x place (Some noted) left y = (y.policy ≡ x.policy) × (Remembers mean hashed x place noted y × Loses y.records.now x.residents place y.residents)
  Departs x place None (Some part) y = OnlyResidents x y × Loses x.records.now x.residents place y.residents
  Departs x place None None y = OnlyResidents x y × (y.residents ≡ x.residents)
