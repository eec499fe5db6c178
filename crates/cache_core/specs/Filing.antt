-- What the steps of an insertion do to the indexes and the records, where the indexes are tied.
use Rattle.std.specs.Prelude.{◌≡◌, ℕ, ◌<◌, true, cond, not, List, ◌∷◌, length, is_some, Some, filter, Option, ◌==◌}
use Rattle.std.specs.Option.{option_map}
use Rattle.handle_laws.specs.Runs.{how_many}
use Rattle.index.specs.declared.index.KeyIndex.{KeyIndex}
use Rattle.index.specs.Filed.{bears}
use Rattle.index.specs.Ties.{occurs, Ties}
use Rattle.ghosts.specs.declared.noted.Noted.{Noted}
use Rattle.records.specs.declared.column.Column.{Column}
use Rattle.records.specs.declared.column.Column.TheVariants.{Resident, Remembered}
use Rattle.records.specs.declared.record.Record.{Record}
use Rattle.records.specs.Columns.{key_at_lem, word_at, keyed}
use Rattle.cache_core.specs.declared.inner.Inner.{Inner}

module _ {K : Type 0} (mean : K → List ℕ) (hashed : List ℕ → ℕ) where
  -- an index tied to a place that bears the key is tied to one place less
  abbrev pub Unfiled : KeyIndex → Option K → ℕ → KeyIndex → Type 0
  Unfiled i key place j =
      (lying : ℕ → Option (List ℕ)) (ps : List ℕ) → lying place ≡ option_map mean key → is_some key ≡ true → Ties hashed lying (place ∷ ps) i → Ties hashed lying ps j

  module _ {V : Type 0} where
    -- the residents' index loses a place
    abbrev pub Unseats : Inner K V → ℕ → Inner K V → Type 0
    Unseats x place y =
        (ps : List ℕ) → place < length x.records.now → Ties hashed (word_at mean Resident x.records.now) (place ∷ ps) x.residents →
        Ties hashed (word_at mean Resident x.records.now) ps y.residents

    -- Ghost's index has the nodes but this one
    abbrev pub Frees : Inner K V → Noted → Inner K V → Type 0
    Frees x noted y =
        (old : List ℕ) → noted.node < length x.records.now → occurs noted.node old ≡ cond noted.forgot 1 0 →
        Ties hashed (word_at mean Remembered x.records.now) old x.remembered →
        Ties hashed (word_at mean Remembered x.records.now) (filter (λ q. not (q == noted.node)) old) y.remembered

    -- a key is laid in a column and filed
    abbrev pub Laid : Column → List (Record K V) → KeyIndex → ℕ → K → List (Record K V) → KeyIndex → Type 0
    Laid column rs i place key qs j =
        (ps : List ℕ) → Ties hashed (word_at mean column rs) ps i → place < length rs → occurs place ps ≡ 0 →
        how_many (bears (word_at mean column rs) (mean key)) ps ≡ 0 → length ps < 768 →
        (qs ≡ keyed column rs place key) × Ties hashed (word_at mean column qs) (place ∷ ps) j

    abbrev pub LaysNoted : Inner K V → ℕ → Option K → Inner K V → Type 0
    LaysNoted x node key y = (k : K) → key ≡ Some k → Laid Remembered x.records.now x.remembered node k y.records.now y.remembered

    -- the key of a place is laid at a node of Ghost in place of the node's former key
    abbrev pub Remembers : Inner K V → ℕ → Noted → Inner K V → Type 0
    Remembers x place noted y =
        (old : List ℕ) (k : K) → noted.node < length x.records.now → occurs noted.node old ≡ cond noted.forgot 1 0 →
        key_at_lem Resident x.records.now place ≡ Some k → how_many (bears (word_at mean Remembered x.records.now) (mean k)) old ≡ 0 → length old < 768 →
        Ties hashed (word_at mean Remembered x.records.now) old x.remembered →
        (y.records.now ≡ keyed Remembered x.records.now noted.node k)
        × Ties hashed (word_at mean Remembered y.records.now) (noted.node ∷ filter (λ q. not (q == noted.node)) old) y.remembered

    abbrev pub LaysSeated : Inner K V → ℕ → ℕ → K → Inner K V → Type 0
    LaysSeated x place hash key y = hash ≡ hashed (mean key) → Laid Resident x.records.now x.residents place key y.records.now y.residents

module _ {K V : Type 0} where
  abbrev pub SameButResidents : Inner K V → Inner K V → Type 0
  SameButResidents x y = (y.policy ≡ x.policy) × (y.remembered ≡ x.remembered)

  abbrev pub SameButRemembered : Inner K V → Inner K V → Type 0
  SameButRemembered x y = (y.policy ≡ x.policy) × (y.residents ≡ x.residents)

  abbrev pub OnlyResidents : Inner K V → Inner K V → Type 0
  OnlyResidents x y = (y.records.now ≡ x.records.now) × SameButResidents x y

  abbrev pub OnlyRemembered : Inner K V → Inner K V → Type 0
  OnlyRemembered x y = (y.records.now ≡ x.records.now) × SameButRemembered x y
