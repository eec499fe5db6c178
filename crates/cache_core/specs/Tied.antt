-- When the indexes are right: each is tied to the places or nodes that the policy holds, and no key is resident and remembered.
use Rattle.std.specs.Prelude.{◌≡◌, ℕ, ◌+◌, ◌≤◌, List, length, Some}
use Rattle.machine.specs.Replacement.{Parts}
use Rattle.handles.specs.Seek.{first_by}
use Rattle.handle_laws.specs.Runs.{how_many}
use Rattle.index.specs.declared.index.KeyIndex.{KeyIndex}
use Rattle.index.specs.Filed.{bears}
use Rattle.index.specs.Ties.{Ties}
use Rattle.policy.specs.View.{view}
use Rattle.records.specs.declared.column.Column.TheVariants.{Resident, Remembered}
use Rattle.records.specs.declared.record.Record.{Record}
use Rattle.records.specs.Columns.{word_at}
use Rattle.cache_core.specs.declared.inner.Inner.{Inner}
use Rattle.cache_core.specs.View.{places}

module _ {K V : Type 0} (mean : K → List ℕ) (hashed : List ℕ → ℕ) where
  pub record Tied (c : ℕ) (rs : List (Record K V)) (s : Parts ℕ ℕ ℕ) (i j : KeyIndex) : Type 0 where
    pub sized : c ≡ length rs
    pub residents : Ties hashed (word_at mean Resident rs) (places s) i
    pub remembered : Ties hashed (word_at mean Remembered rs) s.remembered j
    pub alone : (word : List ℕ) → how_many (bears (word_at mean Resident rs) word) (places s) + how_many (bears (word_at mean Remembered rs) word) s.remembered ≤ 1

  abbrev pub TiedInner : Inner K V → Type 0
  TiedInner x = Tied x.policy.core.capacity x.records.now (view x.policy.core) x.residents x.remembered

  -- the same with records to spare, as a table has that is too long for a cache
  pub record TiedWithin (c : ℕ) (rs : List (Record K V)) (s : Parts ℕ ℕ ℕ) (i j : KeyIndex) : Type 0 where
    pub sized : c ≤ length rs
    pub residents : Ties hashed (word_at mean Resident rs) (places s) i
    pub remembered : Ties hashed (word_at mean Remembered rs) s.remembered j
    pub alone : (word : List ℕ) → how_many (bears (word_at mean Resident rs) word) (places s) + how_many (bears (word_at mean Remembered rs) word) s.remembered ≤ 1

  abbrev pub Within : Inner K V → Type 0
  Within x = TiedWithin x.policy.core.capacity x.records.now (view x.policy.core) x.residents x.remembered

  -- the resident of this place has this key
  abbrev pub Resides : List ℕ → ℕ → Inner K V → Type 0
  Resides word place x = Some place ≡ first_by (bears (word_at mean Resident x.records.now) word) (places (view x.policy.core))

  -- the indexes are right, and Ghost does not remember the word
  abbrev pub Forgotten : List ℕ → Inner K V → Type 0
  Forgotten word x = TiedInner x × (how_many (bears (word_at mean Remembered x.records.now) word) (view x.policy.core).remembered ≡ 0)

  abbrev pub ForgottenWithin : List ℕ → Inner K V → Type 0
  ForgottenWithin word x = Within x × (how_many (bears (word_at mean Remembered x.records.now) word) (view x.policy.core).remembered ≡ 0)

-- all but Ghost and its index is as it was
abbrev pub OnlyGhost : {K V : Type 0} → Inner K V → Inner K V → Type 0
OnlyGhost x y =
    (y.records.now ≡ x.records.now) × (y.residents ≡ x.residents) × (y.policy.core.capacity ≡ x.policy.core.capacity)
    × (places (view y.policy.core) ≡ places (view x.policy.core))
