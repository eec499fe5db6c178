-- The keys in records, and what laying one does to its column's index.
use Rattle.std.specs.Prelude.{◌≡◌, ℕ, zero, suc, ◌<◌, cond, List, [], ◌∷◌, length, Some, None, Ok, Option, Result, nat_lt}
use Rattle.std.specs.Option.{option_map}
use Rattle.handles.specs.declared.refusal.TableRefusal.{TableRefusal}
use Rattle.handle_laws.specs.Runs.{how_many}
use Rattle.index.specs.declared.index.KeyIndex.{KeyIndex}
use Rattle.index.specs.Filed.{bears, size, Files}
use Rattle.index.specs.Ties.{occurs, Ties}
use Rattle.records.specs.declared.column.Column.{Column}
use Rattle.records.specs.declared.column.Column.TheVariants.{Resident, Remembered}
use Rattle.records.specs.declared.record.Record.{Record}

module _ {K V : Type 0} where
  -- a record's key in a column
  abbrev pub key_of : Column → Record K V → K
  key_of Resident r = r.key
  key_of Remembered r = r.remembered

  -- the key of a column in a place
  abbrev pub key_at_lem : Column → List (Record K V) → ℕ → Option K
  key_at_lem column [] p = None
  key_at_lem column (r ∷ rs) zero = Some (key_of column r)
  key_at_lem column (r ∷ rs) (suc p) = key_at_lem column rs p

  -- and its meaning
  abbrev pub word_at : (K → List ℕ) → Column → List (Record K V) → ℕ → Option (List ℕ)
  word_at mean column rs p = option_map mean (key_at_lem column rs p)

  -- a record with another key in a column
  abbrev pub with_key : Column → K → Record K V → Record K V
  with_key Resident k r = record { key = k; value = r.value; remembered = r.remembered }
  with_key Remembered k r = record { key = r.key; value = r.value; remembered = k }

  -- the records with another key in a place
  abbrev pub keyed : Column → List (Record K V) → ℕ → K → List (Record K V)
  keyed column [] p k = []
  keyed column (r ∷ rs) zero k = with_key column k r ∷ rs
  keyed column (r ∷ rs) (suc p) k = r ∷ keyed column rs p k

  -- what laying a key answers and makes of index and records: both have it, or the index is full and nothing changes
  pub record Lays (i : KeyIndex) (rs : List (Record K V)) (column : Column) (place hash : ℕ) (key : K) (r : Result (Unit {0}) TableRefusal) (j : KeyIndex) (qs : List (Record K V)) : Type 0 where
    pub files : Files i hash place r j
    pub records : qs ≡ cond (nat_lt (size i) 768) (keyed column rs place key) rs

  -- where the index is tied to places, and the place is another record's, and none of them bears the key, it is tied to one more
  abbrev pub TiedLay : (K → List ℕ) → KeyIndex → List (Record K V) → Column → ℕ → ℕ → List ℕ → Result (Unit {0}) TableRefusal → KeyIndex → List (Record K V) → Type 0
  TiedLay mean i rs column place hash word r j qs =
      (hashed : List ℕ → ℕ) (ps : List ℕ) →
      Ties hashed (word_at mean column rs) ps i → hash ≡ hashed word → place < length rs → occurs place ps ≡ 0 →
      how_many (bears (word_at mean column rs) word) ps ≡ 0 → length ps < 768 →
      (r ≡ Ok tt) × Ties hashed (word_at mean column qs) (place ∷ ps) j
