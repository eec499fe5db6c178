-- Reading a key of a column after another was laid.
use Rattle.std.proofs.Common.{◌≡◌, ℕ, zero, suc, ◌<◌, ◌≤◌, List, [], ◌∷◌, length, get_or, set, Some, None, refl, ap, le_of_suc-le-suc, arith}
use Rattle.records.specs.declared.column.Column.{Column}
use Rattle.records.specs.declared.column.Column.TheVariants.{Resident, Remembered}
use Rattle.records.specs.declared.record.Record.{Record}
use Rattle.records.specs.Columns.{key_of, key_at_lem, with_key, keyed}

module _ {K V : Type 0} where
  pub key_past : (column : Column) (rs : List (Record K V)) (p : ℕ) → length rs ≤ p → None ≡ key_at_lem column rs p
  key_past column [] p h = refl
  key_past column (r ∷ rs) zero h = absurd (omega arith)
  key_past column (r ∷ rs) (suc p) h = key_past column rs p (le_of_suc-le-suc h)

  pub key_read : (column : Column) (rs : List (Record K V)) (p : ℕ) (d : Record K V) → p < length rs → Some (key_of column (get_or rs p d)) ≡ key_at_lem column rs p
  key_read column [] p d h = absurd (omega arith)
  key_read column (r ∷ rs) zero d h = refl
  key_read column (r ∷ rs) (suc p) d h = key_read column rs p d (le_of_suc-le-suc h)

  pub keyed_past : (column : Column) (rs : List (Record K V)) (p : ℕ) (k : K) → length rs ≤ p → rs ≡ keyed column rs p k
  keyed_past column [] p k h = refl
  keyed_past column (r ∷ rs) zero k h = absurd (omega arith)
  keyed_past column (r ∷ rs) (suc p) k h = ap (λ (l : List (Record K V)). r ∷ l) (keyed_past column rs p k (le_of_suc-le-suc h))

  pub keyed_set : (column : Column) (rs : List (Record K V)) (p : ℕ) (k : K) (d : Record K V) → p < length rs → set rs p (with_key column k (get_or rs p d)) ≡ keyed column rs p k
  keyed_set column [] p k d h = absurd (omega arith)
  keyed_set column (r ∷ rs) zero k d h = refl
  keyed_set column (r ∷ rs) (suc p) k d h = ap (λ (l : List (Record K V)). r ∷ l) (keyed_set column rs p k d (le_of_suc-le-suc h))

  pub keyed_length : (column : Column) (rs : List (Record K V)) (p : ℕ) (k : K) → length (keyed column rs p k) ≡ length rs
  keyed_length column [] p k = refl
  keyed_length column (r ∷ rs) zero k = refl
  keyed_length column (r ∷ rs) (suc p) k = ap suc (keyed_length column rs p k)

  own_key : (column : Column) (k : K) (r : Record K V) → key_of column (with_key column k r) ≡ k
  own_key Resident k r = refl
  own_key Remembered k r = refl

  -- the key laid in a place is there
  pub key_here : (column : Column) (rs : List (Record K V)) (p : ℕ) (k : K) → p < length rs → key_at_lem column (keyed column rs p k) p ≡ Some k
  key_here column [] p k h = absurd (omega arith)
  key_here column (r ∷ rs) zero k h = ap (λ (x : K). Some x) (own_key column k r)
  key_here column (r ∷ rs) (suc p) k h = key_here column rs p k (le_of_suc-le-suc h)

  -- every other place of the column has its key as before
  pub key_elsewhere : (column : Column) (rs : List (Record K V)) (p : ℕ) (k : K) (q : ℕ) → (q ≡ p → ⊥) → key_at_lem column (keyed column rs p k) q ≡ key_at_lem column rs q
  key_elsewhere column [] p k q ne = refl
  key_elsewhere column (r ∷ rs) zero k zero ne = absurd (ne refl)
  key_elsewhere column (r ∷ rs) zero k (suc q) ne = refl
  key_elsewhere column (r ∷ rs) (suc p) k zero ne = refl
  key_elsewhere column (r ∷ rs) (suc p) k (suc q) ne = key_elsewhere column rs p k q (λ e. ne (ap suc e))

  -- and so has the other column
  pub remembered_stays : (rs : List (Record K V)) (p : ℕ) (k : K) (q : ℕ) → key_at_lem Remembered (keyed Resident rs p k) q ≡ key_at_lem Remembered rs q
  remembered_stays [] p k q = refl
  remembered_stays (r ∷ rs) zero k zero = refl
  remembered_stays (r ∷ rs) zero k (suc q) = refl
  remembered_stays (r ∷ rs) (suc p) k zero = refl
  remembered_stays (r ∷ rs) (suc p) k (suc q) = remembered_stays rs p k q

  pub resident_stays : (rs : List (Record K V)) (p : ℕ) (k : K) (q : ℕ) → key_at_lem Resident (keyed Remembered rs p k) q ≡ key_at_lem Resident rs q
  resident_stays [] p k q = refl
  resident_stays (r ∷ rs) zero k zero = refl
  resident_stays (r ∷ rs) zero k (suc q) = refl
  resident_stays (r ∷ rs) (suc p) k zero = refl
  resident_stays (r ∷ rs) (suc p) k (suc q) = resident_stays rs p k q
