-- Indexes that are right are right with records to spare, and the other way round where none is spare.
use Rattle.std.specs.Prelude.{◌≡◌, ℕ, List, length}
use Rattle.std.proofs.Common.{◌∙◌, sym, arith}
use Rattle.machine.specs.Replacement.{Parts}
use Rattle.index.specs.declared.index.KeyIndex.{KeyIndex}
use Rattle.records.specs.declared.record.Record.{Record}
use Rattle.cache_core.specs.Tied.{Tied, TiedWithin}

module _ {K V : Type 0} {mean : K → List ℕ} {hashed : List ℕ → ℕ} {c : ℕ} {rs : List (Record K V)} {s : Parts ℕ ℕ ℕ} {i j : KeyIndex} (t : Tied mean hashed c rs s i j) where
  pub loosened : TiedWithin mean hashed c rs s i j
  loosened = record { sized = (let e = t.sized in omega arith); residents = t.residents; remembered = t.remembered; alone = t.alone }

  -- a call that keeps the capacity and the table's length leaves none spare
  pub exact : {c' : ℕ} {rs' : List (Record K V)} {s' : Parts ℕ ℕ ℕ} {i' j' : KeyIndex} → c' ≡ c → length rs' ≡ length rs → TiedWithin mean hashed c' rs' s' i' j' → Tied mean hashed c' rs' s' i' j'
  exact capacity long w = record { sized = capacity ∙ (t.sized ∙ sym long); residents = w.residents; remembered = w.remembered; alone = w.alone }
