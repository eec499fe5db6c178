-- Empty indexes are tied to a policy that holds nothing.
use Rattle.std.proofs.Common.{◌≡◌, ℕ, ◌≤◌, List, length, sym, subst, arith}
use Rattle.machine.specs.Replacement.{Parts, nothing}
use Rattle.index.specs.declared.index.KeyIndex.{KeyIndex}
use Rattle.index.specs.Ties.{TiesNone}
use Rattle.records.specs.declared.column.Column.TheVariants.{Resident, Remembered}
use Rattle.records.specs.declared.record.Record.{Record}
use Rattle.records.specs.Columns.{word_at}
use Rattle.cache_core.specs.Tied.{TiedWithin}

pub nothing_tied : {K V : Type 0} (mean : K → List ℕ) (hashed : List ℕ → ℕ) (c : ℕ) (rs : List (Record K V)) (s : Parts ℕ ℕ ℕ) (i j : KeyIndex) → c ≤ length rs → s ≡ nothing → TiesNone i → TiesNone j → TiedWithin mean hashed c rs s i j
nothing_tied mean hashed c rs s i j sized none ti tj =
    subst (λ (p : Parts ℕ ℕ ℕ). TiedWithin mean hashed c rs p i j) (sym none)
    (record {
      sized = sized;
      residents = ti hashed (word_at mean Resident rs);
      remembered = tj hashed (word_at mean Remembered rs);
      alone = λ x. omega arith;
    })
