-- Of places no two of which bear one key, the first that bears a key is the only one.
use Rattle.std.proofs.Common.{◌≡◌, ℕ, ◌<◌, ◌≤◌, Bool, true, false, eqb, ◌⊎◌, List, length, Some, Option, sym, refl, ap, ◌∙◌, inl, inr, eq-eqb}
use Rattle.std.proofs.lemmas.Bool.Decides.{eqb_tells}
use Rattle.machine.specs.Machine.{same}
use Rattle.handles.specs.Seek.{first_by}
use Rattle.handle_laws.specs.Runs.{how_many}
use Rattle.index.specs.Filed.{bears}
use Rattle.index.specs.Ties.{occurs}
use Rattle.index.proofs.Firsts.{first_only, first_passes}
use Rattle.index.proofs.Tied.{key_is}
use Rattle.records.specs.declared.column.Column.{Column}
use Rattle.records.specs.declared.record.Record.{Record}
use Rattle.records.specs.Columns.{word_at}
use Rattle.cache_core.specs.View.{word_in}
use Rattle.cache_core.proofs.Looked.{same_bears}

some_inj : (a b : ℕ) → Some a ≡ Some b → a ≡ b
some_inj a b e = let q : a ≡ b = cc in q

module _ {K V : Type 0} (mean : K → List ℕ) (column : Column) (rs : List (Record K V)) (w : List ℕ) (xs : List ℕ) (place : ℕ) (found : Some place ≡ first_by (bears (word_at mean column rs) w) xs) where
  abbrev lying : ℕ → Option (List ℕ)
  lying = word_at mean column rs

  pub passes : (bears lying w place ≡ true) × (0 < occurs place xs)
  passes = let f = first_passes (bears lying w) xs place (sym found) in (f.0, f.1 (eqb place) (eq-eqb place place refl))

  pub its_word : lying place ≡ Some w
  its_word = key_is w (lying place) passes.0

  pub only : ((q : ℕ) → 0 < occurs q xs → q < length rs) → how_many (bears lying w) xs ≤ 1 → (q : ℕ) → 0 < occurs q xs → same w (word_in mean column rs q) ≡ eqb q place
  only within one q some = same_bears mean column rs w q (within q some) ∙ decide (eqb_tells q place)
    where
      lacks : (b : Bool) → bears lying w q ≡ b → (q ≡ place → ⊥) → b ≡ false
      lacks false h ne = refl
      lacks true h ne = absurd (ne (some_inj q place (first_only (bears lying w) xs q h some one ∙ sym found)))

      decide : ((eqb q place ≡ true) × (q ≡ place)) ⊎ ((eqb q place ≡ false) × (q ≡ place → ⊥)) → bears lying w q ≡ eqb q place
      decide (inl e) = ap (bears lying w) e.1 ∙ (passes.0 ∙ sym e.0)
      decide (inr e) = lacks (bears lying w q) refl e.1 ∙ sym e.0
