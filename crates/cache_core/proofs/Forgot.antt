-- A node of Ghost forgotten is a key forgotten, and the indexes stay tied.
use Rattle.std.proofs.Common.{◌≡◌, ℕ, ◌<◌, true, false, cond, not, ◌||◌, eqb, List, [], ◌∷◌, map, length, Some, filter, Option, sym, refl, ap, inl, inr, arith}
use Rattle.std.specs.List.{AllByRecursion}
use Rattle.std.proofs.lemmas.Bool.Decides.{eqb_tells}
use Rattle.links.specs.Rows as rows
use Rattle.machine.specs.Replacement.{Parts, forgets}
use Rattle.machine.specs.Machine.{same, has}
use Rattle.machine_laws.proofs.Carried.{forgets_carried}
use Rattle.handles.specs.Seek.{first_by}
use Rattle.handle_laws.specs.Runs.{how_many}
use Rattle.index.specs.declared.index.KeyIndex.{KeyIndex}
use Rattle.index.specs.Filed.{bears}
use Rattle.index.specs.Ties.{occurs, Ties}
use Rattle.index.proofs.Firsts.{counts_one, not_both}
use Rattle.index.proofs.Joined.{Alike, alike_count, alike_kept}
use Rattle.records.specs.declared.column.Column.TheVariants.{Remembered as of_ghost}
use Rattle.records.specs.declared.record.Record.{Record}
use Rattle.records.specs.Columns.{word_at}
use Rattle.cache_core.specs.View.{word_in, item_at, cell_at, seen}
use Rattle.cache_core.specs.Tied.{TiedWithin}
use Rattle.cache_core.proofs.Looked.{here}
use Rattle.cache_core.proofs.Only.{passes, its_word, only}
use Rattle.cache_core.proofs.Standing.{Orderly, same_occurs}
use Rattle.cache_core.proofs.Ghosts.{others}

all_from : (P : ℕ → Type 0) (xs : List ℕ) → ((q : ℕ) → 0 < occurs q xs → P q) → AllByRecursion P xs
all_from P [] h = tt
all_from P (x ∷ xs) h = (h x (here x xs), all_from P xs (λ q some. h q (omega arith)))

-- a node that stands in a list is held
pub holds_node_lem : (node : ℕ) (xs : List ℕ) → 0 < occurs node xs → not (eqb (rows.occurs node xs) 0) ≡ true
holds_node_lem node xs some =
    let s = same_occurs node xs in
    elim (eqb_tells (rows.occurs node xs) 0) [ inl e ↦ absurd (omega (arith, e.1)) | inr e ↦ ap not e.0 ]

none_forgotten : (w : List ℕ) (xs : List (List ℕ)) → has w xs ≡ false → filter (λ g. not (same w g)) xs ≡ xs
none_forgotten w [] e = refl
none_forgotten w (x ∷ xs) e =
    (elim (same w x) as (λ b. b || has w xs ≡ false → cond (not b) (x ∷ filter (λ g. not (same w g)) xs) (filter (λ g. not (same w g)) xs) ≡ x ∷ xs) [
      | true ↦ λ q. absurd (not_both true refl q)
      | false ↦ λ q. ap (λ (l : List (List ℕ)). x ∷ l) (none_forgotten w xs q)
    ]) e

module _ {K V : Type 0} (mean : K → List ℕ) (rs : List (Record K V)) (w : List ℕ) where
  abbrev lying : ℕ → Option (List ℕ)
  lying = word_at mean of_ghost rs

  -- nothing to forget
  pub forgets_none : (d : V) (s : Parts ℕ ℕ ℕ) → has w (map (word_in mean of_ghost rs) s.remembered) ≡ false → seen mean d rs s ≡ forgets (same w) (seen mean d rs s)
  forgets_none d s e =
      ap (λ (l : List (List ℕ)). record { small = (seen mean d rs s).small; main = (seen mean d rs s).main; remembered = l; free = (seen mean d rs s).free; opened = s.opened })
      (sym (none_forgotten w (map (word_in mean of_ghost rs) s.remembered) e))

  module _ (hashed : List ℕ → ℕ) (c : ℕ) (s : Parts ℕ ℕ ℕ) (i j : KeyIndex) (node : ℕ) (t : TiedWithin mean hashed c rs s i j) (o : Orderly c s) (within : (q : ℕ) → 0 < occurs q s.remembered → q < length rs) (found : Some node ≡ first_by (bears lying w) s.remembered) where
    there : (bears lying w node ≡ true) × (0 < occurs node s.remembered)
    there = passes mean of_ghost rs w s.remembered node found

    pub node_there : 0 < occurs node s.remembered
    node_there = there.1

    pub node_word : lying node ≡ Some w
    node_word = its_word mean of_ghost rs w s.remembered node found

    pub node_apart : Alike s.remembered (node ∷ others node s.remembered)
    node_apart = alike_kept node s.remembered (let a = o.noted_once node in let b = there.1 in omega arith)

    -- the machine forgets the key
    pub forgets_node : (d : V) → seen mean d rs (forgets (λ q. eqb q node) s) ≡ forgets (same w) (seen mean d rs s)
    forgets_node d =
        forgets_carried (item_at mean d rs) (word_in mean of_ghost rs) (cell_at mean d rs) (λ q. eqb q node) (same w) s
        (all_from (λ q. same w (word_in mean of_ghost rs q) ≡ eqb q node) s.remembered (only mean of_ghost rs w s.remembered node found within (t.remembered.apart w)))

    -- and the indexes are right after
    pub forgets_tied : (j' : KeyIndex) → Ties hashed lying (others node s.remembered) j' → TiedWithin mean hashed c rs (forgets (λ q. eqb q node) s) i j' × (how_many (bears lying w) (others node s.remembered) ≡ 0)
    forgets_tied j' tj = (
      record {
        sized = t.sized;
        residents = t.residents;
        remembered = tj;
        alone = λ x.
            (let a = t.alone x in
            let b = alike_count (bears lying x) s.remembered (node ∷ others node s.remembered) node_apart in
            omega arith);
      },
      (let a = t.remembered.apart w in
          let b = alike_count (bears lying w) s.remembered (node ∷ others node s.remembered) node_apart in
          let e = counts_one (bears lying w node) there.0 in
          omega arith),
    )
