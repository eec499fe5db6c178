-- A resident named by its place is the one with its key: a use of it, and its leaving.
use Rattle.std.proofs.Common.{◌≡◌, ℕ, zero, suc, ◌+◌, ◌<◌, Bool, true, false, cond, not, ◌||◌, eqb, List, [], ◌∷◌, ◌++◌, map, length, Some, filter, Option, sym, refl, ap, ◌∙◌, subst, inl, inr, arith, eq-eqb}
use Rattle.std.specs.List.{AllByRecursion}
use Rattle.std.proofs.lemmas.Bool.Decides.{eqb_tells}
use Rattle.std.proofs.lemmas.List.{map-append}
use Rattle.machine.specs.Replacement.{Resident, Parts, hit, uses, drops}
use Rattle.machine.specs.Machine.{same, is_at, cell_of}
use Rattle.machine_laws.proofs.Carried.{uses_carried, drops_carried, map_kept}
use Rattle.queues.specs.Held as queues
use Rattle.handles.specs.Seek.{first_by}
use Rattle.handle_laws.specs.Runs.{how_many}
use Rattle.index.specs.declared.index.KeyIndex.{KeyIndex}
use Rattle.index.specs.Filed.{bears}
use Rattle.index.specs.Ties.{occurs, Ties}
use Rattle.index.proofs.Joined.{Alike, alike_count, alike_kept, counts_none}
use Rattle.records.specs.declared.column.Column.TheVariants.{Resident as of_resident, Remembered as of_ghost}
use Rattle.records.specs.declared.record.Record.{Record}
use Rattle.records.specs.Columns.{word_at}
use Rattle.cache_core.specs.View.{places, word_in, item_at, cell_at, seen}
use Rattle.cache_core.specs.Tied.{TiedWithin}
use Rattle.cache_core.proofs.Looked.{here}
use Rattle.cache_core.proofs.Only.{passes, its_word, only}
use Rattle.cache_core.proofs.Standing.{Orderly}
use Rattle.cache_core.proofs.Leaving.{items, items_append}
use Rattle.cache_core.proofs.Ghosts.{others}

pub all_items : (P : ℕ → Type 0) (xs : List (Resident ℕ)) → ((q : ℕ) → 0 < occurs q (items xs) → P q) → AllByRecursion (λ r. P r.item) xs
all_items P [] h = tt
all_items P (x ∷ xs) h = (h x.item (here x.item (items xs)), all_items P xs (λ q some. h q (omega arith)))

items_hit : (at : ℕ → Bool) (xs : List (Resident ℕ)) → items (map (hit at) xs) ≡ items xs
items_hit at [] = refl
items_hit at (x ∷ xs) = ap (λ (l : List ℕ). x.item ∷ l) (items_hit at xs)

pub places_uses : (at : ℕ → Bool) (s : Parts ℕ ℕ ℕ) → places (uses at s) ≡ places s
places_uses at s =
    map-append (λ r. r.item) (map (hit at) s.small) (map (hit at) s.main)
    ∙ (ap (λ (l : List ℕ). l ++ items (map (hit at) s.main)) (items_hit at s.small)
    ∙ (ap (λ (l : List ℕ). items s.small ++ l) (items_hit at s.main) ∙ sym (map-append (λ r. r.item) s.small s.main)))

pub kept_both : {A : Type 0} (t : A → Bool) (xs ys : List A) → filter t (xs ++ ys) ≡ filter t xs ++ filter t ys
kept_both t [] ys = refl
kept_both {A} t (x ∷ xs) ys =
    let ih = kept_both t xs ys in
    elim (t x) as (λ b. cond b (x ∷ filter t (xs ++ ys)) (filter t (xs ++ ys)) ≡ cond b (x ∷ filter t xs) (filter t xs) ++ filter t ys) [
      | true ↦ ap (λ (l : List A). x ∷ l) ih
      | false ↦ ih
    ]

all_refl : (t : ℕ → Bool) (xs : List (Resident ℕ)) → AllByRecursion (λ r. t r.item ≡ t r.item) xs
all_refl t [] = tt
all_refl t (x ∷ xs) = (refl, all_refl t xs)

pub places_drops : (place : ℕ) (s : Parts ℕ ℕ ℕ) → places (drops (λ _ ps. ps) (λ q. q) (λ q. eqb q place) s) ≡ others place (places s)
places_drops place s =
    ap items (sym (kept_both (λ r. not (eqb r.item place)) s.small s.main))
    ∙ map_kept (λ r. r.item) (λ r. not (eqb r.item place)) (λ q. not (eqb q place)) (s.small ++ s.main) (all_refl (λ q. not (eqb q place)) (s.small ++ s.main))

has_items : (p : ℕ) (xs : List (Resident ℕ)) → 0 < occurs p (items xs) → queues.has p xs ≡ true
has_items p [] some = absurd (omega arith)
has_items p (x ∷ xs) some =
    elim (eqb_tells p x.item) [
      | inl e ↦ ap (λ b. b || queues.has p xs) (eq-eqb x.item p (sym e.1))
      | inr e ↦
          (let z = counts_none (eqb p x.item) e.0 in
          ap (λ b. eqb x.item p || b) (has_items p xs (omega arith)) ∙ or_true (eqb x.item p))
    ]
  where
    or_true : (b : Bool) → b || true ≡ true
    or_true true = refl
    or_true false = refl

either : (m n : ℕ) (p q : Bool) → 0 < m + n → (0 < m → p ≡ true) → (0 < n → q ≡ true) → p || q ≡ true
either zero n p q some f g = ap (λ z. p || z) (g (omega arith)) ∙ or_right p
  where
    or_right : (z : Bool) → z || true ≡ true
    or_right true = refl
    or_right false = refl
either (suc m) n p q some f g = ap (λ z. z || q) (f (omega arith))

pub resides_there : (p : ℕ) (s : Parts ℕ ℕ ℕ) → 0 < occurs p (places s) → queues.resides p s ≡ true
resides_there p s some =
    either (occurs p (items s.small)) (occurs p (items s.main)) (queues.has p s.small) (queues.has p s.main)
    (let a = items_append p s.small s.main in omega arith) (has_items p s.small) (has_items p s.main)

module _ {K V : Type 0} (mean : K → List ℕ) (rs : List (Record K V)) (w : List ℕ) (hashed : List ℕ → ℕ) (c : ℕ) (s : Parts ℕ ℕ ℕ) (i j : KeyIndex) (place : ℕ) (t : TiedWithin mean hashed c rs s i j) (o : Orderly c s) (within : (q : ℕ) → 0 < occurs q (places s) → q < length rs) (found : Some place ≡ first_by (bears (word_at mean of_resident rs) w) (places s)) where
  abbrev lying : ℕ → Option (List ℕ)
  lying = word_at mean of_resident rs

  there : (bears lying w place ≡ true) × (0 < occurs place (places s))
  there = passes mean of_resident rs w (places s) place found

  pub place_there : 0 < occurs place (places s)
  place_there = there.1

  pub place_word : lying place ≡ Some w
  place_word = its_word mean of_resident rs w (places s) place found

  pub place_apart : Alike (places s) (place ∷ others place (places s))
  place_apart = alike_kept place (places s) (let a = o.once place in let b = there.1 in omega arith)

  pub only_place : (q : ℕ) → 0 < occurs q (places s) → same w (word_in mean of_resident rs q) ≡ eqb q place
  only_place = only mean of_resident rs w (places s) place found within (t.residents.apart w)

  small_only : AllByRecursion (λ r. same w (word_in mean of_resident rs r.item) ≡ eqb r.item place) s.small
  small_only = all_items (λ q. same w (word_in mean of_resident rs q) ≡ eqb q place) s.small (λ q some. only_place q (let a = items_append q s.small s.main in omega arith))

  main_only : AllByRecursion (λ r. same w (word_in mean of_resident rs r.item) ≡ eqb r.item place) s.main
  main_only = all_items (λ q. same w (word_in mean of_resident rs q) ≡ eqb q place) s.main (λ q some. only_place q (let a = items_append q s.small s.main in omega arith))

  pub uses_place : (d : V) → seen mean d rs (uses (λ q. eqb q place) s) ≡ uses (is_at w) (seen mean d rs s)
  uses_place d =
      uses_carried (item_at mean d rs) (word_in mean of_ghost rs) (cell_at mean d rs) (λ q. eqb q place) (is_at w) s small_only main_only

  pub drops_place : (d : V) → seen mean d rs (drops (λ _ ps. ps) (λ q. q) (λ q. eqb q place) s) ≡ drops (λ _ cells. cells) cell_of (is_at w) (seen mean d rs s)
  drops_place d =
      drops_carried (item_at mean d rs) (word_in mean of_ghost rs) (cell_at mean d rs) (λ q. q) cell_of (λ r. refl) (λ _ ps. ps) (λ _ cells. cells) (λ n xs. refl) (λ q. eqb q place) (is_at w) s small_only main_only

  pub drops_tied : (i' : KeyIndex) → Ties hashed lying (others place (places s)) i' → TiedWithin mean hashed c rs (drops (λ _ ps. ps) (λ q. q) (λ q. eqb q place) s) i' j
  drops_tied i' ti =
      record {
        sized = t.sized;
        residents = subst (λ (ps : List ℕ). Ties hashed lying ps i') (sym (places_drops place s)) ti;
        remembered = t.remembered;
        alone = λ x.
            (let a = t.alone x in
            let b = alike_count (bears lying x) (places s) (place ∷ others place (places s)) place_apart in
            let e = ap (how_many (bears lying x)) (places_drops place s) in
            omega arith);
      }

pub uses_tied : {K V : Type 0} (mean : K → List ℕ) (hashed : List ℕ → ℕ) (c : ℕ) (rs : List (Record K V)) (s : Parts ℕ ℕ ℕ) (i j : KeyIndex) (at : ℕ → Bool) → TiedWithin mean hashed c rs s i j → TiedWithin mean hashed c rs (uses at s) i j
uses_tied mean hashed c rs s i j at t =
    record {
      sized = t.sized;
      residents = subst (λ (ps : List ℕ). Ties hashed (word_at mean of_resident rs) ps i) (sym (places_uses at s)) t.residents;
      remembered = t.remembered;
      alone = λ x. (let a = t.alone x in let e = ap (how_many (bears (word_at mean of_resident rs) x)) (places_uses at s) in omega arith);
    }
