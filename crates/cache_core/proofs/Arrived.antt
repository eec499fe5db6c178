-- An insertion at places is the machine's insertion of keys and values, over the records with the new key laid.
use Rattle.std.proofs.Common.{◌≡◌, ℕ, zero, suc, ◌<◌, Bool, true, false, List, [], ◌∷◌, map, length, take, Some, None, Option, sym, refl, ap, ◌∙◌, arith}
use Rattle.std.specs.Option.{option_map}
use Rattle.machine.specs.Limits.{ghost_limit}
use Rattle.machine.specs.Replacement.{Resident, Parts, Ended, Spot, reused, fresh, Vacated, ended, vacated, seated}
use Rattle.machine.specs.Machine.{Item, Cell, cell_of, place_of}
use Rattle.machine_laws.proofs.Carried.{carry_all, carry_resident, carry_spot, carry_vacated, TailNoted, vacated_carried, seated_carried}
use Rattle.policy.specs.Insertion.{place_at}
use Rattle.index.specs.Ties.{occurs}
use Rattle.records.specs.declared.column.Column.{Column}
use Rattle.records.specs.declared.column.Column.TheVariants.{Resident as of_resident, Remembered as of_ghost}
use Rattle.records.specs.declared.record.Record.{Record}
use Rattle.records.specs.Columns.{keyed}
use Rattle.records.proofs.Keyed.{key_here, key_elsewhere, remembered_stays, resident_stays}
use Rattle.cache_core.specs.View.{places, or_empty, value_at, word_in, item_at, cell_at, seen}
use Rattle.cache_core.proofs.Looked.{here}
use Rattle.cache_core.proofs.Leaving.{items, items_append, from_small, note_free, ghost_switch, small_place}

-- ## What a laid key changes

module _ {K V : Type 0} where
  -- no value
  pub value_keyed : (d : V) (column : Column) (rs : List (Record K V)) (p : ℕ) (k : K) (q : ℕ) → value_at d (keyed column rs p k) q ≡ value_at d rs q
  value_keyed d column [] p k q = refl
  value_keyed d of_resident (r ∷ rs) zero k zero = refl
  value_keyed d of_ghost (r ∷ rs) zero k zero = refl
  value_keyed d column (r ∷ rs) zero k (suc q) = refl
  value_keyed d column (r ∷ rs) (suc p) k zero = refl
  value_keyed d column (r ∷ rs) (suc p) k (suc q) = value_keyed d column rs p k q

  module _ (mean : K → List ℕ) where
    pub word_keyed : (column : Column) (rs : List (Record K V)) (p : ℕ) (k : K) (q : ℕ) → (q ≡ p → ⊥) → word_in mean column (keyed column rs p k) q ≡ word_in mean column rs q
    word_keyed column rs p k q ne = ap (λ o. or_empty (option_map mean o)) (key_elsewhere column rs p k q ne)

    pub word_laid : (column : Column) (rs : List (Record K V)) (p : ℕ) (k : K) → p < length rs → word_in mean column (keyed column rs p k) p ≡ mean k
    word_laid column rs p k h = ap (λ o. or_empty (option_map mean o)) (key_here column rs p k h)

    pub ghost_keyed : (rs : List (Record K V)) (p : ℕ) (k : K) (q : ℕ) → word_in mean of_ghost (keyed of_resident rs p k) q ≡ word_in mean of_ghost rs q
    ghost_keyed rs p k q = ap (λ o. or_empty (option_map mean o)) (remembered_stays rs p k q)

    pub resident_keyed : (rs : List (Record K V)) (p : ℕ) (k : K) (q : ℕ) → word_in mean of_resident (keyed of_ghost rs p k) q ≡ word_in mean of_resident rs q
    resident_keyed rs p k q = ap (λ o. or_empty (option_map mean o)) (resident_stays rs p k q)

-- ## Carrying by functions that agree

pub map_agree : {B : Type 0} (f g : ℕ → B) (xs : List ℕ) → ((q : ℕ) → f q ≡ g q) → map f xs ≡ map g xs
map_agree f g [] same = refl
map_agree f g (x ∷ xs) same = let a = same x in let b = map_agree f g xs same in cc

pub carry_agree : {B : Type 0} (f g : ℕ → B) (xs : List (Resident ℕ)) → ((q : ℕ) → 0 < occurs q (items xs) → f q ≡ g q) → carry_all f xs ≡ carry_all g xs
carry_agree f g [] same = refl
carry_agree {B} f g (x ∷ xs) same =
    let a : carry_resident f x ≡ carry_resident g x = ap (λ (y : B). record { item = y; mark = x.mark }) (same x.item (here x.item (items xs))) in
    let b = carry_agree f g xs (λ q some. same q (omega arith)) in
    cc

spot_agree : {F : Type 0} (f g : ℕ → F) (sp : Spot ℕ) → ((q : ℕ) → f q ≡ g q) → carry_spot (λ (x : ℕ). x) (λ (x : ℕ). x) f sp ≡ carry_spot (λ (x : ℕ). x) (λ (x : ℕ). x) g sp
spot_agree f g (reused x) same = ap reused (same x)
spot_agree f g (fresh n) same = refl

module _ {R₁ G₁ F₁ : Type 0} (f f' : ℕ → R₁) (g g' : ℕ → G₁) (p p' : ℕ → F₁) where
  pub vacated_agree : (v : Vacated ℕ ℕ ℕ) → ((q : ℕ) → 0 < occurs q (places v.parts) → f q ≡ f' q) → ((q : ℕ) → g q ≡ g' q) → ((q : ℕ) → p q ≡ p' q) → carry_vacated f g p v ≡ carry_vacated f' g' p' v
  vacated_agree v ef eg ep =
      let a = carry_agree f f' v.parts.small (λ q some. ef q (let t = items_append q v.parts.small v.parts.main in omega arith)) in
      let b = carry_agree f f' v.parts.main (λ q some. ef q (let t = items_append q v.parts.small v.parts.main in omega arith)) in
      let c = map_agree g g' v.parts.remembered eg in
      let e = map_agree p p' v.parts.free ep in
      let h = spot_agree p p' v.spot ep in
      λ i.
      record {
        parts = record { small = a i; main = b i; remembered = c i; free = e i; opened = v.parts.opened };
        spot = h i;
        joins = v.joins;
        left = v.left;
        chances = v.chances;
      }

-- ## The two halves

module _ {K V : Type 0} (mean : K → List ℕ) (d : V) (c : ℕ) (known : Bool) (s : Parts ℕ ℕ ℕ) (node : ℕ) where
  -- the policy's first half
  abbrev pub halfway : Vacated ℕ ℕ ℕ
  halfway = vacated (λ _. node) (λ q. q) c known s

  -- the machine's first half over the same records
  abbrev pub meant : List (Record K V) → Vacated (Item V) (List ℕ) (Cell V)
  meant rs = vacated (λ i. i.word) cell_of c known (seen mean d rs s)

  module _ (rs : List (Record K V)) where
    abbrev item : ℕ → Item V
    item = item_at mean d rs

    abbrev cell : ℕ → Cell V
    cell = cell_at mean d rs

    abbrev word : ℕ → List ℕ
    word = word_in mean of_ghost rs

    always : (o : Option (Ended (Resident ℕ))) → TailNoted item word cell (λ _. node) (λ q. q) (λ _. word node) cell_of (λ _. refl) c o
    always None = tt
    always (Some e) = refl

    -- nobody leaves Small
    pub arrived_plain : from_small halfway.left ≡ false → meant rs ≡ carry_vacated item word cell halfway
    arrived_plain e =
        let carried = vacated_carried item word cell (λ _. node) (λ q. q) (λ _. word node) cell_of (λ _. refl) c known s (always (ended s.small)) in
        let free : from_small (vacated (λ _. word node) cell_of c known (seen mean d rs s)).left ≡ false = ap (λ (x : Vacated (Item V) (List ℕ) (Cell V)). from_small x.left) carried ∙ e in
        sym (note_free cell_of c (seen mean d rs s) (λ _. word node) (λ i. i.word) known free) ∙ carried

    -- the tail of Small leaves, and its key is laid at the node: rs' are the records with it
    module _ (rs' : List (Record K V)) (e : from_small halfway.left ≡ true) (laid : word_in mean of_ghost rs' node ≡ word_in mean of_resident rs (place_at halfway.spot)) where
      abbrev word' : ℕ → List ℕ
      word' = word_in mean of_ghost rs'

      tail_noted : (o : Option (Ended (Resident ℕ))) → ended s.small ≡ o → TailNoted item word' cell (λ _. node) (λ q. q) (λ i. i.word) cell_of (λ _. refl) c o
      tail_noted None h = tt
      tail_noted (Some t) h =
          let at = small_place (λ q. q) c s (λ _. node) [] known t h e in
          sym (laid ∙ ap (λ (x : Spot ℕ). word_in mean of_resident rs (place_at x)) at)

      pub arrived_noted : ((x : List ℕ) → take (ghost_limit c) (x ∷ map word' s.remembered) ≡ take (ghost_limit c) (x ∷ map word s.remembered)) → meant rs ≡ carry_vacated item word' cell halfway
      arrived_noted same =
          let carried = vacated_carried item word' cell (λ _. node) (λ q. q) (λ i. i.word) cell_of (λ _. refl) c known s (tail_noted (ended s.small) refl) in
          let after : Parts (Item V) (List ℕ) (Cell V) = record { small = carry_all item s.small; main = carry_all item s.main; remembered = map word' s.remembered; free = map cell s.free; opened = s.opened } in
          let small : from_small (vacated (λ i. i.word) cell_of c known after).left ≡ true = ap (λ (x : Vacated (Item V) (List ℕ) (Cell V)). from_small x.left) carried ∙ e in
          sym (ghost_switch cell_of c after (λ i. i.word) (map word s.remembered) known small same) ∙ carried

  pub place_carried : (p : ℕ → Cell V) → ((q : ℕ) → (p q).place ≡ q) → (sp : Spot ℕ) → place_of (carry_spot (λ (x : ℕ). x) (λ (x : ℕ). x) p sp) ≡ place_at sp
  place_carried p own (reused x) = own x
  place_carried p own (fresh n) = refl

  -- the newcomer is seated, with its key laid in its place and the value that lies there: rs'' are the records then
  pub arrived :
      (rs rs' rs'' : List (Record K V)) (place : ℕ) (newcomer : List ℕ) → place ≡ place_at halfway.spot →
      meant rs ≡ carry_vacated (item_at mean d rs) (word_in mean of_ghost rs') (cell_at mean d rs) halfway →
      ((q : ℕ) → 0 < occurs q (places halfway.parts) → word_in mean of_resident rs'' q ≡ word_in mean of_resident rs q) →
      ((q : ℕ) → word_in mean of_ghost rs'' q ≡ word_in mean of_ghost rs' q) →
      ((q : ℕ) → value_at d rs'' q ≡ value_at d rs q) →
      word_in mean of_resident rs'' place ≡ newcomer →
      seen mean d rs'' (seated c halfway place) ≡ seated c (meant rs) (record { word = newcomer; place = place_of (meant rs).spot; value = value_at d rs place })
  arrived rs rs' rs'' place newcomer at first words ghosts values laid =
      let item'' = item_at mean d rs'' in
      let agree = vacated_agree item'' (item_at mean d rs) (word_in mean of_ghost rs'') (word_in mean of_ghost rs') (cell_at mean d rs'') (cell_at mean d rs) halfway
      (λ q some. let a = words q some in let b = values q in cc) ghosts (λ q. let b = values q in cc) in
      let where_it_is : place_of (meant rs).spot ≡ place =
      ap (λ (x : Vacated (Item V) (List ℕ) (Cell V)). place_of x.spot) first ∙ (place_carried (cell_at mean d rs) (λ q. refl) halfway.spot ∙ sym at) in
      let who : item'' place ≡ record { word = newcomer; place = place_of (meant rs).spot; value = value_at d rs place } =
      (let a = laid in let b = values place in let h = sym where_it_is in cc) in
      sym (seated_carried item'' (word_in mean of_ghost rs'') (cell_at mean d rs'') c halfway place)
      ∙ (ap (λ (x : Vacated (Item V) (List ℕ) (Cell V)). seated c x (item'' place)) (agree ∙ sym first)
      ∙ ap (seated c (meant rs)) who)
