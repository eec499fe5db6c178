-- A newcomer seated with one value and then given another is seated with the other.
use Rattle.std.proofs.Common.{◌≡◌, ℕ, ◌<◌, Bool, true, false, List, [], ◌∷◌, ◌++◌, map, refl, ap, ◌∙◌, arith}
use Rattle.std.proofs.lemmas.List.{map-append}
use Rattle.machine.specs.declared.report.Part.{Part}
use Rattle.machine.specs.declared.report.Part.TheVariants.{Small, Main}
use Rattle.machine.specs.Limits.{window}
use Rattle.machine.specs.Replacement.{Mark, Resident, Parts, Vacated, marked, young, plain, aged, seated_in}
use Rattle.machine.specs.Machine.{Item, Cell, same, relaid, relaid_if, lays, settled, place_of}
use Rattle.machine_laws.proofs.Carried.{carry_all, carry_vacated, carry}
use Rattle.handles.proofs.Meaning.{alike_decides}
use Rattle.index.specs.Ties.{occurs}
use Rattle.cache_core.specs.View.{places}
use Rattle.cache_core.proofs.Looked.{here, same_alike}
use Rattle.cache_core.proofs.Leaving.{items, items_append}

module _ {V : Type 0} (w : List ℕ) (x : V) where
  relaid_other : (r : Resident (Item V)) → same w r.item.word ≡ false → relaid w x r ≡ r
  relaid_other r e = ap (λ (b : Bool). record { item = relaid_if b x r.item; mark = r.mark }) e

  module _ (item : ℕ → Item V) (age : Mark → Mark) where
    kept : (xs : List (Resident ℕ)) → ((q : ℕ) → 0 < occurs q (items xs) → same w (item q).word ≡ false) → map (relaid w x) (map (λ r. marked (age r.mark) r) (carry_all item xs)) ≡ map (λ r. marked (age r.mark) r) (carry_all item xs)
    kept [] other = refl
    kept (r ∷ xs) other =
        let a = relaid_other (record { item = item r.item; mark = age r.mark }) (other r.item (here r.item (items xs))) in
        let b = kept xs (λ q some. other q (omega arith)) in
        cc

  plainly : (item : ℕ → Item V) (xs : List (Resident ℕ)) → ((q : ℕ) → 0 < occurs q (items xs) → same w (item q).word ≡ false) → map (relaid w x) (carry_all item xs) ≡ carry_all item xs
  plainly item [] other = refl
  plainly item (r ∷ xs) other =
      let a = relaid_other (record { item = item r.item; mark = r.mark }) (other r.item (here r.item (items xs))) in
      let b = plainly item xs (λ q some. other q (omega arith)) in
      cc

  own : same w w ≡ true
  own = same_alike w w ∙ (alike_decides w w).1 refl

  newcomer : (place : ℕ) (y : V) (m : Mark) → relaid w x (record { item = record { word = w; place = place; value = y }; mark = m }) ≡ record { item = record { word = w; place = place; value = x }; mark = m }
  newcomer place y m = ap (λ (b : Bool). record { item = relaid_if b x (record { word = w; place = place; value = y }); mark = m }) own

  module _ (item : ℕ → Item V) (g : ℕ → List ℕ) (p : ℕ → Cell V) (c : ℕ) (y : V) where
    seats : (part : Part) (place : ℕ) (s : Parts ℕ ℕ ℕ) → ((q : ℕ) → 0 < occurs q (places s) → same w (item q).word ≡ false) → lays w x (seated_in c part (record { word = w; place = place; value = y }) (carry item g p s)) ≡ seated_in c part (record { word = w; place = place; value = x }) (carry item g p s)
    seats Small place s other =
        let a = newcomer place y (young 0) in
        let b = kept item (aged (window c)) s.small (λ q some. other q (let z = items_append q s.small s.main in omega arith)) in
        let e = plainly item s.main (λ q some. other q (let z = items_append q s.small s.main in omega arith)) in
        λ k. record { small = a k ∷ b k; main = e k; remembered = map g s.remembered; free = map p s.free; opened = s.opened }
    seats Main place s other =
        let a = newcomer place y plain in
        let b = plainly item s.small (λ q some. other q (let z = items_append q s.small s.main in omega arith)) in
        let e = plainly item s.main (λ q some. other q (let z = items_append q s.small s.main in omega arith)) in
        let f = map-append (relaid w x) (carry_all item s.main) (record { item = record { word = w; place = place; value = y }; mark = plain } ∷ []) in
        λ k. record { small = b k; main = (f ∙ (ap (λ (l : List (Resident (Item V))). l ++ relaid w x (record { item = record { word = w; place = place; value = y }; mark = plain }) ∷ []) e ∙ ap (λ (r : Resident (Item V)). carry_all item s.main ++ r ∷ []) a)) k; remembered = map g s.remembered; free = map p s.free; opened = s.opened }

    pub settles : (v : Vacated ℕ ℕ ℕ) → ((q : ℕ) → 0 < occurs q (places v.parts) → same w (item q).word ≡ false) → lays w x (settled c w y (carry_vacated item g p v)) ≡ settled c w x (carry_vacated item g p v)
    settles v other = seats v.joins (place_of (carry_vacated item g p v).spot) v.parts other
