-- Which place holds a key: by the key, and by the place itself.
use Rattle.std.proofs.Common.{◌≡◌, ℕ, ◌+◌, ◌<◌, ◌≤◌, Bool, true, false, cond, ◌&&◌, ◌||◌, eqb, List, [], ◌∷◌, length, Some, None, Option, sym, refl, ap, ◌∙◌, subst, inl, inr, arith, eq-eqb}
use Rattle.std.specs.Bool.{then_some}
use Rattle.std.specs.Option.{option_map}
use Rattle.std.proofs.lemmas.Bool.Decides.{eqb_tells}
use Rattle.machine.specs.Replacement.{Resident, Parts}
use Rattle.machine.specs.Machine.{Item, in_place, look}
use Rattle.queues.specs.Held as queues
use Rattle.handles.specs.Seek.{first_by}
use Rattle.handle_laws.specs.Runs.{how_many}
use Rattle.index.specs.declared.index.KeyIndex.{KeyIndex}
use Rattle.index.specs.Filed.{bears}
use Rattle.index.specs.Ties.{occurs}
use Rattle.index.proofs.Firsts.{counts_one, not_both, first_passes, first_only}
use Rattle.records.specs.declared.column.Column.TheVariants.{Resident as of_resident}
use Rattle.records.specs.declared.record.Record.{Record}
use Rattle.records.specs.Columns.{word_at}
use Rattle.policy.specs.View.{view}
use Rattle.cache_core.specs.declared.inner.Inner.{Inner}
use Rattle.cache_core.specs.Admitting.{Absent}
use Rattle.cache_core.specs.View.{places, item_at, seen}
use Rattle.cache_core.specs.Tied.{TiedWithin}
use Rattle.cache_core.proofs.Looked.{look_first}
use Rattle.cache_core.proofs.Standing.{Orderly}
use Rattle.cache_core.proofs.Leaving.{items, items_append}
use Rattle.cache_core.proofs.Residing.{resides_there}

-- ## Where a place is

has_count : (p : ℕ) (xs : List (Resident ℕ)) → queues.has p xs ≡ true → 0 < occurs p (items xs)
has_count p [] e = absurd (not_both false e refl)
has_count p (x ∷ xs) e =
    elim (eqb_tells p x.item) [
      | inl s ↦ (let o = counts_one (eqb p x.item) s.0 in omega arith)
      | inr s ↦ (let ih = has_count p xs (rest (eqb x.item p) refl e s.1) in omega arith)
    ]
  where
    rest : (b : Bool) → eqb x.item p ≡ b → b || queues.has p xs ≡ true → (p ≡ x.item → ⊥) → queues.has p xs ≡ true
    rest true t q ne = absurd (ne (elim (eqb_tells x.item p) [ inl s ↦ sym s.1 | inr s ↦ absurd (not_both (eqb x.item p) t s.0) ]))
    rest false t q ne = q

either_count : (a b : Bool) (m n : ℕ) → a || b ≡ true → (a ≡ true → 0 < m) → (b ≡ true → 0 < n) → 0 < m + n
either_count true b m n e f g = let z = f refl in omega arith
either_count false b m n e f g = let z = g e in omega arith

pub resides_count : (p : ℕ) (s : Parts ℕ ℕ ℕ) → queues.resides p s ≡ true → 0 < occurs p (places s)
resides_count p s e =
    let a = items_append p s.small s.main in
    let b = either_count (queues.has p s.small) (queues.has p s.main) (occurs p (items s.small)) (occurs p (items s.main)) e (has_count p s.small) (has_count p s.main) in
    omega arith

-- ## What is found

pub bears_first : (a b : Bool) → a && b ≡ true → a ≡ true
bears_first true b e = refl
bears_first false b e = e

-- where no place passes, none is counted
pub none_count : (f : ℕ → Bool) (xs : List ℕ) → None ≡ first_by f xs → how_many f xs ≡ 0
none_count f [] e = refl
none_count f (x ∷ xs) e =
    (elim (f x) as (λ b. None ≡ cond b (Some x) (first_by f xs) → cond b 1 0 + how_many f xs ≡ 0) [
      | true ↦ λ q. absurd (let z : ◌≡◌ {A = ℕ} 0 1 = cc in omega arith)
      | false ↦ λ q. (let ih = none_count f xs q in omega arith)
    ]) e

in_its_place : {V : Type 0} (p : ℕ) (i : Item V) (b : Bool) → eqb p i.place ≡ b → in_place p (Some i) ≡ cond b (Some i) None
in_its_place p i b e = ap (λ (z : Bool). cond z (Some i) None) e

module _ {K V : Type 0} (mean : K → List ℕ) (hashed : List ℕ → ℕ) (rs : List (Record K V)) (w : List ℕ) (c : ℕ) (s : Parts ℕ ℕ ℕ) (i j : KeyIndex) (t : TiedWithin mean hashed c rs s i j) (o : Orderly c s) (within : (q : ℕ) → 0 < occurs q (places s) → q < length rs) where
  abbrev lying : ℕ → Option (List ℕ)
  lying = word_at mean of_resident rs

  pub stands_first : (p : ℕ) → bears lying w p && queues.resides p s ≡ true → Some p ≡ first_by (bears lying w) (places s)
  stands_first p e =
      first_only (bears lying w) (places s) p (bears_first (bears lying w p) (queues.resides p s) e) (resides_count p s (right (bears lying w p) (queues.resides p s) e)) (t.residents.apart w)
    where
      right : (a b : Bool) → a && b ≡ true → b ≡ true
      right true b q = q
      right false b q = absurd (not_both false q refl)

  looked : (d : V) → look w (seen mean d rs s) ≡ option_map (item_at mean d rs) (first_by (bears lying w) (places s))
  looked d = sym (look_first mean d rs w s within)

  pub stands_looked : (d : V) (p : ℕ) → bears lying w p && queues.resides p s ≡ true → Some (item_at mean d rs p) ≡ in_place p (look w (seen mean d rs s))
  stands_looked d p e =
      sym (ap (in_place p) (looked d ∙ ap (option_map (item_at mean d rs)) (sym (stands_first p e))) ∙ in_its_place p (item_at mean d rs p) true (eq-eqb p p refl))

  -- another place, or none, is the key's
  elsewhere : (d : V) (p : ℕ) → bears lying w p && queues.resides p s ≡ false → (q : Option ℕ) → q ≡ first_by (bears lying w) (places s) → None ≡ in_place p (option_map (item_at mean d rs) q)
  elsewhere d p e None f = refl
  elsewhere d p e (Some q) f =
      sym (in_its_place p (item_at mean d rs q) false (elim (eqb_tells p q) [ inl same ↦ absurd (not_both (bears lying w p && queues.resides p s) (both same.1) e) | inr other ↦ other.0 ]))
    where
      both : p ≡ q → bears lying w p && queues.resides p s ≡ true
      both is =
          let h = first_passes (bears lying w) (places s) q (sym f) in
          let a : bears lying w p ≡ true = ap (bears lying w) is ∙ h.0 in
          let b : queues.resides p s ≡ true = ap (λ (n : ℕ). queues.resides n s) is ∙ resides_there q s (h.1 (eqb q) (eq-eqb q q refl)) in
          ap (λ (z : Bool). z && queues.resides p s) a ∙ b

  pub stands_not : (d : V) (p : ℕ) → bears lying w p && queues.resides p s ≡ false → None ≡ in_place p (look w (seen mean d rs s))
  stands_not d p e = elsewhere d p e (first_by (bears lying w) (places s)) refl ∙ ap (in_place p) (sym (looked d))

  -- no resident is past the capacity
  pub none_past : (p : ℕ) → c ≤ p → bears lying w p && queues.resides p s ≡ false
  none_past p past = cut (queues.resides p s) refl
    where
      falsely : (b : Bool) → b && false ≡ false
      falsely true = refl
      falsely false = refl

      cut : (b : Bool) → queues.resides p s ≡ b → bears lying w p && b ≡ false
      cut true e = absurd (let h = resides_count p s e in let l = o.within p (omega arith) in let u = o.opened in omega arith)
      cut false e = falsely (bears lying w p)

-- what holds of both outcomes of a test holds of the value that the test lets through
pub by_test : {A : Type 0} (P : Option A → Type 0) (b : Bool) (a : A) (o : Option A) → o ≡ then_some b a → (b ≡ true → P (Some a)) → (b ≡ false → P None) → P o
by_test P true a o is passes fails = subst P (sym is) (passes refl)
by_test P false a o is passes fails = subst P (sym is) (fails refl)

-- a key that no place bears is no resident's
pub nobody : {K V : Type 0} (mean : K → List ℕ) (hashed : List ℕ → ℕ) (x : Inner K V) (w : List ℕ) → None ≡ first_by (bears (word_at mean of_resident x.records.now) w) (places (view x.policy.core)) → Absent mean hashed w x
nobody mean hashed x w none = none_count (bears (word_at mean of_resident x.records.now) w) (places (view x.policy.core)) none
