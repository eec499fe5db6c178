-- Places mapped to what they carry: what a list keeps, loses and has.
use Rattle.std.proofs.Common.{◌≡◌, ℕ, suc, ◌+◌, ◌≤◌, true, false, cond, not, eqb, List, [], ◌∷◌, map, replicate, filter, sym, refl, ap, ◌∙◌, subst, inl, inr, arith}
use Rattle.std.proofs.lemmas.Bool.{cases_eq, eq-eqb, ne_eqb}
use Rattle.links.specs.Rows.{occurs, without}
use Rattle.links.proofs.Counts.{occurs_same, occurs_other}
use Rattle.machine.specs.Replacement.{Resident}
use Rattle.queues.specs.Held.{has}

pub eqb_sym : (a b : ℕ) → eqb a b ≡ eqb b a
eqb_sym a b =
    elim (cases_eq a b) [
      | inl e ↦ eq-eqb a b e ∙ sym (eq-eqb b a (sym e))
      | inr e ↦ ne_eqb a b e ∙ sym (ne_eqb b a (λ i. e (sym i)))
    ]

-- functions that agree on a list's nodes map it alike
pub map_same : {B : Type 0} (f g : ℕ → B) (xs : List ℕ) → ((q : ℕ) → 1 ≤ occurs q xs → f q ≡ g q) → map f xs ≡ map g xs
map_same f g [] h = refl
map_same f g (x ∷ xs) h =
    let here = h x (let s = occurs_same x xs in omega arith) in
    let rest = map_same f g xs (λ q o. h q (omega arith)) in
    cc

module _ (f : ℕ → Resident ℕ) (own : (q : ℕ) → (f q).item ≡ q) (p : ℕ) where
  pub kept_without : (xs : List ℕ) → filter (λ r. not (eqb r.item p)) (map f xs) ≡ map f (without p xs)
  kept_without [] = refl
  kept_without (x ∷ xs) =
      let ih = kept_without xs in
      let e : eqb (f x).item p ≡ eqb p x = ap (λ (q : ℕ). eqb q p) (own x) ∙ eqb_sym x p in
      rw e
      (elim (eqb p x) as (λ b. cond (not b) (f x ∷ filter (λ r. not (eqb r.item p)) (map f xs)) (filter (λ r. not (eqb r.item p)) (map f xs)) ≡ map f (cond b (without p xs) (x ∷ without p xs)))
      [ true ↦ ih | false ↦ ap (λ (rs : List (Resident ℕ)). f x ∷ rs) ih ])

  pub kept_only : (xs : List ℕ) → map (λ r. r.item) (filter (λ r. eqb r.item p) (map f xs)) ≡ replicate (occurs p xs) p
  kept_only [] = refl
  kept_only (x ∷ xs) =
      let ih = kept_only xs in
      elim (cases_eq p x) [
        | inl e ↦
            let i : (f x).item ≡ p = own x ∙ sym e in
            let n : occurs p (x ∷ xs) ≡ suc (occurs p xs) = subst (λ (q : ℕ). occurs p (q ∷ xs) ≡ suc (occurs p xs)) e (let s = occurs_same p xs in omega arith) in
            rw (n, eq-eqb (f x).item p i) (let j = i in cc)
        | inr e ↦
            let n = occurs_other p x xs e in
            rw (n, ne_eqb (f x).item p (λ i. e (sym i ∙ own x))) ih
      ]

  pub has_some : (xs : List ℕ) → 1 ≤ occurs p xs → has p (map f xs) ≡ true
  has_some [] h = absurd (omega arith)
  has_some (x ∷ xs) h =
      elim (cases_eq p x) [
        | inl e ↦ rw (eq-eqb (f x).item p (own x ∙ sym e))
        | inr e ↦
            let n = occurs_other p x xs e in
            rw (ne_eqb (f x).item p (λ i. e (sym i ∙ own x))) (has_some xs (omega arith))
      ]

  pub has_none : (xs : List ℕ) → occurs p xs ≡ 0 → has p (map f xs) ≡ false
  has_none [] h = refl
  has_none (x ∷ xs) h =
      elim (cases_eq p x) [
        | inl e ↦ let s = subst (λ (q : ℕ). occurs p (q ∷ xs) ≡ 1 + occurs p xs) e (occurs_same p xs) in absurd (omega arith)
        | inr e ↦
            let n = occurs_other p x xs e in
            rw (ne_eqb (f x).item p (λ i. e (sym i ∙ own x))) (has_none xs (omega arith))
      ]
