-- How often a node stands in a list, with and without another.
use Rattle.std.proofs.Common.{◌≡◌, ℕ, zero, suc, ◌+◌, ◌≤◌, true, false, cond, eqb, List, [], ◌∷◌, ◌++◌, length, refl, ap, ◌∙◌, inl, inr, arith}
use Rattle.std.proofs.lemmas.List.{append-nil}
use Rattle.std.proofs.lemmas.Bool.{cases_eq, eq-eqb, ne_eqb, cases_Bool}
use Rattle.std.proofs.lemmas.Bool.Decides.{nat_tests}
use Rattle.links.specs.Rows.{occurs, without}

pub occurs_same : (p : ℕ) (xs : List ℕ) → occurs p (p ∷ xs) ≡ 1 + occurs p xs
occurs_same p xs = rw (eq-eqb p p refl)

pub occurs_other : (p x : ℕ) (xs : List ℕ) → (p ≡ x → ⊥) → occurs p (x ∷ xs) ≡ occurs p xs
occurs_other p x xs h = rw (ne_eqb p x h) (omega arith)

pub occurs_append : (p : ℕ) (xs ys : List ℕ) → occurs p (xs ++ ys) ≡ occurs p xs + occurs p ys
occurs_append p [] ys = omega arith
occurs_append p (x ∷ xs) ys = let ih = occurs_append p xs ys in omega arith

pub without_absent : (p : ℕ) (xs : List ℕ) → occurs p xs ≡ 0 → without p xs ≡ xs
without_absent p [] h = refl
without_absent p (x ∷ xs) h =
    let e : eqb p x ≡ false = grind (arith, nat_tests, cases_Bool (eqb p x)) in
    let z : occurs p xs ≡ 0 = omega arith in
    rw e (ap (λ (r : List ℕ). x ∷ r) (without_absent p xs z))

pub without_append : (p : ℕ) (xs ys : List ℕ) → without p (xs ++ ys) ≡ without p xs ++ without p ys
without_append p [] ys = refl
without_append p (x ∷ xs) ys =
    let ih = without_append p xs ys in
    (elim (eqb p x) as (λ b. cond b (without p (xs ++ ys)) (x ∷ without p (xs ++ ys)) ≡ cond b (without p xs) (x ∷ without p xs) ++ without p ys) [ true ↦ ih | false ↦ ap (λ (r : List ℕ). x ∷ r) ih ])

-- the first, and the last, of a list that holds it once
pub without_first : (p : ℕ) (xs : List ℕ) → occurs p (p ∷ xs) ≤ 1 → without p (p ∷ xs) ≡ xs
without_first p xs h =
    let s = occurs_same p xs in
    let z : occurs p xs ≡ 0 = omega arith in
    rw (eq-eqb p p refl) (without_absent p xs z)

pub without_last : (p : ℕ) (xs : List ℕ) → occurs p (xs ++ p ∷ []) ≤ 1 → without p (xs ++ p ∷ []) ≡ xs
without_last p xs h =
    let s = occurs_append p xs (p ∷ []) in
    let t = occurs_same p [] in
    let z : occurs p xs ≡ 0 = omega arith in
    let e = without_append p xs (p ∷ []) in
    let f = without_absent p xs z in
    let g : without p (p ∷ []) ≡ [] = rw (eq-eqb p p refl) in
    e ∙ (ap (λ (r : List ℕ). without p xs ++ r) g ∙ simp append-nil f)

pub length_without : (p : ℕ) (xs : List ℕ) → length xs ≡ occurs p xs + length (without p xs)
length_without p [] = omega arith
length_without p (x ∷ xs) =
    let ih = length_without p xs in
    (elim (eqb p x) as (λ b. suc (length xs) ≡ (cond b 1 0 + occurs p xs) + length (cond b (without p xs) (x ∷ without p xs))) [ true ↦ omega arith | false ↦ omega arith ])

pub occurs_lost : (p : ℕ) (xs : List ℕ) → occurs p (without p xs) ≡ 0
occurs_lost p [] = refl
occurs_lost p (x ∷ xs) =
    let ih = occurs_lost p xs in
    (elim (eqb p x) as (λ b. eqb p x ≡ b → occurs p (cond b (without p xs) (x ∷ without p xs)) ≡ 0) [ true ↦ λ e. ih | false ↦ λ e. rw e (omega arith) ]) refl

pub occurs_kept : (q p : ℕ) (xs : List ℕ) → (q ≡ p → ⊥) → occurs q (without p xs) ≡ occurs q xs
occurs_kept q p [] h = refl
occurs_kept q p (x ∷ xs) h =
    let ih = occurs_kept q p xs h in
    (elim (eqb p x) as (λ b. eqb p x ≡ b → occurs q (cond b (without p xs) (x ∷ without p xs)) ≡ cond (eqb q x) 1 0 + occurs q xs) [
      | true ↦ λ e. grind (arith, nat_tests)
      | false ↦ λ e. omega arith
    ]) refl

-- a list of numbers below n, none twice, is no longer than n
pub short : (n : ℕ) (xs : List ℕ) → ((p : ℕ) → occurs p xs ≤ 1) → ((p : ℕ) → n ≤ p → occurs p xs ≡ 0) → length xs ≤ n
short zero [] once low = omega arith
short zero (x ∷ xs) once low = let z = low x (omega arith) in let s = occurs_same x xs in absurd (omega arith)
short (suc n) xs once low =
    let ih =
    short n (without n xs)
    (λ p. elim (cases_eq p n) [ inl e ↦ rw e (let z = occurs_lost n xs in omega arith) | inr e ↦ let k = occurs_kept p n xs e in let o = once p in omega arith ])
    (λ p h. elim (cases_eq p n) [ inl e ↦ rw e (occurs_lost n xs) | inr e ↦ let k = occurs_kept p n xs e in let o = low p (omega arith) in omega arith ])
    in
    let l = length_without n xs in
    let o = once n in
    omega arith
