-- Keys in lists: equality of meanings, membership and counts.
use Rattle.std.proofs.Common.{◌≡◌, ℕ, zero, suc, ◌+◌, ◌≤◌, Bool, true, false, cond, not, ◌||◌, eqb, List, [], ◌∷◌, ◌++◌, take, filter, refl, arith}
use Rattle.std.proofs.lemmas.Bool.{cases_Bool, eqb-true, eq-eqb, and_parts}
use Rattle.machine.specs.Machine.{Word, same, has}
use Rattle.machine_laws.specs.Words.{once, occurs}

pub same_self : (k : Word) → same k k ≡ true
same_self [] = refl
same_self (x ∷ xs) = rw (eq-eqb x x refl) (same_self xs)

pub same_true : (j k : Word) → same j k ≡ true → j ≡ k
same_true [] [] e = refl
same_true [] (y ∷ ys) e = let z : ◌≡◌ {A = ℕ} 0 1 = cc in absurd (omega arith)
same_true (x ∷ xs) [] e = let z : ◌≡◌ {A = ℕ} 0 1 = cc in absurd (omega arith)
same_true (x ∷ xs) (y ∷ ys) e =
    let both = and_parts (eqb x y) (same xs ys) e in
    let p : x ≡ y = eqb-true x y both.0 in
    let q : xs ≡ ys = same_true xs ys both.1 in
    cc

pub once_self : (k : Word) → once k k ≡ 1
once_self k = rw (same_self k) refl

pub once_most : (j k : Word) → once j k ≤ 1
once_most j k = grind (arith, cases_Bool (same j k))

pub none_occurs : (k : Word) (xs : List Word) → has k xs ≡ false → occurs k xs ≡ 0
none_occurs k [] e = refl
none_occurs k (x ∷ xs) e = go (same k x) e (none_occurs k xs)
  where
    go : (b : Bool) → (b || has k xs) ≡ false → (has k xs ≡ false → occurs k xs ≡ 0) → cond b 1 0 + occurs k xs ≡ 0
    go true f ih = let z : ◌≡◌ {A = ℕ} 0 1 = cc in absurd (omega arith)
    go false f ih = let p = ih f in omega arith

pub some_occurs : (k : Word) (xs : List Word) → has k xs ≡ true → 1 ≤ occurs k xs
some_occurs k [] e = let z : ◌≡◌ {A = ℕ} 0 1 = cc in absurd (omega arith)
some_occurs k (x ∷ xs) e = go (same k x) e (some_occurs k xs)
  where
    go : (b : Bool) → (b || has k xs) ≡ true → (has k xs ≡ true → 1 ≤ occurs k xs) → 1 ≤ cond b 1 0 + occurs k xs
    go true f ih = omega arith
    go false f ih = let p = ih f in omega arith

pub occurs_none : (k : Word) (xs : List Word) → occurs k xs ≡ 0 → has k xs ≡ false
occurs_none k xs e = go (has k xs) refl
  where
    go : (b : Bool) → has k xs ≡ b → has k xs ≡ false
    go true f = let p = some_occurs k xs f in absurd (omega arith)
    go false f = f

pub occurs_some : (k : Word) (xs : List Word) → 1 ≤ occurs k xs → has k xs ≡ true
occurs_some k xs e = go (has k xs) refl
  where
    go : (b : Bool) → has k xs ≡ b → has k xs ≡ true
    go true f = f
    go false f = let p = none_occurs k xs f in absurd (omega arith)

pub occurs_append : (k : Word) (xs ys : List Word) → occurs k (xs ++ ys) ≡ occurs k xs + occurs k ys
occurs_append k [] ys = omega arith
occurs_append k (x ∷ xs) ys = let ih = occurs_append k xs ys in omega arith

pub has_append : (k : Word) (xs ys : List Word) → has k (xs ++ ys) ≡ (has k xs || has k ys)
has_append k [] ys = refl
has_append k (x ∷ xs) ys = go (same k x) (has_append k xs ys)
  where
    go : (b : Bool) → has k (xs ++ ys) ≡ (has k xs || has k ys) → (b || has k (xs ++ ys)) ≡ ((b || has k xs) || has k ys)
    go true ih = refl
    go false ih = ih

pub occurs_take : (k : Word) (n : ℕ) (xs : List Word) → occurs k (take n xs) ≤ occurs k xs
occurs_take k zero xs = omega arith
occurs_take k (suc n) [] = omega arith
occurs_take k (suc n) (x ∷ xs) = let ih = occurs_take k n xs in omega arith

pub occurs_kept : (k : Word) (p : Word → Bool) (xs : List Word) → occurs k (filter p xs) ≤ occurs k xs
occurs_kept k p [] = omega arith
occurs_kept k p (x ∷ xs) = go (p x) (occurs_kept k p xs)
  where
    go : (b : Bool) → occurs k (filter p xs) ≤ occurs k xs → occurs k (cond b (x ∷ filter p xs) (filter p xs)) ≤ once k x + occurs k xs
    go true ih = omega arith
    go false ih = omega arith

-- a key that was struck out of a list stands in it no more
pub occurs_struck : (k : Word) (xs : List Word) → occurs k (filter (λ x. not (same k x)) xs) ≡ 0
occurs_struck k [] = refl
occurs_struck k (x ∷ xs) = go (same k x) refl (occurs_struck k xs)
  where
    go : (b : Bool) → same k x ≡ b → occurs k (filter (λ y. not (same k y)) xs) ≡ 0 → occurs k (cond (not b) (x ∷ filter (λ y. not (same k y)) xs) (filter (λ y. not (same k y)) xs)) ≡ 0
    go true f ih = ih
    go false f ih = rw f (omega arith)
