-- The age of a resident after one more admission, the numbers going round at 256.
use Rattle.std.proofs.Common.{◌≡◌, ℕ, suc, ◌+◌, ◌%◌, ◌<◌, ◌≤◌, true, leb, List, [], ◌∷◌, ◌++◌, map, refl, inl, inr, arith}
use Rattle.std.proofs.lemmas.Bool.{cases_eq, and_parts, and_from, leb-true, le-leb}
use Rattle.links.specs.Rows.{occurs}
use Rattle.links.proofs.Counts.{occurs_other, occurs_append, occurs_same as occurs_here}
use Rattle.queues.specs.Slots.{since, rising}

pub since_now : (n : ℕ) → since (n % 256) (n % 256) ≡ 0
since_now n = omega arith

pub since_next : (n a : ℕ) → since n a < 255 → since ((n + 1) % 256) a ≡ since n a + 1
since_next n a h = omega arith

-- numbers one higher rise from one higher on
pub rising_next : (f g : ℕ → ℕ) (a : ℕ) (xs : List ℕ) → ((q : ℕ) → 1 ≤ occurs q xs → g q ≡ f q + 1) → rising a (map f xs) ≡ true → rising (suc a) (map g xs) ≡ true
rising_next f g a [] h r = refl
rising_next f g a (x ∷ xs) h r =
    let p = and_parts (leb a (f x)) (rising (suc (f x)) (map f xs)) r in
    let l = leb-true a (f x) p.0 in
    let e : g x ≡ suc (f x) = let s = h x (let o = occurs_here x xs in omega arith) in omega arith in
    let ih = rising_next f g (suc (f x)) xs (λ q o. h q (omega arith)) p.1 in
    rw e (and_from (leb (suc a) (suc (f x))) (rising (suc (suc (f x))) (map g xs)) (le-leb (suc a) (suc (f x)) (omega arith)) ih)

-- the last of numbers that rise is the highest, and the others are lower
pub rising_low : (f : ℕ → ℕ) (a : ℕ) (xs : List ℕ) → rising a (map f xs) ≡ true → (q : ℕ) → 1 ≤ occurs q xs → a ≤ f q
rising_low f a [] r q o = absurd (omega arith)
rising_low f a (x ∷ xs) r q o =
    let p = and_parts (leb a (f x)) (rising (suc (f x)) (map f xs)) r in
    let l = leb-true a (f x) p.0 in
    elim (cases_eq q x) [
      | inl e ↦ rw e l
      | inr e ↦ let n = occurs_other q x xs e in let ih = rising_low f (suc (f x)) xs p.1 q (omega arith) in omega arith
    ]

pub rising_last : (f : ℕ → ℕ) (a : ℕ) (xs : List ℕ) (z : ℕ) → rising a (map f (xs ++ z ∷ [])) ≡ true → (q : ℕ) → 1 ≤ occurs q xs → f q < f z
rising_last f a [] z r q o = absurd (omega arith)
rising_last f a (x ∷ xs) z r q o =
    let p = and_parts (leb a (f x)) (rising (suc (f x)) (map f (xs ++ z ∷ []))) r in
    elim (cases_eq q x) [
      | inl e ↦
          let l = rising_low f (suc (f x)) (xs ++ z ∷ []) p.1 z (let n = occurs_append z xs (z ∷ []) in let s = occurs_here z [] in omega arith) in
          rw e (omega arith)
      | inr e ↦ let n = occurs_other q x xs e in rising_last f (suc (f x)) xs z p.1 q (omega arith)
    ]
