-- A sum over n places of a function that repeats after n is the same from every place on.
use Rattle.std.proofs.Common.{◌≡◌, ℕ, zero, suc, ◌+◌, ◌<◌, ◌≤◌, refl, ap, ◌∙◌, arith}

abbrev pub sum_from : (ℕ → ℕ) → ℕ → ℕ → ℕ
sum_from g d zero = 0
sum_from g d (suc left) = g d + sum_from g (d + 1) left

pub sum_snoc : (g : ℕ → ℕ) (d left : ℕ) → sum_from g d (suc left) ≡ sum_from g d left + g (d + left)
sum_snoc g d zero = let e : d + 0 ≡ d = omega arith in let f = ap g e in omega arith
sum_snoc g d (suc left) =
    let ih = sum_snoc g (d + 1) left in
    let e : d + 1 + left ≡ d + suc left = omega arith in
    let f = ap g e in
    omega arith

pub sum_turn : (g : ℕ → ℕ) (n d : ℕ) → ((p : ℕ) → g (p + n) ≡ g p) → sum_from g (d + 1) n ≡ sum_from g d n
sum_turn g n d again = let a = sum_snoc g d n in let b = again d in omega arith

pub sum_round : (g : ℕ → ℕ) (n h : ℕ) → ((p : ℕ) → g (p + n) ≡ g p) → sum_from g h n ≡ sum_from g 0 n
sum_round g n zero again = refl
sum_round g n (suc h) again =
    let ih = sum_round g n h again in
    let t = sum_turn g n h again in
    let e : suc h ≡ h + 1 = omega arith in
    ap (λ (k : ℕ). sum_from g k n) e ∙ t ∙ ih

pub sum_same : (f g : ℕ → ℕ) (d left : ℕ) → ((k : ℕ) → d ≤ k → k < d + left → f k ≡ g k) → sum_from f d left ≡ sum_from g d left
sum_same f g d zero same = refl
sum_same f g d (suc left) same =
    let h = same d (omega arith) (omega arith) in
    let ih = sum_same f g (d + 1) left (λ k lo hi. same k (omega arith) (omega arith)) in
    omega arith

pub sum_none : (f : ℕ → ℕ) (d left : ℕ) → ((k : ℕ) → d ≤ k → k < d + left → f k ≡ 0) → sum_from f d left ≡ 0
sum_none f d zero none = refl
sum_none f d (suc left) none =
    let h = none d (omega arith) (omega arith) in
    let ih = sum_none f (d + 1) left (λ k lo hi. none k (omega arith) (omega arith)) in
    omega arith

-- the same sum with its places counted from h
pub sum_shift : (g : ℕ → ℕ) (h d left : ℕ) → sum_from (λ k. g (h + k)) d left ≡ sum_from g (h + d) left
sum_shift g h d zero = refl
sum_shift g h d (suc left) =
    let ih = sum_shift g h (d + 1) left in
    let e : h + (d + 1) ≡ h + d + 1 = omega arith in
    let f = ap (λ (k : ℕ). sum_from g k left) e in
    omega arith

pub sum_suc : (g : ℕ → ℕ) (d left : ℕ) → sum_from g (suc d) left ≡ sum_from (λ k. g (suc k)) d left
sum_suc g d zero = refl
sum_suc g d (suc left) =
    let ih = sum_suc g (d + 1) left in
    let e : suc d + 1 ≡ suc (d + 1) = omega arith in
    let f = ap (λ (k : ℕ). sum_from g k left) e in
    omega arith
