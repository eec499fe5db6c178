-- Positions round a ring of n slots: unbounded numbers, of which only the remainder by n counts.
use Rattle.std.proofs.Common.{◌≡◌, ℕ, ◌+◌, ◌-◌, ◌*◌, ◌/◌, ◌%◌, ◌^◌, ◌<◌, ◌≤◌, Bool, true, false, cond, ◌||◌, eqb, ◌⊎◌, sym, refl, ap, ◌∙◌, inl, inr, mod-lt, mod-eq_of_lt, arith, lit≤}
use native.Mathlib.Nat.{mod-mod, mod-add-mod, add-mod_right, add-mod-mod}
use lib.Bits.{bit_and}
use Rattle.std.proofs.lemmas.Nat.{and_mask}
use Rattle.std.proofs.lemmas.Bool.Decides.{eqb_tells, leb_tells}
use Rattle.handles.specs.Slots.{allowed, room}

pub round : (n a b j : ℕ) → a % n ≡ b % n → (a + j) % n ≡ (b + j) % n
round n a b j e = sym (mod-add-mod a n j) ∙ ap (λ (x : ℕ). (x + j) % n) e ∙ mod-add-mod b n j

-- what follows one slot after equal positions follows equal positions
pub back : (n a b : ℕ) → 0 < n → (a + 1) % n ≡ (b + 1) % n → a % n ≡ b % n
back n a b h e =
    let f = round n (a + 1) (b + 1) (n - 1) e in
    let x : a + 1 + (n - 1) ≡ a + n = omega arith in
    let y : b + 1 + (n - 1) ≡ b + n = omega arith in
    sym (add-mod_right a n) ∙ ap (λ (z : ℕ). z % n) (sym x) ∙ f ∙ ap (λ (z : ℕ). z % n) y ∙ add-mod_right b n

pub small : (n x : ℕ) → x < n + n → ((x < n) × (x % n ≡ x)) ⊎ ((n ≤ x) × (x % n ≡ x - n))
small n x h =
    elim (leb_tells n x) [
      | inl t ↦
          let le : n ≤ x = t.1 in
          let lt : x - n < n = omega arith in
          let e : x - n + n ≡ x = omega arith in
          inr (le, ap (λ (z : ℕ). z % n) (sym e) ∙ add-mod_right (x - n) n ∙ mod-eq_of_lt lt)
      | inr t ↦ inl (t.1, mod-eq_of_lt t.1)
    ]

-- fewer than n steps on, but not none, is another slot
pub apart : (n p j : ℕ) → 0 < j → j < n → (p + j) % n ≡ p % n → ⊥
apart n p j pos lt e =
    let n0 : 0 < n = omega arith in
    let r = mod-lt p n0 in
    let two : p % n + j < n + n = omega arith in
    let f : (p % n + j) % n ≡ p % n = mod-add-mod p n j ∙ e in
    elim (small n (p % n + j) two) [ inl t ↦ omega (arith, t.0, t.1) | inr t ↦ omega (arith, t.0, t.1) ]

-- every position is fewer than n steps on from every other
pub rebase : (n t p : ℕ) → 0 < n → (j : ℕ) × (j < n) × ((t + j) % n ≡ p % n)
rebase n t p h =
    let a = mod-lt t h in
    let b = mod-lt p h in
    let e : t % n + (p % n + n - t % n) ≡ p % n + n = omega arith in (
      (p % n + n - t % n) % n,
      mod-lt (p % n + n - t % n) h,
      add-mod-mod t (p % n + n - t % n) n ∙ sym (mod-add-mod t n (p % n + n - t % n))
          ∙ ap (λ (z : ℕ). z % n) e ∙ add-mod_right (p % n) n ∙ mod-mod p n,
    )

abbrev pub Power : ℕ → Type 0
Power n = (k : ℕ) × (n ≡ 2 ^ k) × (16 ≤ n) × (n ≤ 4096)

or_rest : (a rest : Bool) → a ≡ false → (a || rest) ≡ true → rest ≡ true
or_rest true rest e h = absurd (cc)
or_rest false rest e h = h

power_or : (n v k : ℕ) (rest : Bool) → v ≡ 2 ^ k → 16 ≤ v → v ≤ 4096 → (rest ≡ true → Power n) → (eqb n v || rest) ≡ true → Power n
power_or n v k rest e lo hi more h =
    elim (eqb_tells n v) [
      | inl t ↦ (k, t.1 ∙ e, omega (arith, t.1), omega (arith, t.1))
      | inr t ↦ more (or_rest (eqb n v) rest t.0 h)
    ]

-- an allowed slot count that is not 0 is a power of two
pub power : (n : ℕ) → allowed n ≡ true → 0 < n → Power n
power n h pos =
    elim (eqb_tells n 0) [
      | inl t ↦ absurd (omega (arith, t.1))
      | inr t ↦
          (let last : eqb n 4096 ≡ true → Power n =
          λ q. elim (eqb_tells n 4096) [
            | inl u ↦ (12, u.1, omega (arith, u.1), omega (arith, u.1))
            | inr u ↦ absurd (let z : true ≡ false = sym q ∙ u.0 in cc)
          ] in
          power_or n 16 4 _ refl (lit≤ tt) (lit≤ tt)
          (power_or n 32 5 _ refl (lit≤ tt) (lit≤ tt)
          (power_or n 64 6 _ refl (lit≤ tt) (lit≤ tt)
          (power_or n 128 7 _ refl (lit≤ tt) (lit≤ tt)
          (power_or n 256 8 _ refl (lit≤ tt) (lit≤ tt)
          (power_or n 512 9 _ refl (lit≤ tt) (lit≤ tt)
          (power_or n 1024 10 _ refl (lit≤ tt) (lit≤ tt)
          (power_or n 2048 11 _ refl (lit≤ tt) (lit≤ tt) last)))))))
          (or_rest (eqb n 0) _ t.0 h))
    ]

-- the mask is the remainder
pub masked : (n x : ℕ) → allowed n ≡ true → 0 < n → bit_and x (n - 1) ≡ x % n
masked n x h pos =
    let (k, e, lo, hi) = power n h pos in
    ap (λ (m : ℕ). bit_and x (m - 1)) e ∙ and_mask x k ∙ ap (λ (m : ℕ). x % m) (sym e)

-- slots take fewer entries than they are
pub room_below : (n : ℕ) → 0 < n → room n < n
room_below n pos =
    elim (allowed n) as (λ b. cond b (n * 3 / 4) 0 < n) [ true ↦ omega arith | false ↦ pos ]

pub roomy_allowed : (n k : ℕ) → k < room n → allowed n ≡ true
roomy_allowed n k h =
    (elim (allowed n) as (λ b. k < cond b (n * 3 / 4) 0 → b ≡ true) [ true ↦ λ _. refl | false ↦ λ z. absurd (omega arith) ]) h
