-- One weighing of all that the slots hold: what a write changes in it, and the count of entries as a weighing.
use Rattle.std.proofs.Common.{◌≡◌, ℕ, zero, suc, ◌+◌, ◌-◌, ◌/◌, ◌%◌, ◌<◌, ◌≤◌, cond, eqb, List, [], ◌∷◌, length, get_or, set, sym, ap, ◌∙◌, inl, inr, le_of_suc-le-suc, mod-lt, arith}
use native.Mathlib.Nat.{add-mod_right, mod-add-mod}
use Rattle.std.proofs.lemmas.Bool.Decides.{eqb_tells}
use Rattle.handles.specs.Slots.{meta_of, weight, weigh_from, occupied, empty, home_of}
use Rattle.handles.specs.Shift.{further, nearer}
use Rattle.handles.specs.declared.slot.Slot.{Slot}
use Rattle.handles.proofs.Ring.{small}
use Rattle.handles.proofs.Vacancy.{full}

module _ {X : Type 0} where
  pub weigh_set : (w : ℕ → ℕ → X → ℕ) (n b : ℕ) (xs : List (Slot X)) (i : ℕ) (s d : Slot X) → i < length xs → weigh_from w n b (set xs i s) + weight w n (b + i) (get_or xs i d) ≡ weigh_from w n b xs + weight w n (b + i) s
  weigh_set w n b [] i s d h = absurd (omega arith)
  weigh_set w n b (x ∷ xs) zero s d h = let e : b + 0 ≡ b = omega arith in rw e (omega arith)
  weigh_set w n b (x ∷ xs) (suc i) s d h =
      let ih = weigh_set w n (suc b) xs i s d (le_of_suc-le-suc h) in
      let e : b + suc i ≡ suc b + i = omega arith in
      rw e (omega arith)

  pub occupied_set : (xs : List (Slot X)) (i : ℕ) (s : Slot X) → i < length xs → occupied (set xs i s) + full (meta_of xs i) ≡ occupied xs + full s.meta
  occupied_set [] i s h = absurd (omega arith)
  occupied_set (x ∷ xs) zero s h = omega arith
  occupied_set (x ∷ xs) (suc i) s h = let ih = occupied_set xs i s (le_of_suc-le-suc h) in omega arith

  pub occupied_le : (xs : List (Slot X)) → occupied xs ≤ length xs
  occupied_le [] = omega arith
  occupied_le (x ∷ xs) =
      let ih = occupied_le xs in
      elim (eqb_tells x.meta empty) [
        | inl t ↦ (let e : full x.meta ≡ 0 = ap (λ b. cond b 0 1) t.0 in omega arith)
        | inr t ↦ (let e : full x.meta ≡ 1 = ap (λ b. cond b 0 1) t.0 in omega arith)
      ]

  -- the weight of an occupied slot
  pub weight_full : (w : ℕ → ℕ → X → ℕ) (n i : ℕ) (s : Slot X) → (s.meta ≡ empty → ⊥) → weight w n i s ≡ w (home_of n i s.meta) (s.meta % 256) s.handle
  weight_full w n i s ne =
      elim (eqb_tells s.meta empty) [
        | inl t ↦ absurd (ne t.1)
        | inr t ↦ ap (λ b. cond b 0 (w (home_of n i s.meta) (s.meta % 256) s.handle)) t.0
      ]

  pub weight_empty : (w : ℕ → ℕ → X → ℕ) (n i : ℕ) (s : Slot X) → s.meta ≡ empty → weight w n i s ≡ 0
  weight_empty w n i s e = ap (λ (m : ℕ). cond (eqb m empty) 0 (w (home_of n i m) (m % 256) s.handle)) e

-- one slot on and one displacement more is the same home
pub home_drift : (n p d : ℕ) → 0 < n → d < n → ((p + 1) % n + n - (d + 1)) % n ≡ (p % n + n - d) % n
home_drift n p d pos lt =
    let r = mod-lt p pos in
    let two : p % n + 1 < n + n = omega arith in
    let e = mod-add-mod p n 1 in
    elim (small n (p % n + 1) two) [
      | inl t ↦
          (let f : (p + 1) % n + n - (d + 1) ≡ p % n + n - d = omega (arith, t.1) in
          ap (λ (z : ℕ). z % n) f)
      | inr t ↦
          (let f : (p + 1) % n + n - (d + 1) + n ≡ p % n + n - d = omega (arith, t.0, t.1) in
          sym (add-mod_right ((p + 1) % n + n - (d + 1)) n) ∙ ap (λ (z : ℕ). z % n) f)
    ]

module _ {X : Type 0} where
  -- an entry weighs the same one slot further
  pub weight_further : (w : ℕ → ℕ → X → ℕ) (n p : ℕ) (s : Slot X) → 0 < n → n ≤ 4096 → (s.meta ≡ empty → ⊥) → s.meta / 256 < n → weight w n ((p + 1) % n) (further s) ≡ weight w n (p % n) s
  weight_further w n p s pos hi ne lt =
      let ne' : s.meta + 256 ≡ empty → ⊥ = λ e. omega arith in
      let q : (s.meta + 256) / 256 ≡ s.meta / 256 + 1 = omega arith in
      let m : (s.meta + 256) % 256 ≡ s.meta % 256 = omega arith in
      let h : home_of n ((p + 1) % n) (s.meta + 256) ≡ home_of n (p % n) s.meta =
      ap (λ (k : ℕ). ((p + 1) % n + n - k) % n) q ∙ home_drift n p (s.meta / 256) pos lt in
      weight_full w n ((p + 1) % n) (further s) ne'
      ∙ ap (λ (z : ℕ). w z ((s.meta + 256) % 256) s.handle) h
      ∙ ap (λ (z : ℕ). w (home_of n (p % n) s.meta) z s.handle) m
      ∙ sym (weight_full w n (p % n) s ne)

  -- and one slot nearer
  pub weight_nearer : (w : ℕ → ℕ → X → ℕ) (n p : ℕ) (s : Slot X) → 0 < n → n ≤ 4096 → 256 ≤ s.meta → (s.meta ≡ empty → ⊥) → s.meta / 256 < n → weight w n (p % n) (nearer s) ≡ weight w n ((p + 1) % n) s
  weight_nearer w n p s pos hi lo ne lt =
      let ne' : s.meta - 256 ≡ empty → ⊥ = λ e. omega arith in
      let lt' : (s.meta - 256) / 256 < n = omega arith in
      let back : s.meta - 256 + 256 ≡ s.meta = omega arith in
      sym (weight_further w n p (nearer s) pos hi ne' lt')
      ∙ ap (λ (m : ℕ). weight w n ((p + 1) % n) (record { meta = m; handle = s.handle })) back
