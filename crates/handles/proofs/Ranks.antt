-- Reading and writing one slot: its meta, its rank, and the one local fact of a sound table.
use Rattle.std.proofs.Common.{◌≡◌, ℕ, zero, suc, ◌+◌, ◌%◌, ◌<◌, ◌≤◌, List, [], ◌∷◌, length, get_or, set, refl, ap, ◌∙◌, subst, inl, inr, le_of_suc-le-suc, mod-lt, arith}
use Rattle.std.proofs.lemmas.Bool.{cases_eq}
use Rattle.handles.specs.Slots.{meta_of, rank, rank_of, Local}
use Rattle.handles.specs.declared.slot.Slot.{Slot}
use Rattle.handles.proofs.Ring.{round}

module _ {X : Type 0} where
  pub meta_set_same : (xs : List (Slot X)) (i : ℕ) (s : Slot X) → i < length xs → meta_of (set xs i s) i ≡ s.meta
  meta_set_same [] i s h = absurd (omega arith)
  meta_set_same (x ∷ xs) zero s h = refl
  meta_set_same (x ∷ xs) (suc i) s h = meta_set_same xs i s (le_of_suc-le-suc h)

  pub meta_set_other : (xs : List (Slot X)) (i j : ℕ) (s : Slot X) → (j ≡ i → ⊥) → meta_of (set xs i s) j ≡ meta_of xs j
  meta_set_other [] i j s h = refl
  meta_set_other (x ∷ xs) zero zero s h = absurd (h refl)
  meta_set_other (x ∷ xs) zero (suc j) s h = refl
  meta_set_other (x ∷ xs) (suc i) zero s h = refl
  meta_set_other (x ∷ xs) (suc i) (suc j) s h = meta_set_other xs i j s (λ e. h (ap suc e))

  pub meta_get_d : (xs : List (Slot X)) (i : ℕ) (d : Slot X) → i < length xs → (get_or xs i d).meta ≡ meta_of xs i
  meta_get_d [] i d h = absurd (omega arith)
  meta_get_d (x ∷ xs) zero d h = refl
  meta_get_d (x ∷ xs) (suc i) d h = meta_get_d xs i d (le_of_suc-le-suc h)

  pub rank_same : (n : ℕ) (xs : List (Slot X)) (p q : ℕ) → p % n ≡ q % n → rank n xs p ≡ rank n xs q
  rank_same n xs p q e = ap (λ (i : ℕ). rank_of (meta_of xs i)) e

  pub rank_set_same : (n : ℕ) (xs : List (Slot X)) (p q : ℕ) (s : Slot X) → n ≡ length xs → 0 < n → q % n ≡ p % n → rank n (set xs (p % n) s) q ≡ rank_of s.meta
  rank_set_same n xs p q s len pos e =
      let lt : p % n < length xs = subst (λ (k : ℕ). p % n < k) len (mod-lt p pos) in
      ap (λ (i : ℕ). rank_of (meta_of (set xs (p % n) s) i)) e ∙ ap rank_of (meta_set_same xs (p % n) s lt)

  pub rank_set_other : (n : ℕ) (xs : List (Slot X)) (p q : ℕ) (s : Slot X) → (q % n ≡ p % n → ⊥) → rank n (set xs (p % n) s) q ≡ rank n xs q
  rank_set_other n xs p q s ne = ap rank_of (meta_set_other xs (p % n) (q % n) s ne)

  -- a rank k may be written at p: it is not too far above the slot before, nor the slot after above it
  abbrev pub Level : ℕ → List (Slot X) → ℕ → ℕ → Type 0
  Level n xs p k = ((q : ℕ) → (q + 1) % n ≡ p % n → k ≤ rank n xs q + 1) × (rank n xs (p + 1) ≤ k + 1)

  pub local_set : (n : ℕ) (xs : List (Slot X)) (p : ℕ) (s : Slot X) → n ≡ length xs → 0 < n → Local n xs → Level n xs p (rank_of s.meta) → Local n (set xs (p % n) s)
  local_set n xs p s len pos local level q =
      let l = local q in
      elim (cases_eq ((q + 1) % n) (p % n)) [
        | inl e ↦
            (let a = rank_set_same n xs p (q + 1) s len pos e in
            elim (cases_eq (q % n) (p % n)) [
              | inl f ↦ (let b = rank_set_same n xs p q s len pos f in omega arith)
              | inr f ↦ (let b = rank_set_other n xs p q s f in let h = level.0 q e in omega arith)
            ])
        | inr e ↦
            (let a = rank_set_other n xs p (q + 1) s e in
            elim (cases_eq (q % n) (p % n)) [
              | inl f ↦
                  (let b = rank_set_same n xs p q s len pos f in
                  let c = rank_same n xs (q + 1) (p + 1) (round n q p 1 f) in
                  let h = level.1 in omega arith)
              | inr f ↦ (let b = rank_set_other n xs p q s f in omega arith)
            ])
      ]

  -- the rank read from a slot is the rank of its position
  pub rank_read : (n : ℕ) (xs : List (Slot X)) (p i : ℕ) (d : Slot X) → n ≡ length xs → 0 < n → i ≡ p % n → rank_of (get_or xs i d).meta ≡ rank n xs p
  rank_read n xs p i d len pos e =
      let lt : i < length xs = (let m = mod-lt p pos in omega arith) in
      ap rank_of (meta_get_d xs i d lt) ∙ ap (λ (k : ℕ). rank_of (meta_of xs k)) e
