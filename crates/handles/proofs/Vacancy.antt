-- A table with fewer entries than slots has an empty slot, so that every walk and every run ends within one round.
use Rattle.std.proofs.Common.{◌≡◌, ℕ, zero, suc, ◌+◌, ◌/◌, ◌%◌, ◌<◌, ◌≤◌, cond, eqb, List, [], ◌∷◌, length, ap, ◌∙◌, inl, inr, mod-eq_of_lt, arith}
use Rattle.std.proofs.lemmas.Bool.Decides.{eqb_tells}
use Rattle.handles.specs.Slots.{meta_of, rank, rank_of, Local, occupied, empty}
use Rattle.handles.specs.declared.slot.Slot.{Slot}
use Rattle.handles.proofs.Ring.{rebase}
use Rattle.handles.proofs.Ranks.{rank_same}

-- what one slot counts
abbrev pub full : ℕ → ℕ
full m = cond (eqb m empty) 0 1

pub rank_empty : (m : ℕ) → m ≡ empty → rank_of m ≡ 0
rank_empty m e = ap rank_of e

pub empty_rank : (m : ℕ) → rank_of m ≡ 0 → m ≡ empty
empty_rank m e =
    elim (eqb_tells m empty) [
      | inl t ↦ t.1
      | inr t ↦ absurd (let f : rank_of m ≡ m / 256 + 1 = ap (λ b. cond b 0 (m / 256 + 1)) t.0 in omega arith)
    ]

pub rank_pos : (m : ℕ) → (m ≡ empty → ⊥) → rank_of m ≡ m / 256 + 1
rank_pos m ne =
    elim (eqb_tells m empty) [ inl t ↦ absurd (ne t.1) | inr t ↦ ap (λ b. cond b 0 (m / 256 + 1)) t.0 ]

pub full_one : (m : ℕ) → (m ≡ empty → ⊥) → full m ≡ 1
full_one m ne = elim (eqb_tells m empty) [ inl t ↦ absurd (ne t.1) | inr t ↦ ap (λ b. cond b 0 1) t.0 ]

module _ {X : Type 0} where
  -- some slot is empty
  pub gap : (xs : List (Slot X)) → occupied xs < length xs → (i : ℕ) × (i < length xs) × (meta_of xs i ≡ empty)
  gap [] h = absurd (omega arith)
  gap (s ∷ xs) h =
      elim (eqb_tells s.meta empty) [
        | inl t ↦ (0, omega arith, t.1)
        | inr t ↦
            (let e : full s.meta ≡ 1 = ap (λ b. cond b 0 1) t.0 in
            let lt : occupied xs < length xs = omega arith in
            let (i, below, is) = gap xs lt in
            (suc i, omega arith, is))
      ]

  -- from every position, some slot within one round is empty
  pub gap_from : (n : ℕ) (xs : List (Slot X)) (p : ℕ) → n ≡ length xs → occupied xs < n → (j : ℕ) × (j < n) × (rank n xs (p + j) ≡ 0)
  gap_from n xs p len h =
      let lt : occupied xs < length xs = omega arith in
      let (i, below, is) = gap xs lt in
      let pos : 0 < n = omega arith in
      let (j, near, at) = rebase n p i pos in
      let small : i % n ≡ i = mod-eq_of_lt (omega arith) in
      (j, near, ap (λ (k : ℕ). rank_of (meta_of xs k)) (at ∙ small) ∙ rank_empty (meta_of xs i) is)

  -- along a sound ring, the rank falls by one at most at each step back
  pub climb : (n : ℕ) (xs : List (Slot X)) → Local n xs → (p j : ℕ) → rank n xs (p + j) ≤ rank n xs p + j
  climb n xs local p zero = let e : p + 0 ≡ p = omega arith in rw e (omega arith)
  climb n xs local p (suc j) =
      let ih = climb n xs local p j in
      let e : p + suc j ≡ p + j + 1 = omega arith in
      let l = local (p + j) in
      rw e (omega arith)

  -- every rank is below the slot count
  pub rank_below : (n : ℕ) (xs : List (Slot X)) → n ≡ length xs → occupied xs < n → Local n xs → (p : ℕ) → rank n xs p < n
  rank_below n xs len h local p =
      let (j, near, is) = gap_from n xs 0 len h in
      let pos : 0 < n = omega arith in
      let (i, close, at) = rebase n (0 + j) p pos in
      let c = climb n xs local (0 + j) i in
      let e = rank_same n xs (0 + j + i) p at in
      omega arith
