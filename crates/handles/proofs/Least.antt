-- The least number at which a function is 0.
use Rattle.std.proofs.Common.{◌≡◌, ℕ, zero, suc, ◌<◌, ◌⊎◌, subst, inl, inr, arith}
use Rattle.std.proofs.lemmas.Bool.{cases_eq}

module _ (f : ℕ → ℕ) where
  abbrev pub NoneBelow : ℕ → Type 0
  NoneBelow b = (i : ℕ) → i < b → f i ≡ 0 → ⊥

  abbrev pub Least : ℕ → Type 0
  Least b = (k : ℕ) × (k < b) × (f k ≡ 0) × NoneBelow k

  none_more : (b : ℕ) → NoneBelow b → (f b ≡ 0 → ⊥) → NoneBelow (suc b)
  none_more b none here i lt z =
      elim (cases_eq i b) [
        | inl e ↦ here (subst (λ (k : ℕ). f k ≡ 0) e z)
        | inr ne ↦ none i (omega arith) z
      ]

  wider : (b : ℕ) → Least b → Least (suc b)
  wider b l = (l.0, omega (arith, l.1), l.2, l.3)

  least_step : (b : ℕ) → NoneBelow b ⊎ Least b → NoneBelow (suc b) ⊎ Least (suc b)
  least_step b (inr l) = inr (wider b l)
  least_step b (inl none) =
      elim (cases_eq (f b) 0) [
        | inl z ↦ inr (b, omega arith, z, none)
        | inr ne ↦ inl (none_more b none ne)
      ]

  least_below : (b : ℕ) → NoneBelow b ⊎ Least b
  least_below zero = inl (λ i lt. absurd (omega arith))
  least_below (suc b) = least_step b (least_below b)

  least_found : (b j : ℕ) → j < b → f j ≡ 0 → NoneBelow b ⊎ Least b → Least b
  least_found b j lt z (inl none) = absurd (none j lt z)
  least_found b j lt z (inr l) = l

  -- where the function is 0 at j, there is a least such number, and it is no greater
  pub least : (j : ℕ) → f j ≡ 0 → Least (suc j)
  least j z = least_found (suc j) j (omega arith) z (least_below (suc j))
