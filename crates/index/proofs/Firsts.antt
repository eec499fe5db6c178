-- The first in a list that passes a test, and how often numbers stand there.
use Rattle.std.proofs.Common.{◌≡◌, ℕ, ◌+◌, ◌<◌, ◌≤◌, Bool, true, false, cond, eqb, List, [], ◌∷◌, Some, None, sym, refl, ap, ◌∙◌, inl, inr, arith, eq-eqb}
use Rattle.std.proofs.lemmas.Bool.Decides.{eqb_tells}
use Rattle.handles.specs.Seek.{first_by}
use Rattle.handle_laws.specs.Runs.{how_many}
use Rattle.index.specs.Ties.{occurs}

pub not_both : (b : Bool) → b ≡ true → b ≡ false → ⊥
not_both b t f = (let q : true ≡ false = sym t ∙ f in cc)

pub counts_one : (b : Bool) → b ≡ true → ◌≡◌ {A = ℕ} (cond b 1 0) 1
counts_one b t = ap (λ z. cond z 1 0) t

module _ {A : Type 0} (f g : A → Bool) (under : (x : A) → g x ≡ true → f x ≡ true) where
  -- a test that passes less counts less
  pub fewer : (xs : List A) → how_many g xs ≤ how_many f xs
  fewer [] = omega arith
  fewer (x ∷ xs) =
      let ih = fewer xs in
      (elim (g x) as (λ b. g x ≡ b → cond b 1 0 + how_many g xs ≤ cond (f x) 1 0 + how_many f xs) [
        | true ↦ λ e. (let o = counts_one (f x) (under x e) in omega arith)
        | false ↦ λ e. omega arith
      ]) refl

module _ {A : Type 0} (f : A → Bool) where
  -- the first that passes does pass, and whatever it passes too counts it
  pub first_passes : (xs : List A) (y : A) → first_by f xs ≡ Some y → (f y ≡ true) × ((g : A → Bool) → g y ≡ true → 0 < how_many g xs)
  first_passes [] y e = absurd (cc)
  first_passes (x ∷ xs) y e =
      (elim (f x) as (λ b. f x ≡ b → cond b (Some x) (first_by f xs) ≡ Some y → (f y ≡ true) × ((g : A → Bool) → g y ≡ true → 0 < how_many g (x ∷ xs))) [
        | true ↦ λ t q.
            (let is : x ≡ y = cc in
            (ap f (sym is) ∙ t, λ g h. (let o = counts_one (g x) (ap g is ∙ h) in omega arith)))
        | false ↦ λ t q.
            (let ih = first_passes xs y q in
            (ih.0, λ g h. (let o = ih.1 g h in omega arith)))
      ]) refl e

module _ (f : ℕ → Bool) where
  pub stands_counts : (xs : List ℕ) (p : ℕ) → f p ≡ true → 0 < occurs p xs → 0 < how_many f xs
  stands_counts [] p t some = absurd (omega arith)
  stands_counts (x ∷ xs) p t some =
      elim (eqb_tells p x) [
        | inl s ↦ (let o = counts_one (f x) (ap f (sym s.1) ∙ t) in omega arith)
        | inr s ↦
            (let z : ◌≡◌ {A = ℕ} (cond (eqb p x) 1 0) 0 = ap (λ b. cond b 1 0) s.0 in
            let ih = stands_counts xs p t (omega arith) in
            omega arith)
      ]

  -- none passes where none that passes stands in the list
  pub first_absent : (xs : List ℕ) → ((p : ℕ) → f p ≡ true → occurs p xs ≡ 0) → None ≡ first_by f xs
  first_absent [] none = refl
  first_absent (x ∷ xs) none =
      (elim (f x) as (λ b. f x ≡ b → None ≡ cond b (Some x) (first_by f xs)) [
        | true ↦ λ t. absurd (let n = none x t in let o = counts_one (eqb x x) (eq-eqb x x refl) in omega arith)
        | false ↦ λ t. first_absent xs (λ p h. (let n = none p h in omega arith))
      ]) refl

  -- the only one that passes is the first
  pub first_only : (xs : List ℕ) (p : ℕ) → f p ≡ true → 0 < occurs p xs → how_many f xs ≤ 1 → Some p ≡ first_by f xs
  first_only [] p t some one = absurd (omega arith)
  first_only (x ∷ xs) p t some one =
      (elim (f x) as (λ b. f x ≡ b → cond b 1 0 + how_many f xs ≤ 1 → Some p ≡ cond b (Some x) (first_by f xs)) [
        | true ↦ λ h lone.
            elim (eqb_tells p x) [
              | inl s ↦ ap (λ (k : ℕ). Some k) s.1
              | inr s ↦
                  absurd (let z : ◌≡◌ {A = ℕ} (cond (eqb p x) 1 0) 0 = ap (λ b. cond b 1 0) s.0 in
                  let o = stands_counts xs p t (omega arith) in
                  omega arith)
            ]
        | false ↦ λ h lone.
            elim (eqb_tells p x) [
              | inl s ↦ absurd (not_both (f x) (ap f (sym s.1) ∙ t) h)
              | inr s ↦
                  (let z : ◌≡◌ {A = ℕ} (cond (eqb p x) 1 0) 0 = ap (λ b. cond b 1 0) s.0 in
                  first_only xs p t (omega arith) (omega arith))
            ]
      ]) refl one
