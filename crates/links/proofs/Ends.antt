-- The ends of a list of nodes.
use Rattle.std.proofs.Common.{◌≡◌, ℕ, List, [], ◌∷◌, ◌++◌, Some, None, refl, ap, ◌∙◌, arith}
use Rattle.links.specs.Rows.{first_of, last_or, last_of}

-- a list without its last
abbrev pub front : ℕ → List ℕ → List ℕ
front x [] = []
front x (y ∷ ys) = x ∷ front y ys

pub front_last : (x : ℕ) (xs : List ℕ) → x ∷ xs ≡ front x xs ++ last_or x xs ∷ []
front_last x [] = refl
front_last x (y ∷ ys) = ap (λ (r : List ℕ). x ∷ r) (front_last y ys)

-- the last, and what stands before it
pub record Split (xs : List ℕ) (p : ℕ) : Type 0 where
  pub rest : List ℕ
  pub is : xs ≡ rest ++ p ∷ []

pub split_last : (xs : List ℕ) (p : ℕ) → Some p ≡ last_of xs → Split xs p
split_last [] p e = let z : ◌≡◌ {A = ℕ} 0 1 = cc in absurd (omega arith)
split_last (x ∷ xs) p e =
    let i : p ≡ last_or x xs = cc in
    record { rest = front x xs; is = front_last x xs ∙ rw i }

pub no_last : (xs : List ℕ) → None ≡ last_of xs → xs ≡ []
no_last [] e = refl
no_last (x ∷ xs) e = let z : ◌≡◌ {A = ℕ} 0 1 = cc in absurd (omega arith)

pub no_first : (xs : List ℕ) → None ≡ first_of xs → xs ≡ []
no_first [] e = refl
no_first (x ∷ xs) e = let z : ◌≡◌ {A = ℕ} 0 1 = cc in absurd (omega arith)

pub record Begins (xs : List ℕ) (p : ℕ) : Type 0 where
  pub rest : List ℕ
  pub is : xs ≡ p ∷ rest

pub split_first : (xs : List ℕ) (p : ℕ) → Some p ≡ first_of xs → Begins xs p
split_first [] p e = let z : ◌≡◌ {A = ℕ} 0 1 = cc in absurd (omega arith)
split_first (x ∷ xs) p e = let i : p ≡ x = cc in record { rest = xs; is = rw i }
