-- The test of two meanings says yes exactly when they are equal.
use Rattle.std.proofs.Common.{◌≡◌, ℕ, Bool, ◌&&◌, eqb, List, [], ◌∷◌, Decides, refl, ap, ◌∙◌}
use Rattle.std.proofs.lemmas.Bool.Decides.{same_from_decides, Decides-and, Decides-eqb, Decides-like}
use Rattle.handles.specs.Meaning.{alike}

pub alike_decides : (xs ys : List ℕ) → Decides (alike xs ys) (xs ≡ ys)
alike_decides [] [] = ((λ _. refl), (λ _. refl))
alike_decides [] (y ∷ ys) =
    ((λ e. absurd (cc)), (λ e. absurd (cc)))
alike_decides (x ∷ xs) [] =
    ((λ e. absurd (cc)), (λ e. absurd (cc)))
alike_decides (x ∷ xs) (y ∷ ys) =
    Decides-like (eqb x y && alike xs ys)
    (λ p. ap (λ z. z ∷ xs) p.0 ∙ ap (λ zs. y ∷ zs) p.1)
    (λ e. ((let h : x ≡ y = cc in h), (let t : xs ≡ ys = cc in t)))
    (Decides-and (eqb x y) (alike xs ys) (Decides-eqb x y) (alike_decides xs ys))

-- an answer that decides whether two meanings are equal is the test
pub alike_is : (r : Bool) (xs ys : List ℕ) → Decides r (xs ≡ ys) → r ≡ alike xs ys
alike_is r xs ys d = same_from_decides r (alike xs ys) d (alike_decides xs ys)
