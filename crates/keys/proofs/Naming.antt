-- Two spellings mean one name exactly where they are alike but for the case of ASCII letters.
use Rattle.std.proofs.Common.{◌≡◌, ℕ, Bool, List, [], ◌∷◌, map, Decides, IsTrue, ◌↔◌, sym, refl, ap, ◌∙◌, arith}
use Rattle.std.proofs.lemmas.Bool.Decides.{nat_tests}
use Rattle.std.proofs.lemmas.Str.Ascii.{lowercase-uppercase}
use Rattle.std.specs.Char.{to_ascii_lowercase, to_ascii_uppercase}
use Rattle.keys.specs.Named.{folded}

uppercase-lowercase : (c : ℕ) → to_ascii_uppercase (to_ascii_lowercase c) ≡ to_ascii_uppercase c
uppercase-lowercase c = grind (arith, nat_tests)

-- what g makes equal is equal to f, where f sees no more than g
map_through : (f g : ℕ → ℕ) → ((c : ℕ) → f (g c) ≡ f c) → (xs : List ℕ) → map f (map g xs) ≡ map f xs
map_through f g same [] = refl
map_through f g same (x ∷ xs) = cc (same x, map_through f g same xs)

same_through : (f g : ℕ → ℕ) → ((c : ℕ) → f (g c) ≡ f c) → (xs ys : List ℕ) → map g xs ≡ map g ys → map f xs ≡ map f ys
same_through f g same xs ys e = sym (map_through f g same xs) ∙ ap (map f) e ∙ map_through f g same ys

pub same_folded : (r : Bool) (xs ys : List ℕ) → IsTrue r ↔ (map to_ascii_lowercase xs ≡ map to_ascii_lowercase ys) → Decides r (map folded xs ≡ map folded ys)
same_folded r xs ys h =
    (λ yes. same_through to_ascii_uppercase to_ascii_lowercase uppercase-lowercase xs ys (h.0 yes), λ e. h.1 (same_through to_ascii_lowercase to_ascii_uppercase lowercase-uppercase xs ys e))
