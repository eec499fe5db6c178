-- The lines of a text, one after another.
use Rattle.std.proofs.Common.{◌≡◌, ℕ, ◌+◌, ◌<◌, List, [], ◌∷◌, ◌++◌, length, get_or, take, Some, None, refl, sym, ap, ◌∙◌, subst, inl, inr, ◌⊎◌, arith, length-append, length-drop, append_assoc}
use Rattle.std.proofs.lemmas.List.{take_more, same_from_push, get_or_push}
use Rattle.std.proofs.lemmas.Str.Pattern.{NoCharPasses-char, drop_at_char}
use Rattle.std.specs.Str.Pattern.{EndsAtFirstMatch, FindsChar}
use Rattle.std.proofs.lemmas.Bool.{ne_eqb}
use Rattle.text.proofs.Fields.{Lacks, cut_is, cut_lacks, cut_none, lacks_rest}
use Rattle.text.specs.Field.{cut}
use Rattle.text.specs.Line.{lines_of}

-- a line up to its line feed, and the lines after it
lines_more : (xs ys : List ℕ) → Lacks 10 xs → lines_of (xs ++ (10 ∷ ys)) ≡ Some xs ∷ lines_of ys
lines_more [] ys h = refl
lines_more (x ∷ xs) ys h = rw (ne_eqb x 10 (λ e. h 0 (omega arith) e), lines_more xs ys (lacks_rest 10 x xs h)) refl

-- text that no line feed ends
pub lines_broken : (x : ℕ) (xs : List ℕ) → Lacks 10 (x ∷ xs) → lines_of (x ∷ xs) ≡ None ∷ []
lines_broken x [] h = rw (ne_eqb x 10 (λ e. h 0 (omega arith) e)) refl
lines_broken x (y ∷ ys) h = rw (ne_eqb x 10 (λ e. h 0 (omega arith) e), lines_broken y ys (lacks_rest 10 x (y ∷ ys) h)) refl

pub lines_cut : (bs xs ys : List ℕ) → cut 10 bs ≡ Some (xs, ys) → lines_of bs ≡ Some xs ∷ lines_of ys
lines_cut bs xs ys e = let parts = cut_is 10 bs xs ys e in ap lines_of parts.0 ∙ lines_more xs ys parts.1

-- where there is no line feed, the whole text is one broken line
pub lines_uncut : (bs : List ℕ) → 0 < length bs → cut 10 bs ≡ None → lines_of bs ≡ None ∷ []
lines_uncut [] some e = absurd (omega arith)
lines_uncut (x ∷ xs) some e = lines_broken x xs (cut_lacks 10 (x ∷ xs) e)

-- the first piece of a text that is cut after each line feed: it ends at the first one, or there is none
piece_cases : (bs x : List ℕ) → EndsAtFirstMatch (FindsChar 10) bs x → ((x ≡ bs) × (0 < length bs) × Lacks 10 bs) ⊎ ((front : List ℕ) × (x ≡ front ++ (10 ∷ [])) × Lacks 10 front)
piece_cases bs x (None, none, whole) = inl (whole.0, whole.1, λ i low e. NoCharPasses-char 10 bs i none (omega arith) low e)
piece_cases bs x (Some (i, j), (before, here), ends) =
    let at = drop_at_char 10 bs i j here (omega arith) in
    let low : i < length bs = omega (arith, simp length-drop at (ap length at)) in
    let next : j ≡ i + 1 = here.ends in
    let byte : get_or bs i 0 ≡ 10 = here.byte (omega arith) in
    inr (take i bs, ends (omega arith) ∙ ap (λ k. take k bs) next ∙ take_more bs i 0 low ∙ ap (λ b. take i bs ++ (b ∷ [])) byte, λ k l e. NoCharPasses-char 10 (take i bs) k before (omega arith) l e)

module _ (bs x after : List ℕ) (parts : bs ≡ x ++ after) (first : EndsAtFirstMatch (FindsChar 10) bs x) where
  pub piece_line : (line : List ℕ) → x ≡ line ++ (10 ∷ []) → lines_of bs ≡ Some line ∷ lines_of after
  piece_line line ends =
      elim (piece_cases bs x first) [
        | inl h ↦ absurd (subst (Lacks 10) (sym h.0 ∙ ends) h.2 (length line) (omega (arith, length-append line (10 ∷ []))) (get_or_push line 10 0 (length line) refl))
        | inr h ↦ ap lines_of (parts ∙ ap (λ l. l ++ after) ends ∙ append_assoc line (10 ∷ []) after) ∙ lines_more line after (subst (Lacks 10) (sym (same_from_push line h.0 10 10 (sym ends ∙ h.1)).0) h.2)
      ]

  pub piece_broken : ((line : List ℕ) → x ≡ line ++ (10 ∷ []) → ⊥) → lines_of bs ≡ None ∷ []
  piece_broken never =
      elim (piece_cases bs x first) [
        | inl h ↦ lines_uncut bs h.1 (cut_none 10 bs h.2)
        | inr h ↦ absurd (never h.0 h.1)
      ]
