-- The lines of a text: each ends in a line feed, and text after the last line feed is a broken line.
use Rattle.std.specs.Prelude.{ℕ, cond, List, [], ◌∷◌, Some, None, Option, ◌==◌}

-- one byte more in front of the first line; before no line, that is text that no line feed ends
abbrev pub headed : ℕ → List (Option (List ℕ)) → List (Option (List ℕ))
headed c [] = None ∷ []
headed c (None ∷ ls) = None ∷ ls
headed c (Some l ∷ ls) = Some (c ∷ l) ∷ ls

-- the lines without their line feeds, and `None` for text after the last of these
abbrev pub lines_of : List ℕ → List (Option (List ℕ))
lines_of [] = []
lines_of (c ∷ cs) = cond (c == 10) (Some [] ∷ lines_of cs) (headed c (lines_of cs))
