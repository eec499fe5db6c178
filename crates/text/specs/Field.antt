-- Texts taken apart: at a mark, and after a label.
use Rattle.std.specs.Prelude.{ℕ, cond, List, [], ◌∷◌, Some, None, Option, ◌==◌}
use Rattle.std.specs.Borrow.{Bor}
use Rattle.std.specs.Option.{option_map}
use Rattle.text.specs.declared.field.Mark.{Mark}
use Rattle.text.specs.declared.field.Mark.TheVariants.{LineFeed, Space, Dot}

-- a step that may fail, and what follows it
abbrev pub and_then : {X Y : Type 0} → Option X → (X → Option Y) → Option Y
and_then None f = None
and_then (Some x) f = f x

-- the bytes of two texts
abbrev pub parts : Bor (List ℕ) × Bor (List ℕ) → List ℕ × List ℕ
parts p = (p.0.now, p.1.now)

-- a mark's character
abbrev pub mark_code : Mark → ℕ
mark_code LineFeed = 10
mark_code Space = 32
mark_code Dot = 46

-- two texts with one byte more in front
abbrev pub ahead : ℕ → List ℕ × List ℕ → List ℕ × List ℕ
ahead b p = (b ∷ p.0, p.1)

-- what stands before the first `c`, and what stands after it
abbrev pub cut : ℕ → List ℕ → Option (List ℕ × List ℕ)
cut c [] = None
cut c (b ∷ bs) = cond (b == c) (Some ([], bs)) (option_map (ahead b) (cut c bs))

-- what follows a label at the beginning of a text
abbrev pub stripped : List ℕ → List ℕ → Option (List ℕ)
stripped [] bs = Some bs
stripped (l ∷ ls) [] = None
stripped (l ∷ ls) (b ∷ bs) = cond (l == b) (stripped ls bs) None

-- the first field, which bears a label and ends at a space, and what follows that space
abbrev pub field_text : List ℕ → List ℕ → Option (List ℕ × List ℕ)
field_text label bs = and_then (stripped label bs) (λ rest. cut 32 rest)
