-- Numbered keys: their meaning, and their text.
use Rattle.std.specs.Prelude.{ℕ, ◌^◌, List, [], ◌∷◌, ◌++◌, codes, decimal, Option}
use Rattle.std.specs.Option.{option_map}
use Rattle.text.specs.Field.{and_then, cut}
use Rattle.text.specs.Number.{unsigned_text}
use Rattle.keys.specs.declared.numbered.NumberedKey.{NumberedKey}

-- survey and station
abbrev pub pair : ℕ → ℕ → List ℕ
pair survey station = survey ∷ (station ∷ [])

-- a key's meaning
abbrev pub numbers : NumberedKey → List ℕ
numbers k = pair k.survey k.station

-- two numerals with a dot between them
abbrev pub dotted : ℕ → ℕ → List ℕ
dotted survey station = decimal survey ++ (46 ∷ decimal station)

-- the meaning that a text writes: a numeral below 65,536 before the first dot, and one after it
abbrev pub numbered_text : List ℕ → Option (List ℕ)
numbered_text bs =
    and_then
    (cut 46 bs)
    (λ p. and_then (unsigned_text (2 ^ 16) p.0) (λ survey. option_map (pair survey) (unsigned_text (2 ^ 16) p.1)))

-- what such a key looks like, for whoever wrote something else
abbrev pub numbered_form : List ℕ
numbered_form = codes "a survey and a station number, each 0 to 65535, as 12.7"
