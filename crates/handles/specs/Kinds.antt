-- What the two kinds of handle mean, and the hashes that their rehash rules give.
use Rattle.std.specs.Prelude.{ℕ, ◌+◌, ◌*◌, ◌%◌, ◌^◌, List, [], ◌∷◌, bit_xor, slice_index}
use Rattle.handles.specs.declared.kinds.Place.{Place}
use Rattle.handles.specs.declared.kinds.SheetLine.{SheetLine}

-- a place means its number
abbrev pub place_meaning : Place → List ℕ
place_meaning p = p.0 ∷ []

-- a sheet's line means both numbers
abbrev pub line_meaning : SheetLine → List ℕ
line_meaning l = l.sheet ∷ l.line ∷ []

-- the hash that a list has for a place
abbrev pub listed : List ℕ → List ℕ → ℕ
listed hashes [] = 0
listed hashes (place ∷ more) = slice_index hashes place

-- the hash of a sheet's line: its numbers and a seed, mixed
abbrev pub mixed : ℕ → List ℕ → ℕ
mixed seed [] = 0
mixed seed (sheet ∷ []) = 0
mixed seed (sheet ∷ line ∷ more) = bit_xor (sheet * 65536 + line) seed * 0x9E3779B97F4A7C15 % 2 ^ 64
