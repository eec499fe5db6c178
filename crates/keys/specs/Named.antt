-- Named keys: their meaning, and their text.
use Rattle.std.specs.Prelude.{ℕ, Bool, cond, ◌&&◌, ◌||◌, List, map, length, Some, None, codes, Option, ◌==◌, nat_le, nat_lt}
use Rattle.std.specs.List.{list_all}
use Rattle.std.specs.Char.{is_ascii_alphanumeric, to_ascii_uppercase}

-- what a byte of a name means: a small letter means its capital one
abbrev pub folded : ℕ → ℕ
folded c = to_ascii_uppercase c

-- a letter, a digit, a hyphen or an underscore
abbrev pub name_byte : ℕ → Bool
name_byte c = is_ascii_alphanumeric c || (c == 45 || c == 95)

-- 1 to 16 such bytes
abbrev pub is_name_lem : List ℕ → Bool
is_name_lem bs = nat_lt 0 (length bs) && (nat_le (length bs) 16 && list_all name_byte bs)

-- the meaning that a text writes
abbrev pub named_text : List ℕ → Option (List ℕ)
named_text bs = cond (is_name_lem bs) (Some (map folded bs)) None

-- what such a key looks like, for whoever wrote something else
abbrev pub named_form : List ℕ
named_form = codes "1 to 16 letters, digits, hyphens and underscores, as Upper-3"
