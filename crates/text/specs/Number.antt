-- Numbers in text: decimal digits with no plus, no leading zero and no `-0`.
use Rattle.std.specs.Prelude.{ℕ, ◌+◌, ◌^◌, Bool, false, cond, ◌&&◌, List, [], ◌∷◌, drop, ℤ, pos, neg_ℤ, Some, None, Option, ◌==◌, nat_lt}
use Rattle.std.specs.Option.{option_map}
use Rattle.std.specs.Str.Parse.{digits_value}
use Rattle.std.specs.Int.{is_in_range}
use Rattle.std.specs.Str.{all_ascii_digits}

-- a text that begins with 1 to 9, or is `0` alone
abbrev pub plain : List ℕ → Bool
plain [] = false
plain (c ∷ []) = is_in_range 48 57 c
plain (c ∷ (d ∷ ds)) = is_in_range 49 57 c

-- a text that begins with a minus and 1 to 9
abbrev pub negative : List ℕ → Bool
negative [] = false
negative (c ∷ []) = false
negative (c ∷ (d ∷ ds)) = c == 45 && is_in_range 49 57 d

-- the number below `limit` that a text writes
abbrev pub unsigned_text : ℕ → List ℕ → Option ℕ
unsigned_text limit bs = cond (plain bs && (all_ascii_digits bs && nat_lt (digits_value 10 bs) limit)) (Some (digits_value 10 bs)) None

-- the number of 32 bits with a sign that a text writes
abbrev pub signed_text : List ℕ → Option ℤ
signed_text bs =
    cond
    (negative bs)
    (option_map (λ n. neg_ℤ (pos n)) (unsigned_text (2 ^ 31 + 1) (drop 1 bs)))
    (option_map pos (unsigned_text (2 ^ 31) bs))
