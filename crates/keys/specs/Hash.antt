-- The 64-bit hash of a list of numbers.
use Rattle.std.specs.Prelude.{ℕ, ◌*◌, ◌/◌, ◌%◌, ◌^◌, List, fold, bit_xor}

-- the hash so far with one number more
unfoldable pub mixed : ℕ → ℕ → ℕ
mixed h x = bit_xor h x * 0x00000100000001b3 % 2 ^ 64

-- a number with its high bits laid over its low ones, times another
unfoldable pub stirred : ℕ → ℕ → ℕ
stirred h factor = bit_xor h (h / 2 ^ 33) * factor % 2 ^ 64

-- a hash as it is handed out
unfoldable pub spread : ℕ → ℕ
spread h = let x = stirred (stirred h 0xff51afd7ed558ccd) 0xc4ceb9fe1a85ec53 in bit_xor x (x / 2 ^ 33)

-- the hash of a list of numbers
abbrev pub hash_of : List ℕ → ℕ
hash_of xs = spread (fold mixed 0xcbf29ce484222325 xs)
