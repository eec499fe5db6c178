-- The lists that lie on a line of links, and what moving a node does to them.
use Rattle.std.specs.Prelude.{ℕ, zero, suc, ◌+◌, Bool, cond, ◌&&◌, List, [], ◌∷◌, ◌++◌, Some, None, Option, ◌==◌, nat_lt, slice_index}

-- the n nodes that follow x
abbrev pub walk : List ℕ → ℕ → ℕ → List ℕ
walk next x zero = []
walk next x (suc n) = slice_index next x ∷ walk next (slice_index next x) n

-- list k begins after its sentinel, 512 + k
abbrev pub row : List ℕ → List ℕ → ℕ → List ℕ
row next lens k = walk next (512 + k) (slice_index lens k)

-- the four lists of a line
abbrev pub rows : List ℕ → List ℕ → List (List ℕ)
rows next lens = row next lens 0 ∷ row next lens 1 ∷ row next lens 2 ∷ row next lens 3 ∷ []

-- whether next leads from x through the nodes to y, and prev leads back
abbrev pub leads : List ℕ → List ℕ → ℕ → List ℕ → ℕ → Bool
leads next prev x [] y = slice_index next x == y && slice_index prev y == x
leads next prev x (u ∷ us) y = slice_index next x == u && (slice_index prev u == x && leads next prev u us y)

-- how often p stands in a list
abbrev pub occurs : ℕ → List ℕ → ℕ
occurs p [] = 0
occurs p (x ∷ xs) = cond (p == x) 1 0 + occurs p xs

-- a list with p taken out
abbrev pub without : ℕ → List ℕ → List ℕ
without p [] = []
without p (x ∷ xs) = cond (p == x) (without p xs) (x ∷ without p xs)

-- every list with p taken out
abbrev pub lifted : ℕ → List (List ℕ) → List (List ℕ)
lifted p [] = []
lifted p (xs ∷ xss) = without p xs ∷ lifted p xss

-- p taken from wherever it was, and put before the first of list k
abbrev pub pushed_front : ℕ → ℕ → List (List ℕ) → List (List ℕ)
pushed_front p k [] = []
pushed_front p zero (xs ∷ xss) = (p ∷ without p xs) ∷ lifted p xss
pushed_front p (suc k) (xs ∷ xss) = without p xs ∷ pushed_front p k xss

-- p taken from wherever it was, and put after the last of list k
abbrev pub pushed_back : ℕ → ℕ → List (List ℕ) → List (List ℕ)
pushed_back p k [] = []
pushed_back p zero (xs ∷ xss) = (without p xs ++ p ∷ []) ∷ lifted p xss
pushed_back p (suc k) (xs ∷ xss) = without p xs ∷ pushed_back p k xss

-- a node below 512 pushed onto a list below 4; nothing else moves
abbrev pub fronted : ℕ → ℕ → List (List ℕ) → List (List ℕ)
fronted p k xss = cond (nat_lt p 512 && nat_lt k 4) (pushed_front p k xss) xss

abbrev pub backed : ℕ → ℕ → List (List ℕ) → List (List ℕ)
backed p k xss = cond (nat_lt p 512 && nat_lt k 4) (pushed_back p k xss) xss

-- the number of the first list that holds p, counted from k
abbrev pub holder : ℕ → ℕ → List (List ℕ) → Option ℕ
holder p k [] = None
holder p k (xs ∷ xss) = cond (occurs p xs == 0) (holder p (suc k) xss) (Some k)

-- list k, or none
abbrev pub nth : ℕ → List (List ℕ) → List ℕ
nth k [] = []
nth zero (xs ∷ xss) = xs
nth (suc k) (xs ∷ xss) = nth k xss

-- the ends of a list
abbrev pub first_of : List ℕ → Option ℕ
first_of [] = None
first_of (x ∷ xs) = Some x

abbrev pub last_or : ℕ → List ℕ → ℕ
last_or d [] = d
last_or d (x ∷ xs) = last_or x xs

abbrev pub last_of : List ℕ → Option ℕ
last_of [] = None
last_of (x ∷ xs) = Some (last_or x xs)
