-- The lists of a line.
use Rattle.std.specs.Prelude.{ℕ, cond, ◌&&◌, List, ◌==◌, nat_lt, slice_index_or}
use Rattle.links.specs.declared.line.Line.{Line}
use Rattle.links.specs.Rows.{rows}
use Rattle.links.specs.Cells.{nexts}

abbrev pub lists : Line → List (List ℕ)
lists l = rows (nexts l.cells) l.cells.lens

-- the number of the list that holds a node, 4 or above for a node in none
abbrev pub home_of : Line → ℕ → ℕ
home_of l p = slice_index_or l.cells.home p 4

-- a node below 512 pushed onto a list below 4 has its home there
abbrev pub rehomed : ℕ → ℕ → (ℕ → ℕ) → ℕ → ℕ
rehomed p k home q = cond (nat_lt p 512 && nat_lt k 4 && q == p) k (home q)
