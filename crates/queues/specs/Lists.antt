-- The numbers by which the line knows its lists.
use Rattle.std.specs.Prelude.{◌≡◌, ℕ, ◌≤◌, Result, MatchResult}
use Rattle.queues.specs.declared.lists.List as own
use Rattle.queues.specs.declared.lists.List.TheVariants.{Young, Old, Main, Free}
use Rattle.queues.specs.declared.lists.NoList.{NoList}

abbrev pub number_of : own.List → ℕ
number_of Young = 0
number_of Old = 1
number_of Main = 2
number_of Free = 3

-- the list with this number, or none has it
abbrev pub Numbered : ℕ → Result own.List NoList → Type 0
Numbered n r = MatchResult r (λ l. number_of l ≡ n) (λ _. 4 ≤ n)
