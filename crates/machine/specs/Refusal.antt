-- The numbers of the cache's refusals.
use Rattle.std.specs.Prelude.{ℕ}
use Rattle.machine.specs.declared.refusal.Refusal.{Refusal}
use Rattle.machine.specs.declared.refusal.Refusal.TheVariants.{NoRecords, TooManyRecords, NoCapacity, NotInPlace, NotLoaded}

-- the refusal's number in the refusal table
abbrev pub refusal_number : Refusal → ℕ
refusal_number NoRecords = 1
refusal_number (TooManyRecords records) = 2
refusal_number NoCapacity = 3
refusal_number (NotInPlace place) = 4
refusal_number (NotLoaded fault) = 5
