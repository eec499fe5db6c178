-- The measuring of a table of records.
use Rattle.std.specs.Prelude.{ℕ, cond, Ok, Err, Result, ◌==◌, nat_le}
use Rattle.machine.specs.declared.refusal.Refusal.{Refusal}
use Rattle.machine.specs.declared.refusal.Refusal.TheVariants.{NoRecords, TooManyRecords}

-- the capacity of a cache over so many records: from 1 to 512 of them
abbrev pub measured : ℕ → Result ℕ Refusal
measured n = cond (n == 0) (Err NoRecords) (cond (nat_le n 512) (Ok n) (Err (TooManyRecords n)))

-- the capacity of a cache that is opened even so: 0 over what measuring refuses
abbrev pub or_none : Result ℕ Refusal → ℕ
or_none (Ok n) = n
or_none (Err why) = 0

abbrev pub opened_with : ℕ → ℕ
opened_with records = or_none (measured records)
