use Rattle.std.specs.Prelude.{ℕ, ◌+◌, min, List, ◌++◌, Ok, Err, codes, decimal, Result}
use Rattle.loaders.specs.declared.fault.Cause.{Cause}
use Rattle.loaders.specs.declared.fault.Cause.TheVariants.{NoRecord, BrokenLine, OutOfRange}
use Rattle.loaders.specs.declared.fault.Fault.{Fault}

-- the cause's number in the refusal table
abbrev pub cause_number : Cause → ℕ
cause_number NoRecord = 6
cause_number (BrokenLine line) = 7
cause_number OutOfRange = 8

-- the line that the cause names, or 0
abbrev pub cause_line : Cause → ℕ
cause_line NoRecord = 0
cause_line (BrokenLine line) = line
cause_line OutOfRange = 0

-- the cause in words
abbrev pub cause_text : Cause → List ℕ
cause_text NoRecord = codes "no record of the key"
cause_text (BrokenLine line) = codes "line " ++ (decimal line ++ codes " is broken")
cause_text OutOfRange = codes "shifted out of range"

-- the fault as the layer above hands it on
abbrev pub passed_up_lem : Fault → Fault
passed_up_lem f = record { cause = f.cause; depth = min (f.depth + 1) 255 }

-- a fault where it arises
abbrev pub fault : Cause → Fault
fault cause = record { cause = cause; depth = 0 }

-- an answer as the layer above hands it on
abbrev pub raised : {V : Type 0} → Result V Fault → Result V Fault
raised (Ok v) = Ok v
raised (Err f) = Err (passed_up_lem f)
