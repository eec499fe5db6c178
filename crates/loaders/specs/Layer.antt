-- What a layer makes of the answers below it.
use Rattle.std.specs.Prelude.{cond, ℤ, pos, negsuc, ◌+ℤ◌, Some, None, Ok, Err, Option, Result, nat_lt}
use Rattle.std.specs.Option.{option_map}
use Rattle.survey.specs.Station.{at}
use Rattle.survey.specs.declared.station.Station.{Station}
use Rattle.text.specs.Field.{and_then}
use Rattle.loaders.specs.Fault.{fault, passed_up_lem, raised}
use Rattle.loaders.specs.declared.fault.Cause.{Cause}
use Rattle.loaders.specs.declared.fault.Cause.TheVariants.{NoRecord, BrokenLine, OutOfRange}
use Rattle.loaders.specs.declared.fault.Fault.{Fault}

-- a fault of the upper loader gives way to the lower loader's answer where it wants a record
abbrev pub instead : {V : Type 0} → Cause → Fault → Result V Fault → Result V Fault
instead NoRecord f under = raised under
instead (BrokenLine n) f under = Err (passed_up_lem f)
instead OutOfRange f under = Err (passed_up_lem f)

-- the upper loader's answer, or the lower one's
abbrev pub overlaid : {V : Type 0} → Result V Fault → Result V Fault → Result V Fault
overlaid (Ok v) under = Ok v
overlaid (Err f) under = instead f.cause f under

-- a sum that fits 32 bits with a sign
abbrev pub fitting : ℤ → Option ℤ
fitting (pos n) = cond (nat_lt n 0x80000000) (Some (pos n)) None
fitting (negsuc n) = cond (nat_lt n 0x80000000) (Some (negsuc n)) None

-- the sum of two places, coordinate by coordinate
abbrev pub moved : Station → Station → Option Station
moved s by =
    and_then (fitting (s.east +ℤ by.east)) (λ east. and_then (fitting (s.north +ℤ by.north)) (λ north. option_map (λ up. at east north up) (fitting (s.up +ℤ by.up))))

-- a station moved, where its coordinates then fit
abbrev pub placed : Option Station → Result Station Fault
placed None = Err (fault OutOfRange)
placed (Some s) = Ok s

-- an answer with its station moved
abbrev pub shifted : Station → Result Station Fault → Result Station Fault
shifted by (Ok s) = placed (moved s by)
shifted by (Err f) = Err (passed_up_lem f)
