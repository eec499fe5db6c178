-- What a list of entries gives for a key.
use Rattle.std.specs.Prelude.{ℕ, ◌+◌, cond, List, [], ◌∷◌, map, Some, None, Ok, Err, Option, Result}
use Rattle.std.specs.Str.{bytes_eq}
use Rattle.survey.specs.Entry.{entry_of, line_text}
use Rattle.survey.specs.declared.entry.Entry.{Entry}
use Rattle.survey.specs.declared.station.Station.{Station}
use Rattle.text.specs.Field.{and_then}
use Rattle.text.specs.Line.{lines_of}
use Rattle.loaders.specs.Fault.{fault}
use Rattle.loaders.specs.declared.fault.Cause.TheVariants.{NoRecord, BrokenLine}
use Rattle.loaders.specs.declared.fault.Fault.{Fault}

-- the value of the first entry with the key, where no broken one, `None`, comes before it; entries are counted from n
abbrev pub look : {V : Type 0} → ℕ → List (Option (List ℕ × V)) → List ℕ → Result V Fault
look n [] word = Err (fault NoRecord)
look n (None ∷ es) word = Err (fault (BrokenLine n))
look n (Some e ∷ es) word = cond (bytes_eq e.0 word) (Ok e.1) (look (n + 1) es word)

-- an entry that is not broken
abbrev pub whole : {K V : Type 0} → (K → List ℕ) → Entry K V → Option (List ℕ × V)
whole meaning e = Some (entry_of meaning e)

-- the entries of a sheet, a line each
abbrev pub sheet_entries : (List ℕ → Option (List ℕ)) → List ℕ → List (Option (List ℕ × Station))
sheet_entries meant bs = map (λ line. and_then line (line_text meant)) (lines_of bs)
