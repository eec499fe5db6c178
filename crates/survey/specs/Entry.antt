-- A value under its key, and the line of a survey sheet that gives one.
use Rattle.std.specs.Prelude.{ℕ, List, codes, Option}
use Rattle.std.specs.Option.{option_map}
use Rattle.text.specs.Field.{and_then, field_text}
use Rattle.survey.specs.Station.{station_text}
use Rattle.survey.specs.declared.entry.Entry.{Entry}
use Rattle.survey.specs.declared.station.Station.{Station}

-- an entry, with the key by its meaning
abbrev pub entry_of : {K V : Type 0} → (K → List ℕ) → Entry K V → List ℕ × V
entry_of meaning e = (meaning e.key, e.value)

-- the entry that a line writes: the key's field, and then the station's text
abbrev pub line_text : (List ℕ → Option (List ℕ)) → List ℕ → Option (List ℕ × Station)
line_text meant line =
    and_then (field_text (codes "key=") line) (λ k. and_then (meant k.0) (λ word. option_map (λ (s : Station). (word, s)) (station_text k.1)))
