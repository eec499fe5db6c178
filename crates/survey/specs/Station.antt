-- A station's coordinates in text.
use Rattle.std.specs.Prelude.{ℕ, List, ◌++◌, ℤ, codes, Option, FitsSigned}
use Rattle.std.specs.Int.{w32}
use Rattle.std.specs.Option.{option_map}
use Rattle.std.specs.Fmt.{signed_decimal}
use Rattle.text.specs.Field.{and_then, field_text, stripped}
use Rattle.text.specs.Number.{signed_text}
use Rattle.survey.specs.declared.station.Station.{Station}

abbrev pub at : ℤ → ℤ → ℤ → Station
at east north up = record { east = east; north = north; up = up }

-- a station's text
abbrev pub written : Station → List ℕ
written s =
    codes "east=" ++ (signed_decimal s.east ++ (codes " north=" ++ (signed_decimal s.north ++ (codes " up=" ++ signed_decimal s.up))))

-- coordinates of 32 bits
pub record Fitting (s : Station) : Type 0 where
  pub east : FitsSigned w32 s.east
  pub north : FitsSigned w32 s.north
  pub up : FitsSigned w32 s.up

-- three numbers of 32 bits with a sign
abbrev pub three : List ℕ → List ℕ → List ℕ → Option Station
three e n u =
    and_then (signed_text e) (λ east. and_then (signed_text n) (λ north. option_map (λ up. at east north up) (signed_text u)))

-- the coordinates that a text writes: three fields in their order, one space between
abbrev pub station_text : List ℕ → Option Station
station_text bs =
    and_then
    (field_text (codes "east=") bs)
    (λ e. and_then (field_text (codes "north=") e.1) (λ n. and_then (stripped (codes "up=") n.1) (λ u. three e.0 n.0 u)))
