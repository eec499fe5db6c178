-- A text is read to coordinates exactly where it is what these are written as.
use Rattle.std.proofs.Common.{◌≡◌, ℕ, List, ◌++◌, ℤ, Some, None, codes, Option, sym, refl, ap, ◌∙◌, arith, w32, SFits, MatchOption}
use Rattle.std.specs.Option.{option_map}
use Rattle.std.specs.Fmt.{signed_decimal}
use Rattle.text.proofs.Fields.{Lacks, cut_some, field_is, mapped_some, stripped_is, then_some}
use Rattle.text.proofs.Numbers.{signed_back, signed_is, signed_lacks}
use Rattle.text.specs.Field.{and_then, field_text, stripped}
use Rattle.text.specs.Number.{signed_text}
use Rattle.survey.specs.Station.{Fitting, at, station_text, three, written}
use Rattle.survey.specs.declared.station.Station.{Station}

spaceless : (z : ℤ) → SFits w32 z → Lacks 32 (signed_decimal z)
spaceless z fits = signed_lacks 32 z fits (λ h. omega arith) (λ e. omega arith)

pub station_back : (s : Station) → Fitting s → station_text (written s) ≡ Some s
station_back s fits =
    let up = codes "up=" ++ signed_decimal s.up in
    let north = codes "north=" ++ (signed_decimal s.north ++ (codes " up=" ++ signed_decimal s.up)) in
    rw (cut_some 32 (signed_decimal s.east) north (spaceless s.east fits.east), cut_some 32 (signed_decimal s.north) up (spaceless s.north fits.north), signed_back s.east fits.east, signed_back s.north fits.north, signed_back s.up fits.up) refl

three_is : (e n u : List ℕ) (s : Station) → three e n u ≡ Some s → (e ≡ signed_decimal s.east) × (n ≡ signed_decimal s.north) × (u ≡ signed_decimal s.up)
three_is e n u s h =
    let east = then_some (signed_text e) (λ x. and_then (signed_text n) (λ y. option_map (λ z. at x y z) (signed_text u))) s h in
    let north = then_some (signed_text n) (λ y. option_map (λ z. at east.0 y z) (signed_text u)) s east.2 in
    let up = mapped_some (λ z. at east.0 north.0 z) (signed_text u) s north.2 in
    (signed_is e east.0 east.1 ∙ ap (λ (t : Station). signed_decimal t.east) up.2, signed_is n north.0 north.1 ∙ ap (λ (t : Station). signed_decimal t.north) up.2, signed_is u up.0 up.1 ∙ ap (λ (t : Station). signed_decimal t.up) up.2)

pub station_is : (bs : List ℕ) (s : Station) → station_text bs ≡ Some s → bs ≡ written s
station_is bs s h =
    let e = then_some (field_text (codes "east=") bs) (λ p. and_then (field_text (codes "north=") p.1) (λ q. and_then (stripped (codes "up=") q.1) (λ u. three p.0 q.0 u))) s h in
    let n = then_some (field_text (codes "north=") e.0.1) (λ q. and_then (stripped (codes "up=") q.1) (λ u. three e.0.0 q.0 u)) s e.2 in
    let u = then_some (stripped (codes "up=") n.0.1) (λ u. three e.0.0 n.0.0 u) s n.2 in
    let is = three_is e.0.0 n.0.0 u.0 s u.2 in
    let first = field_is (codes "east=") bs e.0.0 e.0.1 e.1 in
    let second = field_is (codes "north=") e.0.1 n.0.0 n.0.1 n.1 in
    let third = stripped_is (codes "up=") n.0.1 u.0 u.1 in
    cc (first, second, third, is.0, is.1, is.2)

pub station_exact : (bs : List ℕ) (r : Option Station) → r ≡ station_text bs → MatchOption r ((s : Station) → Fitting s → bs ≡ written s → ⊥) (λ s. bs ≡ written s)
station_exact bs (Some s) e = station_is bs s (sym e)
station_exact bs None e = λ s fits is. let back = station_back s fits in cc
