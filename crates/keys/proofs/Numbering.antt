-- A text is read to a numbered key exactly where it is two numerals with a dot between them.
use Rattle.std.proofs.Common.{◌≡◌, ℕ, ◌^◌, ◌<◌, List, Some, None, decimal, Option, sym, refl, ◌∙◌, arith, MatchOption}
use Rattle.std.specs.Option.{option_map}
use Rattle.text.proofs.Fields.{cut_some, cut_is, mapped_some, then_some}
use Rattle.text.proofs.Numbers.{decimal_lacks, unsigned_back, unsigned_is}
use Rattle.text.specs.Field.{and_then, cut}
use Rattle.text.specs.Number.{unsigned_text}
use Rattle.keys.specs.Numbered.{pair, numbers, dotted, numbered_text}
use Rattle.keys.specs.declared.numbered.NumberedKey.{NumberedKey}

pub numbered_back : (s t : ℕ) → s < 2 ^ 16 → t < 2 ^ 16 → numbered_text (dotted s t) ≡ Some (pair s t)
numbered_back s t ls lt =
    rw (cut_some 46 (decimal s) (decimal t) (decimal_lacks 46 s (omega arith) (λ h. omega arith)), unsigned_back (2 ^ 16) s ls (omega arith), unsigned_back (2 ^ 16) t lt (omega arith)) refl

pub numbered_is : (bs w : List ℕ) → numbered_text bs ≡ Some w → (s : ℕ) × (t : ℕ) × (bs ≡ dotted s t) × (w ≡ pair s t)
numbered_is bs w e =
    let parts = then_some (cut 46 bs) (λ p. and_then (unsigned_text (2 ^ 16) p.0) (λ s. option_map (pair s) (unsigned_text (2 ^ 16) p.1))) w e in
    let xs = parts.0.0 in
    let ys = parts.0.1 in
    let survey = then_some (unsigned_text (2 ^ 16) xs) (λ s. option_map (pair s) (unsigned_text (2 ^ 16) ys)) w parts.2 in
    let s = survey.0 in
    let station = mapped_some (pair s) (unsigned_text (2 ^ 16) ys) w survey.2 in
    let first : xs ≡ decimal s = (unsigned_is (2 ^ 16) xs s (omega arith) survey.1).0 in
    let second : ys ≡ decimal station.0 = (unsigned_is (2 ^ 16) ys station.0 (omega arith) station.1).0 in
    (s, station.0, (cut_is 46 bs xs ys parts.1).0 ∙ cc, sym station.2)

pub numbered_exact : (bs : List ℕ) (r : Option NumberedKey) → option_map numbers r ≡ numbered_text bs → MatchOption r ((s t : ℕ) → s < 2 ^ 16 → t < 2 ^ 16 → bs ≡ dotted s t → ⊥) (λ k. bs ≡ dotted k.survey k.station)
numbered_exact bs None e = λ s t ls lt is. let back = numbered_back s t ls lt in cc
numbered_exact bs (Some k) e =
    let found = numbered_is bs (numbers k) (sym e) in
    let first : k.survey ≡ found.0 = cc found.3 in
    let second : k.station ≡ found.1 = cc found.3 in
    found.2 ∙ cc
