use Rattle.std.proofs.Common.{◌≡◌, true, ◌||◌}
use Rattle.text.specs.Number.{plain, negative}
use Rattle.text.proofs.Numbers.{signed_exact, signed_parsed}
use Rattle.text.proofs.number.I32Numeral.begins.Goals as goal

pub returns-clause-parsed : goal.returns-clause-parsed
returns-clause-parsed c =
    let bs = c.args.text.now in
    λ yes r gives. let p : (negative bs || plain bs) ≡ true = cc in signed_parsed bs r p gives.0

pub returns-clause-exact : goal.returns-clause-exact
returns-clause-exact c = signed_exact c.args.text.now
