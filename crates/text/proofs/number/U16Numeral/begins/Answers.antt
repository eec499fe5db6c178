use Rattle.std.proofs.Common.{◌≡◌, ◌^◌, true, arith}
use Rattle.text.specs.Number.{plain}
use Rattle.text.proofs.Numbers.{unsigned_exact, unsigned_parsed}
use Rattle.text.proofs.number.U16Numeral.begins.Goals as goal

pub returns-clause-parsed : goal.returns-clause-parsed
returns-clause-parsed c =
    let bs = c.args.text.now in
    λ yes r gives. let p : plain bs ≡ true = cc in unsigned_parsed 16 bs r p gives.0

pub returns-clause-exact : goal.returns-clause-exact
returns-clause-exact c = λ r e. unsigned_exact (2 ^ 16) c.args.text.now r (omega arith) e
