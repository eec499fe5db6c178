use Rattle.std.proofs.Common.{refl}
use Rattle.machine.proofs.cases.worked_cases.Goals as goal

pub returns : goal.returns
returns c = (
  (refl, (refl, (refl, (refl, tt)))),
  ((refl, refl), ((refl, refl), ((refl, refl), ((refl, refl), ((refl, refl), ((refl, refl), tt)))))),
  (refl, (refl, (refl, (refl, tt)))),
)
