use Rattle.machine_laws.proofs.Runs.{chances_hold}
use Rattle.machine_laws.proofs.laws.chances.Goals as goal

pub returns : goal.returns
returns g c = chances_hold g.K.Key.meaning g.L.Loader.given g.R.KeepRule.keeps
