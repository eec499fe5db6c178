use Rattle.machine_laws.proofs.Runs.{values_hold}
use Rattle.machine_laws.proofs.laws.values.Goals as goal

pub returns : goal.returns
returns g c = values_hold g.K.Key.meaning g.L.Loader.given g.R.KeepRule.keeps
