use Rattle.machine_laws.proofs.Runs.{runs_are_lawful}
use Rattle.machine_laws.proofs.laws.runs.Goals as goal

pub returns : goal.returns
returns g c = runs_are_lawful g.K.Key.meaning g.L.Loader.given g.R.KeepRule.keeps
