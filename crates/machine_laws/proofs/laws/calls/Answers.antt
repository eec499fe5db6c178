use Rattle.machine_laws.proofs.Runs.{calls_are_lawful}
use Rattle.machine_laws.proofs.laws.calls.Goals as goal

pub returns : goal.returns
returns g c = calls_are_lawful g.K.Key.meaning g.L.Loader.given g.R.KeepRule.keeps
