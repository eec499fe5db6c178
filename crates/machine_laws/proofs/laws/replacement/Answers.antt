use Rattle.machine_laws.proofs.Runs.{replacement_holds}
use Rattle.machine_laws.proofs.laws.replacement.Goals as goal

pub returns : goal.returns
returns g c = replacement_holds g.K.Key.meaning g.L.Loader.given g.R.KeepRule.keeps
