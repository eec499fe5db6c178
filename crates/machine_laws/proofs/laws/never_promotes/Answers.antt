use Rattle.machine_laws.proofs.Runs.{small_caches_never_promote}
use Rattle.machine_laws.proofs.laws.never_promotes.Goals as goal

pub returns : goal.returns
returns g c = small_caches_never_promote g.K.Key.meaning g.L.Loader.given g.R.KeepRule.keeps
