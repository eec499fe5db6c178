use Rattle.std.proofs.Common.{Some, rules}
use Rattle.survey.specs.Station.{at}
use Rattle.survey.proofs.Stations.{station_exact}
use Rattle.survey.proofs.station.read_station.Goals as goal

pub returns-clause-exact : goal.returns-clause-exact
returns-clause-exact c = station_exact c.args.text.now (Some (at _ _ _)) (search rules)
