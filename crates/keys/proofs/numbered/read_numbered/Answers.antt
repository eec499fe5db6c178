use Rattle.std.proofs.Common.{Some, rules}
use Rattle.keys.proofs.Numbering.{numbered_exact}
use Rattle.keys.proofs.numbered.read_numbered.Goals as goal

pub returns-clause-exact : goal.returns-clause-exact
returns-clause-exact c =
    numbered_exact c.args.text.now (Some (record { survey = c.in_ok-survey-2.survey; station = c.in_ok-station.station })) (search rules)
