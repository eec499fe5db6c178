use Rattle.std.proofs.Common.{None}
use Rattle.text.proofs.number.read_number.Goals as goal

pub returns-then-not-begins-clause-exact : goal.returns-then-not-begins-clause-exact
returns-then-not-begins-clause-exact g c = c.begins.ensures.exact None (c.begins.ensures.refused c.if-not-begins.true)
