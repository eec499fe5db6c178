use Rattle.std.proofs.Common.{◌∙◌}
use Rattle.queues.proofs.Tail.{tail_is}
use Rattle.queues.proofs.residents.Residents.tail.Goals as goal

pub returns : goal.returns
returns c = c.or.ensures ∙ tail_is c.args.self.now.slots c.last.result c.last-2.result c.last.ensures c.last-2.ensures
