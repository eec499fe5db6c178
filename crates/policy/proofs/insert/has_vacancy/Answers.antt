use Rattle.std.proofs.Common.{arith}
use Rattle.queues.proofs.Sound.{opened_low}
use Rattle.policy.proofs.Readiness.{everybody}
use Rattle.policy.proofs.insert.has_vacancy.Goals as goal

pub overflow_add-result : goal.overflow_add-result
overflow_add-result c =
    let e = everybody c.args.core.now in
    let o = opened_low c.args.core.now.residents.slots c.args.core.now.residents.listed in
    let a = c.small_len.ensures in
    let b = c.main_len.ensures in
    omega arith
