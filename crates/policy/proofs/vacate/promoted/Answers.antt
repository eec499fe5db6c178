use Rattle.std.proofs.Common.{[], sym, ◌∙◌, arith}
use Rattle.policy.specs.View.{view}
use Rattle.policy.proofs.Frees.{victim_there}
use Rattle.policy.proofs.vacate.promoted.Goals as goal

pub unreachable-requires-in_default-promote_then_evict : goal.unreachable-requires-in_default-promote_then_evict
unreachable-requires-in_default-promote_then_evict c =
    let l = c.requires.main in
    victim_there 0 [] (view c.args.core.now).main (omega arith) (sym c.in_default-promote_then_evict.is ∙ c.promote_then_evict.ensures.answer)
