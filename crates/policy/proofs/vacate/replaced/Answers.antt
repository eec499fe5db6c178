use Rattle.std.proofs.Common.{[], sym, ◌∙◌, arith}
use Rattle.policy.specs.View.{view}
use Rattle.policy.proofs.Frees.{victim_there}
use Rattle.policy.proofs.vacate.replaced.Goals as goal

pub unreachable-requires : goal.unreachable-requires
unreachable-requires c =
    let l = c.requires in
    victim_there 0 [] (view c.args.core.now).main (omega arith) (sym c.in_default.is ∙ c.evict_main.ensures.answer)
