use Rattle.std.proofs.Common.{arith}
use Rattle.queues.proofs.Sound.{home_low}
use Rattle.queues.proofs.Ends.{oldest_home}
use Rattle.queues.proofs.seat.close_window.Goals as goal

pub age-requires : goal.age-requires
age-requires c =
    let h = oldest_home c.args.slots.now c.in-Some.oldest c.in-Some.ensures in
    home_low c.args.slots.now c.in-Some.oldest (omega arith)

pub bounds-slots-oldest : goal.bounds-slots-oldest
bounds-slots-oldest c =
    let h = oldest_home c.args.slots.now c.in-Some.oldest c.in-Some.ensures in
    home_low c.args.slots.now c.in-Some.oldest (omega arith)
