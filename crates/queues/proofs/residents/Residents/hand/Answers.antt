use Rattle.std.proofs.Common.{arith}
use Rattle.queues.proofs.Sound.{home_low}
use Rattle.queues.proofs.Turns.{hand_home}
use Rattle.queues.proofs.residents.Residents.hand.Goals as goal

pub bounds-self-place : goal.bounds-self-place
bounds-self-place c =
    let s = c.args.self.now.slots in
    let h = hand_home s c.in_ok-place.place c.in_ok-place.ensures in
    home_low s c.in_ok-place.place (omega arith)
