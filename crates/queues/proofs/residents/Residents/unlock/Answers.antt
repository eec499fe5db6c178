use Rattle.queues.proofs.Sound.{ghosts, sound_of}
use Rattle.queues.proofs.Unlocked.{widened, unlocked_parts, unlocked_sound}
use Rattle.queues.proofs.residents.Residents.unlock.Goals as goal

pub invariant_of-self : goal.invariant_of-self
invariant_of-self c =
    let s = c.args.self.now.slots in
    ghosts (widened s c.push_front.new.self)
    (unlocked_sound s.window s c.push_front.new.self (sound_of c.args.self.now) c.if-self-lt512.true c.push_front.ensures.lists c.push_front.ensures.homes)
    c.args.self.now.«open»

pub returns-then-self-lt512-clause-held : goal.returns-then-self-lt512-clause-held
returns-then-self-lt512-clause-held c =
    let s = c.args.self.now.slots in
    unlocked_parts s.window s c.push_front.new.self (sound_of c.args.self.now) c.if-self-lt512.true c.push_front.ensures.lists
