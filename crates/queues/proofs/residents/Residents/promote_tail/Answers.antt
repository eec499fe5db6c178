use Rattle.std.proofs.Common.{set, ap, arith}
use Rattle.queues.specs.declared.state.Event.TheVariants.{Promotion}
use Rattle.queues.specs.State.{met, is_young}
use Rattle.queues.specs.Slots.{state_of}
use Rattle.queues.proofs.Sound.{ghosts, sound_of, home_low, home_opened}
use Rattle.queues.proofs.Moved.{restated, backed_sound, with_line}
use Rattle.queues.proofs.ToMain.{promotion_plain, promote_parts}
use Rattle.queues.proofs.Tail.{tail_home, tail_split}
use Rattle.queues.proofs.residents.Residents.promote_tail.Goals as goal

pub bounds-self-place : goal.bounds-self-place
bounds-self-place c =
    let s = c.args.self.now.slots in
    let h = tail_home s c.in-Some.place c.in-Some.ensures in
    home_low s c.in-Some.place (omega arith)

pub invariant_of-self : goal.invariant_of-self
invariant_of-self c =
    let s = c.args.self.now.slots in
    let p = c.in-Some.place in
    let h = tail_home s p c.in-Some.ensures in
    let t = with_line s c.push_back.new.self (set s.places p c.meet.new.self) in
    ghosts t
    (backed_sound s t p (met (state_of s p) Promotion) (restated s c.push_back.new.self (set s.places p c.meet.new.self) p (met (state_of s p) Promotion) (ap (set s.places p) c.meet.ensures)) s.window 2 (omega arith) (omega arith)
    (sound_of c.args.self.now) (home_opened s c.args.self.now.listed p (omega arith)) c.push_back.ensures.homes (ap is_young (promotion_plain (state_of s p))) c.push_back.ensures.lists)
    c.args.self.now.«open»

pub returns-in-Some-clause-held : goal.returns-in-Some-clause-held
returns-in-Some-clause-held c =
    let s = c.args.self.now.slots in
    let p = c.in-Some.place in
    let h = tail_home s p c.in-Some.ensures in
    let t = with_line s c.push_back.new.self (set s.places p c.meet.new.self) in
    let w = tail_split s p c.in-Some.ensures in
    promote_parts s t p (met (state_of s p) Promotion) (restated s c.push_back.new.self (set s.places p c.meet.new.self) p (met (state_of s p) Promotion) (ap (set s.places p) c.meet.ensures))
    (promotion_plain (state_of s p)) (home_low s p (omega arith)) c.args.self.now.sized c.push_back.ensures.lists w.rest w.is
