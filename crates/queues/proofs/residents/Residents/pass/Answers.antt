use Rattle.std.proofs.Common.{set, ap, arith}
use Rattle.queues.specs.declared.state.Event.TheVariants.{Chance}
use Rattle.queues.specs.State.{met, is_young}
use Rattle.queues.specs.Slots.{list_of, state_of}
use Rattle.queues.proofs.Sound.{ghosts, sound_of, home_low, home_opened}
use Rattle.queues.proofs.Moved.{restated, backed_sound, with_line}
use Rattle.links.proofs.Ends.{split_first}
use Rattle.queues.proofs.ToMain.{chance_plain, calm_at, pass_parts}
use Rattle.queues.proofs.Turns.{hand_home}
use Rattle.queues.proofs.residents.Residents.pass.Goals as goal

pub bounds-self-place : goal.bounds-self-place
bounds-self-place c =
    let s = c.args.self.now.slots in
    let h = hand_home s c.in-Some.place c.in-Some.ensures in
    home_low s c.in-Some.place (omega arith)

pub invariant_of-self : goal.invariant_of-self
invariant_of-self c =
    let s = c.args.self.now.slots in
    let p = c.in-Some.place in
    let h = hand_home s p c.in-Some.ensures in
    let t = with_line s c.push_back.new.self (set s.places p c.meet.new.self) in
    let k = chance_plain (state_of s p) (calm_at s.window s (sound_of c.args.self.now) p (λ e. omega arith)) in
    ghosts t
    (backed_sound s t p (met (state_of s p) Chance) (restated s c.push_back.new.self (set s.places p c.meet.new.self) p (met (state_of s p) Chance) (ap (set s.places p) c.meet.ensures)) s.window 2 (omega arith) (omega arith)
    (sound_of c.args.self.now) (home_opened s c.args.self.now.listed p (omega arith)) c.push_back.ensures.homes (ap is_young k) c.push_back.ensures.lists)
    c.args.self.now.«open»

pub returns-in-Some-clause-held : goal.returns-in-Some-clause-held
returns-in-Some-clause-held c =
    let s = c.args.self.now.slots in
    let p = c.in-Some.place in
    let h = hand_home s p c.in-Some.ensures in
    let t = with_line s c.push_back.new.self (set s.places p c.meet.new.self) in
    let k = chance_plain (state_of s p) (calm_at s.window s (sound_of c.args.self.now) p (λ e. omega arith)) in
    let w = split_first (list_of 2 s) p c.in-Some.ensures in
    pass_parts s t p (met (state_of s p) Chance) (restated s c.push_back.new.self (set s.places p c.meet.new.self) p (met (state_of s p) Chance) (ap (set s.places p) c.meet.ensures))
    k (home_low s p (omega arith)) c.args.self.now.sized c.push_back.ensures.lists w.rest w.is
