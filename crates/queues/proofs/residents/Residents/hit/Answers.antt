use Rattle.std.proofs.Common.{set, refl, ap, arith}
use Rattle.std.proofs.lemmas.List.{get_or_past}
use Rattle.queues.specs.declared.state.Event.TheVariants.{Hit}
use Rattle.queues.specs.State.{met}
use Rattle.queues.specs.Slots.{state_of}
use Rattle.queues.proofs.Hit.{hit_parts, hit_sound, unhit_parts}
use Rattle.queues.proofs.Sound.{ghosts, sound_of}
use Rattle.queues.proofs.Moved.{with_line, restated}
use Rattle.queues.proofs.residents.Residents.hit.Goals as goal

pub invariant_of-self : goal.invariant_of-self
invariant_of-self c =
    let s = c.args.self.now.slots in
    let p = c.args.place in
    let z = c.args.self.now.sized in
    ghosts (with_line s s.line (set s.places p c.meet.new.self))
    (hit_sound s.window s (set s.places p c.meet.new.self) p (omega arith) (ap (set s.places p) c.meet.ensures) (sound_of c.args.self.now))
    c.args.self.now.«open»

pub returns-then-place-lt512-clause-held : goal.returns-then-place-lt512-clause-held
returns-then-place-lt512-clause-held c =
    let s = c.args.self.now.slots in
    let p = c.args.place in
    let places = set s.places p c.meet.new.self in
    hit_parts s (with_line s s.line places) p (let z = c.args.self.now.sized in omega arith)
    (restated s s.line places p (met (state_of s p) Hit) (ap (set s.places p) c.meet.ensures)) refl

pub returns-else-place-lt512-clause-held : goal.returns-else-place-lt512-clause-held
returns-else-place-lt512-clause-held c =
    let z = c.args.self.now.slots.line.sized.1 in
    let e = get_or_past c.args.self.now.slots.line.cells.home c.args.place 4 (omega arith) in
    unhit_parts c.args.self.now.slots c.args.place (omega arith)
