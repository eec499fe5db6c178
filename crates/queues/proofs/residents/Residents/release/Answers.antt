use Rattle.std.proofs.Common.{sym, refl, ◌∙◌, arith}
use Rattle.queues.specs.declared.state.SlotState.TheVariants.{Plain}
use Rattle.queues.specs.Held.{parts_of}
use Rattle.queues.proofs.Sound.{ghosts, sound_of, home_low, home_opened}
use Rattle.queues.proofs.Moved.{placed, placed_restated, fronted_sound}
use Rattle.queues.proofs.Located.{held_is, free_is, not_free}
use Rattle.queues.proofs.Released.{released_parts, unreleased, resides_so}
use Rattle.queues.proofs.residents.Residents.release.Goals as goal

pub bounds-self-place : goal.bounds-self-place
bounds-self-place c =
    let near = held_is c.args.self.now.slots c.args.place (not_free _ _ c.location.ensures c.in-Small.is) in
    home_low c.args.self.now.slots c.args.place (omega arith)

pub invariant_of-self : goal.invariant_of-self
invariant_of-self c =
    let s = c.args.self.now.slots in
    let p = c.args.place in
    let near = held_is s p (not_free _ _ c.location.ensures c.in-Small.is) in
    ghosts (placed s c.push_front.new.self p Plain)
    (fronted_sound s (placed s c.push_front.new.self p Plain) p Plain (placed_restated s c.push_front.new.self p Plain) s.window 3 (omega arith) (omega arith)
    (sound_of c.args.self.now) (home_opened s c.args.self.now.listed p (omega arith)) c.push_front.ensures.homes refl c.push_front.ensures.lists)
    c.args.self.now.«open»

pub returns-in-Free-clause-held : goal.returns-in-Free-clause-held
returns-in-Free-clause-held c =
    let s = c.args.self.now.slots in
    unreleased s c.args.place (free_is s c.args.place (sym c.in-Free.is ∙ c.location.ensures))

pub returns-in-Small : goal.returns-in-Small
returns-in-Small c =
    let s = c.args.self.now.slots in
    let p = c.args.place in
    let some = not_free _ _ c.location.ensures c.in-Small.is in
    record {
      answer = resides_so p (parts_of s) some;
      held =
          released_parts s (placed s c.push_front.new.self p Plain) p Plain (placed_restated s c.push_front.new.self p Plain)
          (held_is s p some) c.push_front.ensures.lists;
      window = refl;
    }
