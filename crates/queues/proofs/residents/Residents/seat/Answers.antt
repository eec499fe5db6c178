use Rattle.std.proofs.Common.{ℕ, sym, refl, subst, arith}
use Rattle.links.proofs.Ends.{split_first}
use Rattle.queues.specs.declared.state.SlotState.TheVariants.{Plain}
use Rattle.queues.specs.Slots.{list_of}
use Rattle.queues.proofs.Sound.{Sound, ghosts, sound_of, home_low, home_opened}
use Rattle.queues.proofs.Moved.{placed, placed_restated, backed_sound}
use Rattle.queues.proofs.Ends.{top_home}
use Rattle.queues.proofs.ToMain.{seat_main_parts}
use Rattle.queues.proofs.Seating.{seated}
use Rattle.queues.proofs.residents.Residents.seat.Goals as goal

pub join_small-requires : goal.join_small-requires
join_small-requires c =
    let s = c.args.self.now.slots in
    let h = top_home s c.in_ok-place.place c.in_ok-place.ensures in
    home_low s c.in_ok-place.place (omega arith)

pub invariant_of-self : goal.invariant_of-self
invariant_of-self c =
    let r = c.args.self.now in
    let w = split_first (list_of 3 r.slots) c.in_ok-place.place c.in_ok-place.ensures in
    let k = seated r.slots c.join_small.new.slots c.close_window.new.slots (sound_of r) r.«open».1 r.«open».0 c.in_ok-place.place w.rest w.is c.join_small.ensures c.close_window.ensures in
    ghosts c.close_window.new.slots (subst (λ (b : ℕ). Sound b c.close_window.new.slots) (sym k.2) k.0)
    (let i = k.2 in let a = r.«open».0 in omega arith, let i = k.2 in let a = r.«open».1 in omega arith)

pub bounds-self-place : goal.bounds-self-place
bounds-self-place c =
    let s = c.args.self.now.slots in
    let h = top_home s c.in_ok-place.place c.in_ok-place.ensures in
    home_low s c.in_ok-place.place (omega arith)

pub invariant_of-self-in-Main : goal.invariant_of-self-in-Main
invariant_of-self-in-Main c =
    let s = c.args.self.now.slots in
    let p = c.in_ok-place.place in
    let h = top_home s p c.in_ok-place.ensures in
    ghosts (placed s c.push_back.new.self p Plain)
    (backed_sound s (placed s c.push_back.new.self p Plain) p Plain (placed_restated s c.push_back.new.self p Plain) s.window 2 (omega arith) (omega arith)
    (sound_of c.args.self.now) (home_opened s c.args.self.now.listed p (omega arith)) c.push_back.ensures.homes refl c.push_back.ensures.lists)
    c.args.self.now.«open»

pub returns-in-Small-clause-held : goal.returns-in-Small-clause-held
returns-in-Small-clause-held c =
    let r = c.args.self.now in
    let w = split_first (list_of 3 r.slots) c.in_ok-place.place c.in_ok-place.ensures in
    let k = seated r.slots c.join_small.new.slots c.close_window.new.slots (sound_of r) r.«open».1 r.«open».0 c.in_ok-place.place w.rest w.is c.join_small.ensures c.close_window.ensures in
    rw c.in-Small.is k.1

pub returns-in-Main-clause-held : goal.returns-in-Main-clause-held
returns-in-Main-clause-held c =
    let s = c.args.self.now.slots in
    let p = c.in_ok-place.place in
    let h = top_home s p c.in_ok-place.ensures in
    let w = split_first (list_of 3 s) p c.in_ok-place.ensures in
    rw c.in-Main.is
    (seat_main_parts s (placed s c.push_back.new.self p Plain) p Plain (placed_restated s c.push_back.new.self p Plain) refl
    (home_low s p (omega arith)) c.args.self.now.sized c.push_back.ensures.lists s.window w.rest w.is)
