use Rattle.std.proofs.Common.{ℕ, ◌&&◌, ◌||◌, eqb, leb, length, ap, ◌∙◌, arith}
use Rattle.machine.specs.Limits.{small_limit}
use Rattle.queues.specs.Held.{held}
use Rattle.ghosts.specs.Remembered.{remembered}
use Rattle.policy.specs.View.{view}
use Rattle.policy.specs.Insertion.{admission_of}
use Rattle.policy.proofs.Readiness.{limits}
use Rattle.policy.proofs.Fits.{small_room}
use Rattle.policy.proofs.Seats.{done}
use Rattle.policy.proofs.insert.insert_in.Goals as goal

pub returns-clause-done : goal.returns-clause-done
returns-clause-done c =
    let p = c.args.core.now in
    let q = c.vacate-vacancy.new.core in
    let m = c.requires.limited in
    let s = c.vacate-vacancy.ensures.same in
    let ea = c.admission-admission.ensures ∙ ap (λ (k : ℕ). admission_of (c.args.ghost_hit || (eqb k 0 || (c.has_vacancy-has_vacancy.result && leb k (length (view p).small))))) m.1 in
    done p.capacity q.residents.slots.window c.args.ghost_hit c.has_vacancy-has_vacancy.result c.admission-admission.result c.from-joined.result
    (view p) (held q.residents) (held c.seat.new.self) (remembered q.ghosts) c.in-Some.place c.vacate-vacancy.result
    c.has_vacancy-has_vacancy.ensures ea c.from-joined.ensures c.in-Some.ensures.answer c.seat.ensures.held
    (λ h.
    let r = small_room c.args.ghost_hit c.has_vacancy-has_vacancy.result (small_limit p.capacity) (length (view p).small) c.admission-admission.result ea h in
    let w = (limits p.capacity c.requires.some).window r in
    let x = s.3 in
    let y = m.3 in
    omega arith)
    c.vacate-vacancy.ensures.freed c.vacate-vacancy.ensures.told
