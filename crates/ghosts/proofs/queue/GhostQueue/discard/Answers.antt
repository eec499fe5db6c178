use Rattle.std.proofs.Common.{sym, ◌∙◌, arith}
use Rattle.links.proofs.Counts.{without_absent}
use Rattle.links.proofs.Members.{low_node}
use Rattle.ghosts.specs.Notes.{note_list}
use Rattle.ghosts.proofs.Moves.{moved, held_home, unheld_home}
use Rattle.ghosts.proofs.queue.GhostQueue.discard.Goals as goal

pub invariant_of-self : goal.invariant_of-self
invariant_of-self c =
    let n = c.args.self.now.notes in
    let h = held_home n c.args.node (sym c.if-held.true ∙ c.holds-held.ensures) in
    moved n c.args.self.now.counted c.args.self.now.unopened c.args.self.now.within c.push_front.new.self c.args.node 1 (omega arith)
    (low_node n.line c.args.node (omega arith)) c.push_front.ensures.lists c.push_front.ensures.homes (omega arith)

pub returns-else-held-clause-forgets : goal.returns-else-held-clause-forgets
returns-else-held-clause-forgets c =
    let n = c.args.self.now.notes in
    sym (without_absent c.args.node (note_list 0 n) (unheld_home n c.args.node (sym c.if-held.false ∙ c.holds-held.ensures)))
