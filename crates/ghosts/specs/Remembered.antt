-- What Ghost remembers: its nodes, newest first.
use Rattle.std.specs.Prelude.{◌≡◌, ℕ, Bool, cond, not, List, ◌∷◌, length, take, ◌==◌, nat_le}
use Rattle.links.specs.Rows.{occurs}
use Rattle.ghosts.specs.declared.queue.GhostQueue.{GhostQueue}
use Rattle.ghosts.specs.declared.noted.Noted.{Noted}
use Rattle.ghosts.specs.Notes.{note_list}

abbrev pub remembered : GhostQueue → List ℕ
remembered g = note_list 0 g.notes

abbrev pub holds_node : ℕ → List ℕ → Bool
holds_node p xs = not (occurs p xs == 0)

-- a node is Ghost's newest; it was spare, or it was the oldest of a full Ghost, which is forgotten
pub record Pushed (limit : ℕ) (old new : List ℕ) (n : Noted) : Type 0 where
  pub newest : new ≡ take limit (n.node ∷ old)
  pub forgot : n.forgot ≡ nat_le limit (length old)
  pub reused : occurs n.node old ≡ cond n.forgot 1 0
