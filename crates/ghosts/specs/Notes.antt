-- The lists of the nodes that remember a key, and of those that are spare.
use Rattle.std.specs.Prelude.{◌≡◌, ℕ, ◌+◌, ◌<◌, ◌≤◌, true, false, ◌⊎◌, List, Some, None, Option, length}
use Rattle.links.specs.Lists.{lists, home_of}
use Rattle.links.specs.Rows.{nth, first_of, last_of}
use Rattle.ghosts.specs.declared.noted.Noted.{Noted}
use Rattle.ghosts.specs.declared.notes.Notes.{Notes}

-- list 0 remembers, newest first; list 1 is spare
abbrev pub note_list : ℕ → Notes → List ℕ
note_list k n = nth k (lists n.line)

abbrev pub Counted : Notes → Type 0
Counted n = length (note_list 0 n) + length (note_list 1 n) ≡ n.opened

-- no node from the number opened on is in a list
abbrev pub Unopened : Notes → Type 0
Unopened n = (q : ℕ) → n.opened ≤ q → 4 ≤ home_of n.line q

abbrev pub Within : Notes → Type 0
Within n = (n.opened ≤ n.capacity) × (n.capacity ≤ 512)

-- the node that is the newest next: spare, or the next of those never opened, or the oldest of a full Ghost
abbrev pub Chosen : Notes → Option Noted → Type 0
Chosen n None = n.capacity ≡ 0
Chosen n (Some x) =
    (Some x.node ≡ first_of (note_list 1 n)) × (x.forgot ≡ false)
    ⊎ (x.node ≡ n.opened) × (n.opened < n.capacity) × (x.forgot ≡ false)
    ⊎ (Some x.node ≡ last_of (note_list 0 n)) × (length (note_list 0 n) ≡ n.capacity) × (x.forgot ≡ true)
