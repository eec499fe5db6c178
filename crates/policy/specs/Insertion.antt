-- An insertion in the policy's steps: a place is vacated onto the top of the free stack, and the newcomer takes its seat there.
use Rattle.std.specs.Prelude.{◌≡◌, ℕ, ◌≤◌, Bool, true, false, cond, List, [], ◌∷◌, take, Some, None, Option}
use Rattle.links.specs.Rows.{occurs}
use Rattle.machine.specs.Replacement.{Resident, Parts, Swept, Ended, ended, Spot, reused, fresh, Vacated, vacancy as has_vacancy, vacated, seated}
use Rattle.ghosts.specs.declared.noted.Noted.{Noted}
use Rattle.queues.specs.Steps.{unlocked, promoted}
use Rattle.machine.specs.declared.report.Part.{Part}
use Rattle.machine.specs.declared.report.Part.TheVariants as part
use Rattle.policy.specs.declared.plan.Admission.{Admission}
use Rattle.policy.specs.declared.plan.Admission.TheVariants.{Small, Main}
use Rattle.policy.specs.declared.plan.Vacancy.{Vacancy}
use Rattle.policy.specs.declared.plan.Inserted.{Inserted}
use Rattle.policy.specs.declared.makeup.Core.{Core}
use Rattle.machine.specs.Limits.{small_limit}
use Rattle.policy.specs.View.{view, Limited, Kept}

-- the capacity and the limits stay
abbrev pub Same : Core → Core → Type 0
Same p q =
    (q.capacity ≡ p.capacity) × (q.small.capacity ≡ p.small.capacity) × (q.main.capacity ≡ p.main.capacity)
    × (q.residents.slots.window ≡ p.residents.slots.window) × (q.ghosts.notes.capacity ≡ p.ghosts.notes.capacity)

abbrev pub place_at : Spot ℕ → ℕ
place_at (reused p) = p
place_at (fresh n) = n

-- the vacated place is on top of the free stack
abbrev pub on_stack : Vacated ℕ ℕ ℕ → Parts ℕ ℕ ℕ
on_stack v =
    record {
      small = v.parts.small;
      main = v.parts.main;
      remembered = v.parts.remembered;
      free = place_at v.spot ∷ v.parts.free;
      opened = v.parts.opened;
    }

-- a free place is there: that on top of the stack, else the next never opened
abbrev pub topped : List ℕ → Parts ℕ ℕ ℕ → Parts ℕ ℕ ℕ
topped [] s = unlocked s
topped (f ∷ fs) s = s

-- the victim of a sweep has left Main for the free stack
abbrev pub main_out : Option (Swept ℕ) → Parts ℕ ℕ ℕ → Parts ℕ ℕ ℕ
main_out None s = s
main_out (Some w) s =
    record { small = s.small; main = w.rest; remembered = s.remembered; free = w.victim.item ∷ s.free; opened = s.opened }

-- and Small's tail has joined Main
abbrev pub promoted_out : Option (Swept ℕ) → Parts ℕ ℕ ℕ → Parts ℕ ℕ ℕ
promoted_out None s = s
promoted_out (Some w) s = promoted (ended s.small) (main_out (Some w) s)

-- Small's tail has left for the free stack, and its key for the node, Ghost's newest
abbrev pub tail_out : ℕ → ℕ → Option (Ended (Resident ℕ)) → Parts ℕ ℕ ℕ → Parts ℕ ℕ ℕ
tail_out limit node None s = s
tail_out limit node (Some e) s =
    record { small = e.front; main = s.main; remembered = take limit (node ∷ s.remembered); free = e.tail.item ∷ s.free; opened = s.opened }

-- the eviction of Small's tail
pub record TailEvicted (limit : ℕ) (s t : Parts ℕ ℕ ℕ) (n : Noted) : Type 0 where
  pub parts : t ≡ tail_out limit n.node (ended s.small) s
  pub node : occurs n.node s.remembered ≡ cond n.forgot 1 0

-- the node that remembers who left Small; 0 if nobody did
abbrev pub node_of : Option Noted → ℕ
node_of None = 0
node_of (Some n) = n.node

abbrev pub is_main : Admission → Bool
is_main Small = false
is_main Main = true

abbrev pub admission_of : Bool → Admission
admission_of true = Main
admission_of false = Small

-- a place is vacated as the machine's first half does it
pub record Freed (v : Vacated ℕ ℕ ℕ) (t : Parts ℕ ℕ ℕ) (r : Vacancy) : Type 0 where
  pub parts : t ≡ on_stack v
  pub left : r.left ≡ v.left
  pub chances : r.chances ≡ v.chances

-- a node is told exactly if somebody left Small; it was spare, or the oldest of a full Ghost, which forgot it
abbrev pub Told : List ℕ → Option Part → Option Noted → Type 0
Told old None None = Unit {0}
Told old None (Some n) = ⊥
Told old (Some part.Main) None = Unit {0}
Told old (Some part.Main) (Some n) = ⊥
Told old (Some part.Small) None = ⊥
Told old (Some part.Small) (Some n) = occurs n.node old ≡ cond n.forgot 1 0

-- what holds as an insertion begins
pub record Ready (p : Core) (admission : Admission) (vacant : Bool) : Type 0 where
  pub limited : Limited p
  pub kept : Kept p
  pub some : 1 ≤ p.capacity
  pub vacancy : vacant ≡ has_vacancy p.capacity (view p)
  pub small : is_main admission ≡ false → 1 ≤ small_limit p.capacity

-- an insertion as the machine does it, in its two halves, with what the report tells
pub record Done (c : ℕ) (known : Bool) (s t : Parts ℕ ℕ ℕ) (r : Inserted) : Type 0 where
  pub parts : t ≡ seated c (vacated (λ _. node_of r.vacancy.noted) (λ q. q) c known s) r.place
  pub place : r.place ≡ place_at (vacated (λ _. node_of r.vacancy.noted) (λ q. q) c known s).spot
  pub joined : r.joined ≡ (vacated (λ _. node_of r.vacancy.noted) (λ q. q) c known s).joins
  pub left : r.vacancy.left ≡ (vacated (λ _. node_of r.vacancy.noted) (λ q. q) c known s).left
  pub chances : r.vacancy.chances ≡ (vacated (λ _. node_of r.vacancy.noted) (λ q. q) c known s).chances
  pub told : Told s.remembered r.vacancy.left r.vacancy.noted

abbrev pub part_of : Admission → Part
part_of Small = part.Small
part_of Main = part.Main
