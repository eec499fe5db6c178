-- What seating a newcomer in Small writes, and what closing a window does.
use Rattle.std.specs.Prelude.{◌≡◌, ℕ, ◌+◌, ◌%◌, Some, None, MatchBool, Option, nat_lt, slice_set}
use Rattle.links.specs.Lists.{lists, rehomed}
use Rattle.links.specs.Rows.{fronted}
use Rattle.queues.specs.declared.slots.Slots.{Slots}
use Rattle.queues.specs.declared.state.SlotState.TheVariants.{Young}
use Rattle.queues.specs.declared.state.Event.TheVariants.{WindowClosed}
use Rattle.queues.specs.State.{met, with_state}
use Rattle.queues.specs.Slots.{home_in, slot_of, state_of, age_of}

-- the place is first among the young, with the next number of admission
pub record Joined (s t : Slots) (p : ℕ) : Type 0 where
  pub line : lists t.line ≡ fronted p 0 (lists s.line)
  pub homes : (q : ℕ) → home_in t q ≡ rehomed p 0 (home_in s) q
  pub places : t.places ≡ slice_set s.places p (record { state = Young; admitted = t.admissions })
  pub admissions : t.admissions ≡ (s.admissions + 1) % 256
  pub opened : t.opened ≡ s.opened
  pub window : t.window ≡ s.window

-- the place is first among the others of Small
pub record Closed (s t : Slots) (p : ℕ) : Type 0 where
  pub line : lists t.line ≡ fronted p 1 (lists s.line)
  pub homes : (q : ℕ) → home_in t q ≡ rehomed p 1 (home_in s) q
  pub places : t.places ≡ slice_set s.places p (with_state (slot_of s p) (met (state_of s p) WindowClosed))
  pub admissions : t.admissions ≡ s.admissions
  pub opened : t.opened ≡ s.opened
  pub window : t.window ≡ s.window

-- the window of the oldest young closes, if it has come to its end
abbrev pub closing : Slots → Slots → Option ℕ → Type 0
closing s t None = t ≡ s
closing s t (Some p) = MatchBool (nat_lt (age_of s p) s.window) (t ≡ s) (Closed s t p)
