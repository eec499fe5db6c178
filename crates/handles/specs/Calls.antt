-- What each call answers and leaves.
use Rattle.std.specs.Prelude.{◌≡◌, ℕ, ◌+◌, ◌%◌, Bool, true, false, cond, List, [], ◌∷◌, length, is_some, Some, None, Ok, Err, Option, Result, ◌==◌, nat_le, nat_lt}
use Rattle.handles.specs.Meaning.{alike}
use Rattle.handles.specs.Slots.{empty, allowed, room, occupied, weigh, fingerprint}
use Rattle.handles.specs.Shift.{inserted, erased, cleared}
use Rattle.handles.specs.Seek.{seek}
use Rattle.handles.specs.declared.slot.Slot.{Slot}
use Rattle.handles.specs.declared.refusal.Reserved.{Reserved}
use Rattle.handles.specs.declared.refusal.Reserved.TheVariants.{Room, Rebuilt}
use Rattle.handles.specs.declared.refusal.TableRefusal.{TableRefusal}
use Rattle.handles.specs.declared.refusal.TableRefusal.TheVariants.{Full, SlotCount, TooFewSlots}

-- measuring n slots: their capacity, or the refusal of their count
abbrev pub measured : ℕ → Result ℕ TableRefusal
measured n = cond (allowed n) (Ok (room n)) (Err (SlotCount n))

-- whether a table over these slots takes one more
abbrev pub roomy : {X : Type 0} → List (Slot X) → Bool
roomy xs = nat_lt (occupied xs) (room (length xs))

-- the slots after an insertion that is refused where the table is full
abbrev pub insertion : {X : Type 0} → List (Slot X) → ℕ → X → List (Slot X)
insertion xs hash x = cond (roomy xs) (inserted xs hash x) xs

-- what an insertion of x under a hash answers (r) and makes of the slots xs (ys)
pub record Inserts {X : Type 0} (xs : List (Slot X)) (hash : ℕ) (x : X) (r : Result (Unit {0}) TableRefusal) (ys : List (Slot X)) : Type 0 where
  pub answer : r ≡ cond (roomy xs) (Ok tt) (Err (Full (room (length xs))))
  pub slots : ys ≡ insertion xs hash x
  -- every weighing gains the entry's weight
  pub weighs : (w : ℕ → ℕ → X → ℕ) → roomy xs ≡ true → weigh w ys ≡ weigh w xs + w (hash % length xs) (fingerprint hash) x

-- the first candidate of a hash with the meaning of x
abbrev pub sought : {X : Type 0} → (X → List ℕ) → List (Slot X) → ℕ → X → Option ℕ
sought meaning xs hash x = seek (λ y. alike (meaning y) (meaning x)) xs hash

-- the slots without the entry at a displacement from home, where there is one
abbrev pub taken_out : {X : Type 0} → List (Slot X) → ℕ → X → Option ℕ → List (Slot X)
taken_out xs hash x None = xs
taken_out xs hash x (Some d) = erased xs (hash % length xs + d) (record { meta = empty; handle = x })

-- the slots after a removal
abbrev pub removal : {X : Type 0} → (X → List ℕ) → List (Slot X) → ℕ → X → List (Slot X)
removal meaning xs hash x = taken_out xs hash x (sought meaning xs hash x)

-- what a removal of x under a hash answers and makes of the slots
pub record Removes {X : Type 0} (meaning : X → List ℕ) (xs : List (Slot X)) (hash : ℕ) (x : X) (r : Bool) (ys : List (Slot X)) : Type 0 where
  pub answer : r ≡ is_some (sought meaning xs hash x)
  pub slots : ys ≡ removal meaning xs hash x
  -- every weighing by meaning loses the entry's weight
  pub weighs : (w : ℕ → ℕ → List ℕ → ℕ) → r ≡ true → weigh (λ home print y. w home print (meaning y)) ys + w (hash % length xs) (fingerprint hash) (meaning x) ≡ weigh (λ home print y. w home print (meaning y)) xs

-- old entries placed anew one by one, in slot order, each under the hash that a rule gives it
abbrev pub rebuilt : {X : Type 0} → (X → ℕ) → List (Slot X) → List (Slot X) → List (Slot X)
rebuilt rule ys [] = ys
rebuilt rule ys (s ∷ xs) = rebuilt rule (cond (s.meta == empty) ys (inserted ys (rule s.handle) s.handle)) xs

-- what a reservation answers: room already, rebuilt, or the refusal of the brought slots
abbrev pub reserve_answer_lem : ℕ → ℕ → ℕ → ℕ → Result Reserved TableRefusal
reserve_answer_lem capacity entries wanted brought =
    cond (nat_le (entries + wanted) capacity) (Ok Room)
    (cond (allowed brought)
    (cond (nat_le (entries + wanted) (room brought)) (Ok Rebuilt) (Err (TooFewSlots (room brought) entries wanted)))
    (Err (SlotCount brought)))

abbrev pub did_rebuild : Result Reserved TableRefusal → Bool
did_rebuild (Ok Room) = false
did_rebuild (Ok Rebuilt) = true
did_rebuild (Err e) = false

-- what a reservation answers, makes of the table's slots xs (ys), and leaves with the bringer (from bs to cs)
pub record Reserves {X : Type 0} (rule : X → ℕ) (xs : List (Slot X)) (wanted : ℕ) (bs : List (Slot X)) (r : Result Reserved TableRefusal) (ys cs : List (Slot X)) : Type 0 where
  pub answer : r ≡ reserve_answer_lem (room (length xs)) (occupied xs) wanted (length bs)
  pub slots : ys ≡ cond (did_rebuild r) (rebuilt rule (cleared bs) xs) xs
  pub brought : cs ≡ cond (did_rebuild r) xs bs
