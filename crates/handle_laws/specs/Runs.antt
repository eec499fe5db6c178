-- Lists of calls on an opened table: the slots that they leave, and what is in, counted from the calls.
use Rattle.std.specs.Prelude.{◌≡◌, ℕ, ◌+◌, ◌%◌, ◌<◌, Bool, true, cond, ◌&&◌, List, [], ◌∷◌, ◌++◌, map, length, is_some, ◌==◌, nat_lt}
use Rattle.handles.specs.Meaning.{alike}
use Rattle.handles.specs.Slots.{room, occupied, fingerprint}
use Rattle.handles.specs.Shift.{cleared}
use Rattle.handles.specs.Seek.{candidates}
use Rattle.handles.specs.Calls.{insertion, removal, sought, roomy, rebuilt, reserve_answer_lem, did_rebuild}
use Rattle.handles.specs.declared.slot.Slot.{Slot}

-- a call; a reservation brings slots, and its rule gives each meaning a hash
pub data Call (X : Type 0) : Type 0 where
  insert : ℕ → X → Call X
  remove : ℕ → X → Call X
  clear : Call X
  reserve : ℕ → (List ℕ → ℕ) → List (Slot X) → Call X

-- whether a reservation rebuilds a table of n slots that holds so many entries
abbrev pub rebuilds : {X : Type 0} → ℕ → ℕ → ℕ → List (Slot X) → Bool
rebuilds n entries wanted brought = did_rebuild (reserve_answer_lem (room n) entries wanted (length brought))

-- the slots after a call
abbrev pub step : {X : Type 0} → (X → List ℕ) → List (Slot X) → Call X → List (Slot X)
step meaning xs (insert hash x) = insertion xs hash x
step meaning xs (remove hash x) = removal meaning xs hash x
step meaning xs clear = cleared xs
step meaning xs (reserve wanted rule brought) =
    cond (rebuilds (length xs) (occupied xs) wanted brought) (rebuilt (λ x. rule (meaning x)) (cleared brought) xs) xs

-- the slots after opening over `start` and the calls, the newest first
abbrev pub slots_after : {X : Type 0} → (X → List ℕ) → List (Slot X) → List (Call X) → List (Slot X)
slots_after meaning start [] = cleared start
slots_after meaning start (c ∷ past) = step meaning (slots_after meaning start past) c

-- an entry that is in: the hash that it is under, and its handle
pub record Entry (X : Type 0) : Type 0 where
  pub hash : ℕ
  pub handle : X

-- what is in: the slot count, and the entries, the newest first
pub record Held (X : Type 0) : Type 0 where
  pub count : ℕ
  pub entries : List (Entry X)

-- two hashes with the same home and fingerprint
abbrev pub same_spot : ℕ → ℕ → ℕ → Bool
same_spot n g h = g % n == h % n && fingerprint g == fingerprint h

-- an entry under a hash with this home and fingerprint, with this meaning
abbrev pub fits_entry : {X : Type 0} → (X → List ℕ) → ℕ → ℕ → List ℕ → Entry X → Bool
fits_entry meaning n hash m e = same_spot n e.hash hash && alike (meaning e.handle) m

-- the list without the first that passes
abbrev pub drop_first : {A : Type 0} → (A → Bool) → List A → List A
drop_first ok [] = []
drop_first ok (x ∷ xs) = cond (ok x) xs (x ∷ drop_first ok xs)

-- how many pass
abbrev pub how_many : {A : Type 0} → (A → Bool) → List A → ℕ
how_many ok [] = 0
how_many ok (x ∷ xs) = cond (ok x) 1 0 + how_many ok xs

-- what is in after a call: an insertion is refused where the table is full, a removal takes one entry with the same
-- home, fingerprint and meaning, and a reservation that rebuilds puts each entry under its rule's hash
abbrev pub held_step : {X : Type 0} → (X → List ℕ) → Held X → Call X → Held X
held_step meaning h (insert hash x) =
    record { count = h.count; entries = cond (nat_lt (length h.entries) (room h.count)) (record { hash = hash; handle = x } ∷ h.entries) h.entries }
held_step meaning h (remove hash x) =
    record { count = h.count; entries = drop_first (fits_entry meaning h.count hash (meaning x)) h.entries }
held_step meaning h clear = record { count = h.count; entries = [] }
held_step meaning h (reserve wanted rule brought) =
    cond (rebuilds h.count (length h.entries) wanted brought)
    (record { count = length brought; entries = map (λ e. record { hash = rule (meaning e.handle); handle = e.handle }) h.entries }) h

abbrev pub held_after : {X : Type 0} → (X → List ℕ) → ℕ → List (Call X) → Held X
held_after meaning count [] = record { count = count; entries = [] }
held_after meaning count (c ∷ past) = held_step meaning (held_after meaning count past) c

-- how often a meaning is in under a hash with the same home and fingerprint
abbrev pub times_in : {X : Type 0} → (X → List ℕ) → Held X → ℕ → List ℕ → ℕ
times_in meaning h hash m = how_many (fits_entry meaning h.count hash m) h.entries

-- how often a reader yields a handle with this meaning
abbrev pub times_read : {X : Type 0} → (X → List ℕ) → List X → List ℕ → ℕ
times_read meaning xs m = how_many (λ x. alike (meaning x) m) xs

-- after any list of calls a reader of any hash yields each meaning as often as it is in
abbrev pub ReadsWhatIsIn : {X : Type 0} → (X → List ℕ) → Type 0
ReadsWhatIsIn {X} meaning =
    (start : List (Slot X)) (past : List (Call X)) (hash : ℕ) (m : List ℕ) →
    times_read meaning (candidates (slots_after meaning start past) hash) m ≡ times_in meaning (held_after meaning (length start) past) hash m

-- a call that leaves the entries of a meaning in, and under this hash
abbrev pub Spares : {X : Type 0} → (X → List ℕ) → ℕ → List ℕ → Call X → Type 0
Spares meaning hash m (insert g x) = Unit {0}
Spares meaning hash m (remove g x) = meaning x ≡ m → ⊥
Spares meaning hash m clear = ⊥
Spares meaning hash m (reserve wanted rule brought) = rule m ≡ hash

abbrev pub AllSpare : {X : Type 0} → (X → List ℕ) → ℕ → List ℕ → List (Call X) → Type 0
AllSpare meaning hash m [] = Unit {0}
AllSpare meaning hash m (c ∷ later) = Spares meaning hash m c × AllSpare meaning hash m later

-- an entry that was inserted, and not removed since, is found under its hash; so too across reservations whose rules
-- give its handle the hash that it was inserted under
abbrev pub StaysFindable : {X : Type 0} → (X → List ℕ) → Type 0
StaysFindable {X} meaning =
    (start : List (Slot X)) (earlier later : List (Call X)) (hash : ℕ) (x : X) →
    roomy (slots_after meaning start earlier) ≡ true → AllSpare meaning hash (meaning x) later →
    0 < times_read meaning (candidates (slots_after meaning start (later ++ insert hash x ∷ earlier)) hash) (meaning x)

-- after any list of calls, the table is full, holds so many, and has an entry to remove, exactly as the calls say
abbrev pub AnswersWhatIsIn : {X : Type 0} → (X → List ℕ) → Type 0
AnswersWhatIsIn {X} meaning =
    (start : List (Slot X)) (past : List (Call X)) →
    (length (slots_after meaning start past) ≡ (held_after meaning (length start) past).count)
    × (occupied (slots_after meaning start past) ≡ length (held_after meaning (length start) past).entries)
    × ((hash : ℕ) (x : X) → is_some (sought meaning (slots_after meaning start past) hash x) ≡ nat_lt 0 (times_in meaning (held_after meaning (length start) past) hash (meaning x)))
