-- Slots: what a meta says, which slot counts are allowed, what a table holds, and when it is sound.
use Rattle.std.specs.Prelude.{◌≡◌, ℕ, zero, suc, ◌+◌, ◌-◌, ◌*◌, ◌/◌, ◌%◌, ◌^◌, ◌<◌, ◌≤◌, Bool, true, cond, ◌||◌, List, [], ◌∷◌, length, ◌==◌}
use Rattle.handles.specs.declared.slot.Slot.{Slot}

-- the meta of a slot that holds nothing
abbrev pub empty : ℕ
empty = 0xFFFFFFFF

-- the top 8 bits of a 64-bit hash
abbrev pub fingerprint : ℕ → ℕ
fingerprint hash = hash / 2 ^ 56 % 256

-- the meta of an entry that stands `d` slots past its home
abbrev pub meta_at : ℕ → ℕ → ℕ
meta_at print d = d * 256 + print

-- how far an entry stands from its home, plus one; 0 for an empty slot
abbrev pub rank_of : ℕ → ℕ
rank_of m = cond (m == empty) 0 (m / 256 + 1)

abbrev pub meta_of : {X : Type 0} → List (Slot X) → ℕ → ℕ
meta_of [] i = empty
meta_of (s ∷ xs) zero = s.meta
meta_of (s ∷ xs) (suc i) = meta_of xs i

-- the rank of the slot p steps round a ring of n slots
abbrev pub rank : {X : Type 0} → ℕ → List (Slot X) → ℕ → ℕ
rank n xs p = rank_of (meta_of xs (p % n))

-- 0, or a power of two from 16 to 4,096
abbrev pub allowed : ℕ → Bool
allowed n =
    (n == 0) || (n == 16 || (n == 32 || (n == 64 || (n == 128 || (n == 256 || (n == 512 || (n == 1024 || (n == 2048 || n == 4096))))))))

-- how many entries n slots take: three quarters, and none where the count is not allowed
abbrev pub room : ℕ → ℕ
room n = cond (allowed n) (n * 3 / 4) 0

abbrev pub occupied : {X : Type 0} → List (Slot X) → ℕ
occupied [] = 0
occupied (s ∷ xs) = cond (s.meta == empty) 0 1 + occupied xs

-- the home of an entry in slot i whose meta is m
abbrev pub home_of : ℕ → ℕ → ℕ → ℕ
home_of n i m = (i + n - m / 256) % n

-- what slot i adds to a weighing by home, fingerprint and handle
abbrev pub weight : {X : Type 0} → (ℕ → ℕ → X → ℕ) → ℕ → ℕ → Slot X → ℕ
weight w n i s = cond (s.meta == empty) 0 (w (home_of n i s.meta) (s.meta % 256) s.handle)

abbrev pub weigh_from : {X : Type 0} → (ℕ → ℕ → X → ℕ) → ℕ → ℕ → List (Slot X) → ℕ
weigh_from w n i [] = 0
weigh_from w n i (s ∷ xs) = weight w n i s + weigh_from w n (suc i) xs

-- all that the slots hold, weighed by home, fingerprint and handle; with 0 and 1 as weights, a count
abbrev pub weigh : {X : Type 0} → (ℕ → ℕ → X → ℕ) → List (Slot X) → ℕ
weigh w xs = weigh_from w (length xs) 0 xs

-- from each slot to the next, the rank grows by one at most
abbrev pub Local : {X : Type 0} → ℕ → List (Slot X) → Type 0
Local n xs = (p : ℕ) → rank n xs (p + 1) ≤ rank n xs p + 1

-- a table of these slots with this many entries is sound
abbrev pub Sound : {X : Type 0} → List (Slot X) → ℕ → Type 0
Sound xs len = Local (length xs) xs × (occupied xs ≡ len) × (len ≤ room (length xs))

-- slots among which a run may move: of an allowed count, one of them empty, and no rank more than one above the one before
pub record Movable {X : Type 0} (xs : List (Slot X)) : Type 0 where
  pub size : allowed (length xs) ≡ true
  pub vacancy : occupied xs < length xs
  pub level : Local (length xs) xs
