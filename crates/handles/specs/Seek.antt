-- The candidates of a hash: the entries that a walk passes with the meta that the hash has there.
use Rattle.std.specs.Prelude.{◌≡◌, ℕ, zero, suc, ◌+◌, ◌-◌, ◌%◌, Bool, false, cond, ◌&&◌, List, [], ◌∷◌, ◌++◌, length, Some, None, Option, ◌==◌, nat_le}
use Rattle.handles.specs.Slots.{rank, meta_at, fingerprint}
use Rattle.handles.specs.declared.slot.Slot.{Slot}

-- a test of the slot at i; no past the end
abbrev pub test_at : {X : Type 0} → (Slot X → Bool) → List (Slot X) → ℕ → Bool
test_at f [] i = false
test_at f (s ∷ xs) zero = f s
test_at f (s ∷ xs) (suc i) = test_at f xs i

-- the displacement of the first candidate whose handle passes the test, from d on
abbrev pub seek_from : {X : Type 0} → (X → Bool) → ℕ → List (Slot X) → ℕ → ℕ → ℕ → ℕ → Option ℕ
seek_from ok n xs home print zero d = None
seek_from ok n xs home print (suc left) d =
    cond (nat_le (rank n xs (home + d)) d) None
    (cond (test_at (λ s. (s.meta == meta_at print d) && ok s.handle) xs ((home + d) % n)) (Some d)
    (seek_from ok n xs home print left (d + 1)))

abbrev pub seek : {X : Type 0} → (X → Bool) → List (Slot X) → ℕ → Option ℕ
seek ok xs hash = seek_from ok (length xs) xs (hash % length xs) (fingerprint hash) (length xs) 0

-- the handle in slot i, where the meta is m
abbrev pub pick : {X : Type 0} → ℕ → List (Slot X) → ℕ → List X
pick m [] i = []
pick m (s ∷ xs) zero = cond (s.meta == m) (s.handle ∷ []) []
pick m (s ∷ xs) (suc i) = pick m xs i

-- the handles of the candidates from d on, in probe order
abbrev pub candidates_from : {X : Type 0} → ℕ → List (Slot X) → ℕ → ℕ → ℕ → ℕ → List X
candidates_from n xs home print zero d = []
candidates_from n xs home print (suc left) d =
    cond (nat_le (rank n xs (home + d)) d) []
    (pick (meta_at print d) xs ((home + d) % n) ++ candidates_from n xs home print left (d + 1))

abbrev pub candidates : {X : Type 0} → List (Slot X) → ℕ → List X
candidates xs hash = candidates_from (length xs) xs (hash % length xs) (fingerprint hash) (length xs) 0

-- the first that passes the test
abbrev pub first_by : {X : Type 0} → (X → Bool) → List X → Option X
first_by ok [] = None
first_by ok (x ∷ xs) = cond (ok x) (Some x) (first_by ok xs)

-- the handles that a reader at displacement d has still to yield
abbrev pub to_come : {X : Type 0} → List (Slot X) → ℕ → ℕ → ℕ → List X
to_come xs home print d = candidates_from (length xs) xs home print (length xs - d) d

-- what `next` answers takes the first of what is to come, and none where nothing is
abbrev pub Gives : {X : Type 0} → Option X → List X → List X → Type 0
Gives None before after = (before ≡ []) × (after ≡ [])
Gives (Some x) before after = before ≡ x ∷ after
