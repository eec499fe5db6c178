-- The run moved forward for an insertion, and moved back for a removal.
use Rattle.std.specs.Prelude.{ℕ, zero, suc, ◌+◌, ◌-◌, ◌%◌, cond, List, map, length, ◌==◌, nat_le, slice_index_or, slice_set}
use Rattle.handles.specs.Slots.{rank, empty, meta_at, fingerprint}
use Rattle.handles.specs.Walk.{stop}
use Rattle.handles.specs.declared.slot.Slot.{Slot}

-- the entry one slot further from its home
abbrev pub further : {X : Type 0} → Slot X → Slot X
further s = record { meta = s.meta + 256; handle = s.handle }

-- the entry one slot nearer to its home
abbrev pub nearer : {X : Type 0} → Slot X → Slot X
nearer s = record { meta = s.meta - 256; handle = s.handle }

-- the slot without its entry
abbrev pub vacated : {X : Type 0} → Slot X → Slot X
vacated s = record { meta = empty; handle = s.handle }

-- how many slots in a row are occupied from p on, within the next `left`
abbrev pub run_from : {X : Type 0} → ℕ → List (Slot X) → ℕ → ℕ → ℕ
run_from n xs zero p = 0
run_from n xs (suc left) p = cond (rank n xs p == 0) 0 (suc (run_from n xs left (p + 1)))

abbrev pub run : {X : Type 0} → ℕ → List (Slot X) → ℕ → ℕ
run n xs p = run_from n xs n p

-- s comes to stand at p, and each of the `far` entries from p on goes one slot further
abbrev pub pushed : {X : Type 0} → ℕ → List (Slot X) → ℕ → ℕ → Slot X → List (Slot X)
pushed n xs p zero s = slice_set xs (p % n) s
pushed n xs p (suc far) s = pushed n (slice_set xs (p % n) s) (p + 1) far (further (slice_index_or xs (p % n) s))

-- how many entries in a row are away from their homes from p on, within the next `left` slots
abbrev pub away_from : {X : Type 0} → ℕ → List (Slot X) → ℕ → ℕ → ℕ
away_from n xs zero p = 0
away_from n xs (suc left) p = cond (nat_le (rank n xs p) 1) 0 (suc (away_from n xs left (p + 1)))

abbrev pub away : {X : Type 0} → ℕ → List (Slot X) → ℕ → ℕ
away n xs p = away_from n xs n p

-- each of the `far` entries after p comes one slot nearer, and the last slot is left empty; d is read past the end only
abbrev pub pulled : {X : Type 0} → ℕ → List (Slot X) → ℕ → ℕ → Slot X → List (Slot X)
pulled n xs p zero d = slice_set xs (p % n) (vacated (slice_index_or xs (p % n) d))
pulled n xs p (suc far) d = pulled n (slice_set xs (p % n) (nearer (slice_index_or xs ((p + 1) % n) d))) (p + 1) far d

-- the slots with a handle put in under a hash
abbrev pub inserted : {X : Type 0} → List (Slot X) → ℕ → X → List (Slot X)
inserted xs hash x =
    pushed (length xs) xs (hash % length xs + stop (length xs) xs (hash % length xs))
    (run (length xs) xs (hash % length xs + stop (length xs) xs (hash % length xs)))
    (record { meta = meta_at (fingerprint hash) (stop (length xs) xs (hash % length xs)); handle = x })

-- the slots without the entry in slot p
abbrev pub erased : {X : Type 0} → List (Slot X) → ℕ → Slot X → List (Slot X)
erased xs p d = pulled (length xs) xs p (away (length xs) xs (p + 1)) d

-- every slot empty
abbrev pub cleared : {X : Type 0} → List (Slot X) → List (Slot X)
cleared xs = map vacated xs
