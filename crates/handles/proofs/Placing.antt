-- Insertion where the walk stops keeps a table sound and adds one entry; removal takes one away.
use Rattle.std.proofs.Common.{◌≡◌, ℕ, zero, suc, ◌+◌, ◌-◌, ◌*◌, ◌/◌, ◌%◌, ◌^◌, ◌<◌, ◌≤◌, true, cond, eqb, List, [], ◌∷◌, length, get_or, replicate, sym, refl, ap, ◌∙◌, subst, inl, inr, mod-lt, mod-eq_of_lt, arith}
use native.Mathlib.Nat.{add-mod_right, mod-mod}
use Rattle.std.proofs.lemmas.Bool.{cases_eq}
use Rattle.handles.specs.Slots.{rank, rank_of, meta_of, occupied, Local, Sound, allowed, room, empty, weigh_from, weigh, weight, meta_at, fingerprint, home_of}
use Rattle.handles.specs.Walk.{stop}
use Rattle.handles.specs.Carry.{Carries}
use Rattle.handles.specs.Shift.{run, pushed, inserted, erased, away, cleared}
use Rattle.handles.specs.declared.slot.Slot.{Slot}
use Rattle.handles.proofs.Ring.{small, back, room_below, roomy_allowed}
use Rattle.handles.proofs.Ranks.{rank_same, meta_get_d}
use Rattle.handles.proofs.Vacancy.{rank_pos, rank_empty}
use Rattle.handles.proofs.Weighing.{weight_full}
use Rattle.handles.proofs.Walking.{stops, passed_short}
use Rattle.handles.proofs.Pushing.{Ring, ring_made, ring_pos, pushed_local, pushed_length, pushed_weighs, pushed_same, run_same, carries_same}
use Rattle.handles.proofs.Pulling.{pulled_local, pulled_length, pulled_weighs}

-- an entry's meta says its displacement and its fingerprint
pub meta_parts : (print d : ℕ) → print < 256 → d < 4096 → (meta_at print d / 256 ≡ d) × (meta_at print d % 256 ≡ print) × (meta_at print d ≡ empty → ⊥)
meta_parts print d lo hi = (omega arith, omega arith, λ e. omega arith)

pub print_below : (hash : ℕ) → fingerprint hash < 256
print_below hash = mod-lt (hash / 2 ^ 56) (omega arith)

-- the home of an entry d slots past home
pub home_back : (n home d : ℕ) → home < n → d < n → ((home + d) % n + n - d) % n ≡ home
home_back n home d h lt =
    let two : home + d < n + n = omega arith in
    elim (small n (home + d) two) [
      | inl t ↦
          (let e : (home + d) % n + n - d ≡ home + n = omega (arith, t.1) in
          ap (λ (z : ℕ). z % n) e ∙ add-mod_right home n ∙ mod-eq_of_lt h)
      | inr t ↦
          (let e : (home + d) % n + n - d ≡ home = omega (arith, t.0, t.1) in
          ap (λ (z : ℕ). z % n) e ∙ mod-eq_of_lt h)
    ]

pub roomy_pos : (n k : ℕ) → k < room n → 0 < n
roomy_pos n k h =
    elim (cases_eq n 0) [
      | inl e ↦ absurd (let z : k < room 0 = subst (λ (m : ℕ). k < room m) e h in omega arith)
      | inr ne ↦ omega arith
    ]

module _ {X : Type 0} where
  -- where its walk stops, an entry may come to stand
  pub stop_carries : (n : ℕ) (xs : List (Slot X)) (home print : ℕ) (x : X) → Ring n xs → print < 256 → Carries n xs (home + stop n xs home) (record { meta = meta_at print (stop n xs home); handle = x })
  stop_carries n xs home print x r lo =
      let pos = ring_pos n xs r in
      let high = r.high in
      let s = stops n xs home r.len r.room in
      let d = stop n xs home in
      let short = passed_short n xs home d r.len r.room s.0 in
      let m = meta_parts print d lo (omega arith) in
      let k : rank_of (meta_at print d) ≡ d + 1 = rank_pos (meta_at print d) m.2 ∙ ap (λ (z : ℕ). z + 1) m.0 in (
        (λ q e.
            elim (cases_eq d 0) [
              | inl z ↦ omega arith
              | inr nz ↦
                  (let f : home + d ≡ home + (d - 1) + 1 = omega arith in
                  let g = back n q (home + (d - 1)) pos (e ∙ ap (λ (z : ℕ). z % n) f) in
                  let same = rank_same n xs q (home + (d - 1)) g in
                  let before = s.0 (d - 1) (omega arith) in
                  omega arith)
            ]),
        (let here = s.1 in omega arith),
        m.2,
      )

  pub inserted_length : (xs : List (Slot X)) (hash : ℕ) (x : X) → length (inserted xs hash x) ≡ length xs
  inserted_length xs hash x =
      pushed_length (length xs) xs (hash % length xs + stop (length xs) xs (hash % length xs))
      (run (length xs) xs (hash % length xs + stop (length xs) xs (hash % length xs)))
      (record { meta = meta_at (fingerprint hash) (stop (length xs) xs (hash % length xs)); handle = x })

  pub inserted_local : (xs : List (Slot X)) (hash : ℕ) (x : X) → Ring (length xs) xs → Local (length xs) (inserted xs hash x)
  inserted_local xs hash x r =
      pushed_local (length xs) xs (hash % length xs + stop (length xs) xs (hash % length xs))
      (run (length xs) xs (hash % length xs + stop (length xs) xs (hash % length xs)))
      (record { meta = meta_at (fingerprint hash) (stop (length xs) xs (hash % length xs)); handle = x }) r
      (stop_carries (length xs) xs (hash % length xs) (fingerprint hash) x r (print_below hash)) refl

  pub inserted_weighs : (w : ℕ → ℕ → X → ℕ) (xs : List (Slot X)) (hash : ℕ) (x : X) → Ring (length xs) xs → weigh w (inserted xs hash x) ≡ weigh w xs + w (hash % length xs) (fingerprint hash) x
  inserted_weighs w xs hash x r =
      let n = length xs in
      let home = hash % n in
      let d = stop n xs home in
      let pos = ring_pos n xs r in
      let high = r.high in
      let s = stops n xs home r.len r.room in
      let short = passed_short n xs home d r.len r.room s.0 in
      let m = meta_parts (fingerprint hash) d (print_below hash) (omega arith) in
      let e : Slot X = record { meta = meta_at (fingerprint hash) d; handle = x } in
      let p = pushed_weighs w n xs (home + d) (run n xs (home + d)) e r (stop_carries n xs home (fingerprint hash) x r (print_below hash)) refl in
      let l = ap (λ (k : ℕ). weigh_from w k 0 (inserted xs hash x)) (inserted_length xs hash x) in
      let f = weight_full w n ((home + d) % n) e m.2 in
      let h : home_of n ((home + d) % n) (meta_at (fingerprint hash) d) ≡ home =
      ap (λ (k : ℕ). ((home + d) % n + n - k) % n) m.0 ∙ home_back n home d (mod-lt hash pos) short in
      let g : weight w n ((home + d) % n) e ≡ w home (fingerprint hash) x =
      f ∙ ap (λ (k : ℕ). w k (meta_at (fingerprint hash) d % 256) x) h ∙ ap (λ (k : ℕ). w home k x) m.1 in
      l ∙ p ∙ ap (λ (k : ℕ). weigh_from w n 0 xs + k) g

  pub occupied_weigh : (n i : ℕ) (xs : List (Slot X)) → weigh_from (λ _ _ _. 1) n i xs ≡ occupied xs
  occupied_weigh n i [] = refl
  occupied_weigh n i (s ∷ xs) = ap (λ (k : ℕ). cond (eqb s.meta empty) 0 1 + k) (occupied_weigh n (suc i) xs)

  pub inserted_occupied : (xs : List (Slot X)) (hash : ℕ) (x : X) → Ring (length xs) xs → occupied (inserted xs hash x) ≡ occupied xs + 1
  inserted_occupied xs hash x r =
      sym (occupied_weigh (length (inserted xs hash x)) 0 (inserted xs hash x))
      ∙ inserted_weighs (λ _ _ _. 1) xs hash x r
      ∙ ap (λ (k : ℕ). k + 1) (occupied_weigh (length xs) 0 xs)

  -- a sound table with room is a ring with an empty slot
  pub sound_ring : (xs : List (Slot X)) (len : ℕ) → Sound xs len → allowed (length xs) ≡ true → 0 < length xs → Ring (length xs) xs
  sound_ring xs len s a pos =
      let b = room_below (length xs) pos in
      let c = s.1 in
      let d = s.2 in
      ring_made xs (record { size = a; vacancy = omega arith; level = s.0 })

  pub roomy_ring : (xs : List (Slot X)) (len k : ℕ) → Sound xs len → k < room (length xs) → Ring (length xs) xs
  roomy_ring xs len k s h =
      sound_ring xs len s (roomy_allowed (length xs) k h) (roomy_pos (length xs) k h)

  pub inserted_sound : (xs : List (Slot X)) (len hash : ℕ) (x : X) → Sound xs len → len < room (length xs) → Sound (inserted xs hash x) (len + 1)
  inserted_sound xs len hash x s h =
      let r = roomy_ring xs len len s h in
      let l = inserted_length xs hash x in (
        subst (λ (k : ℕ). Local k (inserted xs hash x)) (sym l) (inserted_local xs hash x r),
        inserted_occupied xs hash x r ∙ ap (λ (k : ℕ). k + 1) s.1,
        subst (λ (k : ℕ). len + 1 ≤ room k) (sym l) (omega arith),
      )

  -- the removal of the entry at p
  pub erased_length : (xs : List (Slot X)) (p : ℕ) (d : Slot X) → length (erased xs p d) ≡ length xs
  erased_length xs p d = pulled_length (length xs) xs p (away (length xs) xs (p + 1)) d

  pub erased_weighs : (w : ℕ → ℕ → X → ℕ) (xs : List (Slot X)) (p : ℕ) (d : Slot X) → Ring (length xs) xs → 0 < rank (length xs) xs p → weigh w (erased xs p d) + weight w (length xs) (p % length xs) (get_or xs (p % length xs) d) ≡ weigh w xs
  erased_weighs w xs p d r taken =
      let l = ap (λ (k : ℕ). weigh_from w k 0 (erased xs p d)) (erased_length xs p d) in
      let e = pulled_weighs w (length xs) xs p (away (length xs) xs (p + 1)) d r taken refl in
      omega arith

  pub erased_sound : (xs : List (Slot X)) (len p : ℕ) (d : Slot X) → Sound xs len → Ring (length xs) xs → 0 < rank (length xs) xs p → (0 < len) × Sound (erased xs p d) (len - 1)
  erased_sound xs len p d s r taken =
      let n = length xs in
      let l = erased_length xs p d in
      let pos = ring_pos n xs r in
      let lt : p % n < length xs = mod-lt p pos in
      let some : (get_or xs (p % n) d).meta ≡ empty → ⊥ =
      λ e. (let z = rank_empty (meta_of xs (p % n)) (sym (meta_get_d xs (p % n) d lt) ∙ e) in omega arith) in
      let one = weight_full (λ _ _ _. 1) n (p % n) (get_or xs (p % n) d) some in
      let w = erased_weighs (λ _ _ _. 1) xs p d r taken in
      let a = occupied_weigh (length (erased xs p d)) 0 (erased xs p d) in
      let b = occupied_weigh n 0 xs in
      let c = s.1 in
      let top = s.2 in
      let pos_len : 0 < len = omega arith in (
        pos_len,
        (
          subst (λ (k : ℕ). Local k (erased xs p d)) (sym l) (pulled_local n xs p (away n xs (p + 1)) d r taken refl),
          omega arith,
          subst (λ (k : ℕ). len - 1 ≤ room k) (sym l) (omega arith),
        ),
      )

  -- slots that are all empty
  pub cleared_meta : (xs : List (Slot X)) (i : ℕ) → meta_of (cleared xs) i ≡ empty
  cleared_meta [] i = refl
  cleared_meta (x ∷ xs) zero = refl
  cleared_meta (x ∷ xs) (suc i) = cleared_meta xs i

  pub cleared_occupied : (xs : List (Slot X)) → occupied (cleared xs) ≡ 0
  cleared_occupied [] = refl
  cleared_occupied (x ∷ xs) = let ih = cleared_occupied xs in omega arith

  pub cleared_weighs : (w : ℕ → ℕ → X → ℕ) (n i : ℕ) (xs : List (Slot X)) → weigh_from w n i (cleared xs) ≡ 0
  cleared_weighs w n i [] = refl
  cleared_weighs w n i (x ∷ xs) = let ih = cleared_weighs w n (suc i) xs in omega arith

  pub cleared_sound : (xs : List (Slot X)) → Sound (cleared xs) 0
  cleared_sound xs = (
    (λ p. let a = ap rank_of (cleared_meta xs ((p + 1) % length (cleared xs))) in omega arith),
    cleared_occupied xs,
    omega arith,
  )

  module _ (xs ys : List (Slot X)) (hash home slot d print : ℕ) (x : X) (over : ys ≡ xs) (at_home : home ≡ hash % length xs) (printed : print ≡ fingerprint hash) (stopped : d ≡ stop (length ys) ys home) (at_slot : slot ≡ (home + d) % length ys) where
    slot_same : (hash % length xs + stop (length xs) xs (hash % length xs)) % length xs ≡ slot % length xs
    slot_same =
        sym (ap (λ (k : ℕ). k % length xs) (at_slot ∙ ap (λ (zs : List (Slot X)). (home + d) % length zs) over)
        ∙ mod-mod (home + d) (length xs)
        ∙ ap (λ (k : ℕ). (home + k) % length xs) (stopped ∙ ap (λ (zs : List (Slot X)). stop (length zs) zs home) over)
        ∙ ap (λ (k : ℕ). (k + stop (length xs) xs k) % length xs) at_home)

    meta_same : meta_at (fingerprint hash) (stop (length xs) xs (hash % length xs)) ≡ d * 256 + print
    meta_same =
        sym (ap (λ (k : ℕ). k * 256 + print) (stopped ∙ ap (λ (zs : List (Slot X)). stop (length zs) zs home) over ∙ ap (stop (length xs) xs) at_home)
        ∙ ap (λ (k : ℕ). stop (length xs) xs (hash % length xs) * 256 + k) printed)

    -- what a walk found, as the code has it, is where the entry may stand
    pub place_carries : Ring (length xs) xs → Carries (length xs) xs slot (record { meta = d * 256 + print; handle = x })
    place_carries r =
        subst (λ (m : ℕ). Carries (length xs) xs slot (record { meta = m; handle = x })) meta_same
        (carries_same (length xs) xs (hash % length xs + stop (length xs) xs (hash % length xs)) slot (record { meta = meta_at (fingerprint hash) (stop (length xs) xs (hash % length xs)); handle = x }) slot_same
        (stop_carries (length xs) xs (hash % length xs) (fingerprint hash) x r (print_below hash)))

    pub place_is : pushed (length xs) xs slot (run (length xs) xs slot) (record { meta = d * 256 + print; handle = x }) ≡ inserted xs hash x
    place_is =
        let p = hash % length xs + stop (length xs) xs (hash % length xs) in
        sym (pushed_same (length xs) xs p slot (run (length xs) xs p) (record { meta = meta_at (fingerprint hash) (stop (length xs) xs (hash % length xs)); handle = x }) slot_same
        ∙ ap (λ (k : ℕ). pushed (length xs) xs slot k (record { meta = meta_at (fingerprint hash) (stop (length xs) xs (hash % length xs)); handle = x })) (run_same (length xs) xs (length xs) p slot slot_same)
        ∙ ap (λ (m : ℕ). pushed (length xs) xs slot (run (length xs) xs slot) (record { meta = m; handle = x })) meta_same)

  -- a sound table with an entry has slots, of an allowed count
  pub sound_some : (xs : List (Slot X)) (len : ℕ) → Sound xs len → (len ≡ 0 → ⊥) → (allowed (length xs) ≡ true) × (0 < length xs)
  sound_some xs len s ne =
      let top = s.2 in
      let lt : len - 1 < room (length xs) = (elim (cases_eq len 0) [ inl e ↦ absurd (ne e) | inr _ ↦ omega arith ]) in
      (roomy_allowed (length xs) (len - 1) lt, roomy_pos (length xs) (len - 1) lt)

  -- slots that hold nothing from the start
  pub vacant_meta : (n : ℕ) (x : X) (i : ℕ) → meta_of (replicate n (record { meta = empty; handle = x })) i ≡ empty
  vacant_meta zero x i = refl
  vacant_meta (suc n) x zero = refl
  vacant_meta (suc n) x (suc i) = vacant_meta n x i

  pub vacant_occupied : (n : ℕ) (x : X) → occupied (replicate n (record { meta = empty; handle = x })) ≡ 0
  vacant_occupied zero x = refl
  vacant_occupied (suc n) x = let ih = vacant_occupied n x in omega arith

  pub vacant_sound : (n : ℕ) (x : X) → Sound (replicate n (record { meta = empty; handle = x })) 0
  vacant_sound n x = (
    (λ p. let xs = replicate n (record { meta = empty; handle = x }) in
        let a : rank (length xs) xs (p + 1) ≡ 0 = ap rank_of (vacant_meta n x ((p + 1) % length xs)) in omega arith),
    vacant_occupied n x,
    omega arith,
  )
