-- A walk passes slots of higher rank than its own displacement, and stops within one round.
use Rattle.std.proofs.Common.{◌≡◌, ℕ, zero, suc, ◌+◌, ◌-◌, ◌<◌, ◌≤◌, cond, List, length, refl, ap, inl, inr, arith}
use Rattle.std.proofs.lemmas.Bool.Decides.{leb_tells}
use Rattle.handles.specs.Slots.{rank, occupied}
use Rattle.handles.specs.Walk.{stop_from, stop}
use Rattle.handles.specs.declared.slot.Slot.{Slot}
use Rattle.handles.proofs.Vacancy.{gap_from}

module _ {X : Type 0} where
  -- the walk from home passed the first d slots
  abbrev pub Passed : ℕ → List (Slot X) → ℕ → ℕ → Type 0
  Passed n xs home d = (e : ℕ) → e < d → e < rank n xs (home + e)

  pub passed_more : (n : ℕ) (xs : List (Slot X)) (home d : ℕ) → Passed n xs home d → d < rank n xs (home + d) → Passed n xs home (d + 1)
  passed_more n xs home d before here e lt =
      elim (leb_tells d e) [
        | inl t ↦ (let q : e ≡ d = omega (arith, t.1) in rw q here)
        | inr t ↦ before e t.1
      ]

  pub passed_short : (n : ℕ) (xs : List (Slot X)) (home d : ℕ) → n ≡ length xs → occupied xs < n → Passed n xs home d → d < n
  passed_short n xs home d len room passed =
      let (j, near, is) = gap_from n xs home len room in
      elim (leb_tells d j) [
        | inl t ↦ omega (arith, t.1)
        | inr t ↦ absurd (omega (arith, passed j t.1))
      ]

  pub stop_here : (n : ℕ) (xs : List (Slot X)) (home left d : ℕ) → rank n xs (home + d) ≤ d → stop_from n xs home left d ≡ d
  stop_here n xs home zero d h = refl
  stop_here n xs home (suc left) d h =
      elim (leb_tells (rank n xs (home + d)) d) [
        | inl t ↦ ap (λ b. cond b d (stop_from n xs home left (d + 1))) t.0
        | inr t ↦ absurd (omega (arith, t.1))
      ]

  pub stop_on : (n : ℕ) (xs : List (Slot X)) (home d : ℕ) → d < n → d < rank n xs (home + d) → stop_from n xs home (n - d) d ≡ stop_from n xs home (n - (d + 1)) (d + 1)
  stop_on n xs home d lt h =
      let e : n - d ≡ suc (n - (d + 1)) = omega arith in
      rw e
      (elim (leb_tells (rank n xs (home + d)) d) [
        | inl t ↦ absurd (omega (arith, t.1))
        | inr t ↦ ap (λ b. cond b d (stop_from n xs home (n - (d + 1)) (d + 1))) t.0
      ])

  -- where it stops it has passed all before, and the rank there is no higher than the displacement
  pub stop_from_stops : (n : ℕ) (xs : List (Slot X)) (home left d : ℕ) → n ≡ length xs → occupied xs < n → n ≤ left + d → Passed n xs home d → Passed n xs home (stop_from n xs home left d) × (rank n xs (home + stop_from n xs home left d) ≤ stop_from n xs home left d)
  stop_from_stops n xs home zero d len room enough passed =
      absurd (let s = passed_short n xs home d len room passed in omega arith)
  stop_from_stops n xs home (suc left) d len room enough passed =
      elim (leb_tells (rank n xs (home + d)) d) [
        | inl t ↦ (let e = stop_here n xs home (suc left) d t.1 in rw e (passed, t.1))
        | inr t ↦
            (let e : stop_from n xs home (suc left) d ≡ stop_from n xs home left (d + 1) =
            ap (λ b. cond b d (stop_from n xs home left (d + 1))) t.0 in
            rw e (stop_from_stops n xs home left (d + 1) len room (omega arith) (passed_more n xs home d passed t.1)))
      ]

  pub stops : (n : ℕ) (xs : List (Slot X)) (home : ℕ) → n ≡ length xs → occupied xs < n → Passed n xs home (stop n xs home) × (rank n xs (home + stop n xs home) ≤ stop n xs home)
  stops n xs home len room =
      stop_from_stops n xs home n 0 len room (omega arith) (λ e lt. absurd (omega arith))
