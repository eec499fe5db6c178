-- The run moved back: each write keeps the table sound, the run ends at an entry at home or an empty slot, and one entry is lost.
use Rattle.std.proofs.Common.{◌≡◌, ℕ, zero, suc, ◌+◌, ◌-◌, ◌/◌, ◌%◌, ◌<◌, ◌≤◌, cond, leb, List, length, get_or, set, sym, refl, ap, ◌∙◌, subst, inl, inr, mod-lt, mod-eq_of_lt, arith, length-set}
use native.Mathlib.Nat.{mod-mod, add-mod_right}
use Rattle.std.proofs.lemmas.Bool.Decides.{leb_tells}
use Rattle.std.proofs.lemmas.Bool.{cases_eq}
use Rattle.std.proofs.lemmas.List.{get_or_default, get_or-set_other}
use Rattle.handles.specs.Slots.{rank, rank_of, meta_of, occupied, Local, empty, weigh_from, weight}
use Rattle.handles.specs.Shift.{away_from, away, pulled, nearer, vacated}
use Rattle.handles.specs.declared.slot.Slot.{Slot}
use Rattle.handles.proofs.Least.{least}
use Rattle.handles.proofs.Ring.{round, apart}
use Rattle.handles.proofs.Ranks.{rank_same, rank_set_other, local_set, meta_get_d}
use Rattle.handles.proofs.Vacancy.{gap_from, full_one, rank_pos, rank_empty}
use Rattle.handles.proofs.Weighing.{weigh_set, occupied_set, weight_nearer, weight_empty}
use Rattle.handles.proofs.Pushing.{Ring, ring_pos, ring_low}

module _ {X : Type 0} where
  -- the first slot from p on that is empty or at its home is j steps away
  abbrev pub Homes : ℕ → List (Slot X) → ℕ → ℕ → Type 0
  Homes n xs p j = (rank n xs (p + j) ≤ 1) × ((i : ℕ) → i < j → 1 < rank n xs (p + i))

  pub away_is : (n : ℕ) (xs : List (Slot X)) (left p j : ℕ) → j < left → Homes n xs p j → away_from n xs left p ≡ j
  away_is n xs zero p j lt h = absurd (omega arith)
  away_is n xs (suc left) p zero lt h =
      let z : rank n xs p ≤ 1 = (let e : p + 0 ≡ p = omega arith in rw e at h.0) in
      elim (leb_tells (rank n xs p) 1) [
        | inl t ↦ ap (λ b. cond b 0 (suc (away_from n xs left (p + 1)))) t.0
        | inr t ↦ absurd (omega (arith, t.1))
      ]
  away_is n xs (suc left) p (suc j) lt h =
      let first : 1 < rank n xs p = (let e : p + 0 ≡ p = omega arith in rw e at (h.1 0 (omega arith))) in
      elim (leb_tells (rank n xs p) 1) [
        | inl t ↦ absurd (omega (arith, t.1))
        | inr t ↦
            (let ih = away_is n xs left (p + 1) j (omega arith) (
              (let e : p + 1 + j ≡ p + suc j = omega arith in rw e h.0),
              (λ i q. let e : p + 1 + i ≡ p + suc i = omega arith in rw e (h.1 (suc i) (omega arith))),
            ) in
            ap (λ b. cond b 0 (suc (away_from n xs left (p + 1)))) t.0 ∙ ap suc ih)
      ]

  -- after an occupied slot, an empty one comes before the round is full
  gap_after : (n : ℕ) (xs : List (Slot X)) (p : ℕ) → n ≡ length xs → occupied xs < n → 0 < rank n xs p → (j : ℕ) × (j + 1 < n) × (rank n xs (p + 1 + j) ≡ 0)
  gap_after n xs p len room taken =
      let g = gap_from n xs (p + 1) len room in (
        g.0,
        elim (cases_eq (g.0 + 1) n) [
          | inl e ↦
              absurd
              (let q : p + 1 + g.0 ≡ p + n = omega arith in
              let z : rank n xs (p + n) ≡ 0 = rw q at g.2 in
              let s = rank_same n xs (p + n) p (add-mod_right p n) in
              omega arith)
          | inr ne ↦ omega (arith, g.1)
        ],
        g.2,
      )

  pub away_ends : (n : ℕ) (xs : List (Slot X)) (p : ℕ) → n ≡ length xs → occupied xs < n → 0 < rank n xs p → (away n xs (p + 1) + 1 < n) × Homes n xs (p + 1) (away n xs (p + 1))
  away_ends n xs p len room taken =
      let g = gap_after n xs p len room taken in
      let z : rank n xs (p + 1 + g.0) - 1 ≡ 0 = omega (arith, g.2) in
      let l = least (λ i. rank n xs (p + 1 + i) - 1) g.0 z in
      let lt : l.0 + 1 < n = omega (arith, l.1, g.1) in
      let h : Homes n xs (p + 1) l.0 = (
        omega (arith, l.2),
        (λ i q. let m = l.3 i q in elim (leb_tells (rank n xs (p + 1 + i)) 1) [
          | inl t ↦ absurd (m (omega (arith, t.1)))
          | inr t ↦ t.1
        ]),
      ) in
      let e = away_is n xs n (p + 1) l.0 (omega arith) h in
      rw e (lt, h)

  pub away_same : (n : ℕ) (xs : List (Slot X)) (left p q : ℕ) → p % n ≡ q % n → away_from n xs left p ≡ away_from n xs left q
  away_same n xs zero p q e = refl
  away_same n xs (suc left) p q e =
      let r = rank_same n xs p q e in
      let ih = away_same n xs left (p + 1) (q + 1) (round n p q 1 e) in
      ap (λ (k : ℕ). cond (leb k 1) 0 (suc (away_from n xs left (p + 1)))) r
      ∙ ap (λ (k : ℕ). cond (leb (rank n xs q) 1) 0 (suc k)) ih

  pub pulled_same : (n : ℕ) (xs : List (Slot X)) (p q far : ℕ) (d : Slot X) → p % n ≡ q % n → pulled n xs p far d ≡ pulled n xs q far d
  pulled_same n xs p q zero d e = ap (λ (i : ℕ). set xs i (vacated (get_or xs i d))) e
  pulled_same n xs p q (suc far) d e =
      let f = round n p q 1 e in
      ap (λ (i : ℕ). pulled n (set xs i (nearer (get_or xs ((p + 1) % n) d))) (p + 1) far d) e
      ∙ ap (λ (i : ℕ). pulled n (set xs (q % n) (nearer (get_or xs i d))) (p + 1) far d) f
      ∙ pulled_same n (set xs (q % n) (nearer (get_or xs ((q + 1) % n) d))) (p + 1) (q + 1) far d f

  pub pulled_length : (n : ℕ) (xs : List (Slot X)) (p far : ℕ) (d : Slot X) → length (pulled n xs p far d) ≡ length xs
  pulled_length n xs p zero d = length-set xs (p % n) (vacated (get_or xs (p % n) d))
  pulled_length n xs p (suc far) d =
      pulled_length n (set xs (p % n) (nearer (get_or xs ((p + 1) % n) d))) (p + 1) far d
      ∙ length-set xs (p % n) (nearer (get_or xs ((p + 1) % n) d))

  -- the entry that follows the hole p, where it is away from its home
  pub follower : (n : ℕ) (xs : List (Slot X)) (p : ℕ) (d : Slot X) → Ring n xs → 1 < rank n xs (p + 1) → (256 ≤ (get_or xs ((p + 1) % n) d).meta) × ((get_or xs ((p + 1) % n) d).meta ≡ empty → ⊥) × ((get_or xs ((p + 1) % n) d).meta / 256 < n) × (rank_of ((get_or xs ((p + 1) % n) d).meta - 256) + 1 ≡ rank n xs (p + 1)) × ((get_or xs ((p + 1) % n) d).meta - 256 ≡ empty → ⊥)
  follower n xs p d r far =
      let pos = ring_pos n xs r in
      let high = r.high in
      let low = ring_low n xs (p + 1) r in
      let lt : (p + 1) % n < length xs = subst (λ (k : ℕ). (p + 1) % n < k) r.len (mod-lt (p + 1) pos) in
      let m = meta_get_d xs ((p + 1) % n) d lt in
      let ne : meta_of xs ((p + 1) % n) ≡ empty → ⊥ = λ e. (let z = rank_empty (meta_of xs ((p + 1) % n)) e in omega arith) in
      let k : rank n xs (p + 1) ≡ meta_of xs ((p + 1) % n) / 256 + 1 = rank_pos (meta_of xs ((p + 1) % n)) ne in
      let ne' : (get_or xs ((p + 1) % n) d).meta - 256 ≡ empty → ⊥ = λ e. omega arith in
      let b = rank_pos ((get_or xs ((p + 1) % n) d).meta - 256) ne' in
      (omega arith, (λ e. ne (sym m ∙ e)), omega arith, omega arith, ne')

  -- the slots once the follower has come back to p
  abbrev pub drawn : ℕ → List (Slot X) → ℕ → Slot X → List (Slot X)
  drawn n xs p d = set xs (p % n) (nearer (get_or xs ((p + 1) % n) d))

  module _ (n : ℕ) (xs : List (Slot X)) (p : ℕ) (d : Slot X) (r : Ring n xs) (taken : 0 < rank n xs p) where
    pub drawn_kept : (j : ℕ) → 0 < j → j < n → rank n (drawn n xs p d) (p + j) ≡ rank n xs (p + j)
    drawn_kept j lo hi = rank_set_other n xs p (p + j) (nearer (get_or xs ((p + 1) % n) d)) (apart n p j lo hi)

    pub drawn_ring : 1 < rank n xs (p + 1) → Ring n (drawn n xs p d)
    drawn_ring far =
        let pos = ring_pos n xs r in
        let f = follower n xs p d r far in
        let back_one = f.3 in
        let lt : p % n < length xs = subst (λ (k : ℕ). p % n < k) r.len (mod-lt p pos) in
        let o = occupied_set xs (p % n) (nearer (get_or xs ((p + 1) % n) d)) lt in
        let a = full_one ((get_or xs ((p + 1) % n) d).meta - 256) f.4 in
        let b = full_one (meta_of xs (p % n)) (λ e. (let z = rank_empty (meta_of xs (p % n)) e in omega arith)) in
        let l = r.local p in
        record {
          len = r.len ∙ sym (length-set xs (p % n) (nearer (get_or xs ((p + 1) % n) d)));
          low = r.low;
          high = r.high;
          room = (let h = r.room in omega arith);
          local = local_set n xs p (nearer (get_or xs ((p + 1) % n) d)) r.len pos r.local (
            (λ q e.
                let before = r.local q in
                let same = rank_same n xs (q + 1) p e in
                omega arith),
            omega arith,
          );
        }

    pub drawn_taken : 1 < rank n xs (p + 1) → 0 < rank n (drawn n xs p d) (p + 1)
    drawn_taken far = let low = r.low in let k = drawn_kept 1 (omega arith) (omega arith) in omega arith

    -- the run that is away from home is one shorter
    pub away_step : 1 < rank n xs (p + 1) → away n xs (p + 1) ≡ suc (away n (drawn n xs p d) (p + 1 + 1))
    away_step far =
        let ends = away_ends n xs p r.len r.room taken in
        let short = ends.0 in
        let pos : 0 < away n xs (p + 1) =
        elim (cases_eq (away n xs (p + 1)) 0) [
          | inl e ↦ absurd (let q : p + 1 + away n xs (p + 1) ≡ p + 1 = omega arith in let z : rank n xs (p + 1) ≤ 1 = rw q at ends.1.0 in omega arith)
          | inr ne ↦ omega arith
        ] in
        let kept : (i : ℕ) → i + 2 < n → rank n (drawn n xs p d) (p + 1 + 1 + i) ≡ rank n xs (p + 1 + (i + 1)) =
        λ i h.
        (let q : p + 1 + 1 + i ≡ p + (i + 2) = omega arith in
        let q' : p + 1 + (i + 1) ≡ p + (i + 2) = omega arith in
        rw (q, q') (drawn_kept (i + 2) (omega arith) h)) in
        let e = away_is n (drawn n xs p d) n (p + 1 + 1) (away n xs (p + 1) - 1) (omega arith) (
          (let k = kept (away n xs (p + 1) - 1) (omega arith) in
              let q : p + 1 + (away n xs (p + 1) - 1 + 1) ≡ p + 1 + away n xs (p + 1) = omega arith in
              let z : rank n xs (p + 1 + (away n xs (p + 1) - 1 + 1)) ≤ 1 = rw q ends.1.0 in
              omega arith),
          (λ i h. let k = kept i (omega arith) in let z = ends.1.1 (i + 1) (omega arith) in omega arith),
        ) in
        rw e (omega arith)

    pub away_none : away n xs (p + 1) ≡ 0 → rank n xs (p + 1) ≤ 1
    away_none e =
        let ends = away_ends n xs p r.len r.room taken in
        let q : p + 1 + away n xs (p + 1) ≡ p + 1 = omega arith in
        rw q at ends.1.0

    pub away_some : (k : ℕ) → suc k ≡ away n xs (p + 1) → 1 < rank n xs (p + 1)
    away_some k e =
        let ends = away_ends n xs p r.len r.room taken in
        let q : p + 1 + 0 ≡ p + 1 = omega arith in
        rw q at (ends.1.1 0 (omega arith))

    pub away_zero : rank n xs (p + 1) ≤ 1 → away n xs (p + 1) ≡ 0
    away_zero h =
        away_is n xs n (p + 1) 0 (ring_pos n xs r)
        ((let q : p + 1 + 0 ≡ p + 1 = omega arith in rw q h), (λ i z. absurd (omega arith)))

  -- a run moved back leaves a sound table
  pub pulled_local : (n : ℕ) (xs : List (Slot X)) (p far : ℕ) (d : Slot X) → Ring n xs → 0 < rank n xs p → far ≡ away n xs (p + 1) → Local n (pulled n xs p far d)
  pulled_local n xs p zero d r taken e =
      let low = away_none n xs p d r taken (sym e) in
      local_set n xs p (vacated (get_or xs (p % n) d)) r.len (ring_pos n xs r) r.local ((λ q _. omega arith), omega arith)
  pulled_local n xs p (suc far) d r taken e =
      let more = away_some n xs p d r taken far e in
      let step = away_step n xs p d r taken more in
      pulled_local n (drawn n xs p d) (p + 1) far d (drawn_ring n xs p d r taken more) (drawn_taken n xs p d r taken more) (omega arith)

  -- every weighing loses the entry's weight
  pub pulled_weighs : (w : ℕ → ℕ → X → ℕ) (n : ℕ) (xs : List (Slot X)) (p far : ℕ) (d : Slot X) → Ring n xs → 0 < rank n xs p → far ≡ away n xs (p + 1) → weigh_from w n 0 (pulled n xs p far d) + weight w n (p % n) (get_or xs (p % n) d) ≡ weigh_from w n 0 xs
  pulled_weighs w n xs p zero d r taken e =
      let pos = ring_pos n xs r in
      let lt : p % n < length xs = subst (λ (k : ℕ). p % n < k) r.len (mod-lt p pos) in
      let g = weigh_set w n 0 xs (p % n) (vacated (get_or xs (p % n) d)) d lt in
      let v = weight_empty w n (0 + p % n) (vacated (get_or xs (p % n) d)) refl in
      let u : 0 + p % n ≡ p % n = omega arith in
      let k = ap (λ (i : ℕ). weight w n i (get_or xs (p % n) d)) u in
      omega arith
  pulled_weighs w n xs p (suc far) d r taken e =
      let pos = ring_pos n xs r in
      let low = r.low in
      let lt : p % n < length xs = subst (λ (k : ℕ). p % n < k) r.len (mod-lt p pos) in
      let more = away_some n xs p d r taken far e in
      let step = away_step n xs p d r taken more in
      let f = follower n xs p d r more in
      let ih = pulled_weighs w n (drawn n xs p d) (p + 1) far d (drawn_ring n xs p d r taken more) (drawn_taken n xs p d r taken more) (omega arith) in
      let g = weigh_set w n 0 xs (p % n) (nearer (get_or xs ((p + 1) % n) d)) d lt in
      let u : 0 + p % n ≡ p % n = omega arith in
      let k = ap (λ (i : ℕ). weight w n i (get_or xs (p % n) d)) u in
      let k' = ap (λ (i : ℕ). weight w n i (nearer (get_or xs ((p + 1) % n) d))) u in
      let v = weight_nearer w n p (get_or xs ((p + 1) % n) d) pos r.high f.0 f.1 f.2 in
      let other = get_or-set_other xs (p % n) ((p + 1) % n) (nearer (get_or xs ((p + 1) % n) d)) d (λ q. apart n p 1 (omega arith) (omega arith) q) in
      let same = ap (λ (y : Slot X). weight w n ((p + 1) % n) y) other in
      omega arith

  -- one turn of the loop that moves a run back
  pub pull_turn : (n : ℕ) (xs : List (Slot X)) (p q : ℕ) (y : Slot X) → Ring n xs → 0 < rank n xs p → p < n → q ≡ (p + 1) % n → y ≡ get_or xs q y → 1 < rank_of y.meta → (256 ≤ y.meta) × Ring n (set xs p (nearer y)) × (0 < rank n (set xs p (nearer y)) q) × (q < n) × (away n (set xs p (nearer y)) (q + 1) < away n xs (p + 1)) × ((d : Slot X) → pulled n (set xs p (nearer y)) q (away n (set xs p (nearer y)) (q + 1)) d ≡ pulled n xs p (away n xs (p + 1)) d)
  pull_turn n xs p q y r taken lt next is far =
      let pos = ring_pos n xs r in
      let e : p % n ≡ p = mod-eq_of_lt lt in
      let near : q < n = (let k = mod-lt (p + 1) pos in omega arith) in
      let below : q < length xs = (let l = r.len in omega arith) in
      let there : (p + 1) % n ≡ q % n = sym (mod-mod (p + 1) n) ∙ ap (λ (k : ℕ). k % n) (sym next) in
      let read : (d : Slot X) → get_or xs ((p + 1) % n) d ≡ y =
      λ d. ap (λ (k : ℕ). get_or xs k d) (sym next) ∙ get_or_default xs q d y below ∙ sym is in
      let rk : rank_of y.meta ≡ rank n xs (p + 1) =
      ap (λ (z : Slot X). rank_of z.meta) (sym (read y)) ∙ ap rank_of (meta_get_d xs ((p + 1) % n) y (let l = r.len in omega arith)) in
      let more : 1 < rank n xs (p + 1) = omega arith in
      let w : (d : Slot X) → drawn n xs p d ≡ set xs p (nearer y) =
      λ d. ap (λ (k : ℕ). set xs k (nearer (get_or xs ((p + 1) % n) d))) e ∙ ap (λ (z : Slot X). set xs p (nearer z)) (read d) in
      let f = follower n xs p y r more in
      let step = away_step n xs p y r taken more in
      let after = away_same n (drawn n xs p y) n (p + 1 + 1) (q + 1) (round n (p + 1) q 1 there) in
      let fall : away n (drawn n xs p y) (q + 1) < away n xs (p + 1) = omega arith in
      let tk = drawn_taken n xs p y r taken more in
      let tq : 0 < rank n (drawn n xs p y) q = (let s = rank_same n (drawn n xs p y) (p + 1) q there in omega arith) in
      let low : 256 ≤ y.meta = (let m = ap (λ (z : Slot X). z.meta) (read y) in omega (arith, f.0)) in
      let eq : (d : Slot X) → pulled n (drawn n xs p d) q (away n (drawn n xs p d) (q + 1)) d ≡ pulled n xs p (away n xs (p + 1)) d =
      λ d. (let step = away_step n xs p d r taken more in
      let after = away_same n (drawn n xs p d) n (p + 1 + 1) (q + 1) (round n (p + 1) q 1 there) in
      sym (ap (λ (k : ℕ). pulled n xs p k d) step
      ∙ pulled_same n (drawn n xs p d) (p + 1) q (away n (drawn n xs p d) (p + 1 + 1)) d there
      ∙ ap (λ (k : ℕ). pulled n (drawn n xs p d) q k d) after)) in (
        low,
        subst (λ (ys : List (Slot X)). Ring n ys) (w y) (drawn_ring n xs p y r taken more),
        subst (λ (ys : List (Slot X)). 0 < rank n ys q) (w y) tq,
        near,
        subst (λ (ys : List (Slot X)). away n ys (q + 1) < away n xs (p + 1)) (w y) fall,
        (λ d. subst (λ (ys : List (Slot X)). pulled n ys q (away n ys (q + 1)) d ≡ pulled n xs p (away n xs (p + 1)) d) (w d) (eq d)),
      )

  -- its end
  pub pull_last : (n : ℕ) (xs : List (Slot X)) (p q : ℕ) (x y : Slot X) → Ring n xs → 0 < rank n xs p → p < n → q ≡ (p + 1) % n → y ≡ get_or xs q y → rank_of y.meta ≤ 1 → (d : Slot X) → set xs p (vacated (get_or xs p x)) ≡ pulled n xs p (away n xs (p + 1)) d
  pull_last n xs p q x y r taken lt next is home d =
      let pos = ring_pos n xs r in
      let e : p % n ≡ p = mod-eq_of_lt lt in
      let in_xs : p < length xs = (let l = r.len in omega arith) in
      let near : q < n = (let k = mod-lt (p + 1) pos in omega arith) in
      let below : q < length xs = (let l = r.len in omega arith) in
      let rk : rank_of y.meta ≡ rank n xs (p + 1) =
      ap (λ (z : Slot X). rank_of z.meta) is ∙ ap rank_of (meta_get_d xs q y below) ∙ ap (λ (k : ℕ). rank_of (meta_of xs k)) next in
      let none = away_zero n xs p d r taken (omega arith) in
      ap (λ (z : Slot X). set xs p (vacated z)) (get_or_default xs p x d in_xs)
      ∙ ap (λ (k : ℕ). set xs k (vacated (get_or xs k d))) (sym e)
      ∙ ap (λ (k : ℕ). pulled n xs p k d) (sym none)
