-- The run moved forward: each write keeps the table sound, the run ends at an empty slot, and one entry is gained.
use Rattle.std.proofs.Common.{◌≡◌, ℕ, zero, suc, ◌+◌, ◌-◌, ◌/◌, ◌%◌, ◌^◌, ◌<◌, ◌≤◌, cond, eqb, List, length, get_or, set, sym, refl, ap, ◌∙◌, subst, inl, inr, mod-lt, mod-eq_of_lt, arith, length-set}
use native.Mathlib.Nat.{mod-mod}
use Rattle.std.proofs.lemmas.Bool.Decides.{eqb_tells}
use Rattle.std.proofs.lemmas.Bool.{cases_eq}
use Rattle.std.proofs.lemmas.List.{get_or_default}
use Rattle.handles.specs.Slots.{rank, rank_of, meta_of, occupied, Local, Movable, empty, weigh_from, weight}
use Rattle.handles.specs.Carry.{Carries}
use Rattle.handles.specs.Shift.{run_from, run, pushed, further}
use Rattle.handles.specs.declared.slot.Slot.{Slot}
use Rattle.handles.proofs.Least.{least}
use Rattle.handles.proofs.Ring.{round, back, apart, power}
use Rattle.handles.proofs.Ranks.{rank_same, rank_set_same, rank_set_other, local_set, meta_get_d}
use Rattle.handles.proofs.Vacancy.{gap_from, full_one, rank_pos, rank_empty, empty_rank, rank_below}
use Rattle.handles.proofs.Weighing.{weigh_set, occupied_set, weight_further, weight_empty}

module _ {X : Type 0} where
  -- the ring of a table with an empty slot
  pub record Ring (n : ℕ) (xs : List (Slot X)) : Type 0 where
    pub len : n ≡ length xs
    pub low : 16 ≤ n
    pub high : n ≤ 4096
    pub room : occupied xs < n
    pub local : Local n xs

  pub ring_pos : (n : ℕ) (xs : List (Slot X)) → Ring n xs → 0 < n
  ring_pos n xs r = let h = r.room in omega arith

  pub ring_low : (n : ℕ) (xs : List (Slot X)) (p : ℕ) → Ring n xs → rank n xs p < n
  ring_low n xs p r = rank_below n xs r.len r.room r.local p

  pub ring_made : (xs : List (Slot X)) → Movable xs → Ring (length xs) xs
  ring_made xs m =
      let pos = m.vacancy in
      let w = power (length xs) m.size (omega arith) in
      record { len = refl; low = w.2; high = w.3; room = m.vacancy; local = m.level }

  -- the first empty slot from p on is j steps away
  abbrev pub Ends : ℕ → List (Slot X) → ℕ → ℕ → Type 0
  Ends n xs p j = (rank n xs (p + j) ≡ 0) × ((i : ℕ) → i < j → rank n xs (p + i) ≡ 0 → ⊥)

  pub run_is : (n : ℕ) (xs : List (Slot X)) (left p j : ℕ) → j < left → Ends n xs p j → run_from n xs left p ≡ j
  run_is n xs zero p j lt ends = absurd (omega arith)
  run_is n xs (suc left) p zero lt ends =
      let z : rank n xs p ≡ 0 = (let e : p + 0 ≡ p = omega arith in rw e at ends.0) in
      elim (eqb_tells (rank n xs p) 0) [
        | inl t ↦ ap (λ b. cond b 0 (suc (run_from n xs left (p + 1)))) t.0
        | inr t ↦ absurd (t.1 z)
      ]
  run_is n xs (suc left) p (suc j) lt ends =
      elim (eqb_tells (rank n xs p) 0) [
        | inl t ↦ absurd (let e : p + 0 ≡ p = omega arith in ends.1 0 (omega arith) (rw e t.1))
        | inr t ↦
            (let ih = run_is n xs left (p + 1) j (omega arith) (
              (let e : p + 1 + j ≡ p + suc j = omega arith in rw e ends.0),
              (λ i h. let e : p + 1 + i ≡ p + suc i = omega arith in rw e (ends.1 (suc i) (omega arith))),
            ) in
            ap (λ b. cond b 0 (suc (run_from n xs left (p + 1)))) t.0 ∙ ap suc ih)
      ]

  pub run_ends : (n : ℕ) (xs : List (Slot X)) (p : ℕ) → n ≡ length xs → occupied xs < n → (run n xs p < n) × Ends n xs p (run n xs p)
  run_ends n xs p len room =
      let (j, near, z) = gap_from n xs p len room in
      let l = least (λ i. rank n xs (p + i)) j z in
      let lt : l.0 < n = omega (arith, l.1) in
      let e = run_is n xs n p l.0 lt (l.2, l.3) in
      rw e (lt, (l.2, l.3))

  pub run_same : (n : ℕ) (xs : List (Slot X)) (left p q : ℕ) → p % n ≡ q % n → run_from n xs left p ≡ run_from n xs left q
  run_same n xs zero p q e = refl
  run_same n xs (suc left) p q e =
      let r = rank_same n xs p q e in
      let ih = run_same n xs left (p + 1) (q + 1) (round n p q 1 e) in
      ap (λ (k : ℕ). cond (eqb k 0) 0 (suc (run_from n xs left (p + 1)))) r
      ∙ ap (λ (k : ℕ). cond (eqb (rank n xs q) 0) 0 (suc k)) ih

  pub pushed_same : (n : ℕ) (xs : List (Slot X)) (p q far : ℕ) (s : Slot X) → p % n ≡ q % n → pushed n xs p far s ≡ pushed n xs q far s
  pushed_same n xs p q zero s e = ap (λ (i : ℕ). set xs i s) e
  pushed_same n xs p q (suc far) s e =
      ap (λ (i : ℕ). pushed n (set xs i s) (p + 1) far (further (get_or xs i s))) e
      ∙ pushed_same n (set xs (q % n) s) (p + 1) (q + 1) far (further (get_or xs (q % n) s)) (round n p q 1 e)

  -- a write of an entry at p, where Carries allows it
  pub carry_local : (n : ℕ) (xs : List (Slot X)) (p : ℕ) (s : Slot X) → Ring n xs → Carries n xs p s → Local n (set xs (p % n) s)
  carry_local n xs p s r c =
      local_set n xs p s r.len (ring_pos n xs r) r.local
      (c.0, (let l = r.local p in let h = c.1 in omega arith))

  -- the write over an occupied slot keeps the count
  pub carry_ring : (n : ℕ) (xs : List (Slot X)) (p : ℕ) (s : Slot X) → Ring n xs → Carries n xs p s → (rank n xs p ≡ 0 → ⊥) → Ring n (set xs (p % n) s)
  carry_ring n xs p s r c ne =
      let lt : p % n < length xs = subst (λ (k : ℕ). p % n < k) r.len (mod-lt p (ring_pos n xs r)) in
      let o = occupied_set xs (p % n) s lt in
      let a = full_one s.meta c.2 in
      let b = full_one (meta_of xs (p % n)) (λ e. ne (rank_empty (meta_of xs (p % n)) e)) in
      record {
        len = r.len ∙ sym (length-set xs (p % n) s);
        low = r.low;
        high = r.high;
        room = (let h = r.room in omega arith);
        local = carry_local n xs p s r c;
      }

  -- the entry that stood at p is carried on to the next slot
  pub carry_on : (n : ℕ) (xs : List (Slot X)) (p : ℕ) (s d : Slot X) → Ring n xs → Carries n xs p s → (rank n xs p ≡ 0 → ⊥) → Carries n (set xs (p % n) s) (p + 1) (further (get_or xs (p % n) d))
  carry_on n xs p s d r c ne =
      let pos = ring_pos n xs r in
      let lt : p % n < length xs = subst (λ (k : ℕ). p % n < k) r.len (mod-lt p pos) in
      let m = meta_get_d xs (p % n) d lt in
      let low = ring_low n xs p r in
      let high = r.high in
      let k : rank n xs p ≡ meta_of xs (p % n) / 256 + 1 = rank_pos (meta_of xs (p % n)) (λ e. ne (rank_empty (meta_of xs (p % n)) e)) in
      let some : (get_or xs (p % n) d).meta + 256 ≡ empty → ⊥ = λ e. omega arith in
      let up : rank_of ((get_or xs (p % n) d).meta + 256) ≡ rank n xs p + 1 =
      rank_pos ((get_or xs (p % n) d).meta + 256) some ∙ (let q : ((get_or xs (p % n) d).meta + 256) / 256 + 1 ≡ rank n xs p + 1 = omega arith in q) in (
        (λ q e.
            let f = back n q p pos e in
            let g = rank_set_same n xs p q s r.len pos f in
            let h = c.1 in omega arith),
        (elim (cases_eq ((p + 1) % n) (p % n)) [
          | inl e ↦
              (let g = rank_set_same n xs p (p + 1) s r.len pos e in
              let h = c.0 p e in omega arith)
          | inr e ↦ (let g = rank_set_other n xs p (p + 1) s e in let l = r.local p in omega arith)
        ]),
        some,
      )

  -- the run after p is one shorter once p is written
  pub run_step : (n : ℕ) (xs : List (Slot X)) (p : ℕ) (s : Slot X) → Ring n xs → (s.meta ≡ empty → ⊥) → (rank n xs p ≡ 0 → ⊥) → run n xs p ≡ suc (run n (set xs (p % n) s) (p + 1))
  run_step n xs p s r some ne =
      let (lt, ends) = run_ends n xs p r.len r.room in
      let pos : 0 < run n xs p = elim (cases_eq (run n xs p) 0) [
        | inl e ↦ absurd (ne (let z : p + run n xs p ≡ p = omega arith in rw z at ends.0))
        | inr h ↦ omega arith
      ] in
      let kept : (i : ℕ) → i + 1 < n → rank n (set xs (p % n) s) (p + 1 + i) ≡ rank n xs (p + 1 + i) =
      λ i h. rank_set_other n xs p (p + 1 + i) s
      (λ e. apart n p (i + 1) (omega arith) h (let q : p + (i + 1) ≡ p + 1 + i = omega arith in rw q e)) in
      let e = run_is n (set xs (p % n) s) n (p + 1) (run n xs p - 1) (omega arith) (
        (let q : p + 1 + (run n xs p - 1) ≡ p + run n xs p = omega arith in
            kept (run n xs p - 1) (omega arith) ∙ (rw q ends.0)),
        (λ i h z.
            let q : p + 1 + i ≡ p + (i + 1) = omega arith in
            ends.1 (i + 1) (omega arith) (let k = kept i (omega arith) in rw q at (sym k ∙ z))),
      ) in
      rw e (omega arith)

  -- a run moved forward leaves a sound table with one entry more
  pub pushed_local : (n : ℕ) (xs : List (Slot X)) (p far : ℕ) (s : Slot X) → Ring n xs → Carries n xs p s → far ≡ run n xs p → Local n (pushed n xs p far s)
  pushed_local n xs p zero s r c e = carry_local n xs p s r c
  pushed_local n xs p (suc far) s r c e =
      let ne : rank n xs p ≡ 0 → ⊥ = λ z.
      let h = run_is n xs n p 0 (ring_pos n xs r) ((let q : p + 0 ≡ p = omega arith in rw q z), (λ i lt. absurd (omega arith))) in
      omega arith in
      let t = run_step n xs p s r c.2 ne in
      pushed_local n (set xs (p % n) s) (p + 1) far (further (get_or xs (p % n) s))
      (carry_ring n xs p s r c ne) (carry_on n xs p s s r c ne) (omega arith)

  pub pushed_length : (n : ℕ) (xs : List (Slot X)) (p far : ℕ) (s : Slot X) → length (pushed n xs p far s) ≡ length xs
  pushed_length n xs p zero s = length-set xs (p % n) s
  pushed_length n xs p (suc far) s =
      pushed_length n (set xs (p % n) s) (p + 1) far (further (get_or xs (p % n) s)) ∙ length-set xs (p % n) s

  -- every weighing gains the entry's weight
  pub pushed_weighs : (w : ℕ → ℕ → X → ℕ) (n : ℕ) (xs : List (Slot X)) (p far : ℕ) (s : Slot X) → Ring n xs → Carries n xs p s → far ≡ run n xs p → weigh_from w n 0 (pushed n xs p far s) ≡ weigh_from w n 0 xs + weight w n (p % n) s
  pushed_weighs w n xs p zero s r c e =
      let pos = ring_pos n xs r in
      let lt : p % n < length xs = subst (λ (k : ℕ). p % n < k) r.len (mod-lt p pos) in
      let g = weigh_set w n 0 xs (p % n) s s lt in
      let (near, ends) = run_ends n xs p r.len r.room in
      let z : rank n xs p ≡ 0 = (let q : p + run n xs p ≡ p = omega arith in rw q at ends.0) in
      let m : (get_or xs (p % n) s).meta ≡ empty = meta_get_d xs (p % n) s lt ∙ empty_rank (meta_of xs (p % n)) z in
      let v = weight_empty w n (0 + p % n) (get_or xs (p % n) s) m in
      let u : 0 + p % n ≡ p % n = omega arith in
      let k = ap (λ (i : ℕ). weight w n i s) u in
      omega arith
  pushed_weighs w n xs p (suc far) s r c e =
      let pos = ring_pos n xs r in
      let ne : rank n xs p ≡ 0 → ⊥ = λ z.
      let h = run_is n xs n p 0 pos ((let q : p + 0 ≡ p = omega arith in rw q z), (λ i lt. absurd (omega arith))) in
      omega arith in
      let lt : p % n < length xs = subst (λ (k : ℕ). p % n < k) r.len (mod-lt p pos) in
      let t = run_step n xs p s r c.2 ne in
      let ih = pushed_weighs w n (set xs (p % n) s) (p + 1) far (further (get_or xs (p % n) s))
      (carry_ring n xs p s r c ne) (carry_on n xs p s s r c ne) (omega arith) in
      let g = weigh_set w n 0 xs (p % n) s s lt in
      let u : 0 + p % n ≡ p % n = omega arith in
      let k = ap (λ (i : ℕ). weight w n i s) u in
      let k' = ap (λ (i : ℕ). weight w n i (get_or xs (p % n) s)) u in
      let m = meta_get_d xs (p % n) s lt in
      let some : (get_or xs (p % n) s).meta ≡ empty → ⊥ = λ q. ne (rank_empty (meta_of xs (p % n)) (sym m ∙ q)) in
      let a : rank n xs p ≡ meta_of xs (p % n) / 256 + 1 = rank_pos (meta_of xs (p % n)) (λ q. ne (rank_empty (meta_of xs (p % n)) q)) in
      let low = ring_low n xs p r in
      let d : (get_or xs (p % n) s).meta / 256 < n = omega arith in
      let f = weight_further w n p (get_or xs (p % n) s) pos r.high some d in
      omega arith

  pub carries_same : (n : ℕ) (xs : List (Slot X)) (p q : ℕ) (s : Slot X) → p % n ≡ q % n → Carries n xs p s → Carries n xs q s
  carries_same n xs p q s e c =
      ((λ z h. c.0 z (h ∙ sym e)), (let r = rank_same n xs p q e in let l = c.1 in omega arith), c.2)

  -- one turn of the loop that moves a run forward
  pub push_turn : (n : ℕ) (xs : List (Slot X)) (p q : ℕ) (s x : Slot X) → Ring n xs → Carries n xs p s → p < n → x ≡ get_or xs p x → (x.meta ≡ empty → ⊥) → q ≡ (p + 1) % n → Ring n (set xs p s) × Carries n (set xs p s) q (further x) × (q < n) × (pushed n (set xs p s) q (run n (set xs p s) q) (further x) ≡ pushed n xs p (run n xs p) s) × (run n (set xs p s) q < run n xs p)
  push_turn n xs p q s x r c lt is some next =
      let pos = ring_pos n xs r in
      let e : p % n ≡ p = mod-eq_of_lt lt in
      let below : p < length xs = (let l = r.len in omega arith) in
      let m : x.meta ≡ meta_of xs p = ap (λ (y : Slot X). y.meta) is ∙ meta_get_d xs p x below in
      let ne : rank n xs p ≡ 0 → ⊥ = λ z. some (m ∙ ap (meta_of xs) (sym e) ∙ empty_rank (meta_of xs (p % n)) z) in
      let y : get_or xs (p % n) s ≡ x = ap (λ (i : ℕ). get_or xs i s) e ∙ get_or_default xs p s x below ∙ sym is in
      let there : (p + 1) % n ≡ q % n = sym (mod-mod (p + 1) n) ∙ ap (λ (k : ℕ). k % n) (sym next) in
      let w : set xs (p % n) s ≡ set xs p s = ap (λ (i : ℕ). set xs i s) e in
      let on : Carries n (set xs (p % n) s) q (further x) =
      carries_same n (set xs (p % n) s) (p + 1) q (further x) there
      (subst (λ (z : Slot X). Carries n (set xs (p % n) s) (p + 1) (further z)) y (carry_on n xs p s s r c ne)) in
      let short = run_step n xs p s r c.2 ne in
      let near = run_same n (set xs (p % n) s) n (p + 1) q there in
      let eq : pushed n (set xs (p % n) s) q (run n (set xs (p % n) s) q) (further x) ≡ pushed n xs p (run n xs p) s =
      sym (ap (λ (k : ℕ). pushed n xs p k s) short
      ∙ pushed_same n (set xs (p % n) s) (p + 1) q (run n (set xs (p % n) s) (p + 1)) (further (get_or xs (p % n) s)) there
      ∙ ap (λ (k : ℕ). pushed n (set xs (p % n) s) q k (further (get_or xs (p % n) s))) near
      ∙ ap (λ (z : Slot X). pushed n (set xs (p % n) s) q (run n (set xs (p % n) s) q) (further z)) y) in
      let below_n : q < n = (let k = mod-lt (p + 1) pos in omega arith) in
      let falls : run n (set xs (p % n) s) q < run n xs p = omega arith in
      subst (λ (ys : List (Slot X)). Ring n ys × Carries n ys q (further x) × (q < n) × (pushed n ys q (run n ys q) (further x) ≡ pushed n xs p (run n xs p) s) × (run n ys q < run n xs p)) w
      (carry_ring n xs p s r c ne, on, below_n, eq, falls)

  -- its last turn
  pub push_last : (n : ℕ) (xs : List (Slot X)) (p : ℕ) (s x : Slot X) → Ring n xs → p < n → x ≡ get_or xs p x → x.meta ≡ empty → set xs p s ≡ pushed n xs p (run n xs p) s
  push_last n xs p s x r lt is none =
      let e : p % n ≡ p = mod-eq_of_lt lt in
      let below : p < length xs = (let l = r.len in omega arith) in
      let m : x.meta ≡ meta_of xs p = ap (λ (y : Slot X). y.meta) is ∙ meta_get_d xs p x below in
      let z : rank n xs p ≡ 0 = rank_empty (meta_of xs (p % n)) (ap (meta_of xs) e ∙ sym m ∙ none) in
      let far = run_is n xs n p 0 (ring_pos n xs r) ((let q : p + 0 ≡ p = omega arith in rw q z), (λ i h. absurd (omega arith))) in
      ap (λ (i : ℕ). set xs i s) (sym e) ∙ ap (λ (k : ℕ). pushed n xs p k s) (sym far)

  -- a displaced entry's meta can grow
  pub push_fits : (n : ℕ) (xs : List (Slot X)) (p : ℕ) (x : Slot X) → Ring n xs → p < n → x ≡ get_or xs p x → (x.meta ≡ empty → ⊥) → x.meta + 256 < 2 ^ 32
  push_fits n xs p x r lt is some =
      let e : p % n ≡ p = mod-eq_of_lt lt in
      let below : p < length xs = (let l = r.len in omega arith) in
      let m : x.meta ≡ meta_of xs (p % n) = ap (λ (y : Slot X). y.meta) is ∙ meta_get_d xs p x below ∙ ap (meta_of xs) (sym e) in
      let k : rank n xs p ≡ meta_of xs (p % n) / 256 + 1 = rank_pos (meta_of xs (p % n)) (λ z. some (m ∙ z)) in
      let low = ring_low n xs p r in
      let high = r.high in
      omega arith
