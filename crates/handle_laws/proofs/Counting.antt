-- The candidates of a hash, counted by meaning, are the entries with its home and fingerprint.
use Rattle.std.proofs.Common.{◌≡◌, ℕ, zero, suc, ◌+◌, ◌-◌, ◌/◌, ◌%◌, ◌<◌, ◌≤◌, Bool, true, false, cond, ◌&&◌, eqb, List, [], ◌∷◌, ◌++◌, length, get_or, sym, refl, ap, ◌∙◌, subst, inl, inr, le_of_suc-le-suc, mod-lt, mod-eq_of_lt, arith, eq-eqb}
use native.Mathlib.Nat.{mod-mod, mod-add-mod, add-mod_right}
use Rattle.std.proofs.lemmas.Bool.Decides.{leb_tells, eqb_tells}
use Rattle.std.proofs.lemmas.Bool.{cases_eq}
use Rattle.handles.specs.Meaning.{alike}
use Rattle.handles.specs.Slots.{rank, rank_of, meta_of, empty, weight, weigh_from, meta_at, home_of}
use Rattle.handles.specs.Seek.{candidates_from}
use Rattle.handles.specs.declared.slot.Slot.{Slot}
use Rattle.handles.proofs.Ring.{apart}
use Rattle.handles.proofs.Ranks.{meta_get_d}
use Rattle.handles.proofs.Vacancy.{climb, rank_pos}
use Rattle.handles.proofs.Weighing.{weight_full, weight_empty}
use Rattle.handles.proofs.Pushing.{Ring, ring_pos, ring_low}
use Rattle.handles.proofs.Placing.{meta_parts, home_back}
use Rattle.std.proofs.lemmas.Bool.{eqb-true}
use Rattle.handles.proofs.Candidates.{cands_stop, cands_pass, pick_read}
use Rattle.handle_laws.specs.Runs.{how_many, times_read}
use Rattle.handle_laws.proofs.Sums.{sum_from, sum_round, sum_same, sum_none, sum_shift, sum_suc}

abbrev pub one : Bool → ℕ
one b = cond b 1 0

-- the weight 1 of the entries with a home, a fingerprint and a meaning
abbrev pub spot : {X : Type 0} → (X → List ℕ) → ℕ → ℕ → List ℕ → ℕ → ℕ → X → ℕ
spot meaning home print m b p y = one (eqb b home && (eqb p print && alike (meaning y) m))

pub how_many_append : {A : Type 0} (ok : A → Bool) (xs ys : List A) → how_many ok (xs ++ ys) ≡ how_many ok xs + how_many ok ys
how_many_append ok [] ys = omega arith
how_many_append ok (x ∷ xs) ys = let ih = how_many_append ok xs ys in omega arith

pub eqb_not : (a b : ℕ) → (a ≡ b → ⊥) → eqb a b ≡ false
eqb_not a b ne = elim (eqb_tells a b) [ inl t ↦ absurd (ne t.1) | inr t ↦ t.0 ]

-- an entry in the slot d past a home has that home exactly where its displacement is d
pub home_only : (n home d k : ℕ) → home < n → d < n → k < n → ((home + d) % n + n - k) % n ≡ home → k ≡ d
home_only n home d k hn dn kn e =
    let q = mod-lt (home + d) (let z : 0 < n = omega arith in z) in
    let back : (home + k) % n ≡ (home + d) % n =
    ap (λ (z : ℕ). (z + k) % n) (sym e)
    ∙ mod-add-mod ((home + d) % n + n - k) n k
    ∙ (let f : (home + d) % n + n - k + k ≡ (home + d) % n + n = omega arith in ap (λ (z : ℕ). z % n) f)
    ∙ add-mod_right ((home + d) % n) n
    ∙ mod-mod (home + d) n in
    elim (leb_tells k d) [
      | inl t ↦
          elim (cases_eq k d) [
            | inl s ↦ s
            | inr ne ↦
                absurd (apart n (home + k) (d - k) (omega (arith, t.1)) (omega arith)
                (let f : home + k + (d - k) ≡ home + d = omega (arith, t.1) in ap (λ (z : ℕ). z % n) f ∙ sym back))
          ]
      | inr t ↦
          absurd (apart n (home + d) (k - d) (omega (arith, t.1)) (omega arith)
          (let f : home + d + (k - d) ≡ home + k = omega (arith, t.1) in ap (λ (z : ℕ). z % n) f ∙ back))
    ]

module _ {X : Type 0} where
  abbrev pub weigh_at : (ℕ → ℕ → X → ℕ) → ℕ → ℕ → List (Slot X) → ℕ → ℕ
  weigh_at w n b [] j = 0
  weigh_at w n b (s ∷ xs) zero = weight w n b s
  weigh_at w n b (s ∷ xs) (suc j) = weigh_at w n (suc b) xs j

  pub weigh_read : (w : ℕ → ℕ → X → ℕ) (n b : ℕ) (xs : List (Slot X)) (j : ℕ) (s : Slot X) → j < length xs → weigh_at w n b xs j ≡ weight w n (b + j) (get_or xs j s)
  weigh_read w n b [] j s h = absurd (omega arith)
  weigh_read w n b (x ∷ xs) zero s h = let e : b ≡ b + 0 = omega arith in ap (λ (k : ℕ). weight w n k x) e
  weigh_read w n b (x ∷ xs) (suc j) s h =
      let e : suc b + j ≡ b + suc j = omega arith in
      weigh_read w n (suc b) xs j s (le_of_suc-le-suc h) ∙ ap (λ (k : ℕ). weight w n k (get_or xs j s)) e

  pub weigh_sum : (w : ℕ → ℕ → X → ℕ) (n b : ℕ) (xs : List (Slot X)) → weigh_from w n b xs ≡ sum_from (weigh_at w n b xs) 0 (length xs)
  weigh_sum w n b [] = refl
  weigh_sum w n b (s ∷ xs) =
      let ih = weigh_sum w n (suc b) xs in
      let e = sum_suc (weigh_at w n b (s ∷ xs)) 0 (length xs) in
      let o : 0 + 1 ≡ suc 0 = refl in
      ap (λ (k : ℕ). weight w n b s + k) (ih ∙ sym e)

  module _ (meaning : X → List ℕ) (n : ℕ) (xs : List (Slot X)) (home print : ℕ) (m : List ℕ) (r : Ring n xs) (hn : home < n) (pb : print < 256) where
    abbrev pub w : ℕ → ℕ → X → ℕ
    w = spot meaning home print m

    abbrev pub here : ℕ → ℕ
    here p = weigh_at w n 0 xs (p % n)

    both_false : (a b c : Bool) → (a ≡ true → b ≡ true → ⊥) → one (a && (b && c)) ≡ 0
    both_false true true c no_way = absurd (no_way refl refl)
    both_false true false c no_way = refl
    both_false false b c no_way = refl

    both_true : (a b c : Bool) → a ≡ true → b ≡ true → one (a && (b && c)) ≡ one c
    both_true a b c ea eb = ap (λ z. one (z && (b && c))) ea ∙ ap (λ z. one (z && c)) eb

    -- what the slot d past the home adds
    spot_weight : (d : ℕ) (y : Slot X) → d < n → (y.meta ≡ empty → ⊥) → y.meta / 256 < n → w (home_of n ((home + d) % n) y.meta) (y.meta % 256) y.handle ≡ cond (eqb y.meta (meta_at print d)) (one (alike (meaning y.handle) m)) 0
    spot_weight d y dn some low =
        let high = r.high in
        let parts = meta_parts print d pb (omega arith) in
        elim (eqb_tells y.meta (meta_at print d)) [
          | inl t ↦
              (let h : home_of n ((home + d) % n) y.meta ≡ home =
              ap (λ (k : ℕ). ((home + d) % n + n - k / 256) % n) t.1 ∙ ap (λ (k : ℕ). ((home + d) % n + n - k) % n) parts.0 ∙ home_back n home d hn dn in
              let p : y.meta % 256 ≡ print = ap (λ (k : ℕ). k % 256) t.1 ∙ parts.1 in
              both_true (eqb (home_of n ((home + d) % n) y.meta) home) (eqb (y.meta % 256) print) (alike (meaning y.handle) m)
              (eq-eqb (home_of n ((home + d) % n) y.meta) home h) (eq-eqb (y.meta % 256) print p)
              ∙ ap (λ b. cond b (one (alike (meaning y.handle) m)) 0) (sym t.0))
          | inr t ↦
              both_false (eqb (home_of n ((home + d) % n) y.meta) home) (eqb (y.meta % 256) print) (alike (meaning y.handle) m)
              (λ a b. t.1
              (let k = home_only n home d (y.meta / 256) hn dn low (eqb-true (home_of n ((home + d) % n) y.meta) home a) in
              let p = eqb-true (y.meta % 256) print b in
              omega arith))
              ∙ ap (λ b. cond b (one (alike (meaning y.handle) m)) 0) (sym t.0)
        ]

    here_is : (d : ℕ) (s : Slot X) → d < n → here (home + d) ≡ cond (eqb (get_or xs ((home + d) % n) s).meta (meta_at print d)) (one (alike (meaning (get_or xs ((home + d) % n) s).handle) m)) 0
    here_is d s dn =
        let pos = ring_pos n xs r in
        let high = r.high in
        let i = (home + d) % n in
        let lt : i < length xs = subst (λ (k : ℕ). i < k) r.len (mod-lt (home + d) pos) in
        let y = get_or xs i s in
        let read = weigh_read w n 0 xs i s lt ∙ (let z : 0 + i ≡ i = omega arith in ap (λ (k : ℕ). weight w n k y) z) in
        let mt = meta_get_d xs i s lt in
        let low = ring_low n xs (home + d) r in
        elim (cases_eq y.meta empty) [
          | inl e ↦
              (let parts = meta_parts print d pb (omega arith) in
              let f : eqb y.meta (meta_at print d) ≡ false = eqb_not y.meta (meta_at print d) (λ q. parts.2 (sym q ∙ e)) in
              read ∙ weight_empty w n i y e ∙ ap (λ b. cond b (one (alike (meaning y.handle) m)) 0) (sym f))
          | inr ne ↦
              (let k : rank n xs (home + d) ≡ meta_of xs i / 256 + 1 = rank_pos (meta_of xs i) (λ q. ne (mt ∙ q)) in
              read ∙ weight_full w n i y ne ∙ spot_weight d y dn ne (omega arith))
        ]

    -- past the walk's stop no slot adds anything
    here_none : (d k : ℕ) (s : Slot X) → rank n xs (home + d) ≤ d → d ≤ k → k < n → here (home + k) ≡ 0
    here_none d k s stopped le kn =
        let pos = ring_pos n xs r in
        let high = r.high in
        let i = (home + k) % n in
        let lt : i < length xs = subst (λ (z : ℕ). i < z) r.len (mod-lt (home + k) pos) in
        let mt = meta_get_d xs i s lt in
        let c = climb n xs r.local (home + d) (k - d) in
        let e : home + d + (k - d) ≡ home + k = omega arith in
        let low : rank n xs (home + k) ≤ k = (let f = ap (rank n xs) e in omega arith) in
        let parts = meta_parts print k pb (omega arith) in
        let f : eqb (get_or xs i s).meta (meta_at print k) ≡ false =
        eqb_not (get_or xs i s).meta (meta_at print k)
        (λ q.
        let g : rank n xs (home + k) ≡ k + 1 =
        ap rank_of (sym mt ∙ q) ∙ rank_pos (meta_at print k) parts.2 ∙ ap (λ (z : ℕ). z + 1) parts.0 in
        omega arith) in
        here_is k s kn ∙ ap (λ b. cond b (one (alike (meaning (get_or xs i s).handle) m)) 0) f

    times_pick : (b : Bool) (y : X) → times_read meaning (cond b (y ∷ []) []) m ≡ cond b (one (alike (meaning y) m)) 0
    times_pick true y = omega arith
    times_pick false y = refl

    pub count_from : (s : Slot X) (left d : ℕ) → d + left ≡ n → times_read meaning (candidates_from n xs home print left d) m ≡ sum_from (λ k. here (home + k)) d left
    count_from s zero d e = refl
    count_from s (suc left) d e =
        let pos = ring_pos n xs r in
        let i = (home + d) % n in
        let lt : i < length xs = subst (λ (z : ℕ). i < z) r.len (mod-lt (home + d) pos) in
        elim (leb_tells (rank n xs (home + d)) d) [
          | inl t ↦
              ap (λ zs. times_read meaning zs m) (cands_stop n xs home print (suc left) d t.1)
              ∙ sym (sum_none (λ k. here (home + k)) d (suc left) (λ k lo hi. here_none d k s t.1 lo (omega arith)))
          | inr t ↦
              (let rest = candidates_from n xs home print left (d + 1) in
              let y = get_or xs i s in
              let a = ap (λ zs. times_read meaning zs m)
              (cands_pass n xs home print left d t.1 ∙ ap (λ zs. zs ++ rest) (pick_read (meta_at print d) xs i s lt)) in
              let b = how_many_append (λ x. alike (meaning x) m) (cond (eqb y.meta (meta_at print d)) (y.handle ∷ []) []) rest in
              let c = times_pick (eqb y.meta (meta_at print d)) y.handle in
              let h = here_is d s (omega arith) in
              let ih = count_from s left (d + 1) (omega arith) in
              omega arith)
        ]

    pub count_all : (s : Slot X) → times_read meaning (candidates_from n xs home print n 0) m ≡ weigh_from w n 0 xs
    count_all s =
        let pos = ring_pos n xs r in
        let z : 0 + n ≡ n = omega arith in
        count_from s n 0 z
        ∙ sum_shift here home 0 n
        ∙ (let e : home + 0 ≡ home = omega arith in ap (λ (k : ℕ). sum_from here k n) e)
        ∙ sum_round here n home (λ p. ap (weigh_at w n 0 xs) (add-mod_right p n))
        ∙ sum_same here (weigh_at w n 0 xs) 0 n (λ k lo hi. ap (weigh_at w n 0 xs) (mod-eq_of_lt (omega arith)))
        ∙ ap (sum_from (weigh_at w n 0 xs) 0) r.len
        ∙ sym (weigh_sum w n 0 xs)
