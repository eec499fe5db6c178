-- One step of a search among candidates.
use Rattle.std.proofs.Common.{◌≡◌, ℕ, zero, suc, ◌+◌, ◌-◌, ◌*◌, ◌%◌, ◌<◌, ◌≤◌, Bool, true, false, cond, ◌&&◌, eqb, leb, List, [], ◌∷◌, length, get_or, IfSome, Some, None, Option, sym, refl, ap, ◌∙◌, subst, inl, inr, le_of_suc-le-suc, mod-lt, arith, eq-eqb}
use Rattle.std.proofs.lemmas.Bool.Decides.{leb_tells, eqb_tells}
use Rattle.handles.specs.Slots.{rank, rank_of, meta_at}
use Rattle.handles.specs.Seek.{seek_from, test_at}
use Rattle.handles.specs.declared.slot.Slot.{Slot}
use Rattle.handles.proofs.Ranks.{rank_read}

module _ {X : Type 0} where
  pub test_read : (f : Slot X → Bool) (xs : List (Slot X)) (i : ℕ) (d : Slot X) → i < length xs → test_at f xs i ≡ f (get_or xs i d)
  test_read f [] i d h = absurd (omega arith)
  test_read f (x ∷ xs) zero d h = refl
  test_read f (x ∷ xs) (suc i) d h = test_read f xs i d (le_of_suc-le-suc h)

  -- the test of a candidate at displacement d
  abbrev pub hits : (X → Bool) → ℕ → ℕ → Slot X → Bool
  hits ok print d s = eqb s.meta (meta_at print d) && ok s.handle

  module _ (ok : X → Bool) (n : ℕ) (xs : List (Slot X)) (home print : ℕ) where
    pub seek_over : (d : ℕ) → n ≤ d → seek_from ok n xs home print (n - d) d ≡ None
    seek_over d h = let e : n - d ≡ 0 = omega arith in rw e refl

    pub seek_stop : (left d : ℕ) → rank n xs (home + d) ≤ d → seek_from ok n xs home print left d ≡ None
    seek_stop zero d h = refl
    seek_stop (suc left) d h =
        elim (leb_tells (rank n xs (home + d)) d) [
          | inl t ↦ ap (λ b. cond b None (cond (test_at (hits ok print d) xs ((home + d) % n)) (Some d) (seek_from ok n xs home print left (d + 1)))) t.0
          | inr t ↦ absurd (omega (arith, t.1))
        ]

    -- what is found lies within the steps that were left
    abbrev pub Within : ℕ → ℕ → Option ℕ → Type 0
    Within d left None = Unit {0}
    Within d left (Some e) = (d ≤ e) × (e < d + left)

    within_or : (left d : ℕ) (a b : Bool) (o : Option ℕ) → Within (d + 1) left o → Within d (suc left) (cond a None (cond b (Some d) o))
    within_or left d true b o w = tt
    within_or left d false true o w = (omega arith, omega arith)
    within_or left d false false None w = tt
    within_or left d false false (Some e) w = (omega (arith, w.0), omega (arith, w.1))

    pub seek_within : (left d : ℕ) → Within d left (seek_from ok n xs home print left d)
    seek_within zero d = tt
    seek_within (suc left) d =
        within_or left d (leb (rank n xs (home + d)) d) (test_at (hits ok print d) xs ((home + d) % n)) (seek_from ok n xs home print left (d + 1))
        (seek_within left (d + 1))

    within_short : (d : ℕ) (o : Option ℕ) → Within d (n - d) o → IfSome o (λ e. (d ≤ e) × (e < n))
    within_short d None w = tt
    within_short d (Some e) w = (w.0, omega (arith, w.0, w.1))

    pub seek_short : (d : ℕ) (r : Option ℕ) → r ≡ seek_from ok n xs home print (n - d) d → IfSome r (λ e. (d ≤ e) × (e < n))
    seek_short d r e = within_short d r (subst (Within d (n - d)) (sym e) (seek_within (n - d) d))

    -- past a slot that the walk goes by
    pub seek_pass : (left d : ℕ) (b : Bool) → d < rank n xs (home + d) → test_at (hits ok print d) xs ((home + d) % n) ≡ b → seek_from ok n xs home print (suc left) d ≡ cond b (Some d) (seek_from ok n xs home print left (d + 1))
    seek_pass left d b h e =
        elim (leb_tells (rank n xs (home + d)) d) [
          | inl t ↦ absurd (omega (arith, t.1))
          | inr t ↦
              ap (λ b. cond b None (cond (test_at (hits ok print d) xs ((home + d) % n)) (Some d) (seek_from ok n xs home print left (d + 1)))) t.0
              ∙ ap (λ b. cond b (Some d) (seek_from ok n xs home print left (d + 1))) e
        ]

    pub seek_step : (d : ℕ) (b : Bool) (i : ℕ) (s : Slot X) → n ≡ length xs → d < n → i ≡ (home + d) % n → d < rank n xs (home + d) → hits ok print d (get_or xs i s) ≡ b → seek_from ok n xs home print (n - d) d ≡ cond b (Some d) (seek_from ok n xs home print (n - (d + 1)) (d + 1))
    seek_step d b i s len lt at h e =
        let pos : 0 < n = omega arith in
        let within : (home + d) % n < length xs = (let m = mod-lt (home + d) pos in omega arith) in
        let q : n - d ≡ suc (n - (d + 1)) = omega arith in
        let f : test_at (hits ok print d) xs ((home + d) % n) ≡ b =
        test_read (hits ok print d) xs ((home + d) % n) s within ∙ ap (λ (k : ℕ). hits ok print d (get_or xs k s)) (sym at) ∙ e in
        rw q (seek_pass (n - (d + 1)) d b h f)

    -- the rank of the slot that was read at displacement d
    pub read_rank : (d i : ℕ) (s : Slot X) → n ≡ length xs → d < n → i ≡ (home + d) % n → s ≡ get_or xs i s → rank n xs (home + d) ≡ rank_of s.meta
    read_rank d i s len lt at is =
        let pos : 0 < n = omega arith in
        sym (rank_read n xs (home + d) i s len pos at) ∙ ap (λ (y : Slot X). rank_of y.meta) (sym is)

    -- the turn that finds nothing, and the turn that finds
    pub seek_turn : (d i : ℕ) (s : Slot X) (b : Bool) → n ≡ length xs → d < n → i ≡ (home + d) % n → s ≡ get_or xs i s → d < rank_of s.meta → hits ok print d s ≡ b → seek_from ok n xs home print (n - d) d ≡ cond b (Some d) (seek_from ok n xs home print (n - (d + 1)) (d + 1))
    seek_turn d i s b len lt at is far e =
        let r = read_rank d i s len lt at is in
        seek_step d b i s len lt at (omega arith) (ap (hits ok print d) (sym is) ∙ e)

  pub hits_both : (ok : X → Bool) (print d : ℕ) (s : Slot X) → s.meta ≡ d * 256 + print → ok s.handle ≡ true → hits ok print d s ≡ true
  hits_both ok print d s e t = ap (λ b. b && ok s.handle) (eq-eqb s.meta (d * 256 + print) e) ∙ t

  pub hits_meta : (ok : X → Bool) (print d : ℕ) (s : Slot X) → (s.meta ≡ d * 256 + print → ⊥) → hits ok print d s ≡ false
  hits_meta ok print d s ne =
      elim (eqb_tells s.meta (d * 256 + print)) [
        | inl t ↦ absurd (ne t.1)
        | inr t ↦ ap (λ b. b && ok s.handle) t.0
      ]

  pub hits_not : (ok : X → Bool) (print d : ℕ) (s : Slot X) → ok s.handle ≡ false → hits ok print d s ≡ false
  hits_not ok print d s f =
      elim (eqb s.meta (d * 256 + print)) as (λ b. (b && ok s.handle) ≡ false) [ true ↦ f | false ↦ refl ]
