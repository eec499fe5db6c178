-- What a sweep does to Main: it passes the used ones before the first that is not, or comes round.
use Rattle.std.proofs.Common.{◌≡◌, ℕ, suc, Bool, true, false, cond, ◌⊎◌, List, [], ◌∷◌, ◌++◌, map, length, Some, None, sym, refl, ap, ◌∙◌, subst, inl, inr, append_assoc, append-nil, arith, length-append}
use Rattle.std.specs.List.{AllByRecursion}
use Rattle.std.proofs.ByRecursion.{All-push}
use Rattle.machine.specs.Replacement.{plain, Resident, Swept, marked, is_used, came_round, sweep_from, sweep}

module _ {R : Type 0} where
  abbrev pub IsUsed : Resident R → Type 0
  IsUsed r = is_used r.mark ≡ true

  -- the sweep passed these and stopped at the victim
  pub record Stopped (main : List (Resident R)) (w : Swept R) : Type 0 where
    pub passed : List (Resident R)
    pub after : List (Resident R)
    pub stood : main ≡ passed ++ w.victim ∷ after
    pub used : AllByRecursion IsUsed passed
    pub idle : is_used w.victim.mark ≡ false
    pub moved : w.rest ≡ after ++ map (marked plain) passed
    pub told : w.chances ≡ length passed

  -- the sweep passed all, and the first of them is the victim
  pub record Round (main : List (Resident R)) (w : Swept R) : Type 0 where
    pub first : Resident R
    pub after : List (Resident R)
    pub stood : main ≡ first ∷ after
    pub used : AllByRecursion IsUsed (first ∷ after)
    pub victim : w.victim ≡ marked plain first
    pub moved : w.rest ≡ map (marked plain) after
    pub told : w.chances ≡ length main

  map_push : (f : Resident R → Resident R) (xs : List (Resident R)) (r : Resident R) → map f (xs ++ r ∷ []) ≡ map f xs ++ f r ∷ []
  map_push f [] r = refl
  map_push f (x ∷ xs) r = ap (λ l. f x ∷ l) (map_push f xs r)

  round : (n : ℕ) (front main : List (Resident R)) (w : Swept R) → n ≡ length front → main ≡ front → AllByRecursion IsUsed front → came_round n (map (marked plain) front) ≡ Some w → Round main w
  round n [] main w en em u e = let z : ◌≡◌ {A = ℕ} 0 1 = cc in absurd (omega arith)
  round n (x ∷ xs) main w en em u e =
      let q : ◌≡◌ {A = Swept R} (record { victim = marked plain x; rest = map (marked plain) xs; chances = n }) w = cc in
      record {
        first = x;
        after = xs;
        stood = em;
        used = u;
        victim = ap (λ (v : Swept R). v.victim) (sym q);
        moved = ap (λ (v : Swept R). v.rest) (sym q);
        told = ap (λ (v : Swept R). v.chances) (sym q) ∙ (en ∙ ap length (sym em));
      }

  sweeps_from :
      (rs front passed main : List (Resident R)) (n : ℕ) (w : Swept R) → n ≡ length front → passed ≡ map (marked plain) front → main ≡ front ++ rs → AllByRecursion IsUsed front →
      sweep_from n passed rs ≡ Some w → Stopped main w ⊎ Round main w
  sweeps_from [] front passed main n w en ep em u e =
      inr (round n front main w en (em ∙ append-nil front) u (subst (λ (p : List (Resident R)). came_round n p ≡ Some w) ep e))
  sweeps_from (r ∷ rs) front passed main n w en ep em u e =
      go (is_used r.mark) refl e
      (λ t f.
      sweeps_from rs (front ++ r ∷ []) (passed ++ marked plain r ∷ []) main (suc n) w (let l = length-append front (r ∷ []) in omega arith)
      (ap (λ (p : List (Resident R)). p ++ marked plain r ∷ []) ep ∙ sym (map_push (marked plain) front r)) (em ∙ sym (append_assoc front (r ∷ []) rs))
      (All-push IsUsed front r u t) f)
    where
      go :
          (b : Bool) → is_used r.mark ≡ b → cond b (sweep_from (suc n) (passed ++ marked plain r ∷ []) rs) (Some (record { victim = r; rest = rs ++ passed; chances = n })) ≡ Some w →
          (is_used r.mark ≡ true → sweep_from (suc n) (passed ++ marked plain r ∷ []) rs ≡ Some w → Stopped main w ⊎ Round main w) → Stopped main w ⊎ Round main w
      go true t f ih = ih t f
      go false t f ih =
          let q : ◌≡◌ {A = Swept R} (record { victim = r; rest = rs ++ passed; chances = n }) w = cc in
          inl
          (subst (λ (v : Swept R). Stopped main v) q
          (record { passed = front; after = rs; stood = em; used = u; idle = t; moved = ap (λ (p : List (Resident R)). rs ++ p) ep; told = en }))

  pub sweeps : (main : List (Resident R)) (w : Swept R) → sweep main ≡ Some w → Stopped main w ⊎ Round main w
  sweeps main w e = sweeps_from main [] [] main 0 w refl refl refl tt e

  some_from : (n : ℕ) (passed rs : List (Resident R)) → sweep_from n passed rs ≡ None → (passed ≡ []) × (rs ≡ [])
  some_from n [] [] e = (refl, refl)
  some_from n (p ∷ ps) [] e = let z : ◌≡◌ {A = ℕ} 0 1 = cc in absurd (omega arith)
  some_from n passed (r ∷ rs) e = go (is_used r.mark) e (some_from (suc n) (passed ++ marked plain r ∷ []) rs)
    where
      not_empty : (ps : List (Resident R)) → ps ++ marked plain r ∷ [] ≡ [] → ⊥
      not_empty [] q = let z : ◌≡◌ {A = ℕ} 0 1 = cc in omega arith
      not_empty (p ∷ ps) q = let z : ◌≡◌ {A = ℕ} 0 1 = cc in omega arith

      go :
          (b : Bool) → cond b (sweep_from (suc n) (passed ++ marked plain r ∷ []) rs) (Some (record { victim = r; rest = rs ++ passed; chances = n })) ≡ None →
          (sweep_from (suc n) (passed ++ marked plain r ∷ []) rs ≡ None → (passed ++ marked plain r ∷ [] ≡ []) × (rs ≡ [])) → (passed ≡ []) × (r ∷ rs ≡ [])
      go true f ih = absurd (not_empty passed (ih f).0)
      go false f ih = let z : ◌≡◌ {A = ℕ} 0 1 = cc in absurd (omega arith)

  -- only an empty Main has no victim
  pub sweep_none : (main : List (Resident R)) → sweep main ≡ None → main ≡ []
  sweep_none main e = (some_from 0 [] main e).1
