-- After an insertion the limits are kept.
use Rattle.std.proofs.Common.{◌≡◌, ℕ, suc, ◌+◌, ◌<◌, ◌≤◌, Bool, true, false, cond, ◌&&◌, ◌||◌, eqb, leb, List, [], ◌∷◌, ◌++◌, length, Some, None, Option, sym, refl, ap, ◌∙◌, inl, inr, arith, length-append}
use Rattle.std.proofs.lemmas.List.{length-map}
use Rattle.std.proofs.lemmas.Bool.{cases_eq, ltb-true, ltb-false, leb-false, eqb-false, or_parts}
use Rattle.machine.specs.declared.report.Part.TheVariants as part
use Rattle.machine.specs.Limits.{small_limit, main_limit, window}
use Rattle.machine.specs.Replacement.{Resident, Parts, Swept, Ended, ended, before, sweep, sweep_from, is_used, is_tail_used, marked, plain, aged, popped, main_evicted, tail_promoted, tail_evicted, carried_out, plan, to_main, vacancy, main_full, seated_in, seated, vacated}
use Rattle.policy.specs.declared.plan.Admission.{Admission}
use Rattle.policy.specs.Insertion.{is_main, admission_of}
use Rattle.policy.proofs.Readiness.{Limits}

pub sweep_length : (n : ℕ) (passed rs : List (Resident ℕ)) (w : Swept ℕ) → sweep_from n passed rs ≡ Some w → length w.rest + 1 ≡ length passed + length rs
sweep_length n [] [] w e = let z : ◌≡◌ {A = ℕ} 0 1 = cc in absurd (omega arith)
sweep_length n (r ∷ passed) [] w e =
    let i : record { victim = r; rest = passed; chances = n } ≡ w = cc in
    let j = ap (λ (x : Swept ℕ). length x.rest) i in
    omega arith
sweep_length n passed (r ∷ rs) w e =
    (elim (is_used r.mark) as (λ b. cond b (sweep_from (suc n) (passed ++ marked plain r ∷ []) rs) (Some (record { victim = r; rest = rs ++ passed; chances = n })) ≡ Some w → length w.rest + 1 ≡ length passed + length (r ∷ rs)) [
      | true ↦ λ e. let ih = sweep_length (suc n) (passed ++ marked plain r ∷ []) rs w e in let a = length-append passed (marked plain r ∷ []) in omega arith
      | false ↦ λ e.
          let i : record { victim = r; rest = rs ++ passed; chances = n } ≡ w = cc in
          let j = ap (λ (x : Swept ℕ). length x.rest) i in
          let a = length-append rs passed in
          omega arith
    ]) e

pub no_ended : (xs : List (Resident ℕ)) → ended xs ≡ None → length xs ≡ 0
no_ended [] e = refl
no_ended (x ∷ xs) e = let z : ◌≡◌ {A = ℕ} 0 1 = cc in absurd (omega arith)

ended_next : (x : Resident ℕ) (xs : List (Resident ℕ)) (e : Ended (Resident ℕ)) (o : Option (Ended (Resident ℕ))) → ended xs ≡ o → ((f : Ended (Resident ℕ)) → ended xs ≡ Some f → length f.front + 1 ≡ length xs) → Some (before x o) ≡ Some e → length e.front + 1 ≡ length (x ∷ xs)
ended_next x xs e None k ih i =
    let j : record { front = []; tail = x } ≡ e = cc in
    let l = ap (λ (y : Ended (Resident ℕ)). length y.front) j in
    let m = no_ended xs k in
    omega arith
ended_next x xs e (Some f) k ih i =
    let j : record { front = x ∷ f.front; tail = f.tail } ≡ e = cc in
    let l = ap (λ (y : Ended (Resident ℕ)). length y.front) j in
    let m = ih f k in
    omega arith

pub ended_length : (xs : List (Resident ℕ)) (e : Ended (Resident ℕ)) → ended xs ≡ Some e → length e.front + 1 ≡ length xs
ended_length [] e h = let z : ◌≡◌ {A = ℕ} 0 1 = cc in absurd (omega arith)
ended_length (x ∷ xs) e h = ended_next x xs e (ended xs) refl (ended_length xs) h

pub no_sweep : (n : ℕ) (passed rs : List (Resident ℕ)) → sweep_from n passed rs ≡ None → length passed + length rs ≡ 0
no_sweep n [] [] e = omega arith
no_sweep n (r ∷ passed) [] e = let z : ◌≡◌ {A = ℕ} 0 1 = cc in absurd (omega arith)
no_sweep n passed (r ∷ rs) e =
    (elim (is_used r.mark) as (λ b. cond b (sweep_from (suc n) (passed ++ marked plain r ∷ []) rs) (Some (record { victim = r; rest = rs ++ passed; chances = n })) ≡ None → length passed + length (r ∷ rs) ≡ 0) [
      | true ↦ λ e. let ih = no_sweep (suc n) (passed ++ marked plain r ∷ []) rs e in let a = length-append passed (marked plain r ∷ []) in absurd (omega arith)
      | false ↦ λ e. let z : ◌≡◌ {A = ℕ} 0 1 = cc in absurd (omega arith)
    ]) e

-- the limits of a state
pub record Fits (c : ℕ) (t : Parts ℕ ℕ ℕ) : Type 0 where
  pub small : length t.small ≤ small_limit c
  pub main : length t.main ≤ main_limit c
  pub opened : t.opened ≤ c

module _ (note : ℕ → ℕ) (c : ℕ) (limits : Limits c) (s : Parts ℕ ℕ ℕ) (fits : Fits c s) (all : length s.small + length s.main + length s.free ≡ s.opened) (p : ℕ) where
  seat_small : (q : Parts ℕ ℕ ℕ) → length q.small + 1 ≤ small_limit c → length q.main ≤ main_limit c → q.opened ≤ c → Fits c (seated_in c part.Small p q)
  seat_small q a b d = let m = length-map q.small (λ r. marked (aged (window c) r.mark) r) in record { small = omega arith; main = b; opened = d }

  seat_main : (q : Parts ℕ ℕ ℕ) → length q.small ≤ small_limit c → length q.main + 1 ≤ main_limit c → q.opened ≤ c → Fits c (seated_in c part.Main p q)
  seat_main q a b d = let m = length-append q.main (record { item = p; mark = plain } ∷ []) in record { small = a; main = omega arith; opened = d }

  pop_small : (fs : List ℕ) → s.free ≡ fs → length s.small + 1 ≤ small_limit c → length s.small + length s.main < c → Fits c (seated c (popped part.Small s fs) p)
  pop_small [] e a b =
      let z = ap (λ (xs : List ℕ). length xs) e in
      seat_small (popped part.Small s []).parts a fits.main (omega arith)
  pop_small (f ∷ fs) e a b = seat_small (popped part.Small s (f ∷ fs)).parts a fits.main fits.opened

  pop_main : (fs : List ℕ) → s.free ≡ fs → length s.main + 1 ≤ main_limit c → length s.small + length s.main < c → Fits c (seated c (popped part.Main s fs) p)
  pop_main [] e a b =
      let z = ap (λ (xs : List ℕ). length xs) e in
      seat_main (popped part.Main s []).parts fits.small a (omega arith)
  pop_main (f ∷ fs) e a b = seat_main (popped part.Main s (f ∷ fs)).parts fits.small a fits.opened

  evict_main_lem : (w : Option (Swept ℕ)) → sweep s.main ≡ w → Fits c (seated c (main_evicted note (λ q. q) c s w) p)
  evict_main_lem None e =
      let z = no_sweep 0 [] s.main e in
      let a = limits.main in
      let b = limits.sum in
      let d = fits.small in
      pop_main s.free refl (omega arith) (omega arith)
  evict_main_lem (Some w) e =
      let z = sweep_length 0 [] s.main w e in
      let a = fits.main in
      seat_main (main_evicted note (λ q. q) c s (Some w)).parts fits.small (omega arith) fits.opened

  promote_tail_lem : c ≤ length s.small + length s.main → 1 ≤ small_limit c → (o : Option (Ended (Resident ℕ))) (w : Option (Swept ℕ)) → ended s.small ≡ o → sweep s.main ≡ w → Fits c (seated c (tail_promoted note (λ q. q) c s o w) p)
  promote_tail_lem v k None w i e =
      let z = no_ended s.small i in
      let a = limits.sum in
      let b = fits.main in
      absurd (omega arith)
  promote_tail_lem v k (Some x) None i e =
      let z = no_sweep 0 [] s.main e in
      let a = limits.sum in
      let b = limits.main in
      let d = fits.small in
      absurd (omega arith)
  promote_tail_lem v k (Some x) (Some w) i e =
      let y = ended_length s.small x i in
      let z = sweep_length 0 [] s.main w e in
      let l = length-append w.rest (marked plain x.tail ∷ []) in
      let a = fits.small in
      let b = fits.main in
      seat_small (tail_promoted note (λ q. q) c s (Some x) (Some w)).parts (omega arith) (omega arith) fits.opened

  evict_tail_lem : c ≤ length s.small + length s.main → 1 ≤ small_limit c → (o : Option (Ended (Resident ℕ))) → ended s.small ≡ o → Fits c (seated c (tail_evicted note (λ q. q) c s o) p)
  evict_tail_lem v k None i =
      let z = no_ended s.small i in
      let a = limits.sum in
      let b = fits.main in
      absurd (omega arith)
  evict_tail_lem v k (Some x) i =
      let y = ended_length s.small x i in
      let a = fits.small in
      seat_small (tail_evicted note (λ q. q) c s (Some x)).parts (omega arith) fits.main fits.opened

  pub inserted_fits : (known : Bool) → Fits c (seated c (vacated note (λ q. q) c known s) p)
  inserted_fits known = go (to_main c known s) (vacancy c s) (main_full c s) (is_tail_used (ended s.small)) refl refl refl
    where
      tight : vacancy c s ≡ false → c ≤ length s.small + length s.main
      tight e = ltb-false (length s.small + length s.main) c e

      to_small : to_main c known s ≡ false → (1 ≤ small_limit c) × (vacancy c s ≡ true → length s.small < small_limit c)
      to_small e =
          let a = (or_parts known (eqb (small_limit c) 0 || (vacancy c s && leb (small_limit c) (length s.small))) e).1 in
          let b = or_parts (eqb (small_limit c) 0) (vacancy c s && leb (small_limit c) (length s.small)) a in
          let n = eqb-false (small_limit c) 0 b.0 in
          let lt : 1 ≤ small_limit c = elim (cases_eq (small_limit c) 0) [ inl i ↦ absurd (n i) | inr i ↦ omega arith ] in
          (lt, λ v. leb-false (small_limit c) (length s.small) (let d = b.1 in rw v at d))

      go : (b v f u : Bool) → to_main c known s ≡ b → vacancy c s ≡ v → main_full c s ≡ f → Fits c (seated c (carried_out note (λ q. q) c (plan b v f u) s) p)
      go true v true u i j k = evict_main_lem (sweep s.main) refl
      go true v false u i j k =
          let a = leb-false (main_limit c) (length s.main) k in
          let b = limits.sum in
          let d = fits.small in
          pop_main s.free refl (omega arith) (omega arith)
      go false true f u i j k =
          let a = (to_small i).1 j in
          let b = ltb-true (length s.small + length s.main) c j in
          pop_small s.free refl (omega arith) b
      go false false f true i j k = promote_tail_lem (tight j) (to_small i).0 (ended s.small) (sweep s.main) refl refl
      go false false f false i j k = evict_tail_lem (tight j) (to_small i).0 (ended s.small) refl

pub fits_at : (c d : ℕ) (t u : Parts ℕ ℕ ℕ) → d ≡ c → u ≡ t → Fits c t → (length u.small ≤ small_limit d) × (length u.main ≤ main_limit d) × (u.opened ≤ d)
fits_at c d t u i j f = rw (i, j) (f.small, f.main, f.opened)

-- a newcomer goes to Small only where Small has room at all
pub small_room : (known vac : Bool) (m n : ℕ) (a : Admission) → a ≡ admission_of (known || (eqb m 0 || (vac && leb m n))) → is_main a ≡ false → 1 ≤ m
small_room known vac m n a e h =
    let i : is_main (admission_of (known || (eqb m 0 || (vac && leb m n)))) ≡ false = sym (ap is_main e) ∙ h in
    let j = (or_parts known (eqb m 0 || (vac && leb m n)) (back (known || (eqb m 0 || (vac && leb m n))) i)).1 in
    let k = eqb-false m 0 (or_parts (eqb m 0) (vac && leb m n) j).0 in
    elim (cases_eq m 0) [ inl q ↦ absurd (k q) | inr q ↦ omega arith ]
  where
    back : (b : Bool) → is_main (admission_of b) ≡ false → b ≡ false
    back true q = let z : ◌≡◌ {A = ℕ} 0 1 = cc in absurd (omega arith)
    back false q = refl
