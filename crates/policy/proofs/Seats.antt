-- Vacating a place and seating the newcomer there is the machine's insertion.
use Rattle.std.proofs.Common.{◌≡◌, ℕ, Bool, true, false, ◌&&◌, ◌||◌, eqb, leb, List, [], ◌∷◌, length, Some, None, Option, sym, refl, ap, ◌∙◌, subst, arith}
use Rattle.links.specs.Rows.{first_of}
use Rattle.machine.specs.declared.report.Part.{Part}
use Rattle.machine.specs.declared.report.Part.TheVariants as part
use Rattle.machine.specs.Limits.{small_limit, window}
use Rattle.machine.specs.Replacement.{Resident, Parts, Swept, Ended, Vacated, ended, sweep, is_tail_used, popped, main_evicted, tail_promoted, tail_evicted, carried_out, plan, to_main, vacancy, main_full, seated_in, seated, vacated}
use Rattle.queues.specs.Steps.{seated_top, joins}
use Rattle.policy.specs.declared.plan.Admission.{Admission}
use Rattle.policy.specs.declared.plan.Admission.TheVariants as adm
use Rattle.policy.specs.declared.plan.Vacancy.{Vacancy}
use Rattle.policy.specs.View.{noting}
use Rattle.policy.specs.Insertion.{place_at, on_stack, node_of, is_main, admission_of, part_of, Freed, Told, Done}

main_of : (b : Bool) → is_main (admission_of b) ≡ b
main_of true = refl
main_of false = refl

module _ (note : ℕ → ℕ) (c : ℕ) (s : Parts ℕ ℕ ℕ) where
  popped_joins : (p : Part) (fs : List ℕ) → (popped p s fs).joins ≡ p
  popped_joins p [] = refl
  popped_joins p (f ∷ fs) = refl

  main_joins : (w : Option (Swept ℕ)) → (main_evicted note (λ q. q) c s w).joins ≡ part.Main
  main_joins None = popped_joins part.Main s.free
  main_joins (Some w) = refl

  promoted_joins : (o : Option (Ended (Resident ℕ))) (w : Option (Swept ℕ)) → (tail_promoted note (λ q. q) c s o w).joins ≡ part.Small
  promoted_joins None w = popped_joins part.Small s.free
  promoted_joins (Some e) None = popped_joins part.Small s.free
  promoted_joins (Some e) (Some w) = refl

  evicted_joins : (o : Option (Ended (Resident ℕ))) → (tail_evicted note (λ q. q) c s o).joins ≡ part.Small
  evicted_joins None = popped_joins part.Small s.free
  evicted_joins (Some e) = refl

  plan_joins : (b v f u : Bool) → (carried_out note (λ q. q) c (plan b v f u) s).joins ≡ part_of (admission_of b)
  plan_joins true v true u = main_joins (sweep s.main)
  plan_joins true v false u = popped_joins part.Main s.free
  plan_joins false true f u = popped_joins part.Small s.free
  plan_joins false false f true = promoted_joins (ended s.small) (sweep s.main)
  plan_joins false false f false = evicted_joins (ended s.small)

seat_is : (joined : Part) (w c pl : ℕ) (h q : Parts ℕ ℕ ℕ) (g fs : List ℕ) → (joined ≡ part.Small → w ≡ window c) → h.small ≡ q.small → h.main ≡ q.main → g ≡ q.remembered → fs ≡ q.free → h.opened ≡ q.opened → noting g (joins w joined pl fs h) ≡ seated_in c joined pl q
seat_is part.Small w c pl h q g fs k a b d e f = rw (k refl, a, b, d, e, f)
seat_is part.Main w c pl h q g fs k a b d e f = rw (a, b, d, e, f)

small_only : (a : Admission) → part_of a ≡ part.Small → is_main a ≡ false
small_only a e = go a e
  where
    go : (a : Admission) → part_of a ≡ part.Small → is_main a ≡ false
    go adm.Small e = refl
    go adm.Main e = let z : ◌≡◌ {A = ℕ} 0 1 = cc in absurd (omega arith)

module _ (c w : ℕ) (known vac : Bool) (a : Admission) (joined : Part) (s h1 h2 : Parts ℕ ℕ ℕ) (g : List ℕ) (pl : ℕ) (v : Vacancy) (ev : vac ≡ vacancy c s) (ea : a ≡ admission_of (known || (eqb (small_limit c) 0 || (vac && leb (small_limit c) (length s.small))))) (ej : joined ≡ part_of a) (first : Some pl ≡ first_of h1.free) (seat : h2 ≡ seated_top w joined h1.free h1) (ew : is_main a ≡ false → w ≡ window c) where
  note : ℕ → ℕ
  note = λ _. node_of v.noted

  is_main_lem : is_main a ≡ to_main c known s
  is_main_lem = ap is_main (ea ∙ ap (λ (b : Bool). admission_of (known || (eqb (small_limit c) 0 || (b && leb (small_limit c) (length s.small))))) ev) ∙ main_of (to_main c known s)

  to_part : part_of a ≡ (vacated (λ _. node_of v.noted) (λ q. q) c known s).joins
  to_part =
      ap part_of (ea ∙ ap (λ (b : Bool). admission_of (known || (eqb (small_limit c) 0 || (b && leb (small_limit c) (length s.small))))) ev)
      ∙ sym (plan_joins (λ _. node_of v.noted) c s (to_main c known s) (vacancy c s) (main_full c s) (is_tail_used (ended s.small)))

  freed_is : Freed (carried_out (λ _. node_of v.noted) (λ q. q) c (plan (is_main a) vac (main_full c s) (is_tail_used (ended s.small))) s) (noting g h1) v → Freed (vacated (λ _. node_of v.noted) (λ q. q) c known s) (noting g h1) v
  freed_is f =
      subst (λ (b : Bool). Freed (carried_out (λ _. node_of v.noted) (λ q. q) c (plan (to_main c known s) b (main_full c s) (is_tail_used (ended s.small))) s) (noting g h1) v) ev
      (subst (λ (b : Bool). Freed (carried_out (λ _. node_of v.noted) (λ q. q) c (plan b vac (main_full c s) (is_tail_used (ended s.small))) s) (noting g h1) v) is_main_lem f)

  seated_is : (x : Vacated ℕ ℕ ℕ) → noting g h1 ≡ on_stack x → joined ≡ x.joins → (noting g h2 ≡ seated c x pl) × (pl ≡ place_at x.spot)
  seated_is x e j =
      let free : h1.free ≡ place_at x.spot ∷ x.parts.free = ap (λ (q : Parts ℕ ℕ ℕ). q.free) e in
      let i : Some pl ≡ Some (place_at x.spot) = first ∙ ap first_of free in
      let k : pl ≡ place_at x.spot = cc in
      let t : h2 ≡ joins w joined (place_at x.spot) x.parts.free h1 = seat ∙ ap (λ (f : List ℕ). seated_top w joined f h1) free in
      let n = seat_is joined w c (place_at x.spot) h1 x.parts g x.parts.free (λ q. ew (small_only a (sym ej ∙ q))) (ap (λ (q : Parts ℕ ℕ ℕ). q.small) e) (ap (λ (q : Parts ℕ ℕ ℕ). q.main) e) (ap (λ (q : Parts ℕ ℕ ℕ). q.remembered) e) refl (ap (λ (q : Parts ℕ ℕ ℕ). q.opened) e) in
      (ap (noting g) t ∙ (n ∙ rw (k, j)), k)

  pub done : Freed (carried_out (λ _. node_of v.noted) (λ q. q) c (plan (is_main a) vac (main_full c s) (is_tail_used (ended s.small))) s) (noting g h1) v → Told s.remembered v.left v.noted → Done c known s (noting g h2) (record { place = pl; joined = joined; vacancy = v })
  done f t =
      let r = freed_is f in
      let k = seated_is (vacated (λ _. node_of v.noted) (λ q. q) c known s) r.parts (ej ∙ to_part) in
      record { parts = k.0; place = k.1; joined = ej ∙ to_part; left = r.left; chances = r.chances; told = t }
