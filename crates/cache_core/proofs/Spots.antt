-- The place that is vacated for a newcomer: below those opened if it is reused, else the next.
use Rattle.std.proofs.Common.{◌≡◌, ℕ, ◌<◌, Bool, false, cond, eqb, List, [], ◌∷◌, Some, None, Option, sym, refl, ap, ◌∙◌, inl, inr, arith, eq-eqb}
use Rattle.std.proofs.lemmas.Bool.Decides.{eqb_tells}
use Rattle.machine.specs.declared.report.Part.{Part}
use Rattle.machine.specs.declared.report.Part.TheVariants.{Small, Main}
use Rattle.machine.specs.Replacement.{Resident, Parts, Swept, Ended, Spot, reused, fresh, Plan, grow, evict_main, promote_tail, evict_tail, sweep, ended, popped, main_evicted, tail_promoted, tail_evicted, carried_out, plan_of, vacated}
use Rattle.machine.specs.Machine.{Cell, lying}
use Rattle.machine_laws.proofs.Carried.{carry_spot}
use Rattle.policy.specs.Insertion.{place_at}
use Rattle.index.specs.Ties.{occurs}
use Rattle.cache_core.specs.View.{places}
use Rattle.cache_core.proofs.Looked.{here}
use Rattle.cache_core.proofs.Standing.{Orderly}
use Rattle.cache_core.proofs.Leaving.{items_append, sweep_counts, ended_counts}

abbrev pub Spotted : ℕ → Spot ℕ → Type 0
Spotted opened (reused p) = p < opened
Spotted opened (fresh n) = n ≡ opened

module _ (c node : ℕ) (s : Parts ℕ ℕ ℕ) (o : Orderly c s) where
  resident_low : (p : ℕ) → 0 < occurs p (places s) → p < s.opened
  resident_low p some = o.within p (omega arith)

  by_pop : (part : Part) (fs : List ℕ) → s.free ≡ fs → Spotted s.opened (popped part s fs).spot
  by_pop part [] e = refl
  by_pop part (f ∷ fs) e = o.within f (let a = ap (occurs f) e in let h = here f fs in omega arith)

  victim_low : (w : Swept ℕ) → sweep s.main ≡ Some w → w.victim.item < s.opened
  victim_low w e =
      let p = w.victim.item in
      resident_low p (let a = sweep_counts p s.main w e in let b = items_append p s.small s.main in let h = here p [] in omega arith)

  tail_low : (t : Ended (Resident ℕ)) → ended s.small ≡ Some t → t.tail.item < s.opened
  tail_low t e =
      let p = t.tail.item in
      resident_low p (let a = ended_counts p s.small t e in let b = items_append p s.small s.main in let h = here p [] in omega arith)

  by_main : (w : Option (Swept ℕ)) → sweep s.main ≡ w → Spotted s.opened (main_evicted (λ _. node) (λ q. q) c s w).spot
  by_main None e = by_pop Main s.free refl
  by_main (Some w) e = victim_low w e

  by_promotion : (t : Option (Ended (Resident ℕ))) (w : Option (Swept ℕ)) → sweep s.main ≡ w → Spotted s.opened (tail_promoted (λ _. node) (λ q. q) c s t w).spot
  by_promotion None w e = by_pop Small s.free refl
  by_promotion (Some t) None e = by_pop Small s.free refl
  by_promotion (Some t) (Some w) e = victim_low w e

  by_tail : (t : Option (Ended (Resident ℕ))) → ended s.small ≡ t → Spotted s.opened (tail_evicted (λ _. node) (λ q. q) c s t).spot
  by_tail None e = by_pop Small s.free refl
  by_tail (Some t) e = tail_low t e

  by_plan : (plan : Plan) → Spotted s.opened (carried_out (λ _. node) (λ q. q) c plan s).spot
  by_plan (grow part) = by_pop part s.free refl
  by_plan evict_main = by_main (sweep s.main) refl
  by_plan promote_tail = by_promotion (ended s.small) (sweep s.main) refl
  by_plan evict_tail = by_tail (ended s.small) refl

  pub spotted : (known : Bool) → Spotted s.opened (vacated (λ _. node) (λ q. q) c known s).spot
  spotted known = by_plan (plan_of c known s)

not_itself : (p n : ℕ) → p < n → eqb p n ≡ false
not_itself p n less = elim (eqb_tells p n) [ inl e ↦ absurd (let z = e.1 in omega arith) | inr e ↦ e.0 ]

-- what a claim finds in a place is the given value where the place is the next, else what lies there
pub lies_at : {V : Type 0} (cell : ℕ → Cell V) (given : V) (opened place : ℕ) (sp : Spot ℕ) → place ≡ place_at sp → Spotted opened sp → lying given (carry_spot (λ (x : ℕ). x) (λ (x : ℕ). x) cell sp) ≡ cond (eqb place opened) given (cell place).value
lies_at {V} cell given opened place (reused p) at low =
    ap (λ (q : ℕ). (cell q).value) (sym at) ∙ ap (λ (b : Bool). cond b given (cell place).value) (sym (not_itself place opened (let z = at in omega arith)))
lies_at cell given opened place (fresh n) at next = ap (λ (b : Bool). cond b given (cell place).value) (sym (eq-eqb place opened (at ∙ next)))
