-- Who leaves Main and who joins it, read off the keys before and after an event.
use Rattle.std.proofs.Common.{◌≡◌, ℕ, Bool, true, false, not, ◌||◌, ◌⊎◌, List, [], ◌∷◌, ◌++◌, map, length, Some, Result, sym, refl, ap, ◌∙◌, subst, inl, inr, ⊎_elim, arith}
use Rattle.std.specs.List.{AllByRecursion}
use Rattle.std.proofs.ByRecursion.{All-map, All-weaker}
use Rattle.std.proofs.lemmas.Bool.{or_right, not_from_true, not_from_false}
use Rattle.loaders.specs.declared.fault.Fault.{Fault}
use Rattle.machine.specs.Replacement.{Mark, young, plain, used, Resident, Swept, marked, is_used, sweep}
use Rattle.machine.specs.Machine.{Word, Item, State, same, has}
use Rattle.machine.specs.Run.{Event, word_of}
use Rattle.machine_laws.specs.Words.{any, resident, chances, hit_since}
use Rattle.machine_laws.specs.Laws.{FirstIdle, AllHit, gives_up, someone_joins}
use Rattle.machine_laws.proofs.Keys.{same_self, same_true}
use Rattle.machine_laws.proofs.Residents.{words, words_append, words_length, words_map, all_both, all_left, all_right}
use Rattle.machine_laws.proofs.Sweeps.{IsUsed, Stopped, Round, sweeps}
use Rattle.machine_laws.proofs.Marks.{SmallMark, MainMark}
use Rattle.machine_laws.proofs.Sound.{InMain, Sound}

-- ## Some, or none

pub any_none : (p : Word → Bool) (xs : List Word) → AllByRecursion (λ x. p x ≡ false) xs → any p xs ≡ false
any_none p [] a = refl
any_none p (x ∷ xs) a = rw a.0 (any_none p xs a.1)

pub any_has : (p : Word → Bool) (j : Word) (xs : List Word) → has j xs ≡ true → p j ≡ true → any p xs ≡ true
any_has p j [] e q = let z : ◌≡◌ {A = ℕ} 0 1 = cc in absurd (omega arith)
any_has p j (x ∷ xs) e q = go (same j x) refl e (λ f. any_has p j xs f q)
  where
    go : (b : Bool) → same j x ≡ b → (b || has j xs) ≡ true → (has j xs ≡ true → any p xs ≡ true) → (p x || any p xs) ≡ true
    go true f g ih = rw (ap p (sym (same_true j x f)) ∙ q) refl
    go false f g ih = or_right (p x) (any p xs) (ih g)

each_has : (xs : List Word) → AllByRecursion (λ j. has j xs ≡ true) xs
each_has [] = tt
each_has (x ∷ xs) = (
  rw (same_self x) refl,
  All-weaker (λ j. has j xs ≡ true) (λ j. (same j x || has j xs) ≡ true) (λ j e. or_right (same j x) (has j xs) e) xs (each_has xs),
)

-- ## Of an event

module _ {V : Type 0} (c : ℕ) (h : List (Event V)) (e : Event V) where
  -- who stood in Main stands there still
  pub none_leaves : ((j : Word) → has j e.before.main ≡ true → has j e.after.main ≡ true) → gives_up c h e ≡ false
  none_leaves f =
      any_none (λ x. not (resident x e.after)) e.before.main
      (All-weaker (λ j. has j e.before.main ≡ true) (λ j. not (resident j e.after) ≡ false)
      (λ j q. not_from_true (resident j e.after) (or_right (has j e.after.small) (has j e.after.main) (f j q))) e.before.main (each_has e.before.main))

  pub none_joins : e.after.main ≡ e.before.main → someone_joins c h e ≡ false
  none_joins q =
      subst (λ (l : List Word). any (λ x. not (has x e.before.main)) l ≡ false) (sym q)
      (any_none (λ x. not (has x e.before.main)) e.before.main
      (All-weaker (λ j. has j e.before.main ≡ true) (λ j. not (has j e.before.main) ≡ false) (λ j f. not_from_true (has j e.before.main) f) e.before.main (each_has e.before.main)))

  pub one_leaves : (j : Word) → has j e.before.main ≡ true → resident j e.after ≡ false → gives_up c h e ≡ true
  one_leaves j q f = any_has (λ x. not (resident x e.after)) j e.before.main q (not_from_false (resident j e.after) f)

  pub one_joins : (j : Word) → has j e.after.main ≡ true → has j e.before.main ≡ false → someone_joins c h e ≡ true
  one_joins j q f = any_has (λ x. not (has x e.before.main)) j e.after.main q (not_from_false (has j e.before.main) f)

-- ## Marks as the history has them

main_used : (m : Mark) (b : Bool) → MainMark m b → is_used m ≡ true → b ≡ true
main_used (young d) b p e = elim p [ ]
main_used plain b p e = let z : ◌≡◌ {A = ℕ} 0 1 = cc in absurd (omega arith)
main_used used b p e = p

main_idle : (m : Mark) (b : Bool) → MainMark m b → is_used m ≡ false → b ≡ false
main_idle (young d) b p e = elim p [ ]
main_idle plain b p e = p
main_idle used b p e = let z : ◌≡◌ {A = ℕ} 0 1 = cc in absurd (omega arith)

-- the tail of Small was hit late exactly if its mark is used
pub small_late : (w : ℕ) (m : Mark) (n : ℕ) (late : Bool) → SmallMark w m n late → late ≡ is_used m
small_late w (young d) n late p = p.2
small_late w plain n late p = p.1
small_late w used n late p = p.1

-- ## A sweep in the words of the run

module _ {V : Type 0} (c : ℕ) (loader : Word → Result V Fault) (h : List (Event V)) (s : State V) (e : Event V) (good : Sound c loader h s) (stood : e.before.main ≡ words s.main)
    (w : Swept (Item V)) (told : chances e ≡ w.chances) (joiner : Word) (moved : e.after.main ≡ words w.rest ++ joiner ∷ []) where
  all_hit : (xs : List (Resident (Item V))) → AllByRecursion (InMain c loader h) xs → AllByRecursion IsUsed xs → AllByRecursion (λ x. hit_since x h ≡ true) (words xs)
  all_hit xs p u =
      All-map (λ x. hit_since x h ≡ true) word_of xs
      (All-weaker (λ r. InMain c loader h r × IsUsed r) (λ r. hit_since (word_of r) h ≡ true) (λ r q. main_used r.mark (hit_since (word_of r) h) q.0.0 q.1) xs (all_both (InMain c loader h) IsUsed xs p u))

  first_idle : Stopped s.main w → FirstIdle c h e joiner
  first_idle st =
      let all = subst (λ (l : List (Resident (Item V))). AllByRecursion (InMain c loader h) l) st.stood good.mains in
      let back = all_right (InMain c loader h) st.passed (w.victim ∷ st.after) all in
      let front = all_left (InMain c loader h) st.passed (w.victim ∷ st.after) all in
      let rest : words w.rest ≡ words st.after ++ words st.passed =
      ap words st.moved ∙ (words_append st.after (map (marked plain) st.passed) ∙ ap (λ (l : List Word). words st.after ++ l) (words_map (marked plain) (λ r. refl) st.passed)) in
      record {
        passed = words st.passed;
        victim = word_of w.victim;
        rest = words st.after;
        stood = stood ∙ (ap words st.stood ∙ words_append st.passed (w.victim ∷ st.after));
        hit = all_hit st.passed front st.used;
        idle = main_idle w.victim.mark (hit_since (word_of w.victim) h) back.0.0 st.idle;
        moved = moved ∙ ap (λ (l : List Word). l ++ joiner ∷ []) rest;
        told = told ∙ (st.told ∙ sym (words_length st.passed));
      }

  all_were_hit : Round s.main w → AllHit c h e joiner
  all_were_hit rd =
      let all = subst (λ (l : List (Resident (Item V))). AllByRecursion (InMain c loader h) l) rd.stood good.mains in
      let rest : words w.rest ≡ words rd.after = ap words rd.moved ∙ words_map (marked plain) (λ r. refl) rd.after in
      record {
        victim = word_of rd.first;
        rest = words rd.after;
        stood = stood ∙ ap words rd.stood;
        hit = all_hit (rd.first ∷ rd.after) all rd.used;
        moved = moved ∙ ap (λ (l : List Word). l ++ joiner ∷ []) rest;
        told = told ∙ (rd.told ∙ (ap length rd.stood ∙ sym (words_length (rd.first ∷ rd.after))));
      }

  pub first_found : sweep s.main ≡ Some w → FirstIdle c h e joiner ⊎ AllHit c h e joiner
  first_found q = ⊎_elim (λ st. inl (first_idle st)) (λ rd. inr (all_were_hit rd)) (sweeps s.main w q)
