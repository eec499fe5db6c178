-- The replacement machine commutes with every change of what its residents carry, what Ghost keeps and what the free stack keeps:
-- so a machine of bare places and the machine of keys and values above it take the same steps.
use Rattle.std.proofs.Common.{◌≡◌, ℕ, zero, suc, Bool, true, false, cond, not, eqb, List, [], ◌∷◌, ◌++◌, map, length, take, Some, None, filter, Option, sym, refl, ap, ◌∙◌, subst}
use Rattle.std.specs.Option.{option_map}
use Rattle.std.specs.List.{AllByRecursion}
use Rattle.machine.specs.declared.report.Part.{Part}
use Rattle.machine.specs.declared.report.Part.TheVariants.{Small, Main}
use Rattle.machine.specs.Limits.{ghost_limit, window}
use Rattle.machine.specs.Replacement.{Mark, Resident, Parts, Swept, Ended, Spot, reused, fresh, Vacated, Plan, grow, evict_main, promote_tail, evict_tail, marked, young, plain, aged, is_used, hit, hit_if, uses, forgets, drops, came_round, sweep_from, sweep, before, ended, is_tail_used, vacancy, to_main, main_full, plan_of, plan, popped, main_evicted, tail_promoted, tail_evicted, carried_out, vacated, seated_in, seated, highest_first}

-- ## Lists

map_append : {A B : Type 0} (f : A → B) (xs ys : List A) → map f (xs ++ ys) ≡ map f xs ++ map f ys
map_append f [] ys = refl
map_append f (x ∷ xs) ys = ap (λ l. f x ∷ l) (map_append f xs ys)

map_length : {A B : Type 0} (f : A → B) (xs : List A) → length (map f xs) ≡ length xs
map_length f [] = refl
map_length f (x ∷ xs) = ap suc (map_length f xs)

map_take : {A B : Type 0} (f : A → B) (n : ℕ) (xs : List A) → map f (take n xs) ≡ take n (map f xs)
map_take f zero xs = refl
map_take f (suc n) [] = refl
map_take f (suc n) (x ∷ xs) = ap (λ l. f x ∷ l) (map_take f n xs)

-- a filter goes with a map where the tests agree
pub map_kept : {A B : Type 0} (f : A → B) (t : A → Bool) (u : B → Bool) (xs : List A) → AllByRecursion (λ x. u (f x) ≡ t x) xs → map f (filter t xs) ≡ filter u (map f xs)
map_kept f t u [] a = refl
map_kept {A} {B} f t u (x ∷ xs) a =
    subst (λ (b : Bool). map f (cond (t x) (x ∷ filter t xs) (filter t xs)) ≡ cond b (f x ∷ filter u (map f xs)) (filter u (map f xs))) (sym a.0) (go (t x) (map_kept f t u xs a.1))
  where
    go : (b : Bool) → map f (filter t xs) ≡ filter u (map f xs) → map f (cond b (x ∷ filter t xs) (filter t xs)) ≡ cond b (f x ∷ filter u (map f xs)) (filter u (map f xs))
    go true e = ap (λ (l : List B). f x ∷ l) e
    go false e = e

-- ## What is carried

module _ {R S : Type 0} (f : R → S) where
  abbrev pub carry_resident : Resident R → Resident S
  carry_resident r = record { item = f r.item; mark = r.mark }

  abbrev pub carry_all : List (Resident R) → List (Resident S)
  carry_all rs = map carry_resident rs

  abbrev pub carry_swept : Swept R → Swept S
  carry_swept w = record { victim = carry_resident w.victim; rest = carry_all w.rest; chances = w.chances }

  abbrev pub carry_ended : Ended (Resident R) → Ended (Resident S)
  carry_ended e = record { front = carry_all e.front; tail = carry_resident e.tail }

  came_round_lem : (n : ℕ) (rs : List (Resident R)) → came_round n (carry_all rs) ≡ option_map carry_swept (came_round n rs)
  came_round_lem n [] = refl
  came_round_lem n (r ∷ rs) = refl

  sweep_from_lem : (n : ℕ) (passed rs : List (Resident R)) → sweep_from n (carry_all passed) (carry_all rs) ≡ option_map carry_swept (sweep_from n passed rs)
  sweep_from_lem n passed [] = came_round_lem n passed
  sweep_from_lem n passed (r ∷ rs) =
      go (is_used r.mark)
      (ap (λ (l : List (Resident S)). sweep_from (suc n) l (carry_all rs)) (sym (map_append carry_resident passed (marked plain r ∷ []))) ∙ sweep_from_lem (suc n) (passed ++ marked plain r ∷ []) rs)
    where
      go :
          (b : Bool) → sweep_from (suc n) (carry_all passed ++ marked plain (carry_resident r) ∷ []) (carry_all rs) ≡ option_map carry_swept (sweep_from (suc n) (passed ++ marked plain r ∷ []) rs) →
          cond b (sweep_from (suc n) (carry_all passed ++ marked plain (carry_resident r) ∷ []) (carry_all rs)) (Some (record { victim = carry_resident r; rest = carry_all rs ++ carry_all passed; chances = n }))
          ≡ option_map carry_swept (cond b (sweep_from (suc n) (passed ++ marked plain r ∷ []) rs) (Some (record { victim = r; rest = rs ++ passed; chances = n })))
      go true e = e
      go false e = ap (λ (l : List (Resident S)). Some (record { victim = carry_resident r; rest = l; chances = n })) (sym (map_append carry_resident rs passed))

  pub sweep_carried : (main : List (Resident R)) → sweep (carry_all main) ≡ option_map carry_swept (sweep main)
  sweep_carried main = sweep_from_lem 0 [] main

  before_carried : (r : Resident R) (o : Option (Ended (Resident R))) → before (carry_resident r) (option_map carry_ended o) ≡ carry_ended (before r o)
  before_carried r None = refl
  before_carried r (Some e) = refl

  pub ended_carried : (rs : List (Resident R)) → ended (carry_all rs) ≡ option_map carry_ended (ended rs)
  ended_carried [] = refl
  ended_carried (r ∷ rs) = ap (λ (o : Option (Ended (Resident S))). Some (before (carry_resident r) o)) (ended_carried rs) ∙ ap Some (before_carried r (ended rs))

  pub hits_carried : (at : R → Bool) (on : S → Bool) (rs : List (Resident R)) → AllByRecursion (λ r. on (f r.item) ≡ at r.item) rs → carry_all (map (hit at) rs) ≡ map (hit on) (carry_all rs)
  hits_carried at on [] a = refl
  hits_carried at on (r ∷ rs) a =
      let e : carry_resident (hit at r) ≡ hit on (carry_resident r) = ap (λ (b : Bool). marked (hit_if b r.mark) (carry_resident r)) (sym a.0) in
      let q = hits_carried at on rs a.1 in
      cc

  pub aged_carried : (age : Mark → Mark) (rs : List (Resident R)) → carry_all (map (λ r. marked (age r.mark) r) rs) ≡ map (λ r. marked (age r.mark) r) (carry_all rs)
  aged_carried age [] = refl
  aged_carried age (r ∷ rs) = ap (λ (l : List (Resident S)). marked (age r.mark) (carry_resident r) ∷ l) (aged_carried age rs)

module _ {R G F R₁ G₁ F₁ : Type 0} (f : R → R₁) (g : G → G₁) (p : F → F₁) where
  abbrev pub carry : Parts R G F → Parts R₁ G₁ F₁
  carry s = record { small = carry_all f s.small; main = carry_all f s.main; remembered = map g s.remembered; free = map p s.free; opened = s.opened }

  abbrev pub carry_spot : Spot F → Spot F₁
  carry_spot (reused x) = reused (p x)
  carry_spot (fresh n) = fresh n

  abbrev pub carry_vacated : Vacated R G F → Vacated R₁ G₁ F₁
  carry_vacated v = record { parts = carry v.parts; spot = carry_spot v.spot; joins = v.joins; left = v.left; chances = v.chances }

  -- ## Uses, Ghost's forgetting, drops

  pub uses_carried :
      (at : R → Bool) (on : R₁ → Bool) (s : Parts R G F) → AllByRecursion (λ r. on (f r.item) ≡ at r.item) s.small → AllByRecursion (λ r. on (f r.item) ≡ at r.item) s.main → carry (uses at s) ≡ uses on (carry s)
  uses_carried at on s a b i =
      record { small = hits_carried f at on s.small a i; main = hits_carried f at on s.main b i; remembered = map g s.remembered; free = map p s.free; opened = s.opened }

  not_agree : {A B : Type 0} (h : A → B) (t : A → Bool) (u : B → Bool) (xs : List A) → AllByRecursion (λ x. u (h x) ≡ t x) xs → AllByRecursion (λ x. not (u (h x)) ≡ not (t x)) xs
  not_agree h t u [] a = tt
  not_agree h t u (x ∷ xs) a = (ap not a.0, not_agree h t u xs a.1)

  pub forgets_carried : (at : G → Bool) (on : G₁ → Bool) (s : Parts R G F) → AllByRecursion (λ x. on (g x) ≡ at x) s.remembered → carry (forgets at s) ≡ forgets on (carry s)
  forgets_carried at on s a i =
      record {
        small = carry_all f s.small;
        main = carry_all f s.main;
        remembered = map_kept g (λ x. not (at x)) (λ x. not (on x)) s.remembered (not_agree g at on s.remembered a) i;
        free = map p s.free;
        opened = s.opened;
      }

  -- ## Vacating and seating

  module _ (note : R → G) (spot : R → F) (note₁ : R₁ → G₁) (spot₁ : R₁ → F₁) (spots : (r : R) → spot₁ (f r) ≡ p (spot r)) (c : ℕ) where
    popped_carried : (part : Part) (s : Parts R G F) (fs : List F) → popped part (carry s) (map p fs) ≡ carry_vacated (popped part s fs)
    popped_carried part s [] = refl
    popped_carried part s (x ∷ fs) = refl

    main_evicted_carried : (s : Parts R G F) (o : Option (Swept R)) → main_evicted note₁ spot₁ c (carry s) (option_map (carry_swept f) o) ≡ carry_vacated (main_evicted note spot c s o)
    main_evicted_carried s None = popped_carried Main s s.free
    main_evicted_carried s (Some w) = ap (λ (x : F₁). record { parts = carry (main_evicted note spot c s (Some w)).parts; spot = reused x; joins = Main; left = Some Main; chances = w.chances }) (spots w.victim.item)

    tail_promoted_carried :
        (s : Parts R G F) (o : Option (Ended (Resident R))) (q : Option (Swept R)) →
        tail_promoted note₁ spot₁ c (carry s) (option_map (carry_ended f) o) (option_map (carry_swept f) q) ≡ carry_vacated (tail_promoted note spot c s o q)
    tail_promoted_carried s None q = popped_carried Small s s.free
    tail_promoted_carried s (Some e) None = popped_carried Small s s.free
    tail_promoted_carried s (Some e) (Some w) =
        λ i.
        record {
          parts =
              record {
                small = carry_all f e.front;
                main = sym (map_append (carry_resident f) w.rest (marked plain e.tail ∷ [])) i;
                remembered = map g s.remembered;
                free = map p s.free;
                opened = s.opened;
              };
          spot = reused (spots w.victim.item i);
          joins = Small;
          left = Some Main;
          chances = w.chances;
        }

    -- what Ghost keeps need agree at the tail of Small alone
    abbrev pub TailNoted : Option (Ended (Resident R)) → Type 0
    TailNoted None = Unit {0}
    TailNoted (Some e) = note₁ (f e.tail.item) ≡ g (note e.tail.item)

    tail_evicted_carried :
        (s : Parts R G F) (o : Option (Ended (Resident R))) → TailNoted o → tail_evicted note₁ spot₁ c (carry s) (option_map (carry_ended f) o) ≡ carry_vacated (tail_evicted note spot c s o)
    tail_evicted_carried s None n = popped_carried Small s s.free
    tail_evicted_carried s (Some e) n =
        let kept : take (ghost_limit c) (note₁ (f e.tail.item) ∷ map g s.remembered) ≡ map g (take (ghost_limit c) (note e.tail.item ∷ s.remembered)) =
        ap (λ (x : G₁). take (ghost_limit c) (x ∷ map g s.remembered)) n ∙ sym (map_take g (ghost_limit c) (note e.tail.item ∷ s.remembered)) in
        λ i.
        record {
          parts = record { small = carry_all f e.front; main = carry_all f s.main; remembered = kept i; free = map p s.free; opened = s.opened };
          spot = reused (spots e.tail.item i);
          joins = Small;
          left = Some Small;
          chances = 0;
        }

    tail_used_carried : (o : Option (Ended (Resident R))) → is_tail_used (option_map (carry_ended f) o) ≡ is_tail_used o
    tail_used_carried None = refl
    tail_used_carried (Some e) = refl

    plan_carried : (known : Bool) (s : Parts R G F) → plan_of c known (carry s) ≡ plan_of c known s
    plan_carried known s =
        ap (λ (b : Bool). plan (to_main c known (carry s)) (vacancy c (carry s)) (main_full c (carry s)) b) (ap is_tail_used (ended_carried f s.small) ∙ tail_used_carried (ended s.small))
        ∙ rw (map_length (carry_resident f) s.small, map_length (carry_resident f) s.main) refl

    out_carried : (way : Plan) (s : Parts R G F) → TailNoted (ended s.small) → carried_out note₁ spot₁ c way (carry s) ≡ carry_vacated (carried_out note spot c way s)
    out_carried (grow part) s n = popped_carried part s s.free
    out_carried evict_main s n = ap (main_evicted note₁ spot₁ c (carry s)) (sweep_carried f s.main) ∙ main_evicted_carried s (sweep s.main)
    out_carried promote_tail s n =
        ap (λ (o : Option (Ended (Resident R₁))). tail_promoted note₁ spot₁ c (carry s) o (sweep (carry_all f s.main))) (ended_carried f s.small)
        ∙ (ap (tail_promoted note₁ spot₁ c (carry s) (option_map (carry_ended f) (ended s.small))) (sweep_carried f s.main) ∙ tail_promoted_carried s (ended s.small) (sweep s.main))
    out_carried evict_tail s n = ap (tail_evicted note₁ spot₁ c (carry s)) (ended_carried f s.small) ∙ tail_evicted_carried s (ended s.small) n

    pub vacated_carried : (known : Bool) (s : Parts R G F) → TailNoted (ended s.small) → vacated note₁ spot₁ c known (carry s) ≡ carry_vacated (vacated note spot c known s)
    vacated_carried known s n = ap (λ (way : Plan). carried_out note₁ spot₁ c way (carry s)) (plan_carried known s) ∙ out_carried (plan_of c known s) s n

  pub seated_carried : (c : ℕ) (v : Vacated R G F) (newcomer : R) → seated c (carry_vacated v) (f newcomer) ≡ carry (seated c v newcomer)
  seated_carried c v newcomer = go v.joins v.parts
    where
      go : (part : Part) (s : Parts R G F) → seated_in c part (f newcomer) (carry s) ≡ carry (seated_in c part newcomer s)
      go Small s =
          ap
          (λ (l : List (Resident R₁)).
          record { small = record { item = f newcomer; mark = young 0 } ∷ l; main = carry_all f s.main; remembered = map g s.remembered; free = map p s.free; opened = s.opened })
          (sym (aged_carried f (aged (window c)) s.small))
      go Main s =
          ap (λ (l : List (Resident R₁)). record { small = carry_all f s.small; main = l; remembered = map g s.remembered; free = map p s.free; opened = s.opened })
          (sym (map_append (carry_resident f) s.main (record { item = newcomer; mark = plain } ∷ [])))

  -- ## Drops

  module _ (spot : R → F) (spot₁ : R₁ → F₁) (spots : (r : R) → spot₁ (f r) ≡ p (spot r)) (order : ℕ → List F → List F) (order₁ : ℕ → List F₁ → List F₁)
      (orders : (n : ℕ) (xs : List F) → order₁ n (map p xs) ≡ map p (order n xs)) where
    spots_carried : (rs : List (Resident R)) → map (λ r. spot₁ r.item) (carry_all f rs) ≡ map p (map (λ r. spot r.item) rs)
    spots_carried [] = refl
    spots_carried (r ∷ rs) = let e = spots r.item in let q = spots_carried rs in cc

    both_agree : (at : R → Bool) (on : R₁ → Bool) (xs ys : List (Resident R)) → AllByRecursion (λ r. on (f r.item) ≡ at r.item) xs → AllByRecursion (λ r. on (f r.item) ≡ at r.item) ys → AllByRecursion (λ r. on (f r.item) ≡ at r.item) (xs ++ ys)
    both_agree at on [] ys a b = b
    both_agree at on (x ∷ xs) ys a b = (a.0, both_agree at on xs ys a.1 b)

    pub drops_carried :
        (at : R → Bool) (on : R₁ → Bool) (s : Parts R G F) → AllByRecursion (λ r. on (f r.item) ≡ at r.item) s.small → AllByRecursion (λ r. on (f r.item) ≡ at r.item) s.main →
        carry (drops order spot at s) ≡ drops order₁ spot₁ on (carry s)
    drops_carried at on s a b =
        let stays = λ (rs : List (Resident R)) (q : AllByRecursion (λ r. on (f r.item) ≡ at r.item) rs).
        map_kept (carry_resident f) (λ r. not (at r.item)) (λ r. not (on r.item)) rs (not_agree (carry_resident f) (λ r. at r.item) (λ r. on r.item) rs q) in
        let gone : carry_all f (filter (λ r. at r.item) (s.small ++ s.main)) ≡ filter (λ r. on r.item) (carry_all f s.small ++ carry_all f s.main) =
        map_kept (carry_resident f) (λ r. at r.item) (λ r. on r.item) (s.small ++ s.main) (both_agree at on s.small s.main a b)
        ∙ ap (filter (λ r. on r.item)) (map_append (carry_resident f) s.small s.main) in
        let dropped = filter (λ r. at r.item) (s.small ++ s.main) in
        let stacked : map p (order s.opened (map (λ r. spot r.item) dropped)) ≡ order₁ s.opened (map (λ r. spot₁ r.item) (filter (λ r. on r.item) (carry_all f s.small ++ carry_all f s.main))) =
        sym (orders s.opened (map (λ r. spot r.item) dropped))
        ∙ (ap (order₁ s.opened) (sym (spots_carried dropped)) ∙ ap (λ (l : List (Resident R₁)). order₁ s.opened (map (λ r. spot₁ r.item) l)) gone) in
        let free = map_append p (order s.opened (map (λ r. spot r.item) dropped)) s.free ∙ ap (λ (l : List F₁). l ++ map p s.free) stacked in
        λ i. record { small = stays s.small a i; main = stays s.main b i; remembered = map g s.remembered; free = free i; opened = s.opened }

-- the rising order of places goes with every map that keeps the places
pub highest_carried : {F F₁ : Type 0} (p : F → F₁) (place : F → ℕ) (place₁ : F₁ → ℕ) → ((x : F) → place₁ (p x) ≡ place x) → (n : ℕ) (xs : List F) → highest_first place₁ n (map p xs) ≡ map p (highest_first place n xs)
highest_carried p place place₁ e zero xs = refl
highest_carried {F} {F₁} p place place₁ e (suc n) xs =
    let q = map_kept p (λ x. eqb (place x) n) (λ x. eqb (place₁ x) n) xs (agree xs) in
    ap (λ (l : List F₁). l ++ highest_first place₁ n (map p xs)) (sym q)
    ∙ (ap (λ (l : List F₁). map p (filter (λ x. eqb (place x) n) xs) ++ l) (highest_carried p place place₁ e n xs) ∙ sym (map_append p (filter (λ x. eqb (place x) n) xs) (highest_first place n xs)))
  where
    agree : (ys : List F) → AllByRecursion (λ x. eqb (place₁ (p x)) n ≡ eqb (place x) n) ys
    agree [] = tt
    agree (y ∷ ys) = (ap (λ (m : ℕ). eqb m n) (e y), agree ys)
