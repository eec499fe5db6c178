-- Who leaves as a place is vacated, counted; and that what Ghost keeps matters only where the tail of Small leaves.
use Rattle.std.proofs.Common.{◌≡◌, ℕ, suc, ◌+◌, Bool, true, false, cond, eqb, List, [], ◌∷◌, ◌++◌, map, take, is_some, Some, None, Option, sym, refl, ap, ◌∙◌, arith}
use Rattle.std.proofs.lemmas.List.{map-append}
use Rattle.machine.specs.declared.report.Part.{Part}
use Rattle.machine.specs.declared.report.Part.TheVariants.{Small, Main}
use Rattle.machine.specs.Limits.{ghost_limit}
use Rattle.machine.specs.Replacement.{Resident, Parts, Swept, Ended, reused, Vacated, Plan, grow, evict_main, promote_tail, evict_tail, marked, plain, is_used, sweep_from, sweep, before, ended, popped, main_evicted, tail_promoted, tail_evicted, carried_out, plan_of, vacated}
use Rattle.handle_laws.proofs.Counting.{how_many_append}
use Rattle.policy.specs.Insertion.{place_at}
use Rattle.index.specs.Ties.{occurs}
use Rattle.cache_core.specs.View.{places}

abbrev pub items : List (Resident ℕ) → List ℕ
items rs = map (λ r. r.item) rs

-- the count of one number
abbrev pub single : ℕ → ℕ → ℕ
single p q = cond (eqb p q) 1 0

pub items_append : (p : ℕ) (xs ys : List (Resident ℕ)) → occurs p (items (xs ++ ys)) ≡ occurs p (items xs) + occurs p (items ys)
items_append p xs ys = ap (occurs p) (map-append (λ r. r.item) xs ys) ∙ how_many_append (eqb p) (items xs) (items ys)

-- ## A sweep's victim and a queue's tail

sweep_from_lem : (p n : ℕ) (passed rs : List (Resident ℕ)) (w : Swept ℕ) → sweep_from n passed rs ≡ Some w → occurs p (items passed) + occurs p (items rs) ≡ single p w.victim.item + occurs p (items w.rest)
sweep_from_lem p n [] [] w e = absurd (let z : ◌≡◌ {A = ℕ} 0 1 = cc in omega arith)
sweep_from_lem p n (r ∷ passed) [] w e =
    let q : ◌≡◌ {A = Swept ℕ} (record { victim = r; rest = passed; chances = n }) w = cc in
    let a = ap (λ (x : Swept ℕ). single p x.victim.item + occurs p (items x.rest)) q in
    omega arith
sweep_from_lem p n passed (r ∷ rs) w e =
    (elim (is_used r.mark) as (λ b. cond b (sweep_from (suc n) (passed ++ marked plain r ∷ []) rs) (Some (record { victim = r; rest = rs ++ passed; chances = n })) ≡ Some w → occurs p (items passed) + occurs p (items (r ∷ rs)) ≡ single p w.victim.item + occurs p (items w.rest)) [
      | true ↦ λ q.
          (let ih = sweep_from_lem p (suc n) (passed ++ marked plain r ∷ []) rs w q in
          let a = items_append p passed (marked plain r ∷ []) in
          omega arith)
      | false ↦ λ q.
          (let i : ◌≡◌ {A = Swept ℕ} (record { victim = r; rest = rs ++ passed; chances = n }) w = cc in
          let a = ap (λ (x : Swept ℕ). single p x.victim.item + occurs p (items x.rest)) i in
          let b = items_append p rs passed in
          omega arith)
    ]) e

pub sweep_counts : (p : ℕ) (rs : List (Resident ℕ)) (w : Swept ℕ) → sweep rs ≡ Some w → occurs p (items rs) ≡ single p w.victim.item + occurs p (items w.rest)
sweep_counts p rs w e = let a = sweep_from_lem p 0 [] rs w e in omega arith

ended_at : (p : ℕ) (x : Resident ℕ) (xs : List (Resident ℕ)) (o : Option (Ended (Resident ℕ))) → ((e : Ended (Resident ℕ)) → o ≡ Some e → occurs p (items xs) ≡ single p e.tail.item + occurs p (items e.front)) → (o ≡ None → xs ≡ []) → occurs p (items (x ∷ xs)) ≡ single p (before x o).tail.item + occurs p (items (before x o).front)
ended_at p x xs None more none = let e = ap (λ (l : List (Resident ℕ)). occurs p (items l)) (none refl) in omega arith
ended_at p x xs (Some e) more none = let a = more e refl in omega arith

ended_none : (xs : List (Resident ℕ)) → ended xs ≡ None → xs ≡ []
ended_none [] e = refl
ended_none (x ∷ xs) e = absurd (let z : ◌≡◌ {A = ℕ} 0 1 = cc in omega arith)

pub ended_counts : (p : ℕ) (xs : List (Resident ℕ)) (e : Ended (Resident ℕ)) → ended xs ≡ Some e → occurs p (items xs) ≡ single p e.tail.item + occurs p (items e.front)
ended_counts p [] e h = absurd (let z : ◌≡◌ {A = ℕ} 0 1 = cc in omega arith)
ended_counts p (x ∷ xs) e h =
    let q : before x (ended xs) ≡ e = cc in
    let a = ended_at p x xs (ended xs) (λ f g. ended_counts p xs f g) (ended_none xs) in
    let b = ap (λ (f : Ended (Resident ℕ)). single p f.tail.item + occurs p (items f.front)) q in
    omega arith

-- ## Who leaves

-- the place that a resident left, if one did
abbrev pub gone : Vacated ℕ ℕ ℕ → ℕ → ℕ
gone v p = cond (is_some v.left) (single p (place_at v.spot)) 0

-- what Ghost has after
abbrev pub noted_by : ℕ → Option Part → ℕ → List ℕ → List ℕ
noted_by limit None node old = old
noted_by limit (Some Main) node old = old
noted_by limit (Some Small) node old = take limit (node ∷ old)

pub record Leaves (c node : ℕ) (s : Parts ℕ ℕ ℕ) (v : Vacated ℕ ℕ ℕ) : Type 0 where
  pub counts : (p : ℕ) → occurs p (places s) ≡ gone v p + occurs p (places v.parts)
  pub noted : v.parts.remembered ≡ noted_by (ghost_limit c) v.left node s.remembered

module _ (c node : ℕ) (s : Parts ℕ ℕ ℕ) where
  abbrev note : ℕ → ℕ
  note _ = node

  abbrev spot : ℕ → ℕ
  spot q = q

  popped_leaves : (part : Part) (fs : List ℕ) → Leaves c node s (popped part s fs)
  popped_leaves part [] = record { counts = λ p. omega arith; noted = refl }
  popped_leaves part (f ∷ fs) = record { counts = λ p. omega arith; noted = refl }

  main_leaves : (o : Option (Swept ℕ)) → sweep s.main ≡ o → Leaves c node s (main_evicted note spot c s o)
  main_leaves None e = popped_leaves Main s.free
  main_leaves (Some w) e =
      record {
        counts = λ p.
            (let a = items_append p s.small s.main in
            let b = items_append p s.small w.rest in
            let d = sweep_counts p s.main w e in
            omega arith);
        noted = refl;
      }

  promoted_leaves : (o : Option (Ended (Resident ℕ))) (q : Option (Swept ℕ)) → ended s.small ≡ o → sweep s.main ≡ q → Leaves c node s (tail_promoted note spot c s o q)
  promoted_leaves None q e f = popped_leaves Small s.free
  promoted_leaves (Some t) None e f = popped_leaves Small s.free
  promoted_leaves (Some t) (Some w) e f =
      record {
        counts = λ p.
            (let a = items_append p s.small s.main in
            let b = items_append p t.front (w.rest ++ marked plain t.tail ∷ []) in
            let b2 = items_append p w.rest (marked plain t.tail ∷ []) in
            let d = sweep_counts p s.main w f in
            let g = ended_counts p s.small t e in
            omega arith);
        noted = refl;
      }

  tail_leaves : (o : Option (Ended (Resident ℕ))) → ended s.small ≡ o → Leaves c node s (tail_evicted note spot c s o)
  tail_leaves None e = popped_leaves Small s.free
  tail_leaves (Some t) e =
      record {
        counts = λ p.
            (let a = items_append p s.small s.main in
            let b = items_append p t.front s.main in
            let g = ended_counts p s.small t e in
            omega arith);
        noted = refl;
      }

  out_leaves : (way : Plan) → Leaves c node s (carried_out note spot c way s)
  out_leaves (grow part) = popped_leaves part s.free
  out_leaves evict_main = main_leaves (sweep s.main) refl
  out_leaves promote_tail = promoted_leaves (ended s.small) (sweep s.main) refl refl
  out_leaves evict_tail = tail_leaves (ended s.small) refl

  pub leaves : (known : Bool) → Leaves c node s (vacated note spot c known s)
  leaves known = out_leaves (plan_of c known s)

-- ## What Ghost keeps

abbrev pub from_small : Option Part → Bool
from_small None = false
from_small (Some Main) = false
from_small (Some Small) = true

tf : {A : Type 0} → true ≡ false → A
tf e = absurd (let z : ◌≡◌ {A = ℕ} 0 1 = cc in omega arith)

pub ft : {A : Type 0} → false ≡ true → A
ft e = absurd (let z : ◌≡◌ {A = ℕ} 0 1 = cc in omega arith)

module _ {R G F : Type 0} (spot : R → F) (c : ℕ) (s : Parts R G F) where
  pub popped_none : (part : Part) (fs : List F) → from_small (popped part s fs).left ≡ false
  popped_none part [] = refl
  popped_none part (f ∷ fs) = refl

  module _ (note other : R → G) where
    main_free : (o : Option (Swept R)) → main_evicted note spot c s o ≡ main_evicted other spot c s o
    main_free None = refl
    main_free (Some w) = refl

    promoted_free : (o : Option (Ended (Resident R))) (q : Option (Swept R)) → tail_promoted note spot c s o q ≡ tail_promoted other spot c s o q
    promoted_free None q = refl
    promoted_free (Some t) None = refl
    promoted_free (Some t) (Some w) = refl

    tail_free : (o : Option (Ended (Resident R))) → from_small (tail_evicted note spot c s o).left ≡ false → tail_evicted note spot c s o ≡ tail_evicted other spot c s o
    tail_free None e = refl
    tail_free (Some t) e = tf e

    out_free : (way : Plan) → from_small (carried_out note spot c way s).left ≡ false → carried_out note spot c way s ≡ carried_out other spot c way s
    out_free (grow part) e = refl
    out_free evict_main e = main_free (sweep s.main)
    out_free promote_tail e = promoted_free (ended s.small) (sweep s.main)
    out_free evict_tail e = tail_free (ended s.small) e

    -- where nobody leaves Small, it does not matter what Ghost would keep
    pub note_free : (known : Bool) → from_small (vacated note spot c known s).left ≡ false → vacated note spot c known s ≡ vacated other spot c known s
    note_free known e = out_free (plan_of c known s) e

  module _ (note : R → G) (h : List G) where
    abbrev pub remembering : Parts R G F
    remembering = record { small = s.small; main = s.main; remembered = h; free = s.free; opened = s.opened }

    pub main_not : (o : Option (Swept R)) → from_small (main_evicted note spot c s o).left ≡ false
    main_not None = popped_none Main s.free
    main_not (Some w) = refl

    pub promoted_not : (o : Option (Ended (Resident R))) (q : Option (Swept R)) → from_small (tail_promoted note spot c s o q).left ≡ false
    promoted_not None q = popped_none Small s.free
    promoted_not (Some t) None = popped_none Small s.free
    promoted_not (Some t) (Some w) = refl

    tail_switch : (o : Option (Ended (Resident R))) → from_small (tail_evicted note spot c s o).left ≡ true → ((x : G) → take (ghost_limit c) (x ∷ s.remembered) ≡ take (ghost_limit c) (x ∷ h)) → tail_evicted note spot c s o ≡ tail_evicted note spot c remembering o
    tail_switch None e same = ft (sym (popped_none Small s.free) ∙ e)
    tail_switch (Some t) e same =
        ap (λ (l : List G). record { parts = record { small = t.front; main = s.main; remembered = l; free = s.free; opened = s.opened }; spot = reused (spot t.tail.item); joins = Small; left = Some Small; chances = 0 }) (same (note t.tail.item))

    out_switch : (way : Plan) → from_small (carried_out note spot c way s).left ≡ true → ((x : G) → take (ghost_limit c) (x ∷ s.remembered) ≡ take (ghost_limit c) (x ∷ h)) → carried_out note spot c way s ≡ carried_out note spot c way remembering
    out_switch (grow part) e same = ft (sym (popped_none part s.free) ∙ e)
    out_switch evict_main e same = ft (sym (main_not (sweep s.main)) ∙ e)
    out_switch promote_tail e same = ft (sym (promoted_not (ended s.small) (sweep s.main)) ∙ e)
    out_switch evict_tail e same = tail_switch (ended s.small) e same

    -- where the tail of Small leaves, what Ghost loses at its end does not matter
    pub ghost_switch : (known : Bool) → from_small (vacated note spot c known s).left ≡ true → ((x : G) → take (ghost_limit c) (x ∷ s.remembered) ≡ take (ghost_limit c) (x ∷ h)) → vacated note spot c known s ≡ vacated note spot c known remembering
    ghost_switch known e same = out_switch (plan_of c known s) e same

    -- and it is the tail that leaves
    tail_place : (o : Option (Ended (Resident R))) (t : Ended (Resident R)) → o ≡ Some t → from_small (tail_evicted note spot c s o).left ≡ true → (tail_evicted note spot c s o).spot ≡ reused (spot t.tail.item)
    tail_place None t q e = absurd (let z : ◌≡◌ {A = ℕ} 0 1 = cc in omega arith)
    tail_place (Some u) t q e = let i : u ≡ t = cc in ap (λ (x : Ended (Resident R)). reused (spot x.tail.item)) i

    out_place : (way : Plan) (t : Ended (Resident R)) → ended s.small ≡ Some t → from_small (carried_out note spot c way s).left ≡ true → (carried_out note spot c way s).spot ≡ reused (spot t.tail.item)
    out_place (grow part) t q e = ft (sym (popped_none part s.free) ∙ e)
    out_place evict_main t q e = ft (sym (main_not (sweep s.main)) ∙ e)
    out_place promote_tail t q e = ft (sym (promoted_not (ended s.small) (sweep s.main)) ∙ e)
    out_place evict_tail t q e = tail_place (ended s.small) t q e

    pub small_place : (known : Bool) (t : Ended (Resident R)) → ended s.small ≡ Some t → from_small (vacated note spot c known s).left ≡ true → (vacated note spot c known s).spot ≡ reused (spot t.tail.item)
    small_place known t q e = out_place (plan_of c known s) t q e
