-- An event that brings a key in: what it leaves of Small and Main is as the invariant says.
use Rattle.std.proofs.Common.{◌≡◌, ℕ, suc, ◌+◌, ◌<◌, ◌≤◌, Bool, true, false, cond, ◌⊎◌, List, [], ◌∷◌, ◌++◌, map, length, take, Some, None, Option, Result, unwrap_or, sym, refl, ap, ◌∙◌, subst, inl, inr, ⊎_elim, arith, length-append}
use Rattle.std.specs.List.{AllByRecursion}
use Rattle.std.proofs.ByRecursion.{All-append, All-map, All-weaker}
use Rattle.std.proofs.lemmas.Bool.{or_right, or_parts}
use Rattle.loaders.specs.declared.fault.Fault.{Fault}
use Rattle.machine.specs.declared.call.Answer.{Answer}
use Rattle.machine.specs.Limits.{window}
use Rattle.machine.specs.Replacement.{young, plain, aged, Resident, Swept, hit_if, marked, is_used, sweep}
use Rattle.machine.specs.Machine.{Word, Item, State, Asked, same, has}
use Rattle.machine.specs.Run.{Event, word_of, queues, event_of}
use Rattle.machine_laws.specs.Words.{once, occurs, resident, hits, lays, comes_in, newcomer, chances, passes, renews, joins_main}
use Rattle.machine_laws.specs.Laws.{IsLast}
use Rattle.machine_laws.proofs.Keys.{some_occurs, occurs_none, occurs_append}
use Rattle.machine_laws.proofs.Residents.{words, words_append, words_length, words_map, all_both, all_left, all_right, all_in, all_other, used_in, used_append}
use Rattle.machine_laws.proofs.Sweeps.{IsUsed, Stopped, Round, sweeps}
use Rattle.machine_laws.proofs.Marks.{SmallSays, MainSays, ValueSays, small_aged, small_calm, small_new, main_calm, main_renewed, value_stays, value_new}
use Rattle.machine_laws.proofs.Sound.{InSmall, InMain, Sound, stood_small, stood_resident, small_resident, main_resident, stood_main}

take_all : (xs : List Word) → take (length xs) xs ≡ xs
take_all [] = refl
take_all (x ∷ xs) = ap (λ l. x ∷ l) (take_all xs)

take_front : (xs ys : List Word) → take (length xs) (xs ++ ys) ≡ xs
take_front [] ys = refl
take_front (x ∷ xs) ys = ap (λ l. x ∷ l) (take_front xs ys)

-- plain marks count for nothing
used_plain : {V : Type 0} (xs : List (Resident (Item V))) → used_in (map (marked plain) xs) ≡ 0
used_plain [] = refl
used_plain (x ∷ xs) = let ih = used_plain xs in omega arith

used_all : {V : Type 0} (xs : List (Resident (Item V))) → AllByRecursion IsUsed xs → used_in xs ≡ length xs
used_all [] u = refl
used_all (x ∷ xs) u = let ih = used_all xs u.1 in let q : ◌≡◌ {A = ℕ} (cond (is_used x.mark) 1 0) 1 = rw u.0 refl in omega arith

module _ {V : Type 0} (c : ℕ) (loader : Word → Result V Fault) (h : List (Event V)) (s t : State V) (x : Asked V) (a : Answer V) where
  abbrev here : Event V
  here = event_of s x (t, a)

  -- the key k, absent until now, comes in with the value v, and n chances are told
  pub record Brings (k : Word) (v : V) (n : ℕ) : Type 0 where
    pub absent : resident k (queues s) ≡ false
    pub told : chances here ≡ n
    pub no_hit : (j : Word) → hits j here ≡ false
    pub lays_other : (j : Word) → same k j ≡ false → lays j here ≡ None
    pub new_value : IsLast (lays k here) (loader k) v

  module _ (k : Word) (v : V) (n : ℕ) (b : Brings k v n) where
    pub absent_small : has k (words s.small) ≡ false
    absent_small = (or_parts (has k (words s.small)) (has k (words s.main)) b.absent).0

    pub absent_main : has k (words s.main) ≡ false
    absent_main = (or_parts (has k (words s.small)) (has k (words s.main)) b.absent).1

    -- who was resident keeps its value
    keeps_value : (r : Resident (Item V)) → resident (word_of r) (queues s) ≡ true → same k (word_of r) ≡ false → ValueSays loader (word_of r) r.item.value h → ValueSays loader (word_of r) r.item.value (here ∷ h)
    keeps_value r q d p =
        value_stays loader (word_of r) r.item.value r.item.value h here (stood_resident (word_of r) here q)
        (subst (λ (o : Option V). r.item.value ≡ unwrap_or o r.item.value) (sym (b.lays_other (word_of r) d)) refl) p

    -- ## Small

    abbrev pub StoodSmall : Resident (Item V) → Type 0
    StoodSmall r = (InSmall c loader h r × (has (word_of r) (words s.small) ≡ true)) × (same k (word_of r) ≡ false)

    pub stood_smalls : Sound c loader h s → AllByRecursion StoodSmall s.small
    stood_smalls good =
        all_both (λ r. InSmall c loader h r × (has (word_of r) (words s.small) ≡ true)) (λ r. same k (word_of r) ≡ false) s.small
        (all_both (InSmall c loader h) (λ r. has (word_of r) (words s.small) ≡ true) s.small good.smalls (all_in s.small)) (all_other k s.small absent_small)

    small_ages : newcomer here ≡ true → (r : Resident (Item V)) → StoodSmall r → InSmall c loader (here ∷ h) (marked (aged (window c) r.mark) r)
    small_ages f r p = (
      small_aged (window c) (word_of r) r.mark h here (stood_small (word_of r) here p.0.1) f (b.no_hit (word_of r)) p.0.0.0,
      keeps_value r (small_resident (word_of r) here p.0.1) p.1 p.0.0.1,
    )

    pub smalls_age : newcomer here ≡ true → (xs : List (Resident (Item V))) → AllByRecursion StoodSmall xs → AllByRecursion (InSmall c loader (here ∷ h)) (map (λ r. marked (aged (window c) r.mark) r) xs)
    smalls_age f xs p =
        All-map (InSmall c loader (here ∷ h)) (λ r. marked (aged (window c) r.mark) r) xs
        (All-weaker StoodSmall (λ r. InSmall c loader (here ∷ h) (marked (aged (window c) r.mark) r)) (small_ages f) xs p)

    small_stays : newcomer here ≡ false → (r : Resident (Item V)) → StoodSmall r → InSmall c loader (here ∷ h) r
    small_stays f r p = (
      subst (λ (y : Bool). SmallSays (window c) (word_of r) (hit_if y r.mark) (here ∷ h)) (b.no_hit (word_of r))
          (small_calm (window c) (word_of r) r.mark h here (stood_small (word_of r) here p.0.1) f p.0.0.0),
      keeps_value r (small_resident (word_of r) here p.0.1) p.1 p.0.0.1,
    )

    pub smalls_stay : newcomer here ≡ false → (xs : List (Resident (Item V))) → AllByRecursion StoodSmall xs → AllByRecursion (InSmall c loader (here ∷ h)) xs
    smalls_stay f xs p = All-weaker StoodSmall (InSmall c loader (here ∷ h)) (small_stays f) xs p

    -- ## Main

    abbrev pub StoodMain : Resident (Item V) → Type 0
    StoodMain r = (InMain c loader h r × (has (word_of r) (words s.main) ≡ true)) × (same k (word_of r) ≡ false)

    pub stood_mains : Sound c loader h s → AllByRecursion StoodMain s.main
    stood_mains good =
        all_both (λ r. InMain c loader h r × (has (word_of r) (words s.main) ≡ true)) (λ r. same k (word_of r) ≡ false) s.main
        (all_both (InMain c loader h) (λ r. has (word_of r) (words s.main) ≡ true) s.main good.mains (all_in s.main)) (all_other k s.main absent_main)

    main_stays : (r : Resident (Item V)) → StoodMain r → passes (word_of r) here ≡ false → InMain c loader (here ∷ h) r
    main_stays r p f = (
      subst (λ (y : Bool). MainSays (word_of r) (hit_if y r.mark) (here ∷ h)) (b.no_hit (word_of r))
          (main_calm (word_of r) r.mark h here (stood_main (word_of r) here p.0.1 f) p.0.0.0),
      keeps_value r (main_resident (word_of r) here p.0.1) p.1 p.0.0.1,
    )

    main_passed : (r : Resident (Item V)) → StoodMain r → passes (word_of r) here ≡ true → InMain c loader (here ∷ h) (marked plain r)
    main_passed r p f = (
      main_renewed (word_of r) h here (or_right (joins_main (word_of r) here) (passes (word_of r) here) f),
      keeps_value r (main_resident (word_of r) here p.0.1) p.1 p.0.0.1,
    )

    -- the hand passed those in front
    passes_front : (front : List Word) → take n (words s.main) ≡ front → (j : Word) → passes j here ≡ has j front
    passes_front front e j = ap (λ (m : ℕ). has j (take m (words s.main))) b.told ∙ ap (has j) e

    pub mains_stay : n ≡ 0 → (xs : List (Resident (Item V))) → AllByRecursion StoodMain xs → AllByRecursion (InMain c loader (here ∷ h)) xs
    mains_stay z xs p =
        All-weaker StoodMain (InMain c loader (here ∷ h)) (λ r q. main_stays r q (passes_front [] (ap (λ (m : ℕ). take m (words s.main)) z) (word_of r))) xs p

    module _ (good : Sound c loader h s) (w : Swept (Item V)) (told : n ≡ w.chances) where
      stopped_front : (st : Stopped s.main w) → take n (words s.main) ≡ words st.passed
      stopped_front st =
          let e : words s.main ≡ words st.passed ++ words (w.victim ∷ st.after) = ap words st.stood ∙ words_append st.passed (w.victim ∷ st.after) in
          let l : n ≡ length (words st.passed) = told ∙ (st.told ∙ sym (words_length st.passed)) in
          ap (λ (m : ℕ). take m (words s.main)) l ∙ (ap (λ (ws : List Word). take (length (words st.passed)) ws) e ∙ take_front (words st.passed) (words (w.victim ∷ st.after)))

      -- who stands behind the victim was not passed
      behind : (st : Stopped s.main w) (r : Resident (Item V)) → has (word_of r) (words st.after) ≡ true → has (word_of r) (words st.passed) ≡ false
      behind st r q =
          let e : words s.main ≡ words st.passed ++ words (w.victim ∷ st.after) = ap words st.stood ∙ words_append st.passed (w.victim ∷ st.after) in
          let o = ap (λ (ws : List Word). occurs (word_of r) ws) e ∙ occurs_append (word_of r) (words st.passed) (words (w.victim ∷ st.after)) in
          let i = some_occurs (word_of r) (words st.after) q in
          let l = good.alone (word_of r) in
          occurs_none (word_of r) (words st.passed) (omega arith)

      swept_stopped : Stopped s.main w → AllByRecursion (InMain c loader (here ∷ h)) w.rest
      swept_stopped st =
          let all = subst (λ (l : List (Resident (Item V))). AllByRecursion StoodMain l) st.stood (stood_mains good) in
          let back = (all_right StoodMain st.passed (w.victim ∷ st.after) all).1 in
          let front = all_left StoodMain st.passed (w.victim ∷ st.after) all in
          subst (λ (l : List (Resident (Item V))). AllByRecursion (InMain c loader (here ∷ h)) l) (sym st.moved)
          (All-append (InMain c loader (here ∷ h)) st.after (map (marked plain) st.passed)
          (All-weaker (λ r. StoodMain r × (has (word_of r) (words st.after) ≡ true)) (InMain c loader (here ∷ h))
          (λ r q. main_stays r q.0 (passes_front (words st.passed) (stopped_front st) (word_of r) ∙ behind st r q.1)) st.after
          (all_both StoodMain (λ r. has (word_of r) (words st.after) ≡ true) st.after back (all_in st.after)))
          (All-map (InMain c loader (here ∷ h)) (marked plain) st.passed
          (All-weaker (λ r. StoodMain r × (has (word_of r) (words st.passed) ≡ true)) (λ r. InMain c loader (here ∷ h) (marked plain r))
          (λ r q. main_passed r q.0 (passes_front (words st.passed) (stopped_front st) (word_of r) ∙ q.1)) st.passed
          (all_both StoodMain (λ r. has (word_of r) (words st.passed) ≡ true) st.passed front (all_in st.passed)))))

      swept_round : Round s.main w → AllByRecursion (InMain c loader (here ∷ h)) w.rest
      swept_round rd =
          let all = subst (λ (l : List (Resident (Item V))). AllByRecursion StoodMain l) rd.stood (stood_mains good) in
          let l : n ≡ length (words s.main) = told ∙ (rd.told ∙ sym (words_length s.main)) in
          let f : take n (words s.main) ≡ words s.main = ap (λ (m : ℕ). take m (words s.main)) l ∙ take_all (words s.main) in
          subst (λ (l : List (Resident (Item V))). AllByRecursion (InMain c loader (here ∷ h)) l) (sym rd.moved)
          (All-map (InMain c loader (here ∷ h)) (marked plain) rd.after
          (All-weaker StoodMain (λ r. InMain c loader (here ∷ h) (marked plain r)) (λ r q. main_passed r q (passes_front (words s.main) f (word_of r) ∙ q.0.1)) rd.after all.1))

      pub mains_swept : sweep s.main ≡ Some w → AllByRecursion (InMain c loader (here ∷ h)) w.rest
      mains_swept e = ⊎_elim swept_stopped swept_round (sweeps s.main w e)

    -- who joins Main is renewed there
    joins_renewed : (j : Word) → has j (words s.main) ≡ false → has j (words t.main) ≡ true → renews j here ≡ true
    joins_renewed j p q = rw (p, q) refl

    pub tail_joins : (r : Resident (Item V)) → StoodSmall r → has (word_of r) (words s.main) ≡ false → has (word_of r) (words t.main) ≡ true → InMain c loader (here ∷ h) (marked plain r)
    tail_joins r p f q =
        (main_renewed (word_of r) h here (joins_renewed (word_of r) f q), keeps_value r (small_resident (word_of r) here p.0.1) p.1 p.0.0.1)

    comes : resident k (queues t) ≡ true → comes_in k here ≡ true
    comes q = rw (b.absent, q) refl

    pub new_in_main : (place : ℕ) → has k (words t.main) ≡ true → InMain c loader (here ∷ h) (record { item = record { word = k; place = place; value = v }; mark = plain })
    new_in_main place q = (
      main_renewed k h here (joins_renewed k absent_main q),
      value_new loader k v h here (comes (or_right (has k (words t.small)) (has k (words t.main)) q)) b.new_value,
    )

    pub new_in_small : (place : ℕ) → 0 < window c → has k (words t.small) ≡ true → InSmall c loader (here ∷ h) (record { item = record { word = k; place = place; value = v }; mark = young 0 })
    new_in_small place pos q = (
      small_new (window c) k h here pos (rw (absent_small, q) refl),
      value_new loader k v h here (comes (rw q refl)) b.new_value,
    )

-- what a sweep leaves, counted
pub swept_counts : {V : Type 0} (main : List (Resident (Item V))) (w : Swept (Item V)) → Stopped main w ⊎ Round main w → (j : Word) → occurs j (words w.rest) + once j (word_of w.victim) ≡ occurs j (words main)
swept_counts main w (inl st) j =
    let e = ap (λ (l : List _). occurs j (words l)) st.stood in
    let o = ap (occurs j) (words_append st.passed (w.victim ∷ st.after)) ∙ occurs_append j (words st.passed) (words (w.victim ∷ st.after)) in
    let m = ap (λ (l : List _). occurs j (words l)) st.moved in
    let q = ap (occurs j) (words_append st.after (map (marked plain) st.passed)) ∙ occurs_append j (words st.after) (words (map (marked plain) st.passed)) in
    let p = ap (occurs j) (words_map (marked plain) (λ r. refl) st.passed) in
    omega arith
swept_counts main w (inr rd) j =
    let e = ap (λ (l : List _). occurs j (words l)) rd.stood in
    let m = ap (λ (l : List _). occurs j (words l)) rd.moved in
    let p = ap (occurs j) (words_map (marked plain) (λ r. refl) rd.after) in
    let v = ap (λ (r : Resident (Item _)). once j (word_of r)) rd.victim in
    omega arith

length_map : {A : Type 0} (f : A → A) (xs : List A) → length (map f xs) ≡ length xs
length_map f [] = refl
length_map f (x ∷ xs) = ap suc (length_map f xs)

pub swept_length : {V : Type 0} (main : List (Resident (Item V))) (w : Swept (Item V)) → Stopped main w ⊎ Round main w → (suc (length w.rest) ≡ length main) × (w.chances ≤ length main)
swept_length main w (inl st) =
    let e = ap length st.stood ∙ length-append st.passed (w.victim ∷ st.after) in
    let m = ap length st.moved ∙ length-append st.after (map (marked plain) st.passed) in
    let p = length_map (marked plain) st.passed in
    let n = st.told in
    (omega arith, omega arith)
swept_length main w (inr rd) =
    let e = ap length rd.stood in
    let m = ap length rd.moved ∙ length_map (marked plain) rd.after in
    let n = rd.told in
    (omega arith, omega arith)

pub swept_used : {V : Type 0} (main : List (Resident (Item V))) (w : Swept (Item V)) → Stopped main w ⊎ Round main w → w.chances + used_in w.rest ≤ used_in main
swept_used main w (inl st) =
    let e = ap used_in st.stood ∙ used_append st.passed (w.victim ∷ st.after) in
    let m = ap used_in st.moved ∙ used_append st.after (map (marked plain) st.passed) in
    let p = used_plain st.passed in
    let u = used_all st.passed st.used in
    let n = st.told in
    omega arith
swept_used main w (inr rd) =
    let e = ap used_in rd.stood ∙ used_all (rd.first ∷ rd.after) rd.used in
    let m = ap used_in rd.moved ∙ used_plain rd.after in
    let l = ap length rd.stood in
    let n = rd.told in
    omega arith
