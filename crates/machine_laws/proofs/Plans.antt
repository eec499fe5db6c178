-- Each plan of an insertion: the invariant holds after it, and the law of arrivals holds of it.
use Rattle.std.proofs.Common.{◌≡◌, ℕ, ◌+◌, ◌≤◌, Bool, true, false, cond, not, ◌&&◌, ◌||◌, eqb, leb, List, [], ◌∷◌, ◌++◌, map, length, Some, filter, Result, sym, refl, ap, ◌∙◌, subst, arith}
use Rattle.std.proofs.lemmas.Bool.{or_right, or_parts, or_from, and_right, and_from, leb-false, ltb-false, eqb-false, ne_eqb, true≢false}
use Rattle.loaders.specs.declared.fault.Fault.{Fault}
use Rattle.machine.specs.declared.call.Answer.{Answer}
use Rattle.machine.specs.Limits.{small_limit, main_limit}
use Rattle.machine.specs.Replacement.{young, plain, Resident, Swept, sweep, vacancy, to_main, main_full, forgets}
use Rattle.machine.specs.Machine.{Word, Item, State, Asked, same, has}
use Rattle.machine.specs.Run.{Event, word_of, event_of}
use Rattle.machine_laws.specs.Words.{once, occurs, newcomer}
use Rattle.machine_laws.specs.Laws.{Arrival, vacant, gives_up, someone_joins}
use Rattle.machine_laws.proofs.Keys.{same_self, same_true, once_self, occurs_none, occurs_some, occurs_append, has_append}
use Rattle.machine_laws.proofs.Residents.{words, words_append, words_length}
use Rattle.machine_laws.proofs.Sweeps.{sweeps}
use Rattle.machine_laws.proofs.Limits.{limits_add, small_some, window_some}
use Rattle.machine_laws.proofs.Sound.{Sound}
use Rattle.machine_laws.proofs.Arrivals.{Brings, absent_main, stood_smalls, stood_mains, mains_stay, mains_swept, swept_counts, swept_length, swept_used}
use Rattle.machine_laws.proofs.Seats.{older, known, Vacates, known_new, seat_small, seat_main}
use Rattle.machine_laws.proofs.Leaves.{none_leaves, none_joins, one_leaves, one_joins, first_found}

-- what the last in a list has
pub last_has : (xs : List Word) (j : Word) → has j (xs ++ j ∷ []) ≡ true
last_has xs j = has_append j xs (j ∷ []) ∙ or_right (has j xs) (same j j || false) (rw (same_self j) refl)

pub absurd_bool : {A : Type 0} (b : Bool) → b ≡ true → b ≡ false → A
absurd_bool b p q = absurd (true≢false (sym p ∙ q))

module _ {V : Type 0} (c : ℕ) (pos : 1 ≤ c) (loader : Word → Result V Fault) (h : List (Event V)) (s t : State V) (x : Asked V) (a : Answer V) (k : Word) (v : V) (good : Sound c loader h s) where
  abbrev pub came : Event V
  came = event_of s x (t, a)

  -- Ghost without the key
  abbrev pub ghost_left : List Word
  ghost_left = filter (λ g. not (same k g)) s.remembered

  abbrev pub parts : List (Resident (Item V)) → List (Resident (Item V)) → List Word → State V
  parts small main remembered = record { small = small; main = main; remembered = remembered; free = []; opened = 0 }

  -- the newcomer is to go to Main
  abbrev pub heads : Bool
  heads = to_main c (has k s.remembered) (forgets (same k) s)

  pub vacant_is : vacant c h came ≡ vacancy c s
  vacant_is = rw (words_length s.small, words_length s.main) refl

  pub heads_is : (has k s.remembered || (eqb (small_limit c) 0 || (vacant c h came && leb (small_limit c) (length (words s.small))))) ≡ heads
  heads_is = rw (words_length s.small, words_length s.main) refl

  pub full_is : leb (main_limit c) (length (words s.main)) ≡ main_full c s
  full_is = rw (words_length s.main) refl

  -- a newcomer that goes to Small: Small has a limit, and without vacancy both parts hold theirs
  pub small_room : heads ≡ false → 1 ≤ small_limit c
  small_room q =
      let p = (or_parts (has k s.remembered) (eqb (small_limit c) 0 || (vacancy c s && leb (small_limit c) (length s.small))) q).1 in
      let r = (or_parts (eqb (small_limit c) 0) (vacancy c s && leb (small_limit c) (length s.small)) p).0 in
      let n = eqb-false (small_limit c) 0 r in
      omega arith

  pub no_room : vacancy c s ≡ false → (length s.small ≡ small_limit c) × (length s.main ≡ main_limit c)
  no_room q =
      let l = ltb-false (length s.small + length s.main) c q in
      let g = good.small_within in
      let m = good.main_within in
      let e = limits_add c pos in
      (omega arith, omega arith)

  -- unknown to a full cache of two or more and to its Ghost, it does not go to Main
  unknown_small : 2 ≤ c → vacant c h came ≡ false → has k s.remembered ≡ false → heads ≡ false
  unknown_small two q g =
      or_from (has k s.remembered) (eqb (small_limit c) 0 || (vacancy c s && leb (small_limit c) (length s.small))) g
      (or_from (eqb (small_limit c) 0) (vacancy c s && leb (small_limit c) (length s.small)) (ne_eqb (small_limit c) 0 (λ e. let l = small_some c two in omega arith))
      (rw (sym vacant_is ∙ q) refl))

  module _ (n : ℕ) (b : Brings c loader h s t x a k v n) (place : ℕ) where
    abbrev pub new_small : Resident (Item V)
    new_small = record { item = record { word = k; place = place; value = v }; mark = young 0 }

    abbrev pub new_main : Resident (Item V)
    new_main = record { item = record { word = k; place = place; value = v }; mark = plain }

    -- the newcomer is not in what was Main
    pub not_there : (ms : List (Resident (Item V))) → ((j : Word) → occurs j (words ms) ≤ known c loader h s t x a k v n b j) → has k (words ms) ≡ false
    not_there ms f = occurs_none k (words ms) (let p = f k in let z = known_new c loader h s t x a k v n b good in omega arith)

    -- ## There is room in Small

    grow_small_vacates : n ≡ 0 → Vacates c loader h s t x a k v n b (parts s.small s.main ghost_left)
    grow_small_vacates z =
        record {
          smalls = stood_smalls c loader h s t x a k v n b good;
          mains = mains_stay c loader h s t x a k v n b z s.main (stood_mains c loader h s t x a k v n b good);
          counts = λ j. omega arith;
          earned = omega arith;
        }

    pub main_same : t.main ≡ s.main → gives_up c h came ≡ (leb (main_limit c) (length (words s.main)) && someone_joins c h came)
    main_same em =
        let w : words t.main ≡ words s.main = ap words em in
        none_leaves c h came (λ j q. ap (has j) w ∙ q) ∙ sym (and_right (leb (main_limit c) (length (words s.main))) (someone_joins c h came) (none_joins c h came w))

    pub main_same_keeps : {A : Type 0} → t.main ≡ s.main → gives_up c h came ≡ true → A
    main_same_keeps em q = let w : words t.main ≡ words s.main = ap words em in absurd_bool (gives_up c h came) q (none_leaves c h came (λ j f. ap (has j) w ∙ f))

    pub same_part : heads ≡ false → t.main ≡ s.main → has k (words t.main) ≡ (has k s.remembered || (eqb (small_limit c) 0 || (vacant c h came && leb (small_limit c) (length (words s.small)))))
    same_part q em = ap (λ (l : List (Resident (Item V))). has k (words l)) em ∙ (absent_main c loader h s t x a k v n b ∙ (sym q ∙ sym heads_is))

    pub grow_small :
        n ≡ 0 → newcomer came ≡ true → heads ≡ false → vacancy c s ≡ true → t.small ≡ new_small ∷ map (older c) s.small → t.main ≡ s.main → t.remembered ≡ ghost_left →
        Sound c loader (came ∷ h) t × Arrival c h came k
    grow_small z new to room es em eg =
        let p = (or_parts (has k s.remembered) (eqb (small_limit c) 0 || (vacancy c s && leb (small_limit c) (length s.small))) to).1 in
        let r = (or_parts (eqb (small_limit c) 0) (vacancy c s && leb (small_limit c) (length s.small)) p).1 in
        let l : leb (small_limit c) (length s.small) ≡ false = subst (λ (y : Bool). (y && leb (small_limit c) (length s.small)) ≡ false) room r in (
          seat_small c loader h s t x a k v n b good (parts s.small s.main ghost_left) (grow_small_vacates z) place new (window_some c (small_room to)) (leb-false (small_limit c) (length s.small) l)
              good.main_within es em eg,
          record {
            part = same_part to em;
            told = new ∙ sym (ap not (same_part to em ∙ (heads_is ∙ to)));
            tail_goes = λ two q g. absurd_bool (vacancy c s) room (sym vacant_is ∙ q);
            exactly = main_same em;
            first = main_same_keeps em;
          },
        )

    -- ## There is room in Main

    pub grow_main :
        n ≡ 0 → newcomer came ≡ false → heads ≡ true → main_full c s ≡ false → t.small ≡ s.small → t.main ≡ s.main ++ new_main ∷ [] → t.remembered ≡ ghost_left →
        Sound c loader (came ∷ h) t × Arrival c h came k
    grow_main z old to room es em eg =
        let wm : words t.main ≡ words s.main ++ k ∷ [] = ap words em ∙ words_append s.main (new_main ∷ []) in
        let stay : gives_up c h came ≡ false = none_leaves c h came (λ j q. ap (has j) wm ∙ (has_append j (words s.main) (k ∷ []) ∙ rw q refl)) in (
          seat_main c loader h s t x a k v n b good (parts s.small s.main ghost_left) (grow_small_vacates z) place old good.small_within (leb-false (main_limit c) (length s.main) room) es em eg,
          record {
            part = ap (has k) wm ∙ (last_has (words s.main) k ∙ (sym to ∙ sym heads_is));
            told = old ∙ sym (ap not (ap (has k) wm ∙ last_has (words s.main) k));
            tail_goes = λ two q g. absurd_bool heads to (unknown_small two q g);
            exactly = stay ∙ sym (rw (full_is ∙ room) refl);
            first = λ q. absurd_bool (gives_up c h came) q stay;
          },
        )

    -- ## A sweep makes room in Main

    module _ (w : Swept (Item V)) (swept : sweep s.main ≡ Some w) (tells : n ≡ w.chances) where
      victim_stood : has (word_of w.victim) (words s.main) ≡ true
      victim_stood =
          let e = swept_counts s.main w (sweeps s.main w swept) (word_of w.victim) in
          let o = once_self (word_of w.victim) in
          occurs_some (word_of w.victim) (words s.main) (omega arith)

      -- the victim is in nothing that the others leave
      pub victim_once : (occurs (word_of w.victim) (words s.small) ≡ 0) × (occurs (word_of w.victim) (words w.rest) ≡ 0) × (once (word_of w.victim) k ≡ 0)
      victim_once =
          let e = swept_counts s.main w (sweeps s.main w swept) (word_of w.victim) in
          let o = once_self (word_of w.victim) in
          let g = good.alone (word_of w.victim) in
          let d : once (word_of w.victim) k ≡ 0 = go (same (word_of w.victim) k) refl in
          (omega arith, omega arith, d)
        where
          go : (y : Bool) → same (word_of w.victim) k ≡ y → ◌≡◌ {A = ℕ} (cond y 1 0) 0
          go true q =
              absurd_bool (has k (words s.main)) (subst (λ (j : Word). has j (words s.main) ≡ true) (same_true (word_of w.victim) k q) victim_stood) (absent_main c loader h s t x a k v n b)
          go false q = refl

      pub victim_leaves : occurs (word_of w.victim) (words t.small) + occurs (word_of w.victim) (words t.main) ≡ 0 → gives_up c h came ≡ true
      victim_leaves q =
          one_leaves c h came (word_of w.victim) victim_stood
          (or_from (has (word_of w.victim) (words t.small)) (has (word_of w.victim) (words t.main))
          (occurs_none (word_of w.victim) (words t.small) (omega arith)) (occurs_none (word_of w.victim) (words t.main) (omega arith)))

      pub evict_main_lem :
          newcomer came ≡ false → heads ≡ true → main_full c s ≡ true → t.small ≡ s.small → t.main ≡ w.rest ++ new_main ∷ [] → t.remembered ≡ ghost_left →
          Sound c loader (came ∷ h) t × Arrival c h came k
      evict_main_lem old to full es em eg =
          let wm : words t.main ≡ words w.rest ++ k ∷ [] = ap words em ∙ words_append w.rest (new_main ∷ []) in
          let len = (swept_length s.main w (sweeps s.main w swept)).0 in
          let once_gone = victim_once in
          let gone : gives_up c h came ≡ true =
          victim_leaves
          (let e = ap (λ (l : List (Resident (Item V))). occurs (word_of w.victim) (words l)) es in
          let f = ap (occurs (word_of w.victim)) wm ∙ occurs_append (word_of w.victim) (words w.rest) (k ∷ []) in
          omega arith) in
          let joined : someone_joins c h came ≡ true = one_joins c h came k (ap (has k) wm ∙ last_has (words w.rest) k) (absent_main c loader h s t x a k v n b) in (
            seat_main c loader h s t x a k v n b good (parts s.small w.rest ghost_left)
                (record {
                  smalls = stood_smalls c loader h s t x a k v n b good;
                  mains = mains_swept c loader h s t x a k v n b good w tells swept;
                  counts = λ j. let e = swept_counts s.main w (sweeps s.main w swept) j in omega arith;
                  earned = let u = swept_used s.main w (sweeps s.main w swept) in omega arith;
                })
                place old good.small_within (let m = good.main_within in omega arith) es em eg,
            record {
              part = ap (has k) wm ∙ (last_has (words w.rest) k ∙ (sym to ∙ sym heads_is));
              told = old ∙ sym (ap not (ap (has k) wm ∙ last_has (words w.rest) k));
              tail_goes = λ two q g. absurd_bool heads to (unknown_small two q g);
              exactly = gone ∙ sym (and_from (leb (main_limit c) (length (words s.main))) (someone_joins c h came) (full_is ∙ full) joined);
              first = λ q. (k, first_found c loader h s came good refl w (b.told ∙ tells) k wm swept);
            },
          )
