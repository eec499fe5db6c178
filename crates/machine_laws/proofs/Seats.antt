-- A newcomer takes its seat: the invariant holds of the state after it.
use Rattle.std.proofs.Common.{◌≡◌, ℕ, suc, ◌+◌, ◌<◌, ◌≤◌, Bool, true, false, cond, not, ◌||◌, leb, List, [], ◌∷◌, ◌++◌, map, length, filter, Result, sym, refl, ap, ◌∙◌, subst, arith, length-append}
use Rattle.std.specs.List.{AllByRecursion}
use Rattle.std.proofs.ByRecursion.{All-push}
use Rattle.std.proofs.lemmas.Bool.{or_right}
use Rattle.loaders.specs.declared.fault.Fault.{Fault}
use Rattle.machine.specs.declared.call.Answer.{Answer}
use Rattle.machine.specs.Limits.{small_limit, main_limit, window}
use Rattle.machine.specs.Replacement.{Mark, young, plain, used, aged, Resident, marked, is_used}
use Rattle.machine.specs.Machine.{Word, Item, State, Asked, same, has}
use Rattle.machine.specs.Run.{Event, event_of}
use Rattle.machine_laws.specs.Words.{once, occurs, newcomer}
use Rattle.machine_laws.proofs.Keys.{same_true, same_self, none_occurs, occurs_append, occurs_kept, occurs_struck, has_append}
use Rattle.machine_laws.proofs.Residents.{words, words_append, words_map, used_in, used_append}
use Rattle.machine_laws.proofs.Sound.{InSmall, InMain, Sound}
use Rattle.machine_laws.proofs.Arrivals.{Brings, StoodSmall, absent_small, absent_main, smalls_age, smalls_stay, new_in_main, new_in_small}

-- one newcomer older
abbrev pub older : {V : Type 0} → ℕ → Resident (Item V) → Resident (Item V)
older c r = marked (aged (window c) r.mark) r

aged_used : (w : ℕ) (m : Mark) → is_used (aged w m) ≡ is_used m
aged_used w (young d) = go (leb w (suc d))
  where
    go : (b : Bool) → is_used (cond b plain (young (suc d))) ≡ false
    go true = refl
    go false = refl
aged_used w plain = refl
aged_used w used = refl

used_older : {V : Type 0} (c : ℕ) (xs : List (Resident (Item V))) → used_in (map (older c) xs) ≡ used_in xs
used_older c [] = refl
used_older c (x ∷ xs) =
    let ih = used_older c xs in
    let q : ◌≡◌ {A = ℕ} (cond (is_used (aged (window c) x.mark)) 1 0) (cond (is_used x.mark) 1 0) = ap (λ (b : Bool). cond b 1 0) (aged_used (window c) x.mark) in
    omega arith

length_older : {V : Type 0} (c : ℕ) (xs : List (Resident (Item V))) → length (map (older c) xs) ≡ length xs
length_older c [] = refl
length_older c (x ∷ xs) = ap suc (length_older c xs)

module _ {V : Type 0} (c : ℕ) (loader : Word → Result V Fault) (h : List (Event V)) (s t : State V) (x : Asked V) (a : Answer V)
    (k : Word) (v : V) (n : ℕ) (b : Brings c loader h s t x a k v n) where
  -- the keys of the state without the newcomer's in Ghost
  abbrev pub known : Word → ℕ
  known j = occurs j (words s.small) + occurs j (words s.main) + occurs j (filter (λ g. not (same k g)) s.remembered)

  -- what the first half of the insertion leaves
  pub record Vacates (p : State V) : Type 0 where
    pub smalls : AllByRecursion (StoodSmall c loader h s t x a k v n b) p.small
    pub mains : AllByRecursion (InMain c loader (event_of s x (t, a) ∷ h)) p.main
    pub counts : (j : Word) → occurs j (words p.small) + occurs j (words p.main) + occurs j p.remembered ≤ known j
    pub earned : n + used_in p.small + used_in p.main ≤ used_in s.small + used_in s.main

  module _ (good : Sound c loader h s) where
    pub known_new : known k ≡ 0
    known_new =
        let p = none_occurs k (words s.small) (absent_small c loader h s t x a k v n b) in
        let q = none_occurs k (words s.main) (absent_main c loader h s t x a k v n b) in
        let r = occurs_struck k s.remembered in
        omega arith

    pub known_most : (j : Word) → known j ≤ 1
    known_most j = let p = good.alone j in let q = occurs_kept j (λ g. not (same k g)) s.remembered in omega arith

    -- one newcomer more, and still no key twice
    pub new_alone : (j : Word) (m : ℕ) → m ≤ known j → once j k + m ≤ 1
    new_alone j m l = go (same j k) refl
      where
        go : (y : Bool) → same j k ≡ y → cond y 1 0 + m ≤ 1
        go true e = let q = ap known (same_true j k e) in let z = known_new in omega arith
        go false e = let q = known_most j in omega arith

    module _ (p : State V) (vac : Vacates p) (place : ℕ) where
      abbrev pub new_item : Item V
      new_item = record { word = k; place = place; value = v }

      pub seat_small :
          newcomer (event_of s x (t, a)) ≡ true → 0 < window c → suc (length p.small) ≤ small_limit c → length p.main ≤ main_limit c →
          t.small ≡ record { item = new_item; mark = young 0 } ∷ map (older c) p.small → t.main ≡ p.main → t.remembered ≡ p.remembered → Sound c loader (event_of s x (t, a) ∷ h) t
      seat_small new pos ls lm es em eg =
          let head : has k (words t.small) ≡ true = ap (λ (l : List (Resident (Item V))). has k (words l)) es ∙ rw (same_self k) refl in
          record {
            small_within = let e = ap length es in let l = length_older c p.small in omega arith;
            main_within = let e = ap length em in omega arith;
            alone =
                λ j.
                let e = ap (λ (l : List (Resident (Item V))). occurs j (words l)) es in
                let f = ap (λ (l : List (Resident (Item V))). occurs j (words l)) em in
                let g = ap (occurs j) eg in
                let o = ap (occurs j) (words_map (older c) (λ r. refl) p.small) in
                let m = new_alone j (occurs j (words p.small) + occurs j (words p.main) + occurs j p.remembered) (vac.counts j) in
                omega arith;
            smalls =
                subst (λ (l : List (Resident (Item V))). AllByRecursion (InSmall c loader (event_of s x (t, a) ∷ h)) l) (sym es)
                (new_in_small c loader h s t x a k v n b place pos head, smalls_age c loader h s t x a k v n b new p.small vac.smalls);
            mains = subst (λ (l : List (Resident (Item V))). AllByRecursion (InMain c loader (event_of s x (t, a) ∷ h)) l) (sym em) vac.mains;
            earned =
                let e = ap used_in es in
                let f = ap used_in em in
                let o = used_older c p.small in
                let d = b.told in
                let u = vac.earned in
                let w = good.earned in
                omega arith;
          }

      pub seat_main :
          newcomer (event_of s x (t, a)) ≡ false → length p.small ≤ small_limit c → suc (length p.main) ≤ main_limit c →
          t.small ≡ p.small → t.main ≡ p.main ++ record { item = new_item; mark = plain } ∷ [] → t.remembered ≡ p.remembered → Sound c loader (event_of s x (t, a) ∷ h) t
      seat_main old ls lm es em eg =
          let wm : words t.main ≡ words p.main ++ k ∷ [] = ap words em ∙ words_append p.main (record { item = new_item; mark = plain } ∷ []) in
          let last : has k (words t.main) ≡ true = ap (has k) wm ∙ (has_append k (words p.main) (k ∷ []) ∙ or_right (has k (words p.main)) (same k k || false) (rw (same_self k) refl)) in
          record {
            small_within = let e = ap length es in omega arith;
            main_within = let e = ap length em ∙ length-append p.main (record { item = new_item; mark = plain } ∷ []) in omega arith;
            alone =
                λ j.
                let e = ap (λ (l : List (Resident (Item V))). occurs j (words l)) es in
                let f = ap (occurs j) wm ∙ occurs_append j (words p.main) (k ∷ []) in
                let g = ap (occurs j) eg in
                let m = new_alone j (occurs j (words p.small) + occurs j (words p.main) + occurs j p.remembered) (vac.counts j) in
                omega arith;
            smalls = subst (λ (l : List (Resident (Item V))). AllByRecursion (InSmall c loader (event_of s x (t, a) ∷ h)) l) (sym es) (smalls_stay c loader h s t x a k v n b old p.small vac.smalls);
            mains =
                subst (λ (l : List (Resident (Item V))). AllByRecursion (InMain c loader (event_of s x (t, a) ∷ h)) l) (sym em)
                (All-push (InMain c loader (event_of s x (t, a) ∷ h)) p.main (record { item = new_item; mark = plain }) vac.mains (new_in_main c loader h s t x a k v n b place last));
            earned =
                let e = ap used_in es in
                let f = ap used_in em ∙ used_append p.main (record { item = new_item; mark = plain } ∷ []) in
                let d = b.told in
                let u = vac.earned in
                let w = good.earned in
                omega arith;
          }
