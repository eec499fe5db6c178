-- What holds of the machine's state after every history: the facts that the laws rest on.
use Rattle.std.proofs.Common.{◌≡◌, ℕ, ◌+◌, ◌≤◌, Bool, true, false, cond, List, [], ◌∷◌, length, take, None, filter, Option, Result, unwrap_or, sym, refl, ap, subst, arith}
use Rattle.std.specs.List.{AllZip, AllByRecursion}
use Rattle.std.proofs.lemmas.List.Elements.{length_all_zip}
use Rattle.std.proofs.ByRecursion.{all_kept_by}
use Rattle.std.proofs.lemmas.Bool.{or_right}
use Rattle.loaders.specs.declared.fault.Fault.{Fault}
use Rattle.machine.specs.declared.call.Answer.{Answer}
use Rattle.machine.specs.Limits.{small_limit, main_limit, window}
use Rattle.machine.specs.Replacement.{Mark, young, plain, used, Resident, nothing, hit_if, is_used}
use Rattle.machine.specs.Machine.{Word, Item, State, Asked, has}
use Rattle.machine.specs.Run.{Event, word_of, event_of}
use Rattle.machine_laws.specs.Words.{occurs, resident, report_in, is_use, hits, lays, comes_in, enters_small, newcomer, chances, joined_small, chances_told, passes, renews, uses_in, chances_in}
use Rattle.machine_laws.proofs.Residents.{words, words_each, all_both, all_follow, each_self, all_in, used_in, occurs_kept_words, length_kept, used_kept}
use Rattle.machine_laws.proofs.Marks.{SmallSays, MainSays, ValueSays, small_calm, main_calm, value_stays}

module _ {V : Type 0} (c : ℕ) (loader : Word → Result V Fault) where
  -- what the mark and the value of a resident of Small, of Main say
  abbrev pub InSmall : List (Event V) → Resident (Item V) → Type 0
  InSmall h r = SmallSays (window c) (word_of r) r.mark h × ValueSays loader (word_of r) r.item.value h

  abbrev pub InMain : List (Event V) → Resident (Item V) → Type 0
  InMain h r = MainSays (word_of r) r.mark h × ValueSays loader (word_of r) r.item.value h

  pub record Sound (h : List (Event V)) (s : State V) : Type 0 where
    pub small_within : length s.small ≤ small_limit c
    pub main_within : length s.main ≤ main_limit c
    pub alone : (k : Word) → occurs k (words s.small) + occurs k (words s.main) + occurs k s.remembered ≤ 1
    pub smalls : AllByRecursion (InSmall h) s.small
    pub mains : AllByRecursion (InMain h) s.main
    pub earned : chances_in h + used_in s.small + used_in s.main ≤ uses_in h

  pub sound_start : Sound [] nothing
  sound_start =
      record { small_within = omega arith; main_within = omega arith; alone = λ k. omega arith; smalls = tt; mains = tt; earned = omega arith }

-- ## Who stood there before neither enters nor comes in

module _ {V : Type 0} (k : Word) (e : Event V) where
  pub stood_small : has k e.before.small ≡ true → enters_small k e ≡ false
  stood_small q = rw q refl

  pub stood_resident : resident k e.before ≡ true → comes_in k e ≡ false
  stood_resident q = rw q refl

  pub small_resident : has k e.before.small ≡ true → resident k e.before ≡ true
  small_resident q = rw q refl

  pub main_resident : has k e.before.main ≡ true → resident k e.before ≡ true
  main_resident q = or_right (has k e.before.small) (has k e.before.main) q

  pub stood_main : has k e.before.main ≡ true → passes k e ≡ false → renews k e ≡ false
  stood_main q f = rw q f

-- ## Events without a report

-- how many of these residents the event hits
abbrev pub hits_in : {V : Type 0} → Event V → List (Resident (Item V)) → ℕ
hits_in e [] = 0
hits_in e (r ∷ rs) = cond (hits (word_of r) e) 1 0 + hits_in e rs

-- the resident after the event is the one before it: a hit changes its mark, a put or write its value
abbrev pub Follow : {V : Type 0} → Event V → Resident (Item V) → Resident (Item V) → Type 0
Follow e r t = (word_of t ≡ word_of r) × (t.mark ≡ hit_if (hits (word_of r) e) r.mark) × (t.item.value ≡ unwrap_or (lays (word_of r) e) r.item.value)

hit_counts : (m : Mark) (b : Bool) → cond (is_used (hit_if b m)) 1 0 ≤ cond (is_used m) 1 0 + cond b 1 0
hit_counts (young d) true = omega arith
hit_counts (young d) false = omega arith
hit_counts plain true = omega arith
hit_counts plain false = omega arith
hit_counts used true = omega arith
hit_counts used false = omega arith

pub used_follow : {V : Type 0} (e : Event V) (xs ys : List (Resident (Item V))) → AllZip (Follow e) xs ys → used_in ys ≤ used_in xs + hits_in e xs
used_follow e [] [] f = omega arith
used_follow e [] (y ∷ ys) f = elim f [ ]
used_follow e (x ∷ xs) [] f = elim f [ ]
used_follow e (x ∷ xs) (y ∷ ys) f =
    let ih = used_follow e xs ys f.1 in
    let q : cond (is_used y.mark) 1 0 ≤ cond (is_used x.mark) 1 0 + cond (hits (word_of x) e) 1 0 =
    subst (λ (m : Mark). cond (is_used m) 1 0 ≤ cond (is_used x.mark) 1 0 + cond (hits (word_of x) e) 1 0) (sym f.0.1) (hit_counts x.mark (hits (word_of x) e)) in
    omega arith

-- what an event that reports nothing does to the state
pub record Calm {V : Type 0} (s t : State V) (e : Event V) : Type 0 where
  pub silent : report_in e.answer ≡ None
  pub small_follows : AllZip (Follow e) s.small t.small
  pub main_follows : AllZip (Follow e) s.main t.main
  pub forgets_some : (k : Word) → occurs k t.remembered ≤ occurs k s.remembered
  pub few : hits_in e s.small + hits_in e s.main ≤ cond (is_use e) 1 0

module _ {V : Type 0} (c : ℕ) (loader : Word → Result V Fault) (h : List (Event V)) (s t : State V) (x : Asked V) (a : Answer V) where
  abbrev this : Event V
  this = event_of s x (t, a)

  silent_newcomer : report_in a ≡ None → newcomer this ≡ false
  silent_newcomer q = ap joined_small q

  silent_chances : report_in a ≡ None → chances this ≡ 0
  silent_chances q = ap chances_told q

  silent_passes : (k : Word) → report_in a ≡ None → passes k this ≡ false
  silent_passes k q = subst (λ (n : ℕ). has k (take n (words s.main)) ≡ false) (sym (silent_chances q)) refl

  calm_small :
      report_in a ≡ None → (r u : Resident (Item V)) → InSmall c loader h r × (has (word_of r) (words s.small) ≡ true) → Follow this r u → InSmall c loader (this ∷ h) u
  calm_small q r u p f =
      let old = stood_small (word_of r) this p.1 in
      let mark = small_calm (window c) (word_of r) r.mark h this old (silent_newcomer q) p.0.0 in
      let value =
      value_stays loader (word_of r) r.item.value u.item.value h this (stood_resident (word_of r) this (small_resident (word_of r) this p.1)) f.2 p.0.1 in
      subst (λ (k : Word). SmallSays (window c) k u.mark (this ∷ h) × ValueSays loader k u.item.value (this ∷ h)) (sym f.0)
      (subst (λ (m : Mark). SmallSays (window c) (word_of r) m (this ∷ h)) (sym f.1) mark, value)

  calm_main : report_in a ≡ None → (r u : Resident (Item V)) → InMain c loader h r × (has (word_of r) (words s.main) ≡ true) → Follow this r u → InMain c loader (this ∷ h) u
  calm_main q r u p f =
      let old = stood_main (word_of r) this p.1 (silent_passes (word_of r) q) in
      let mark = main_calm (word_of r) r.mark h this old p.0.0 in
      let value =
      value_stays loader (word_of r) r.item.value u.item.value h this (stood_resident (word_of r) this (main_resident (word_of r) this p.1)) f.2 p.0.1 in
      subst (λ (k : Word). MainSays k u.mark (this ∷ h) × ValueSays loader k u.item.value (this ∷ h)) (sym f.0)
      (subst (λ (m : Mark). MainSays (word_of r) m (this ∷ h)) (sym f.1) mark, value)

  -- all of Small, all of Main, as they follow
  pub calm_smalls : report_in a ≡ None → Sound c loader h s → (ys : List (Resident (Item V))) → AllZip (Follow this) s.small ys → AllByRecursion (InSmall c loader (this ∷ h)) ys
  calm_smalls q good ys f =
      all_follow (λ r. InSmall c loader h r × (has (word_of r) (words s.small) ≡ true)) (InSmall c loader (this ∷ h)) (Follow this) (calm_small q) s.small ys
      (all_both (InSmall c loader h) (λ r. has (word_of r) (words s.small) ≡ true) s.small good.smalls (all_in s.small)) f

  pub calm_mains : report_in a ≡ None → Sound c loader h s → (ys : List (Resident (Item V))) → AllZip (Follow this) s.main ys → AllByRecursion (InMain c loader (this ∷ h)) ys
  calm_mains q good ys f =
      all_follow (λ r. InMain c loader h r × (has (word_of r) (words s.main) ≡ true)) (InMain c loader (this ∷ h)) (Follow this) (calm_main q) s.main ys
      (all_both (InMain c loader h) (λ r. has (word_of r) (words s.main) ≡ true) s.main good.mains (all_in s.main)) f

  pub calm_sound : Calm s t this → Sound c loader h s → Sound c loader (this ∷ h) t
  calm_sound calm good =
      let ws = words_each (Follow this) (λ r u f. f.0) s.small t.small calm.small_follows in
      let wm = words_each (Follow this) (λ r u f. f.0) s.main t.main calm.main_follows in
      record {
        small_within = let l = length_all_zip (Follow this) s.small t.small calm.small_follows in let b = good.small_within in omega arith;
        main_within = let l = length_all_zip (Follow this) s.main t.main calm.main_follows in let b = good.main_within in omega arith;
        alone = λ k. rw (ws, wm) (let g = calm.forgets_some k in let b = good.alone k in omega arith);
        smalls = calm_smalls calm.silent good t.small calm.small_follows;
        mains = calm_mains calm.silent good t.main calm.main_follows;
        earned =
            let n = silent_chances calm.silent in
            let u = used_follow this s.small t.small calm.small_follows in
            let v = used_follow this s.main t.main calm.main_follows in
            let f = calm.few in
            let b = good.earned in
            omega arith;
      }

  -- an event that drops residents: it reports, hits and lays nothing, and those that a test names stay
  pub record Dropped (stays : Resident (Item V) → Bool) : Type 0 where
    pub silent : report_in a ≡ None
    pub no_hit : (k : Word) → hits k this ≡ false
    pub no_lay : (k : Word) → lays k this ≡ None
    pub small_kept : t.small ≡ filter stays s.small
    pub main_kept : t.main ≡ filter stays s.main
    pub ghost_kept : t.remembered ≡ s.remembered

  follow_self : (stays : Resident (Item V) → Bool) → Dropped stays → (r : Resident (Item V)) → Follow this r r
  follow_self stays d r = (
    refl,
    subst (λ (b : Bool). r.mark ≡ hit_if b r.mark) (sym (d.no_hit (word_of r))) refl,
    subst (λ (o : Option V). r.item.value ≡ unwrap_or o r.item.value) (sym (d.no_lay (word_of r))) refl,
  )

  pub dropped_sound : (stays : Resident (Item V) → Bool) → Dropped stays → Sound c loader h s → Sound c loader (this ∷ h) t
  dropped_sound stays d good =
      record {
        small_within = subst (λ (l : List (Resident (Item V))). length l ≤ small_limit c) (sym d.small_kept) (let l = length_kept stays s.small in let b = good.small_within in omega arith);
        main_within = subst (λ (l : List (Resident (Item V))). length l ≤ main_limit c) (sym d.main_kept) (let l = length_kept stays s.main in let b = good.main_within in omega arith);
        alone =
            λ k.
            let es = ap (λ (l : List (Resident (Item V))). occurs k (words l)) d.small_kept in
            let em = ap (λ (l : List (Resident (Item V))). occurs k (words l)) d.main_kept in
            let eg = ap (λ (l : List Word). occurs k l) d.ghost_kept in
            let p = occurs_kept_words k stays s.small in
            let q = occurs_kept_words k stays s.main in
            let b = good.alone k in
            omega arith;
        smalls =
            subst (λ (l : List (Resident (Item V))). AllByRecursion (InSmall c loader (this ∷ h)) l) (sym d.small_kept)
            (all_kept_by stays (InSmall c loader (this ∷ h)) s.small (calm_smalls d.silent good s.small (each_self (Follow this) (follow_self stays d) s.small)));
        mains =
            subst (λ (l : List (Resident (Item V))). AllByRecursion (InMain c loader (this ∷ h)) l) (sym d.main_kept)
            (all_kept_by stays (InMain c loader (this ∷ h)) s.main (calm_mains d.silent good s.main (each_self (Follow this) (follow_self stays d) s.main)));
        earned =
            let n = silent_chances d.silent in
            let es = ap used_in d.small_kept in
            let em = ap used_in d.main_kept in
            let p = used_kept stays s.small in
            let q = used_kept stays s.main in
            let b = good.earned in
            omega arith;
      }
