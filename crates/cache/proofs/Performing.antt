-- Calls made one after the other: what holds before the i-th.
use Rattle.std.proofs.Common.{◌≡◌, ℕ, zero, suc, ◌<◌, ◌≤◌, min, Bool, List, [], ◌∷◌, ◌++◌, length, get_or, take, drop, set, Result, sym, refl, ap, ◌∙◌, append_assoc, le_of_suc-le-suc, arith, length-set}
use Rattle.loaders.specs.declared.fault.Fault.{Fault}
use Rattle.machine.specs.declared.call.Call.{Call}
use Rattle.machine.specs.declared.call.Answer.{Answer}
use Rattle.machine.specs.Machine.{Word, State, step}
use Rattle.machine.specs.Run.{meant}
use Rattle.cache_core.specs.declared.inner.Inner.{Inner}
use Rattle.cache_core.specs.View.{state, bare}
use Rattle.cache_core.specs.Tied.{Within}
use Rattle.cache_calls.specs.Calls.{Does}
use Rattle.cache_calls.specs.Retain.{rising}
use Rattle.cache.specs.Records.{laid_by}
use Rattle.cache.specs.Run.{stepped, state_from, answers_from, laid_from, Performed}

-- ## Lists

-- what is left of the first n from an index on begins with the element there
left_cons : {A : Type 0} (n i : ℕ) (xs : List A) (x : A) → i < n → n ≤ length xs → x ≡ get_or xs i x → drop i (take n xs) ≡ x ∷ drop (suc i) (take n xs)
left_cons zero i xs x low long is = absurd (omega arith)
left_cons (suc n) i [] x low long is = absurd (omega arith)
left_cons (suc n) zero (y ∷ xs) x low long is = ap (λ z. z ∷ take n xs) (sym is)
left_cons (suc n) (suc i) (y ∷ xs) x low long is = left_cons n i xs x (le_of_suc-le-suc low) (le_of_suc-le-suc long) is

take_set : {A : Type 0} (i : ℕ) (xs : List A) (a : A) → i < length xs → take (suc i) (set xs i a) ≡ take i xs ++ a ∷ []
take_set i [] a h = absurd (omega arith)
take_set zero (x ∷ xs) a h = refl
take_set {A} (suc i) (x ∷ xs) a h = ap (λ (l : List A). x ∷ l) (take_set i xs a (le_of_suc-le-suc h))

drop_set : {A : Type 0} (i : ℕ) (xs : List A) (a : A) → drop (suc i) (set xs i a) ≡ drop (suc i) xs
drop_set i [] a = refl
drop_set zero (x ∷ xs) a = refl
drop_set (suc i) (x ∷ xs) a = drop_set i xs a

drop_more : {A : Type 0} (i : ℕ) (xs ys : List A) → drop i xs ≡ drop i ys → drop (suc i) xs ≡ drop (suc i) ys
drop_more {A} i xs ys e = sym (next i xs) ∙ (ap (drop 1) e ∙ next i ys)
  where
    next : (k : ℕ) (zs : List A) → drop 1 (drop k zs) ≡ drop (suc k) zs
    next zero [] = refl
    next zero (z ∷ zs) = refl
    next (suc k) [] = refl
    next (suc k) (z ∷ zs) = next k zs

drop_all : {A : Type 0} (n : ℕ) (xs : List A) → drop n (take n xs) ≡ []
drop_all zero xs = refl
drop_all (suc n) [] = refl
drop_all (suc n) (x ∷ xs) = drop_all n xs

append_nothing : {A : Type 0} (xs : List A) → xs ++ [] ≡ xs
append_nothing [] = refl
append_nothing {A} (x ∷ xs) = ap (λ (l : List A). x ∷ l) (append_nothing xs)

module _ {K V R : Type 0} (mean : K → Word) (hashed : Word → ℕ) (keeps : R → Word → V → Bool) (loader : Word → Result V Fault) (x : Inner K V) (calls : List (Call K V R)) (before : List (Answer V)) (n : ℕ) (count : n ≡ min (length calls) (length before)) where
  abbrev c : ℕ
  c = x.policy.core.capacity

  -- what is left to do leads, answers and lays what all of it does from the start
  pub record Still (i : ℕ) (answers : List (Answer V)) (y : Inner K V) (d : V) : Type 0 where
    pub leads : state_from mean keeps c loader (state mean d y) (drop i (take n calls)) ≡ state_from mean keeps c loader (state mean d x) (take n calls)
    pub tells : take i answers ++ answers_from mean keeps c loader (state mean d y) (drop i (take n calls)) ≡ answers_from mean keeps c loader (state mean d x) (take n calls)
    pub lays : laid_from mean keeps c loader (state mean d y) (drop i (take n calls)) (bare y.records.now) ≡ laid_from mean keeps c loader (state mean d x) (take n calls) (bare x.records.now)
    pub right : Within mean hashed y

  pub record Midway (i : ℕ) (answers : List (Answer V)) (given : Word → Result V Fault) (y : Inner K V) : Type 0 where
    pub long : length answers ≡ length before
    pub meaning : given ≡ loader
    pub capacity : y.policy.core.capacity ≡ c
    pub rest : drop i answers ≡ drop i before
    pub still : Within mean hashed x → (d : V) → Still i answers y d

  pub start : Midway 0 before loader x
  start = record { long = refl; meaning = refl; capacity = refl; rest = refl; still = λ t d. record { leads = refl; tells = refl; lays = refl; right = t } }

  module _ (i : ℕ) (low : i < n) (answers : List (Answer V)) (given given' : Word → Result V Fault) (y y' : Inner K V) (call : Call K V R) (a : Answer V) (is : call ≡ get_or calls i call) (m : Midway i answers given y)
      (does : Does mean hashed (λ s. step y.policy.core.capacity given rising s (meant mean keeps call)) y a y')
      (records : Within mean hashed y → (d : V) → bare y'.records.now ≡ laid_by mean keeps y.policy.core.capacity given call (state mean d y) (bare y.records.now))
      (meaning : given' ≡ given) (capacity : y'.policy.core.capacity ≡ y.policy.core.capacity) where
    few : i < length answers
    few = let z = m.long in omega arith

    left : drop i (take n calls) ≡ call ∷ drop (suc i) (take n calls)
    left = left_cons n i calls call low (omega arith) is

    -- the step as the machine of the start takes it
    took : (t : Within mean hashed y) (d : V) → stepped mean keeps c loader (state mean d y) call ≡ (state mean d y', a)
    took t d =
        ap (λ (k : ℕ). stepped mean keeps k loader (state mean d y) call) (sym m.capacity)
        ∙ (ap (λ (l : Word → Result V Fault). stepped mean keeps y.policy.core.capacity l (state mean d y) call) (sym m.meaning) ∙ (does t).0 d)

    next : (t : Within mean hashed x) (d : V) → Still (suc i) (set answers i a) y' d
    next t d =
        let s = m.still t d in
        let rest = drop (suc i) (take n calls) in
        let st = took s.right d in
        let go : (stepped mean keeps c loader (state mean d y) call).0 ≡ state mean d y' = ap (λ (p : State V × Answer V). p.0) st in
        let said : (stepped mean keeps c loader (state mean d y) call).1 ≡ a = ap (λ (p : State V × Answer V). p.1) st in
        let laid : laid_by mean keeps c loader call (state mean d y) (bare y.records.now) ≡ bare y'.records.now =
        ap (λ (k : ℕ). laid_by mean keeps k loader call (state mean d y) (bare y.records.now)) (sym m.capacity)
        ∙ (ap (λ (l : Word → Result V Fault). laid_by mean keeps y.policy.core.capacity l call (state mean d y) (bare y.records.now)) (sym m.meaning) ∙ sym (records s.right d)) in
        record {
          leads =
              sym (ap (state_from mean keeps c loader (state mean d y)) left ∙ ap (λ (z : State V). state_from mean keeps c loader z rest) go) ∙ s.leads;
          tells =
              ap (λ (l : List (Answer V)). l ++ answers_from mean keeps c loader (state mean d y') rest) (take_set i answers a few)
              ∙ (append_assoc (take i answers) (a ∷ []) (answers_from mean keeps c loader (state mean d y') rest)
              ∙ (ap (λ (l : List (Answer V)). take i answers ++ l)
              (sym (ap (answers_from mean keeps c loader (state mean d y)) left
              ∙ (ap (λ (z : State V). (stepped mean keeps c loader (state mean d y) call).1 ∷ answers_from mean keeps c loader z rest) go
              ∙ ap (λ (z : Answer V). z ∷ answers_from mean keeps c loader (state mean d y') rest) said)))
              ∙ s.tells));
          lays =
              sym (ap (λ (l : List (Call K V R)). laid_from mean keeps c loader (state mean d y) l (bare y.records.now)) left
              ∙ (ap (λ (z : State V). laid_from mean keeps c loader z rest (laid_by mean keeps c loader call (state mean d y) (bare y.records.now))) go
              ∙ ap (laid_from mean keeps c loader (state mean d y') rest) laid))
              ∙ s.lays;
          right = (does s.right).1;
        }

    pub turn : Midway (suc i) (set answers i a) given' y'
    turn =
        record {
          long = length-set answers i a ∙ m.long;
          meaning = meaning ∙ m.meaning;
          capacity = capacity ∙ m.capacity;
          rest = drop_set i answers a ∙ drop_more i answers before m.rest;
          still = next;
        }

  pub end : (answers : List (Answer V)) (given : Word → Result V Fault) (y : Inner K V) → Midway n answers given y → Performed mean hashed keeps loader x calls before answers n y
  end answers given y m =
      record {
        count = count;
        rest = m.rest;
        does = λ t d.
            (let s = m.still t d in
            let none = drop_all n calls in
            record {
              next = sym (ap (state_from mean keeps c loader (state mean d y)) none) ∙ s.leads;
              answers =
                  sym (ap (λ (l : List (Call K V R)). take n answers ++ answers_from mean keeps c loader (state mean d y) l) none ∙ append_nothing (take n answers)) ∙ s.tells;
              records = sym (ap (λ (l : List (Call K V R)). laid_from mean keeps c loader (state mean d y) l (bare y.records.now)) none) ∙ s.lays;
              right = s.right;
            });
      }
