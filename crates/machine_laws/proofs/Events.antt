-- What every event that brings no key in shares: its parts of the laws, from what it does to the state.
use Rattle.std.proofs.Common.{◌≡◌, ℕ, ◌+◌, ◌≤◌, Bool, true, false, cond, not, ◌&&◌, List, [], ◌∷◌, ◌++◌, length, Some, None, Option, Result, sym, refl, ap, ◌∙◌, subst, arith}
use Rattle.std.specs.List.{AllZip}
use Rattle.std.proofs.ByRecursion.{All-append, All-weaker}
use Rattle.std.proofs.lemmas.Bool.{not-true, or_from, or_parts, and_parts, and_right, true≢false}
use Rattle.loaders.specs.declared.fault.Fault.{Fault}
use Rattle.machine.specs.declared.call.Answer.{Answer}
use Rattle.machine.specs.Limits.{window}
use Rattle.machine.specs.Replacement.{Resident}
use Rattle.machine.specs.Machine.{Word, Item, State, Asked, same, has, look}
use Rattle.machine.specs.Run.{Event, word_of, queues, event_of}
use Rattle.machine_laws.specs.Words.{once, occurs, resident, takes_out, hit_late, names, is_use, hits, value_in, report_in, answered, comes_in, chances, last_laid, stay, since_with}
use Rattle.machine_laws.specs.Laws.{IsLast, Replacement, Arrival, Chances}
use Rattle.machine_laws.proofs.Keys.{same_true, has_append, none_occurs, some_occurs, occurs_none}
use Rattle.machine_laws.proofs.Residents.{words, words_append, words_each, find_none, find_has, find_holds}
use Rattle.machine_laws.proofs.Marks.{ValueSays}
use Rattle.machine_laws.proofs.Sound.{InSmall, InMain, Sound, Follow, hits_in, Calm}

-- a chosen nothing is nothing
pub cond_none : {A : Type 0} (b : Bool) → ◌≡◌ {A = Option A} (cond b None None) None
cond_none true = refl
cond_none false = refl

cond_some : {A : Type 0} (b : Bool) (o : Option A) (v : A) → cond b o None ≡ Some v → (b ≡ true) × (o ≡ Some v)
cond_some true o v e = (refl, e)
cond_some false o v e = let z : ◌≡◌ {A = ℕ} 0 1 = cc in absurd (omega arith)

module _ {V : Type 0} (k : Word) (s : State V) where
  -- a search finds exactly the residents
  pub look_absent : look k s ≡ None → resident k (queues s) ≡ false
  look_absent e = sym (has_append k (words s.small) (words s.main)) ∙ (ap (has k) (sym (words_append s.small s.main)) ∙ find_none k (s.small ++ s.main) e)

  pub look_resident : (i : Item V) → look k s ≡ Some i → resident k (queues s) ≡ true
  look_resident i e = sym (has_append k (words s.small) (words s.main)) ∙ (ap (has k) (sym (words_append s.small s.main)) ∙ find_has k (s.small ++ s.main) i e)

module _ {V : Type 0} (c : ℕ) (loader : Word → Result V Fault) (h : List (Event V)) (s t : State V) (x : Asked V) (a : Answer V) where
  abbrev this : Event V
  this = event_of s x (t, a)

  -- ## Replacement: no key comes in where none is added

  none_arrives : ((j : Word) → occurs j (words t.small) + occurs j (words t.main) ≤ occurs j (words s.small) + occurs j (words s.main)) → (j : Word) → comes_in j this ≡ true → Arrival c h this j
  none_arrives f j e =
      let p = and_parts (not (resident j (queues s))) (resident j (queues t)) e in
      let q = or_parts (has j (words s.small)) (has j (words s.main)) (not-true (resident j (queues s)) p.0) in
      let u = none_occurs j (words s.small) q.0 in
      let w = none_occurs j (words s.main) q.1 in
      let n = f j in
      let z = or_from (has j (words t.small)) (has j (words t.main)) (occurs_none j (words t.small) (omega arith)) (occurs_none j (words t.main) (omega arith)) in
      absurd (true≢false (sym p.1 ∙ z))

  -- Main has no key but its own and perhaps q, which no key of Small is unless a use hit it late
  pub moved_late :
      Sound c loader h s → (q : Word) → ((j : Word) → occurs j (words t.main) ≤ occurs j (words s.main) + once j q) → (has q (words s.small) ≡ true → hit_late (window c) q h ≡ true) →
      (j : Word) → has j (words s.small) ≡ true → has j (words t.main) ≡ true → hit_late (window c) j h ≡ true
  moved_late good q f l j a₁ b₁ = go (same j q) refl (f j)
    where
      go : (b : Bool) → same j q ≡ b → occurs j (words t.main) ≤ occurs j (words s.main) + cond b 1 0 → hit_late (window c) j h ≡ true
      go true e n =
          let w : q ≡ j = sym (same_true j q e) in
          subst (λ (i : Word). hit_late (window c) i h ≡ true) w (l (subst (λ (i : Word). has i (words s.small) ≡ true) (sym w) a₁))
      go false e n =
          let u = some_occurs j (words s.small) a₁ in
          let y = some_occurs j (words t.main) b₁ in
          let g = good.alone j in
          absurd (omega arith)

  -- a call by which no part gains a key
  pub no_gain :
      Sound c loader h s → ((j : Word) → occurs j (words t.small) ≤ occurs j (words s.small)) → ((j : Word) → occurs j (words t.main) ≤ occurs j (words s.main)) →
      (takes_out x ≡ false → queues t ≡ queues s) → Replacement c h this
  no_gain good fs fm still =
      record {
        arrives = none_arrives (λ j. let p = fs j in let q = fm j in omega arith);
        only_late =
            λ j p q.
            let u = some_occurs j (words s.small) p in
            let y = some_occurs j (words t.main) q in
            let g = good.alone j in
            let n = fm j in
            absurd (omega arith);
        still = λ _ e. still e;
      }

  -- ## Chances, from the invariant

  pub chances_hold : Sound c loader (this ∷ h) t → chances this ≤ length (words s.main) → Chances h this
  chances_hold good few = record { earned = let e = good.earned in omega arith; within = few; alone = good.alone }

  -- ## Values

  -- an answer without a value
  pub no_value : value_in a ≡ None → (j : Word) (v : V) → answered j this ≡ Some v → IsLast (last_laid j (stay j h this)) (loader j) v
  no_value q j v e =
      let p = (cond_some (names j x) (value_in a) v e).1 in
      let z : ◌≡◌ {A = ℕ} 0 1 = cc in
      absurd (omega arith)

  -- an answer with one value, under the key of the call
  pub one_value : (k : Word) (u : V) → ((j : Word) → names j x ≡ same k j) → value_in a ≡ Some u → IsLast (last_laid k (stay k h this)) (loader k) u →
      (j : Word) (v : V) → answered j this ≡ Some v → IsLast (last_laid j (stay j h this)) (loader j) v
  one_value k u f q l j v e =
      let p = cond_some (names j x) (value_in a) v e in
      let d : u ≡ v = cc in
      let w : k ≡ j = same_true k j (sym (f j) ∙ p.0) in
      subst (λ (i : Word). IsLast (last_laid i (stay i h this)) (loader i) v) w (subst (λ (y : V). IsLast (last_laid k (stay k h this)) (loader k) y) d l)

  -- the value of a resident is the last one laid
  pub held : Sound c loader h s → (k : Word) (i : Item V) → look k s ≡ Some i → IsLast (last_laid k (stay k h this)) (loader k) i.value
  held good k i e =
      let P : Item V → Type 0 = λ y. ValueSays loader y.word y.value h in
      let all =
      All-append (λ r. P r.item) s.small s.main
      (All-weaker (InSmall c loader h) (λ r. P r.item) (λ r p. p.1) s.small good.smalls) (All-weaker (InMain c loader h) (λ r. P r.item) (λ r p. p.1) s.main good.mains) in
      let found = find_holds P k (s.small ++ s.main) i all e in
      let says : ValueSays loader k i.value h = subst (λ (j : Word). ValueSays loader j i.value h) (sym found.1) found.0 in
      subst (λ (b : Bool). IsLast (last_laid k (cond (not b && resident k (queues t)) [] (since_with (comes_in k) h))) (loader k) i.value) (sym (look_resident k s i e)) says

  -- ## A call about one key that reports nothing

  hits_few : (k : Word) → ((j : Word) → names j x ≡ same k j) → (xs : List (Resident (Item V))) → hits_in this xs ≤ occurs k (words xs)
  hits_few k f [] = omega arith
  hits_few k f (r ∷ rs) =
      let ih = hits_few k f rs in
      let q : cond (hits (word_of r) this) 1 0 ≤ once k (word_of r) = subst (λ (b : Bool). cond (b && is_use this) 1 0 ≤ once k (word_of r)) (sym (f (word_of r))) (go (same k (word_of r)) (is_use this)) in
      omega arith
    where
      go : (b u : Bool) → cond (b && u) 1 0 ≤ cond b 1 0
      go true true = omega arith
      go true false = omega arith
      go false u = omega arith

  hits_none : is_use this ≡ false → (xs : List (Resident (Item V))) → hits_in this xs ≡ 0
  hits_none q [] = refl
  hits_none q (r ∷ rs) =
      let ih = hits_none q rs in
      let z : ◌≡◌ {A = ℕ} (cond (hits (word_of r) this) 1 0) 0 = ap (λ (b : Bool). cond b 1 0) (and_right (names (word_of r) x) (is_use this) q) in
      omega arith

  hits_one : Sound c loader h s → (k : Word) → ((j : Word) → names j x ≡ same k j) → hits_in this s.small + hits_in this s.main ≤ cond (is_use this) 1 0
  hits_one good k f = go (is_use this) refl
    where
      go : (b : Bool) → is_use this ≡ b → hits_in this s.small + hits_in this s.main ≤ cond b 1 0
      go true q = let p = hits_few k f s.small in let r = hits_few k f s.main in let l = good.alone k in omega arith
      go false q = let p = hits_none q s.small in let r = hits_none q s.main in omega arith

  -- each resident stays as it is, but for a hit on the key and a value laid under it
  pub keyed :
      Sound c loader h s → (k : Word) → ((j : Word) → names j x ≡ same k j) → report_in a ≡ None → AllZip (Follow this) s.small t.small → AllZip (Follow this) s.main t.main →
      ((j : Word) → occurs j t.remembered ≤ occurs j s.remembered) → Calm s t this
  keyed good k f silent fs fm g = record { silent = silent; small_follows = fs; main_follows = fm; forgets_some = g; few = hits_one good k f }

  pub calm_arrives : Sound c loader h s → Calm s t this → (takes_out x ≡ false → t.remembered ≡ s.remembered) → Replacement c h this
  calm_arrives good calm still =
      let ws = words_each (Follow this) (λ r u f. f.0) s.small t.small calm.small_follows in
      let wm = words_each (Follow this) (λ r u f. f.0) s.main t.main calm.main_follows in
      no_gain good (λ j. let p = ap (occurs j) ws in omega arith) (λ j. let q = ap (occurs j) wm in omega arith)
      (λ e. let eg = still e in λ i. record { small = ws i; main = wm i; remembered = eg i })
