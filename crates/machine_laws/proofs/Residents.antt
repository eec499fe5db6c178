-- Lists of residents: their keys, what holds of each, what a search finds in them.
use Rattle.std.proofs.Common.{◌≡◌, ℕ, suc, ◌+◌, ◌≤◌, Bool, true, false, cond, ◌||◌, List, [], ◌∷◌, ◌++◌, map, length, Some, None, filter, Option, refl, ap, subst, arith}
use Rattle.std.specs.List.{AllZip, AllByRecursion}
use Rattle.std.proofs.ByRecursion.{All-weaker}
use Rattle.std.proofs.lemmas.Bool.{or_right, or_parts}
use Rattle.machine.specs.Replacement.{Resident, Ended, ended, before, is_used}
use Rattle.machine.specs.Machine.{Word, Item, same, has, find}
use Rattle.machine.specs.Run.{word_of}
use Rattle.machine_laws.specs.Words.{once, occurs}
use Rattle.machine_laws.proofs.Keys.{same_self, same_true}

-- ## What holds of each

pub all_both : {X : Type 0} (P Q : X → Type 0) (xs : List X) → AllByRecursion P xs → AllByRecursion Q xs → AllByRecursion (λ x. P x × Q x) xs
all_both P Q [] p q = tt
all_both P Q (x ∷ xs) p q = ((p.0, q.0), all_both P Q xs p.1 q.1)

-- in a list that is cut in two, what holds of each holds of each half
pub all_left : {X : Type 0} (P : X → Type 0) (xs ys : List X) → AllByRecursion P (xs ++ ys) → AllByRecursion P xs
all_left P [] ys p = tt
all_left P (x ∷ xs) ys p = (p.0, all_left P xs ys p.1)

pub all_right : {X : Type 0} (P : X → Type 0) (xs ys : List X) → AllByRecursion P (xs ++ ys) → AllByRecursion P ys
all_right P [] ys p = p
all_right P (x ∷ xs) ys p = all_right P xs ys p.1

-- one list follows another place by place, so that what holds of each in one holds of each in the other
pub all_follow : {X : Type 0} (P Q : X → Type 0) (R : X → X → Type 0) → ((x y : X) → P x → R x y → Q y) → (xs ys : List X) → AllByRecursion P xs → AllZip R xs ys → AllByRecursion Q ys
all_follow P Q R f [] [] p r = tt
all_follow P Q R f [] (y ∷ ys) p r = elim r [ ]
all_follow P Q R f (x ∷ xs) [] p r = elim r [ ]
all_follow P Q R f (x ∷ xs) (y ∷ ys) p r = (f x y p.0 r.0, all_follow P Q R f xs ys p.1 r.1)

pub each_map : {X : Type 0} (R : X → X → Type 0) (f : X → X) → ((x : X) → R x (f x)) → (xs : List X) → AllZip R xs (map f xs)
each_map R f r [] = tt
each_map R f r (x ∷ xs) = (r x, each_map R f r xs)

pub each_self : {X : Type 0} (R : X → X → Type 0) → ((x : X) → R x x) → (xs : List X) → AllZip R xs xs
each_self R r [] = tt
each_self R r (x ∷ xs) = (r x, each_self R r xs)

-- ## Keys

module _ {V : Type 0} where
  abbrev pub words : List (Resident (Item V)) → List Word
  words xs = map word_of xs

  pub words_append : (xs ys : List (Resident (Item V))) → words (xs ++ ys) ≡ words xs ++ words ys
  words_append [] ys = refl
  words_append (x ∷ xs) ys = ap (λ l. word_of x ∷ l) (words_append xs ys)

  pub words_length : (xs : List (Resident (Item V))) → length (words xs) ≡ length xs
  words_length [] = refl
  words_length (x ∷ xs) = ap suc (words_length xs)

  pub words_map : (f : Resident (Item V) → Resident (Item V)) → ((r : Resident (Item V)) → word_of (f r) ≡ word_of r) → (xs : List (Resident (Item V))) → words (map f xs) ≡ words xs
  words_map f e [] = refl
  words_map f e (x ∷ xs) = let p = e x in let q = words_map f e xs in cc

  pub words_each : (R : Resident (Item V) → Resident (Item V) → Type 0) → ((x y : Resident (Item V)) → R x y → word_of y ≡ word_of x) → (xs ys : List (Resident (Item V))) → AllZip R xs ys → words ys ≡ words xs
  words_each R f [] [] r = refl
  words_each R f [] (y ∷ ys) r = elim r [ ]
  words_each R f (x ∷ xs) [] r = elim r [ ]
  words_each R f (x ∷ xs) (y ∷ ys) r = let p = f x y r.0 in let q = words_each R f xs ys r.1 in cc

  -- each stands in the list where it stands
  pub all_in : (xs : List (Resident (Item V))) → AllByRecursion (λ r. has (word_of r) (words xs) ≡ true) xs
  all_in [] = tt
  all_in (x ∷ xs) = (
    rw (same_self (word_of x)) refl,
    All-weaker (λ r. has (word_of r) (words xs) ≡ true) (λ r. (same (word_of r) (word_of x) || has (word_of r) (words xs)) ≡ true)
        (λ r e. or_right (same (word_of r) (word_of x)) (has (word_of r) (words xs)) e) xs (all_in xs),
  )

  -- a key that is not in the list is the key of none in it
  pub all_other : (k : Word) (xs : List (Resident (Item V))) → has k (words xs) ≡ false → AllByRecursion (λ r. same k (word_of r) ≡ false) xs
  all_other k [] e = tt
  all_other k (x ∷ xs) e = let p = or_parts (same k (word_of x)) (has k (words xs)) e in (p.0, all_other k xs p.1)

  pub occurs_kept_words : (k : Word) (p : Resident (Item V) → Bool) (xs : List (Resident (Item V))) → occurs k (words (filter p xs)) ≤ occurs k (words xs)
  occurs_kept_words k p [] = omega arith
  occurs_kept_words k p (x ∷ xs) = go (p x) (occurs_kept_words k p xs)
    where
      go : (b : Bool) → occurs k (words (filter p xs)) ≤ occurs k (words xs) → occurs k (words (cond b (x ∷ filter p xs) (filter p xs))) ≤ once k (word_of x) + occurs k (words xs)
      go true ih = omega arith
      go false ih = omega arith

  pub length_kept : (p : Resident (Item V) → Bool) (xs : List (Resident (Item V))) → length (filter p xs) ≤ length xs
  length_kept p [] = omega arith
  length_kept p (x ∷ xs) = go (p x) (length_kept p xs)
    where
      go : (b : Bool) → length (filter p xs) ≤ length xs → length (cond b (x ∷ filter p xs) (filter p xs)) ≤ suc (length xs)
      go true ih = omega arith
      go false ih = omega arith

  -- how many marks are used
  abbrev pub used_in : List (Resident (Item V)) → ℕ
  used_in [] = 0
  used_in (r ∷ rs) = cond (is_used r.mark) 1 0 + used_in rs

  pub used_append : (xs ys : List (Resident (Item V))) → used_in (xs ++ ys) ≡ used_in xs + used_in ys
  used_append [] ys = omega arith
  used_append (x ∷ xs) ys = let ih = used_append xs ys in omega arith

  pub used_kept : (p : Resident (Item V) → Bool) (xs : List (Resident (Item V))) → used_in (filter p xs) ≤ used_in xs
  used_kept p [] = omega arith
  used_kept p (x ∷ xs) = go (p x) (used_kept p xs)
    where
      go : (b : Bool) → used_in (filter p xs) ≤ used_in xs → used_in (cond b (x ∷ filter p xs) (filter p xs)) ≤ cond (is_used x.mark) 1 0 + used_in xs
      go true ih = omega arith
      go false ih = omega arith

  -- ## What a search finds

  pub find_none : (k : Word) (xs : List (Resident (Item V))) → find k xs ≡ None → has k (words xs) ≡ false
  find_none k [] e = refl
  find_none k (x ∷ xs) e = go (same k (word_of x)) e (find_none k xs)
    where
      go : (b : Bool) → cond b (Some x.item) (find k xs) ≡ None → (find k xs ≡ None → has k (words xs) ≡ false) → (b || has k (words xs)) ≡ false
      go true f ih = let z : ◌≡◌ {A = ℕ} 0 1 = cc in absurd (omega arith)
      go false f ih = ih f

  pub find_has : (k : Word) (xs : List (Resident (Item V))) (i : Item V) → find k xs ≡ Some i → has k (words xs) ≡ true
  find_has k [] i e = let z : ◌≡◌ {A = ℕ} 0 1 = cc in absurd (omega arith)
  find_has k (x ∷ xs) i e = go (same k (word_of x)) e (find_has k xs i)
    where
      go : (b : Bool) → cond b (Some x.item) (find k xs) ≡ Some i → (find k xs ≡ Some i → has k (words xs) ≡ true) → (b || has k (words xs)) ≡ true
      go true f ih = refl
      go false f ih = ih f

  -- what holds of what each resident carries holds of what is found, and that has the key
  pub find_holds : (P : Item V → Type 0) (k : Word) (xs : List (Resident (Item V))) (i : Item V) → AllByRecursion (λ r. P r.item) xs → find k xs ≡ Some i → P i × (k ≡ i.word)
  find_holds P k [] i p e = let z : ◌≡◌ {A = ℕ} 0 1 = cc in absurd (omega arith)
  find_holds P k (x ∷ xs) i p e = go (same k (word_of x)) refl e (find_holds P k xs i p.1)
    where
      go : (b : Bool) → same k (word_of x) ≡ b → cond b (Some x.item) (find k xs) ≡ Some i → (find k xs ≡ Some i → P i × (k ≡ i.word)) → P i × (k ≡ i.word)
      go true t f ih = let q : x.item ≡ i = cc in subst (λ (j : Item V). P j × (k ≡ j.word)) q (p.0, same_true k (word_of x) t)
      go false t f ih = ih f

-- ## A list's last

pub ended_none : {A : Type 0} (xs : List A) → ended xs ≡ None → xs ≡ []
ended_none [] n = refl
ended_none (x ∷ xs) n = let z : ◌≡◌ {A = ℕ} 0 1 = cc in absurd (omega arith)

pub ended_some : {A : Type 0} (xs : List A) (e : Ended A) → ended xs ≡ Some e → xs ≡ e.front ++ e.tail ∷ []
ended_some [] e q = let z : ◌≡◌ {A = ℕ} 0 1 = cc in absurd (omega arith)
ended_some {A} (x ∷ xs) e q = go (ended xs) refl q (λ d. ended_some xs d)
  where
    go : (o : Option (Ended A)) → ended xs ≡ o → Some (before x o) ≡ Some e → ((d : Ended A) → ended xs ≡ Some d → xs ≡ d.front ++ d.tail ∷ []) → x ∷ xs ≡ e.front ++ e.tail ∷ []
    go None f g ih = let p : before x None ≡ e = cc in subst (λ (d : Ended A). x ∷ xs ≡ d.front ++ d.tail ∷ []) p (ap (λ l. x ∷ l) (ended_none xs f))
    go (Some d) f g ih =
        let p : before x (Some d) ≡ e = cc in
        subst (λ (t : Ended A). x ∷ xs ≡ t.front ++ t.tail ∷ []) p (ap (λ l. x ∷ l) (ih d f))
