-- What keeps an index tied without a call on it: the places named in another order, and keys laid in other places.
use Rattle.std.proofs.Common.{◌≡◌, ℕ, zero, suc, ◌+◌, ◌<◌, Bool, true, false, cond, not, eqb, ◌⊎◌, List, [], ◌∷◌, ◌++◌, length, filter, Option, sym, refl, ap, ◌∙◌, inl, inr, arith, eq-eqb}
use Rattle.std.proofs.lemmas.Bool.Decides.{eqb_tells}
use Rattle.handle_laws.specs.Runs.{how_many}
use Rattle.handle_laws.proofs.Counting.{how_many_append}
use Rattle.index.specs.declared.index.KeyIndex.{KeyIndex}
use Rattle.index.specs.Filed.{is_key, bears}
use Rattle.index.specs.Ties.{occurs, under, Ties}
use Rattle.index.proofs.Firsts.{counts_one, not_both}

-- two lists with the same numbers, each as often
abbrev pub Alike : List ℕ → List ℕ → Type 0
Alike ps qs = (p : ℕ) → occurs p ps ≡ occurs p qs

pub counts_none : (b : Bool) → b ≡ false → ◌≡◌ {A = ℕ} (cond b 1 0) 0
counts_none b f = ap (λ z. cond z 1 0) f

-- the list before and after the first place of a number that stands there
pub record Split (p : ℕ) (ps : List ℕ) : Type 0 where
  pub front : List ℕ
  pub back : List ℕ
  pub whole : ps ≡ front ++ p ∷ back

pub split : (p : ℕ) (ps : List ℕ) → 0 < occurs p ps → Split p ps
split p [] some = absurd (omega arith)
split p (x ∷ xs) some =
    elim (eqb_tells p x) [
      | inl s ↦ record { front = []; back = xs; whole = ap (λ (k : ℕ). k ∷ xs) (sym s.1) }
      | inr s ↦
          (let z = counts_none (eqb p x) s.0 in
          let ih = split p xs (omega arith) in
          record { front = x ∷ ih.front; back = ih.back; whole = ap (λ (zs : List ℕ). x ∷ zs) ih.whole })
    ]

-- a count over a list with p in it is a count over the list without that p, and p's own
pub count_split : (f : ℕ → Bool) (front back : List ℕ) (p : ℕ) → how_many f (front ++ p ∷ back) ≡ cond (f p) 1 0 + how_many f (front ++ back)
count_split f front back p =
    let a = how_many_append f front (p ∷ back) in
    let b = how_many_append f front back in
    omega arith

length_split : (front back : List ℕ) (p : ℕ) → length (front ++ p ∷ back) ≡ suc (length (front ++ back))
length_split [] back p = refl
length_split (x ∷ front) back p = ap suc (length_split front back p)

none_alike : (qs : List ℕ) → Alike [] qs → qs ≡ []
none_alike [] a = refl
none_alike (q ∷ qs) a = absurd (let e = a q in let o = counts_one (eqb q q) (eq-eqb q q refl) in omega arith)

-- the rest of two such lists once a number is taken from each
rest_alike : (p : ℕ) (ps qs : List ℕ) → Alike (p ∷ ps) qs → (s : Split p qs) → Alike ps (s.front ++ s.back)
rest_alike p ps qs a s = λ k.
    let e = a k in
    let c : occurs k qs ≡ occurs k (s.front ++ p ∷ s.back) = ap (occurs k) s.whole in
    let d = count_split (eqb k) s.front s.back p in
    omega arith

here : (p : ℕ) (ps qs : List ℕ) → Alike (p ∷ ps) qs → 0 < occurs p qs
here p ps qs a = let e = a p in let o = counts_one (eqb p p) (eq-eqb p p refl) in omega arith

pub alike_length : (ps qs : List ℕ) → Alike ps qs → length ps ≡ length qs
alike_length [] qs a = ap length (sym (none_alike qs a))
alike_length (p ∷ ps) qs a =
    let s = split p qs (here p ps qs a) in
    let ih = alike_length ps (s.front ++ s.back) (rest_alike p ps qs a s) in
    let c = ap length s.whole ∙ length_split s.front s.back p in
    omega arith

pub alike_count : (f : ℕ → Bool) (ps qs : List ℕ) → Alike ps qs → how_many f ps ≡ how_many f qs
alike_count f [] qs a = ap (how_many f) (sym (none_alike qs a))
alike_count f (p ∷ ps) qs a =
    let s = split p qs (here p ps qs a) in
    let ih = alike_count f ps (s.front ++ s.back) (rest_alike p ps qs a s) in
    let c = ap (how_many f) s.whole ∙ count_split f s.front s.back p in
    omega arith

-- a list with p once is p and the list without p
pub alike_kept : (p : ℕ) (ps : List ℕ) → occurs p ps ≡ 1 → Alike ps (p ∷ filter (λ q. not (eqb q p)) ps)
alike_kept p ps one = λ k. go k (eqb_tells k p)
  where
    keeps : (k x : ℕ) (xs : List ℕ) → (k ≡ p → ⊥) → (b : Bool) → eqb x p ≡ b → occurs k (cond (not b) (x ∷ filter (λ q. not (eqb q p)) xs) (filter (λ q. not (eqb q p)) xs)) ≡ cond (eqb k x) 1 0 + occurs k (filter (λ q. not (eqb q p)) xs)
    keeps k x xs ne true e =
        elim (eqb_tells k x) [
          | inl s ↦ absurd (ne (s.1 ∙ elim (eqb_tells x p) [ inl t ↦ t.1 | inr t ↦ absurd (not_both (eqb x p) e t.0) ]))
          | inr s ↦ (let z = counts_none (eqb k x) s.0 in omega arith)
        ]
    keeps k x xs ne false e = refl

    others : (k : ℕ) (xs : List ℕ) → (k ≡ p → ⊥) → occurs k (filter (λ q. not (eqb q p)) xs) ≡ occurs k xs
    others k [] ne = refl
    others k (x ∷ xs) ne = let ih = others k xs ne in let s = keeps k x xs ne (eqb x p) refl in omega arith

    gone : (xs : List ℕ) → occurs p (filter (λ q. not (eqb q p)) xs) ≡ 0
    gone [] = refl
    gone (x ∷ xs) =
        (elim (eqb x p) as (λ b. eqb x p ≡ b → occurs p (cond (not b) (x ∷ filter (λ q. not (eqb q p)) xs) (filter (λ q. not (eqb q p)) xs)) ≡ 0) [
          | true ↦ λ e. gone xs
          | false ↦ λ e.
              (let ih = gone xs in
              let z : eqb p x ≡ false = (elim (eqb_tells p x) [ inl s ↦ absurd (not_both (eqb x p) (eq-eqb x p (sym s.1)) e) | inr s ↦ s.0 ]) in
              let n = counts_none (eqb p x) z in
              omega arith)
        ]) refl

    go : (k : ℕ) → ((eqb k p ≡ true) × (k ≡ p)) ⊎ ((eqb k p ≡ false) × (k ≡ p → ⊥)) → occurs k ps ≡ occurs k (p ∷ filter (λ q. not (eqb q p)) ps)
    go k (inl s) =
        let o = counts_one (eqb k p) s.0 in
        let a = ap (λ (j : ℕ). occurs j ps) s.1 in
        let b = ap (λ (j : ℕ). occurs j (filter (λ q. not (eqb q p)) ps)) s.1 in
        let c = gone ps in
        omega arith
    go k (inr s) =
        let z = counts_none (eqb k p) s.0 in
        let a = others k ps s.1 in
        omega arith

-- tests that agree on what stands in a list count alike
pub same_count : (f g : ℕ → Bool) (ps : List ℕ) → ((p : ℕ) → 0 < occurs p ps → f p ≡ g p) → how_many f ps ≡ how_many g ps
same_count f g [] same = refl
same_count f g (x ∷ xs) same =
    let o = counts_one (eqb x x) (eq-eqb x x refl) in
    let e : ◌≡◌ {A = ℕ} (cond (f x) 1 0) (cond (g x) 1 0) = ap (λ b. cond b 1 0) (same x (omega arith)) in
    let ih = same_count f g xs (λ p some. same p (omega arith)) in
    omega arith

module _ (hashed : List ℕ → ℕ) where
  -- the order of the places does not matter
  pub ties_alike : (lying : ℕ → Option (List ℕ)) (ps qs : List ℕ) (i : KeyIndex) → Alike ps qs → Ties hashed lying ps i → Ties hashed lying qs i
  ties_alike lying ps qs i a t =
      record {
        whole = t.whole ∙ alike_length ps qs a;
        counts = λ hash p. t.counts hash p ∙ ap (λ (n : ℕ). cond (under hashed (lying p) hash) n 0) (a p);
        apart = λ word. (let b = t.apart word in let c = alike_count (bears lying word) ps qs a in omega arith);
      }

  counted_where : (b c : Bool) (n : ℕ) → (0 < n → b ≡ c) → cond b n 0 ≡ cond c n 0
  counted_where true true n e = refl
  counted_where false false n e = refl
  counted_where true false zero e = refl
  counted_where true false (suc n) e = absurd (not_both true refl (e (omega arith)))
  counted_where false true zero e = refl
  counted_where false true (suc n) e = absurd (not_both false (e (omega arith)) refl)

  -- keys laid in other places do not matter
  pub ties_laid : (lying laid : ℕ → Option (List ℕ)) (ps : List ℕ) (i : KeyIndex) → ((p : ℕ) → 0 < occurs p ps → laid p ≡ lying p) → Ties hashed lying ps i → Ties hashed laid ps i
  ties_laid lying laid ps i same t =
      record {
        whole = t.whole;
        counts = λ hash p.
            t.counts hash p
            ∙ counted_where (under hashed (lying p) hash) (under hashed (laid p) hash) (occurs p ps) (λ some. ap (λ o. under hashed o hash) (sym (same p some)));
        apart = λ word.
            (let a = t.apart word in
            let b = same_count (bears laid word) (bears lying word) ps (λ p some. ap (is_key word) (same p some)) in
            omega arith);
      }
