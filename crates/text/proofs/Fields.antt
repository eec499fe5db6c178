-- Cutting at a mark and stripping a label, by the parts of the text.
use Rattle.std.proofs.Common.{◌≡◌, ℕ, zero, suc, ◌+◌, ◌<◌, true, false, cond, eqb, List, [], ◌∷◌, ◌++◌, length, get_or, drop, Some, None, Option, sym, refl, ap, ◌∙◌, subst, arith, Bor, MatchOption}
use Rattle.std.proofs.lemmas.Bool.{eq-eqb, ne_eqb, eqb-true, eqb-false}
use Rattle.std.specs.Str.Pattern.{FindsTextPrefix, LacksTextAt}
use Rattle.std.specs.Option.{option_map}
use Rattle.text.specs.Field.{ahead, and_then, cut, field_text, parts, stripped}

-- a chain of steps that came to its end came through each step
pub then_some : {X Y : Type 0} (o : Option X) (f : X → Option Y) (y : Y) → and_then o f ≡ Some y → (x : X) × (o ≡ Some x) × (f x ≡ Some y)
then_some None f y e = cc
then_some (Some x) f y e = (x, refl, e)

pub mapped_some : {X Y : Type 0} (f : X → Y) (o : Option X) (y : Y) → option_map f o ≡ Some y → (x : X) × (o ≡ Some x) × (f x ≡ y)
mapped_some f None y e = cc
mapped_some f (Some x) y e = (x, refl, cc)

-- a text without c
abbrev pub Lacks : ℕ → List ℕ → Type 0
Lacks c bs = (i : ℕ) → i < length bs → get_or bs i 0 ≡ c → ⊥

pub lacks_rest : (c b : ℕ) (bs : List ℕ) → Lacks c (b ∷ bs) → Lacks c bs
lacks_rest c b bs h = λ i low e. h (suc i) (omega arith) e

pub lacks_more : (c b : ℕ) (bs : List ℕ) → (b ≡ c → ⊥) → Lacks c bs → Lacks c (b ∷ bs)
lacks_more c b bs other h zero low e = other e
lacks_more c b bs other h (suc i) low e = h i (omega arith) e

pub cut_none : (c : ℕ) (bs : List ℕ) → Lacks c bs → cut c bs ≡ None
cut_none c [] h = refl
cut_none c (b ∷ bs) h = rw (ne_eqb b c (λ e. h 0 (omega arith) e), cut_none c bs (lacks_rest c b bs h)) refl

pub cut_some : (c : ℕ) (xs ys : List ℕ) → Lacks c xs → cut c (xs ++ (c ∷ ys)) ≡ Some (xs, ys)
cut_some c [] ys h = rw (eq-eqb c c refl) refl
cut_some c (x ∷ xs) ys h = rw (ne_eqb x c (λ e. h 0 (omega arith) e), cut_some c xs ys (lacks_rest c x xs h)) refl

-- the clause of `split_once` at an ASCII character
pub cut_from_split : (c : ℕ) (bs : List ℕ) (r : Option (Bor (List ℕ) × Bor (List ℕ))) → MatchOption r (Lacks c bs) (λ x. (bs ≡ x.0.now ++ (c ∷ x.1.now)) × Lacks c x.0.now) → option_map parts r ≡ cut c bs
cut_from_split c bs None h = sym (cut_none c bs h)
cut_from_split c bs (Some x) h = sym (ap (cut c) h.0 ∙ cut_some c x.0.now x.1.now h.1)

-- a cut gives the parts back
cut_past : (c b : ℕ) (bs : List ℕ) (o : Option (List ℕ × List ℕ)) (xs ys : List ℕ) → (b ≡ c → ⊥) → ((us vs : List ℕ) → o ≡ Some (us, vs) → (bs ≡ us ++ (c ∷ vs)) × Lacks c us) → option_map (ahead b) o ≡ Some (xs, ys) → (b ∷ bs ≡ xs ++ (c ∷ ys)) × Lacks c xs
cut_past c b bs None xs ys other ih e = cc
cut_past c b bs (Some (us, vs)) xs ys other ih e =
    let h = ih us vs refl in
    let both : ◌≡◌ {A = List ℕ × List ℕ} (b ∷ us, vs) (xs, ys) = cc in
    let p : b ∷ us ≡ xs = ap (λ (t : List ℕ × List ℕ). t.0) both in
    let q : vs ≡ ys = ap (λ (t : List ℕ × List ℕ). t.1) both in
    (ap (λ l. b ∷ l) h.0 ∙ cc, subst (Lacks c) p (lacks_more c b us other h.1))

pub cut_is : (c : ℕ) (bs : List ℕ) (xs ys : List ℕ) → cut c bs ≡ Some (xs, ys) → (bs ≡ xs ++ (c ∷ ys)) × Lacks c xs
cut_is c [] xs ys e = cc
cut_is c (b ∷ bs) xs ys e =
    (elim (eqb b c) as (λ t. eqb b c ≡ t → ◌≡◌ {A = Option (List ℕ × List ℕ)} (cond t (Some ([], bs)) (option_map (ahead b) (cut c bs))) (Some (xs, ys)) → (b ∷ bs ≡ xs ++ (c ∷ ys)) × Lacks c xs) [
      | true ↦ λ p q. let same : b ≡ c = eqb-true b c p in let both : ◌≡◌ {A = List ℕ × List ℕ} ([], bs) (xs, ys) = cc in let l : [] ≡ xs = ap (λ (t : List ℕ × List ℕ). t.0) both in let r : bs ≡ ys = ap (λ (t : List ℕ × List ℕ). t.1) both in (rw (same, ← l, r) refl, subst (Lacks c) l (λ i low. absurd (omega arith)))
      | false ↦ λ p q. cut_past c b bs (cut c bs) xs ys (eqb-false b c p) (cut_is c bs) q
    ]) refl e

mapped_none : {X Y : Type 0} (f : X → Y) (o : Option X) → option_map f o ≡ None → o ≡ None
mapped_none f None e = refl
mapped_none f (Some x) e = cc

pub cut_lacks : (c : ℕ) (bs : List ℕ) → cut c bs ≡ None → Lacks c bs
cut_lacks c [] e = λ i low. absurd (omega arith)
cut_lacks c (b ∷ bs) e =
    (elim (eqb b c) as (λ t. eqb b c ≡ t → ◌≡◌ {A = Option (List ℕ × List ℕ)} (cond t (Some ([], bs)) (option_map (ahead b) (cut c bs))) None → Lacks c (b ∷ bs)) [
      | true ↦ λ p q. cc
      | false ↦ λ p q. lacks_more c b bs (eqb-false b c p) (cut_lacks c bs (mapped_none (ahead b) (cut c bs) q))
    ]) refl e

pub stripped_prefix : (label rest : List ℕ) → stripped label (label ++ rest) ≡ Some rest
stripped_prefix [] rest = refl
stripped_prefix (l ∷ ls) rest = rw (eq-eqb l l refl) (stripped_prefix ls rest)

pub stripped_is : (label bs rest : List ℕ) → stripped label bs ≡ Some rest → bs ≡ label ++ rest
stripped_is [] bs rest e = let p : bs ≡ rest = cc in p
stripped_is (l ∷ ls) [] rest e = cc
stripped_is (l ∷ ls) (b ∷ bs) rest e =
    (elim (eqb l b) as (λ t. eqb l b ≡ t → cond t (stripped ls bs) None ≡ Some rest → b ∷ bs ≡ l ∷ (ls ++ rest)) [
      | true ↦ λ p q. let same : l ≡ b = eqb-true l b p in let ih = stripped_is ls bs rest q in cc
      | false ↦ λ p q. cc
    ]) refl e

stripped_none : (label bs : List ℕ) (o : Option (List ℕ)) → LacksTextAt label bs 0 → stripped label bs ≡ o → None ≡ o
stripped_none label bs None h e = refl
stripped_none label bs (Some rest) h e = absurd (h rest (stripped_is label bs rest e))

-- the clause of `strip_prefix` at a text
pub stripped_from_begins : (label bs : List ℕ) (r : Option (Bor (List ℕ))) → MatchOption r (FindsTextPrefix label bs None) (λ x. (n : ℕ) × FindsTextPrefix label bs (Some n) × (x.now ≡ drop n bs) × (length x.now + n ≡ length bs)) → option_map (λ x. x.now) r ≡ stripped label bs
stripped_from_begins label bs None h = stripped_none label bs (stripped label bs) h refl
stripped_from_begins label bs (Some x) (n, (k, is, at), rest, len) = let e : bs ≡ label ++ x.now = cc in sym (ap (stripped label) e ∙ stripped_prefix label x.now)

-- a field gives its label, its text and what follows it back
pub field_is : (label bs xs ys : List ℕ) → field_text label bs ≡ Some (xs, ys) → bs ≡ label ++ (xs ++ (32 ∷ ys))
field_is label bs xs ys e =
    let rest = then_some (stripped label bs) (λ rest. cut 32 rest) (xs, ys) e in
    stripped_is label bs rest.0 rest.1 ∙ ap (λ l. label ++ l) (cut_is 32 rest.0 xs ys rest.2).0

pub field_some : (label xs ys : List ℕ) → Lacks 32 xs → field_text label (label ++ (xs ++ (32 ∷ ys))) ≡ Some (xs, ys)
field_some label xs ys h = rw (stripped_prefix label (xs ++ (32 ∷ ys))) (cut_some 32 xs ys h)
