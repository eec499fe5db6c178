-- An index tied to places: what a search finds, and one place more or less.
use Rattle.std.proofs.Common.{◌≡◌, ℕ, suc, ◌+◌, ◌%◌, ◌<◌, ◌≤◌, Bool, true, false, cond, ◌&&◌, eqb, List, ◌∷◌, Some, None, Ok, Err, Option, Result, sym, refl, ap, ◌∙◌, inl, inr, arith, eq-eqb}
use Rattle.std.proofs.lemmas.Bool.Decides.{eqb_tells, leb_tells}
use Rattle.handles.specs.Slots.{fingerprint}
use Rattle.handles.specs.Seek.{first_by}
use Rattle.handles.specs.declared.refusal.TableRefusal.{TableRefusal}
use Rattle.handles.specs.declared.refusal.TableRefusal.TheVariants.{Full}
use Rattle.handles.proofs.Meaning.{alike_decides}
use Rattle.handle_laws.specs.Runs.{how_many, same_spot}
use Rattle.handle_laws.proofs.Laws.{some_when}
use Rattle.index.specs.declared.index.KeyIndex.{KeyIndex}
use Rattle.index.specs.Filed.{is_key, bears, filed, size, once, Gains, Files, Unfiles, Found}
use Rattle.index.specs.Ties.{occurs, under, Ties, TiesNone, TiesIn, TiesOut}
use Rattle.index.proofs.Firsts.{first_absent, first_only, counts_one, not_both}

-- a hash has its own home and fingerprint
pub own_spot : (hash : ℕ) → same_spot 1024 hash hash ≡ true
own_spot hash =
    ap (λ b. b && eqb (fingerprint hash) (fingerprint hash)) (eq-eqb (hash % 1024) (hash % 1024) refl)
    ∙ eq-eqb (fingerprint hash) (fingerprint hash) refl

pub key_is : (word : List ℕ) (o : Option (List ℕ)) → is_key word o ≡ true → o ≡ Some word
key_is word None e = absurd (cc)
key_is word (Some other) e = ap (λ w. Some w) (sym ((alike_decides word other).0 e))

cond_least : (b : Bool) (n : ℕ) → 0 < cond b n 0 → 0 < n
cond_least true n h = h
cond_least false n h = absurd (omega arith)

none_either : (b : Bool) → ◌≡◌ {A = ℕ} 0 (cond b 0 0)
none_either true = refl
none_either false = refl

pub tied_none : (i : KeyIndex) → size i ≡ 0 → ((hash p : ℕ) → filed i hash p ≡ 0) → TiesNone i
tied_none i none nowhere = λ hashed lying.
    record {
      whole = none;
      counts = λ hash p. nowhere hash p ∙ none_either (under hashed (lying p) hash);
      apart = λ word. omega arith;
    }

module _ (hashed : List ℕ → ℕ) (lying : ℕ → Option (List ℕ)) where
  -- under its own key's hash a place counts as often as it stands in the list
  pub own_count : (ps : List ℕ) (i : KeyIndex) (hash p : ℕ) (word : List ℕ) → Ties hashed lying ps i → lying p ≡ Some word → hash ≡ hashed word → filed i hash p ≡ occurs p ps
  own_count ps i hash p word t lies h =
      t.counts hash p
      ∙ ap (λ o. cond (under hashed o hash) (occurs p ps) 0) lies
      ∙ ap (λ (k : ℕ). cond (same_spot 1024 (hashed word) k) (occurs p ps) 0) h
      ∙ ap (λ b. cond b (occurs p ps) 0) (own_spot (hashed word))

  -- a search under the key's hash answers the place that bears the key
  pub found_tied : (ps : List ℕ) (i : KeyIndex) (hash : ℕ) (word : List ℕ) (r : Option ℕ) → Found i lying word hash r → Ties hashed lying ps i → hash ≡ hashed word → r ≡ first_by (bears lying word) ps
  found_tied ps i hash word None f t h =
      first_absent (bears lying word) ps (λ p b. sym (own_count ps i hash p word t (key_is word (lying p) b) h) ∙ f p b)
  found_tied ps i hash word (Some p) f t h =
      let c = own_count ps i hash p word t (key_is word (lying p) f.0) h in
      let some = f.1 in
      first_only (bears lying word) ps p f.0 (omega arith) (t.apart word)

  -- the count of each place with one place more
  one_more : (hash place h p : ℕ) (word : List ℕ) (ps : List ℕ) → lying place ≡ Some word → hash ≡ hashed word → cond (under hashed (lying p) h) (occurs p (place ∷ ps)) 0 ≡ cond (under hashed (lying p) h) (occurs p ps) 0 + once hash place h p
  one_more hash place h p word ps lies is =
      elim (eqb_tells p place) [
        | inl s ↦
            (let here : under hashed (lying p) h ≡ same_spot 1024 hash h =
            ap (λ (k : ℕ). under hashed (lying k) h) s.1 ∙ ap (λ o. under hashed o h) lies ∙ ap (λ (k : ℕ). same_spot 1024 k h) (sym is) in
            let o = counts_one (eqb p place) s.0 in
            let back : eqb place p ≡ true = eq-eqb place p (sym s.1) in
            same_case (under hashed (lying p) h) (same_spot 1024 hash h) (eqb p place) (eqb place p) (occurs p ps) here s.0 back)
        | inr s ↦
            (let back : eqb place p ≡ false = (elim (eqb_tells place p) [ inl q ↦ absurd (s.1 (sym q.1)) | inr q ↦ q.0 ]) in
            other_case (under hashed (lying p) h) (same_spot 1024 hash h) (eqb p place) (eqb place p) (occurs p ps) s.0 back)
      ]
    where
      same_case : (a b c d : Bool) (n : ℕ) → a ≡ b → c ≡ true → d ≡ true → ◌≡◌ {A = ℕ} (cond a (cond c 1 0 + n) 0) (cond a n 0 + cond (b && d) 1 0)
      same_case true true true true n e f g = omega arith
      same_case false false true true n e f g = refl
      same_case true false c d n e f g = absurd (not_both true refl e)
      same_case false true c d n e f g = absurd (not_both true refl (sym e))
      same_case true true false d n e f g = absurd (not_both false f refl)
      same_case true true true false n e f g = absurd (not_both false g refl)
      same_case false false false d n e f g = absurd (not_both false f refl)
      same_case false false true false n e f g = absurd (not_both false g refl)

      other_case : (a b c d : Bool) (n : ℕ) → c ≡ false → d ≡ false → ◌≡◌ {A = ℕ} (cond a (cond c 1 0 + n) 0) (cond a n 0 + cond (b && d) 1 0)
      other_case true true false false n e f = omega arith
      other_case true false false false n e f = omega arith
      other_case false true false false n e f = refl
      other_case false false false false n e f = refl
      other_case a b true d n e f = absurd (not_both true refl e)
      other_case a b false true n e f = absurd (not_both true refl f)

  apart_more : (place : ℕ) (word : List ℕ) (ps : List ℕ) → lying place ≡ Some word → how_many (bears lying word) ps ≡ 0 → ((w : List ℕ) → how_many (bears lying w) ps ≤ 1) → (w : List ℕ) → how_many (bears lying w) (place ∷ ps) ≤ 1
  apart_more place word ps lies none apart w =
      (elim (bears lying w place) as (λ b. bears lying w place ≡ b → cond b 1 0 + how_many (bears lying w) ps ≤ 1) [
        | true ↦ λ e.
            (let is : word ≡ w = (let q : Some word ≡ Some w = sym lies ∙ key_is w (lying place) e in cc) in
            let z : how_many (bears lying w) ps ≡ 0 = ap (λ k. how_many (bears lying k) ps) (sym is) ∙ none in
            omega arith)
        | false ↦ λ e. (let z = apart w in omega arith)
      ]) refl

  pub tie_in : (ps : List ℕ) (i j : KeyIndex) (hash place : ℕ) (word : List ℕ) → Gains i j hash place → Ties hashed lying ps i → lying place ≡ Some word → hash ≡ hashed word → how_many (bears lying word) ps ≡ 0 → Ties hashed lying (place ∷ ps) j
  tie_in ps i j hash place word g t lies is none =
      record {
        whole = (let a = g.larger in let b = t.whole in omega arith);
        counts = λ h p. g.counts h p ∙ ap (λ (k : ℕ). k + once hash place h p) (t.counts h p) ∙ sym (one_more hash place h p word ps lies is);
        apart = apart_more place word ps lies none t.apart;
      }

  pub tie_out : (ps : List ℕ) (i j : KeyIndex) (hash place : ℕ) (word : List ℕ) → Gains j i hash place → Ties hashed lying (place ∷ ps) i → lying place ≡ Some word → hash ≡ hashed word → Ties hashed lying ps j
  tie_out ps i j hash place word g t lies is =
      record {
        whole = (let a = g.larger in let b = t.whole in omega arith);
        counts = λ h p. (let a = g.counts h p in let b = t.counts h p in let c = one_more hash place h p word ps lies is in omega arith);
        apart = λ w. (let a = t.apart w in omega arith);
      }

-- filing and unfiling, where the index is tied

pub files_ties : (i j : KeyIndex) (hash place : ℕ) (r : Result (Unit {0}) TableRefusal) → Files i hash place r j → TiesIn i hash place r j
files_ties i j hash place r f = λ hashed lying ps word t lies is none few.
    let w = t.whole in
    let free : size i < 768 = omega arith in (
      f.answer ∙ (elim (leb_tells (suc (size i)) 768) [ inl s ↦ ap (λ b. cond b (Ok tt) (Err (Full 768))) s.0 | inr s ↦ absurd (omega (arith, s.1)) ]),
      tie_in hashed lying ps i j hash place word (f.gains free) t lies is none,
    )

pub unfiles_ties : (i j : KeyIndex) (hash place : ℕ) (r : Bool) → Unfiles i hash place r j → TiesOut i hash place r j
unfiles_ties i j hash place r u = λ hashed lying ps word t lies is.
    let c = own_count hashed lying (place ∷ ps) i hash place word t lies is in
    let o = counts_one (eqb place place) (eq-eqb place place refl) in
    let yes : r ≡ true = u.answer ∙ some_when (filed i hash place) (omega arith) in
    (yes, tie_out hashed lying ps i j hash place word (u.loses yes) t lies is)
