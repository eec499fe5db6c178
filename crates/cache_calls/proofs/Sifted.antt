-- A retain place by place: what is flagged, unfiled and asked once the places below n are sifted.
use Rattle.std.proofs.Common.{◌≡◌, ℕ, zero, suc, ◌+◌, ◌<◌, ◌≤◌, Bool, true, false, cond, not, ◌&&◌, eqb, ltb, List, [], ◌∷◌, length, get_or, set, replicate, filter, Option, sym, refl, ap, ◌∙◌, subst, inl, inr, le_of_suc-le-suc, arith, length-set, get_or-set_other, get_or-set_same}
use Rattle.std.proofs.lemmas.Bool.{cases_eq, eq-eqb, ne_eqb, lt-ltb, le-ltb, ltb-true, ltb-false}
use Rattle.queues.specs.Held.{resides}
use Rattle.policy.specs.declared.policy.Policy.{Policy}
use Rattle.policy.specs.View.{view, flagged}
use Rattle.machine.specs.Replacement.{Parts}
use Rattle.index.specs.declared.index.KeyIndex.{KeyIndex}
use Rattle.index.specs.Ties.{occurs, Ties}
use Rattle.index.proofs.Joined.{Alike, counts_none, ties_alike}
use Rattle.records.specs.declared.column.Column.TheVariants.{Resident as of_resident}
use Rattle.records.specs.declared.record.Record.{Record}
use Rattle.records.specs.Columns.{word_at}
use Rattle.cache_core.specs.declared.inner.Inner.{Inner}
use Rattle.cache_core.specs.View.{places}
use Rattle.cache_core.specs.Tied.{Within}
use Rattle.cache_core.specs.Filing.{OnlyResidents}
use Rattle.cache_core.proofs.Standing.{orderly, place_within}
use Rattle.cache_calls.specs.Retain.{refused, asked_of, dropped, asked_at, Sifts}
use Rattle.cache_calls.proofs.Finds.{bears_first, resides_count}

-- ## One record

module _ {K V : Type 0} (mean : K → List ℕ) where
  pub refused_past : (keeps : List ℕ → V → Bool) (rs : List (Record K V)) (p : ℕ) → length rs ≤ p → false ≡ refused mean keeps rs p
  refused_past keeps [] p h = refl
  refused_past keeps (r ∷ rs) zero h = absurd (omega arith)
  refused_past keeps (r ∷ rs) (suc p) h = refused_past keeps rs p (le_of_suc-le-suc h)

  refused_read : (keeps : List ℕ → V → Bool) (rs : List (Record K V)) (p : ℕ) (x : Record K V) → p < length rs → not (keeps (mean (get_or rs p x).key) (get_or rs p x).value) ≡ refused mean keeps rs p
  refused_read keeps [] p x h = absurd (omega arith)
  refused_read keeps (r ∷ rs) zero x h = refl
  refused_read keeps (r ∷ rs) (suc p) x h = refused_read keeps rs p x (le_of_suc-le-suc h)

  pub refused_at : (keeps : List ℕ → V → Bool) (rs : List (Record K V)) (p : ℕ) (x : Record K V) → x ≡ get_or rs p x → p < length rs → not (keeps (mean x.key) x.value) ≡ refused mean keeps rs p
  refused_at keeps rs p x is h = ap (λ (r : Record K V). not (keeps (mean r.key) r.value)) is ∙ refused_read keeps rs p x h

  pub asked_past : {R : Type 0} (after : R → List ℕ → V → R) (rs : List (Record K V)) (p : ℕ) (rule : R) → length rs ≤ p → rule ≡ asked_of mean after rs p rule
  asked_past after [] p rule h = refl
  asked_past after (r ∷ rs) zero rule h = absurd (omega arith)
  asked_past after (r ∷ rs) (suc p) rule h = asked_past after rs p rule (le_of_suc-le-suc h)

  asked_read : {R : Type 0} (after : R → List ℕ → V → R) (rs : List (Record K V)) (p : ℕ) (rule : R) (x : Record K V) → p < length rs → after rule (mean (get_or rs p x).key) (get_or rs p x).value ≡ asked_of mean after rs p rule
  asked_read after [] p rule x h = absurd (omega arith)
  asked_read after (r ∷ rs) zero rule x h = refl
  asked_read after (r ∷ rs) (suc p) rule x h = asked_read after rs p rule x (le_of_suc-le-suc h)

  pub asked_here : {R : Type 0} (after : R → List ℕ → V → R) (rs : List (Record K V)) (p : ℕ) (rule : R) (x : Record K V) → x ≡ get_or rs p x → p < length rs → after rule (mean x.key) x.value ≡ asked_of mean after rs p rule
  asked_here after rs p rule x is h = ap (λ (r : Record K V). after rule (mean r.key) r.value) is ∙ asked_read after rs p rule x h

-- ## Counts of what is kept

module _ (t : ℕ → Bool) (k p : ℕ) (ps : List ℕ) (ih : occurs k (filter t ps) ≡ cond (t k) (occurs k ps) 0) where
  kept_here : k ≡ p → (b : Bool) → t k ≡ b → occurs k (cond (t p) (p ∷ filter t ps) (filter t ps)) ≡ cond b (cond (eqb k p) 1 0 + occurs k ps) 0
  kept_here e true h =
      ap (λ (b : Bool). occurs k (cond b (p ∷ filter t ps) (filter t ps))) (ap t (sym e) ∙ h)
      ∙ ap (λ (n : ℕ). cond (eqb k p) 1 0 + n) (ih ∙ ap (λ (b : Bool). cond b (occurs k ps) 0) h)
  kept_here e false h =
      ap (λ (b : Bool). occurs k (cond b (p ∷ filter t ps) (filter t ps))) (ap t (sym e) ∙ h) ∙ (ih ∙ ap (λ (b : Bool). cond b (occurs k ps) 0) h)

  skipped : (k ≡ p → ⊥) → (b : Bool) → occurs k (cond b (p ∷ filter t ps) (filter t ps)) ≡ occurs k (filter t ps)
  skipped ne true = let z = counts_none (eqb k p) (ne_eqb k p ne) in omega arith
  skipped ne false = refl

  kept_there : (k ≡ p → ⊥) → occurs k (cond (t p) (p ∷ filter t ps) (filter t ps)) ≡ cond (t k) (cond (eqb k p) 1 0 + occurs k ps) 0
  kept_there ne =
      let z = counts_none (eqb k p) (ne_eqb k p ne) in
      let skip : occurs k ps ≡ cond (eqb k p) 1 0 + occurs k ps = omega arith in
      skipped ne (t p) ∙ (ih ∙ ap (λ (n : ℕ). cond (t k) n 0) skip)

none_kept : (b : Bool) → ◌≡◌ {A = ℕ} 0 (cond b 0 0)
none_kept true = refl
none_kept false = refl

pub occurs_kept : (t : ℕ → Bool) (k : ℕ) (ps : List ℕ) → occurs k (filter t ps) ≡ cond (t k) (occurs k ps) 0
occurs_kept t k [] = none_kept (t k)
occurs_kept t k (p ∷ ps) =
    let ih = occurs_kept t k ps in
    elim (cases_eq k p) [ inl e ↦ kept_here t k p ps ih e (t k) refl | inr ne ↦ kept_there t k p ps ih ne ]

-- ## The places below n

below_self : (n : ℕ) → ltb n (suc n) ≡ true
below_self n = lt-ltb n (suc n) (omega arith)

below_other : (p n : ℕ) → (p ≡ n → ⊥) → ltb p (suc n) ≡ ltb p n
below_other p n ne = cut (ltb p n) refl
  where
    cut : (b : Bool) → ltb p n ≡ b → ltb p (suc n) ≡ b
    cut true e = lt-ltb p (suc n) (let l = ltb-true p n e in omega arith)
    cut false e = le-ltb p (suc n) (let l = ltb-false p n e in omega arith)

module _ {K V R : Type 0} (mean : K → List ℕ) (hashed : List ℕ → ℕ) (keeps : R → List ℕ → V → Bool) (after : R → List ℕ → V → R) (x : Inner K V) (rule₀ : R) where
  abbrev s : Parts ℕ ℕ ℕ
  s = view x.policy.core

  abbrev rs : List (Record K V)
  rs = x.records.now

  abbrev lying : ℕ → Option (List ℕ)
  lying = word_at mean of_resident rs

  -- the resident of a place below n that is refused
  abbrev pub goes : ℕ → ℕ → Bool
  goes n p = ltb p n && dropped mean (keeps rule₀) x p

  -- the rule once it was asked of the residents of places below n
  abbrev pub asked_to : ℕ → R
  asked_to zero = rule₀
  asked_to (suc n) = asked_at mean after x n (asked_to n)

  pub record Midway (n : ℕ) (y : Inner K V) (rule : R) (flags : List Bool) : Type 0 where
    pub long : length flags ≡ 512
    pub marked : (p : ℕ) → flagged flags p ≡ goes n p
    pub kept : OnlyResidents x y
    pub asked : rule ≡ asked_to n
    pub meaning : keeps rule ≡ keeps rule₀
    pub filed : Within mean hashed x → Ties hashed lying (filter (λ p. not (goes n p)) (places s)) y.residents

  goes_self : (n : ℕ) → goes (suc n) n ≡ dropped mean (keeps rule₀) x n
  goes_self n = ap (λ (b : Bool). b && dropped mean (keeps rule₀) x n) (below_self n)

  goes_other : (n p : ℕ) → (p ≡ n → ⊥) → goes (suc n) p ≡ goes n p
  goes_other n p ne = ap (λ (b : Bool). b && dropped mean (keeps rule₀) x p) (below_other p n ne)

  goes_not_yet : (n p : ℕ) → n ≤ p → goes n p ≡ false
  goes_not_yet n p h = ap (λ (b : Bool). b && dropped mean (keeps rule₀) x p) (le-ltb p n h)

  -- lists that are kept by tests that agree
  kept_alike : (f g : ℕ → Bool) (ps : List ℕ) → ((p : ℕ) → f p ≡ g p) → Alike (filter f ps) (filter g ps)
  kept_alike f g ps agree k = occurs_kept f k ps ∙ (ap (λ (b : Bool). cond b (occurs k ps) 0) (agree k) ∙ sym (occurs_kept g k ps))

  pub start : (flags : List Bool) → length flags ≡ 512 → ((p : ℕ) → flagged flags p ≡ false) → Midway 0 x rule₀ flags
  start flags long none =
      record {
        long = long;
        marked = λ p. none p ∙ sym (goes_not_yet 0 p (omega arith));
        kept = (refl, (refl, refl));
        asked = refl;
        meaning = refl;
        filed = λ t.
            ties_alike hashed lying (places s) (filter (λ p. not (goes 0 p)) (places s)) x.residents
            (λ k. sym (occurs_kept (λ p. not (goes 0 p)) k (places s) ∙ ap (λ (b : Bool). cond (not b) (occurs k (places s)) 0) (goes_not_yet 0 k (omega arith)))) t.residents;
      }

  module _ (n : ℕ) (low : n < 512) (y y' : Inner K V) (rule rule' : R) (flags flags' : List Bool) (m : Midway n y rule flags) (sifts : Sifts mean hashed keeps after y rule flags n y' rule' flags') where
    same_dropped : dropped mean (keeps rule) y n ≡ dropped mean (keeps rule₀) x n
    same_dropped =
        ap (λ (q : Policy). resides n (view q.core) && refused mean (keeps rule) y.records.now n) m.kept.1.0
        ∙ (ap (λ (l : List (Record K V)). resides n s && refused mean (keeps rule) l n) m.kept.0
        ∙ ap (λ (k : List ℕ → V → Bool). resides n s && refused mean k rs n) m.meaning)

    same_asked : asked_at mean after y n rule ≡ asked_at mean after x n (asked_to n)
    same_asked =
        ap (λ (q : Policy). cond (resides n (view q.core)) (asked_of mean after y.records.now n rule) rule) m.kept.1.0
        ∙ (ap (λ (l : List (Record K V)). cond (resides n s) (asked_of mean after l n rule) rule) m.kept.0
        ∙ ap (asked_at mean after x n) m.asked)

    mark_turn : (b : Bool) → dropped mean (keeps rule₀) x n ≡ b → flags' ≡ cond b (set flags n true) flags → (p : ℕ) → flagged flags' p ≡ goes (suc n) p
    mark_turn true e f p =
        elim (cases_eq p n) [
          | inl is ↦
              ap (λ (l : List Bool). flagged l p) f
              ∙ (ap (flagged (set flags n true)) is
              ∙ (get_or-set_same flags n true false (let z = m.long in omega arith) ∙ (sym e ∙ (sym (goes_self n) ∙ ap (goes (suc n)) (sym is)))))
          | inr ne ↦ ap (λ (l : List Bool). flagged l p) f ∙ (get_or-set_other flags n p true false ne ∙ (m.marked p ∙ sym (goes_other n p ne)))
        ]
    mark_turn false e f p =
        elim (cases_eq p n) [
          | inl is ↦
              ap (λ (l : List Bool). flagged l p) f
              ∙ (m.marked p ∙ (goes_not_yet n p (omega arith) ∙ (sym e ∙ (sym (goes_self n) ∙ ap (goes (suc n)) (sym is)))))
          | inr ne ↦ ap (λ (l : List Bool). flagged l p) f ∙ (m.marked p ∙ sym (goes_other n p ne))
        ]

    long_turn : (b : Bool) → flags' ≡ cond b (set flags n true) flags → length flags' ≡ 512
    long_turn true f = ap length f ∙ (length-set flags n true ∙ m.long)
    long_turn false f = ap length f ∙ m.long

    -- the place of who goes is counted once before and no more after
    gone : dropped mean (keeps rule₀) x n ≡ true → Alike (filter (λ p. not (goes n p)) (places s)) (n ∷ filter (λ p. not (goes (suc n) p)) (places s))
    gone e k =
        elim (cases_eq k n) [
          | inl is ↦
              (let a = occurs_kept (λ p. not (goes n p)) k (places s) ∙ ap (λ (b : Bool). cond (not b) (occurs k (places s)) 0) (goes_not_yet n k (omega arith)) in
              let b = occurs_kept (λ p. not (goes (suc n) p)) k (places s) ∙ ap (λ (b : Bool). cond (not b) (occurs k (places s)) 0) (ap (goes (suc n)) is ∙ (goes_self n ∙ e)) in
              let one = (orderly x.policy).once k in
              let some = resides_count n s (bears_first (resides n s) (refused mean (keeps rule₀) rs n) e) in
              let here = ap (λ (q : ℕ). occurs q (places s)) is in
              let z : ◌≡◌ {A = ℕ} (cond (eqb k n) 1 0) 1 = ap (λ (b : Bool). cond b 1 0) (eq-eqb k n is) in
              omega arith)
          | inr ne ↦
              (let a = occurs_kept (λ p. not (goes n p)) k (places s) in
              let b = occurs_kept (λ p. not (goes (suc n) p)) k (places s) ∙ ap (λ (b : Bool). cond (not b) (occurs k (places s)) 0) (goes_other n k ne) in
              let z = counts_none (eqb k n) (ne_eqb k n ne) in
              omega arith)
        ]

    stayed : dropped mean (keeps rule₀) x n ≡ false → (p : ℕ) → goes n p ≡ goes (suc n) p
    stayed e p = elim (cases_eq p n) [ inl is ↦ goes_not_yet n p (omega arith) ∙ (sym e ∙ (sym (goes_self n) ∙ ap (goes (suc n)) (sym is))) | inr ne ↦ sym (goes_other n p ne) ]

    filed_turn : (b : Bool) → dropped mean (keeps rule₀) x n ≡ b → Within mean hashed x → Ties hashed lying (filter (λ p. not (goes (suc n) p)) (places s)) y'.residents
    filed_turn true e t =
        let loses : (ps : List ℕ) → n < length rs → Ties hashed lying (n ∷ ps) y.residents → Ties hashed lying ps y'.residents =
        subst (λ (l : List (Record K V)). (ps : List ℕ) → n < length l → Ties hashed (word_at mean of_resident l) (n ∷ ps) y.residents → Ties hashed (word_at mean of_resident l) ps y'.residents) m.kept.0
        (sifts.unseats (same_dropped ∙ e)) in
        loses (filter (λ p. not (goes (suc n) p)) (places s))
        (place_within x.policy (length rs) t.sized n (resides_count n s (bears_first (resides n s) (refused mean (keeps rule₀) rs n) e)))
        (ties_alike hashed lying (filter (λ p. not (goes n p)) (places s)) (n ∷ filter (λ p. not (goes (suc n) p)) (places s)) y.residents (gone e) (m.filed t))
    filed_turn false e t =
        subst (λ (i : KeyIndex). Ties hashed lying (filter (λ p. not (goes (suc n) p)) (places s)) i) (sym (sifts.stays (same_dropped ∙ e)))
        (ties_alike hashed lying (filter (λ p. not (goes n p)) (places s)) (filter (λ p. not (goes (suc n) p)) (places s)) y.residents
        (kept_alike (λ p. not (goes n p)) (λ p. not (goes (suc n) p)) (places s) (λ p. ap not (stayed e p))) (m.filed t))

    pub turn : Midway (suc n) y' rule' flags'
    turn =
        let f = sifts.flagged ∙ ap (λ (b : Bool). cond b (set flags n true) flags) same_dropped in
        record {
          long = long_turn (dropped mean (keeps rule₀) x n) f;
          marked = mark_turn (dropped mean (keeps rule₀) x n) refl f;
          kept = (sifts.kept.0 ∙ m.kept.0, (sifts.kept.1.0 ∙ m.kept.1.0, sifts.kept.1.1 ∙ m.kept.1.1));
          asked = sifts.asked ∙ same_asked;
          meaning = sifts.meaning ∙ m.meaning;
          filed = filed_turn (dropped mean (keeps rule₀) x n) refl;
        }

-- no flag is up at first
pub none_up : (n p : ℕ) → flagged (replicate n false) p ≡ false
none_up zero p = refl
none_up (suc n) zero = refl
none_up (suc n) (suc p) = none_up n p
