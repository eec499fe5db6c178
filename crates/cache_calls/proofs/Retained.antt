-- A retain once all places are sifted: the machine's, with the indexes right, and the rule asked once for each resident.
use Rattle.std.proofs.Common.{◌≡◌, ℕ, zero, suc, ◌<◌, ◌≤◌, Bool, true, false, cond, not, ◌&&◌, eqb, List, [], ◌∷◌, ◌++◌, map, length, filter, Option, sym, refl, ap, ◌∙◌, subst, inl, inr, le_of_suc-le-suc, arith}
use Rattle.std.specs.List.{AllByRecursion}
use Rattle.std.proofs.lemmas.Bool.{cases_eq, eq-eqb, ne_eqb, lt-ltb}
use Rattle.std.proofs.lemmas.List.{map-append}
use Rattle.handle_laws.specs.Runs.{how_many}
use Rattle.machine.specs.Replacement.{Resident, Parts, drops, highest_first}
use Rattle.machine.specs.Machine.{Item, cell_of}
use Rattle.machine_laws.proofs.Carried.{map_kept, drops_carried, highest_carried}
use Rattle.queues.specs.Held.{resides}
use Rattle.policy.specs.View.{view, flagged}
use Rattle.index.specs.Filed.{bears}
use Rattle.index.specs.Ties.{occurs, Ties}
use Rattle.index.proofs.Firsts.{not_both}
use Rattle.index.proofs.Joined.{counts_none, ties_alike}
use Rattle.records.specs.declared.column.Column.TheVariants.{Resident as of_resident, Remembered as of_ghost}
use Rattle.records.specs.declared.record.Record.{Record}
use Rattle.records.specs.Columns.{word_at}
use Rattle.cache_core.specs.declared.inner.Inner.{Inner}
use Rattle.cache_core.specs.View.{places, value_at, word_in, item_at, cell_at, seen}
use Rattle.cache_core.specs.Tied.{TiedWithin, Within}
use Rattle.cache_core.proofs.Standing.{orderly, place_within}
use Rattle.cache_core.proofs.Leaving.{items, items_append}
use Rattle.cache_core.proofs.Residing.{all_items, kept_both, resides_there}
use Rattle.cache_calls.specs.Retain.{rising, residents_below, asked_all, asked_each, refused, asked_of, dropped}
use Rattle.cache_calls.proofs.Finds.{resides_count}
use Rattle.cache_calls.proofs.Sifted.{occurs_kept, goes, asked_to, Midway}

-- ## Lists

kept_fewer : (f t : ℕ → Bool) (ps : List ℕ) → how_many f (filter t ps) ≤ how_many f ps
kept_fewer f t [] = omega arith
kept_fewer f t (p ∷ ps) =
    let ih = kept_fewer f t ps in
    elim (t p) as (λ b. how_many f (cond b (p ∷ filter t ps) (filter t ps)) ≤ how_many f (p ∷ ps)) [ true ↦ (omega arith) | false ↦ (omega arith) ]

kept_zero : (n : ℕ) (ps : List ℕ) → occurs n ps ≡ 0 → filter (λ q. eqb q n) ps ≡ []
kept_zero n [] e = refl
kept_zero n (p ∷ ps) e =
    elim (cases_eq p n) [
      | inl is ↦ absurd (let z : ◌≡◌ {A = ℕ} (cond (eqb n p) 1 0) 1 = ap (λ (b : Bool). cond b 1 0) (eq-eqb n p (sym is)) in omega arith)
      | inr ne ↦ ap (λ (b : Bool). cond b (p ∷ filter (λ q. eqb q n) ps) (filter (λ q. eqb q n) ps)) (ne_eqb p n ne) ∙ kept_zero n ps (omega arith)
    ]

kept_one : (n : ℕ) (ps : List ℕ) → occurs n ps ≡ 1 → filter (λ q. eqb q n) ps ≡ n ∷ []
kept_one n [] e = absurd (omega arith)
kept_one n (p ∷ ps) e =
    elim (cases_eq p n) [
      | inl is ↦
          (let z : ◌≡◌ {A = ℕ} (cond (eqb n p) 1 0) 1 = ap (λ (b : Bool). cond b 1 0) (eq-eqb n p (sym is)) in
          ap (λ (b : Bool). cond b (p ∷ filter (λ q. eqb q n) ps) (filter (λ q. eqb q n) ps)) (eq-eqb p n is)
          ∙ (ap (λ (l : List ℕ). p ∷ l) (kept_zero n ps (omega arith)) ∙ ap (λ (q : ℕ). q ∷ []) is))
      | inr ne ↦
          (let z = counts_none (eqb n p) (ne_eqb n p (λ is. ne (sym is))) in
          ap (λ (b : Bool). cond b (p ∷ filter (λ q. eqb q n) ps) (filter (λ q. eqb q n) ps)) (ne_eqb p n ne) ∙ kept_one n ps (omega arith))
    ]

all_same : {A : Type 0} (f : A → Bool) (xs : List A) → AllByRecursion (λ x. f x ≡ f x) xs
all_same f [] = tt
all_same f (x ∷ xs) = (refl, all_same f xs)

asked_append : {V R : Type 0} (after : R → List ℕ → V → R) (rule : R) (xs ys : List (Item V)) → asked_all after rule (xs ++ ys) ≡ asked_all after (asked_all after rule xs) ys
asked_append after rule [] ys = refl
asked_append after rule (i ∷ xs) ys = asked_append after (after rule i.word i.value) xs ys

-- ## Records

module _ {K V : Type 0} (mean : K → List ℕ) (d : V) where
  refused_item : (keeps : List ℕ → V → Bool) (rs : List (Record K V)) (p : ℕ) → p < length rs → not (keeps (word_in mean of_resident rs p) (value_at d rs p)) ≡ refused mean keeps rs p
  refused_item keeps [] p h = absurd (omega arith)
  refused_item keeps (r ∷ rs) zero h = refl
  refused_item keeps (r ∷ rs) (suc p) h = refused_item keeps rs p (le_of_suc-le-suc h)

  asked_item : {R : Type 0} (after : R → List ℕ → V → R) (rs : List (Record K V)) (p : ℕ) (rule : R) → p < length rs → after rule (word_in mean of_resident rs p) (value_at d rs p) ≡ asked_of mean after rs p rule
  asked_item after [] p rule h = absurd (omega arith)
  asked_item after (r ∷ rs) zero rule h = refl
  asked_item after (r ∷ rs) (suc p) rule h = asked_item after rs p rule (le_of_suc-le-suc h)

pub places_dropped : (at : ℕ → Bool) (s : Parts ℕ ℕ ℕ) → places (drops (highest_first (λ q. q)) (λ q. q) at s) ≡ filter (λ q. not (at q)) (places s)
places_dropped at s =
    ap items (sym (kept_both (λ r. not (at r.item)) s.small s.main))
    ∙ map_kept (λ r. r.item) (λ r. not (at r.item)) (λ q. not (at q)) (s.small ++ s.main) (all_same (λ r. not (at r.item)) (s.small ++ s.main))

module _ {K V R : Type 0} (mean : K → List ℕ) (hashed : List ℕ → ℕ) (keeps : R → List ℕ → V → Bool) (after : R → List ℕ → V → R) (x : Inner K V) (rule₀ : R) (t : Within mean hashed x) where
  abbrev s : Parts ℕ ℕ ℕ
  s = view x.policy.core

  abbrev rs : List (Record K V)
  rs = x.records.now

  abbrev lying : ℕ → Option (List ℕ)
  lying = word_at mean of_resident rs

  low : (q : ℕ) → 0 < occurs q (places s) → q < length rs
  low = place_within x.policy (length rs) t.sized

  module _ (n : ℕ) (all : s.opened ≤ n) (y : Inner K V) (rule : R) (flags : List Bool) (m : Midway mean hashed keeps after x rule₀ n y rule flags) where
    -- of a resident, the flag is the rule's refusal
    flag_is : (d : V) (q : ℕ) → 0 < occurs q (places s) → not (keeps rule₀ (word_in mean of_resident rs q) (value_at d rs q)) ≡ flagged flags q
    flag_is d q some =
        refused_item mean d (keeps rule₀) rs q (low q some)
        ∙ sym (m.marked q
        ∙ (ap (λ (b : Bool). b && dropped mean (keeps rule₀) x q) (lt-ltb q n (let w = (orderly x.policy).within q (omega arith) in omega arith))
        ∙ ap (λ (b : Bool). b && refused mean (keeps rule₀) rs q) (resides_there q s some)))

    pub retained_state : (d : V) → drops rising cell_of (λ i. not (keeps rule₀ i.word i.value)) (seen mean d rs s) ≡ seen mean d rs (drops (highest_first (λ q. q)) (λ q. q) (flagged flags) s)
    retained_state d =
        sym (drops_carried (item_at mean d rs) (word_in mean of_ghost rs) (cell_at mean d rs) (λ q. q) cell_of (λ r. refl) (highest_first (λ q. q)) rising
        (λ k xs. highest_carried (cell_at mean d rs) (λ q. q) (λ cell. cell.place) (λ q. refl) k xs)
        (flagged flags) (λ i. not (keeps rule₀ i.word i.value)) s
        (all_items (λ q. not (keeps rule₀ (word_in mean of_resident rs q) (value_at d rs q)) ≡ flagged flags q) s.small (λ q some. flag_is d q (let a = items_append q s.small s.main in omega arith)))
        (all_items (λ q. not (keeps rule₀ (word_in mean of_resident rs q) (value_at d rs q)) ≡ flagged flags q) s.main (λ q some. flag_is d q (let a = items_append q s.small s.main in omega arith))))

    pub retained_tied : TiedWithin mean hashed x.policy.core.capacity rs (drops (highest_first (λ q. q)) (λ q. q) (flagged flags) s) y.residents x.remembered
    retained_tied =
        record {
          sized = t.sized;
          residents =
              subst (λ (ps : List ℕ). Ties hashed lying ps y.residents) (sym (places_dropped (flagged flags) s))
              (ties_alike hashed lying (filter (λ p. not (goes mean hashed keeps after x rule₀ n p)) (places s)) (filter (λ p. not (flagged flags p)) (places s)) y.residents
              (λ k.
              occurs_kept (λ p. not (goes mean hashed keeps after x rule₀ n p)) k (places s)
              ∙ (ap (λ (b : Bool). cond (not b) (occurs k (places s)) 0) (sym (m.marked k)) ∙ sym (occurs_kept (λ p. not (flagged flags p)) k (places s))))
              (m.filed t));
          remembered = t.remembered;
          alone = λ word.
              (let a = t.alone word in
              let b = ap (how_many (bears lying word)) (places_dropped (flagged flags) s) in
              let c = kept_fewer (bears lying word) (λ p. not (flagged flags p)) (places s) in
              omega arith);
        }

  -- ## The rule is asked

  module _ (d : V) where
    abbrev item : ℕ → Item V
    item = item_at mean d rs

    abbrev carried : Resident ℕ → Resident (Item V)
    carried r = record { item = item r.item; mark = r.mark }

    picked : (n : ℕ) (xs : List (Resident ℕ)) → map (λ r. r.item) (filter (λ r. eqb r.item.place n) (map carried xs)) ≡ map item (filter (λ q. eqb q n) (items xs))
    picked n [] = refl
    picked n (r ∷ xs) =
        let ih = picked n xs in
        elim (eqb r.item n) as (λ b. map (λ z. z.item) (cond b (carried r ∷ filter (λ z. eqb z.item.place n) (map carried xs)) (filter (λ z. eqb z.item.place n) (map carried xs))) ≡ map item (cond b (r.item ∷ filter (λ q. eqb q n) (items xs)) (filter (λ q. eqb q n) (items xs)))) [
          | true ↦ ap (λ (l : List (Item V)). item r.item ∷ l) ih
          | false ↦ ih
        ]

    one_asked : (n : ℕ) (rule : R) (b : Bool) → resides n s ≡ b → asked_all after rule (map item (filter (λ q. eqb q n) (places s))) ≡ cond b (asked_of mean after rs n rule) rule
    one_asked n rule true e =
        let some = resides_count n s e in
        let one = (orderly x.policy).once n in
        ap (λ (l : List ℕ). asked_all after rule (map item l)) (kept_one n (places s) (omega arith)) ∙ asked_item mean d after rs n rule (low n some)
    one_asked n rule false e = ap (λ (l : List ℕ). asked_all after rule (map item l)) (kept_zero n (places s) (none (occurs n (places s)) refl))
      where
        none : (k : ℕ) → occurs n (places s) ≡ k → occurs n (places s) ≡ 0
        none zero h = h
        none (suc k) h = absurd (not_both (resides n s) (resides_there n s (omega arith)) e)

    asked_below : (n : ℕ) → asked_all after rule₀ (residents_below n (map carried (s.small ++ s.main))) ≡ asked_to mean hashed keeps after x rule₀ n
    asked_below zero = refl
    asked_below (suc n) =
        let xs = s.small ++ s.main in
        asked_append after rule₀ (residents_below n (map carried xs)) (map (λ r. r.item) (filter (λ r. eqb r.item.place n) (map carried xs)))
        ∙ (ap (asked_all after (asked_all after rule₀ (residents_below n (map carried xs)))) (picked n xs)
        ∙ (ap (λ (r : R). asked_all after r (map item (filter (λ q. eqb q n) (places s)))) (asked_below n)
        ∙ one_asked n (asked_to mean hashed keeps after x rule₀ n) (resides n s) refl))

    pub asked_once : asked_to mean hashed keeps after x rule₀ s.opened ≡ asked_each after rule₀ (seen mean d rs s)
    asked_once =
        sym (ap (λ (l : List (Resident (Item V))). asked_all after rule₀ (residents_below s.opened l)) (sym (map-append carried s.small s.main)) ∙ asked_below s.opened)
