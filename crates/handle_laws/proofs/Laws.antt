-- The laws over lists of calls.
use Rattle.std.proofs.Common.{◌≡◌, ℕ, ◌%◌, ◌<◌, Bool, true, false, cond, ◌&&◌, eqb, ltb, ◌⊎◌, List, [], ◌∷◌, ◌++◌, map, length, is_some, Some, None, Option, sym, refl, ap, ◌∙◌, subst, inl, inr, arith, eq-eqb}
use Rattle.std.proofs.lemmas.Bool.Decides.{leb_tells}
use Rattle.handles.specs.Meaning.{alike}
use Rattle.handles.specs.Slots.{room, occupied, fingerprint}
use Rattle.handles.specs.Shift.{cleared}
use Rattle.handles.specs.Seek.{first_by}
use Rattle.handles.specs.Calls.{sought, reserve_answer_lem, did_rebuild}
use Rattle.handles.specs.declared.slot.Slot.{Slot}
use Rattle.handles.proofs.Meaning.{alike_decides}
use Rattle.handles.proofs.Calling.{and_right}
use Rattle.handle_laws.specs.Runs.{Call, insert, remove, clear, reserve, Entry, Held, slots_after, held_after, held_step, step, rebuilds, fits_entry, same_spot, drop_first, how_many, ReadsWhatIsIn, AnswersWhatIsIn, StaysFindable, Spares, AllSpare}
use Rattle.handle_laws.proofs.Totals.{moved, first_none, first_some}
use Rattle.handle_laws.proofs.Running.{Good, good_reads, good_insert, good_remove, good_clear, good_reserve_at, good_none, good_some, rebuilds_room}

pub some_when : (n : ℕ) → 0 < n → ltb 0 n ≡ true
some_when n h = elim (leb_tells 1 n) [ inl t ↦ t.0 | inr t ↦ absurd (omega (arith, t.1)) ]

some_first_at : {A : Type 0} (ok : A → Bool) (xs : List A) (o : Option A) → first_by ok xs ≡ o → is_some o ≡ ltb 0 (how_many ok xs)
some_first_at ok xs None e = ap (ltb 0) (sym (first_none ok xs e))
some_first_at ok xs (Some y) e = sym (some_when (how_many ok xs) (first_some ok xs y e))

-- a first one is found exactly where some pass
pub some_first : {A : Type 0} (ok : A → Bool) (xs : List A) → is_some (first_by ok xs) ≡ ltb 0 (how_many ok xs)
some_first ok xs = some_first_at ok xs (first_by ok xs) refl

module _ {X : Type 0} (meaning : X → List ℕ) where
  held_cond : (b : Bool) (k : ℕ) (fs : List (Entry X)) (h : Held X) → (cond b (record { count = k; entries = fs }) h).count ≡ cond b k h.count
  held_cond true k fs h = refl
  held_cond false k fs h = refl

  entries_cond : (b : Bool) (k : ℕ) (fs : List (Entry X)) (h : Held X) → (cond b (record { count = k; entries = fs }) h).entries ≡ cond b fs h.entries
  entries_cond true k fs h = refl
  entries_cond false k fs h = refl

  good_step : (xs : List (Slot X)) (h : Held X) (c : Call X) → Good meaning xs h.count h.entries → Good meaning (step meaning xs c) (held_step meaning h c).count (held_step meaning h c).entries
  good_step xs h (insert hash x) g = good_insert meaning xs h.count h.entries hash x g
  good_step xs h (remove hash x) g = good_remove meaning xs h.count h.entries hash x g
  good_step xs h clear g = subst (λ (k : ℕ). Good meaning (cleared xs) k []) g.count (good_clear meaning xs)
  good_step xs h (reserve wanted rule bs) g =
      let b = rebuilds (length xs) (occupied xs) wanted bs in
      let same : b ≡ rebuilds h.count (length h.entries) wanted bs =
      ap (λ (k : ℕ). did_rebuild (reserve_answer_lem (room k) (occupied xs) wanted (length bs))) g.count
      ∙ ap (λ (k : ℕ). did_rebuild (reserve_answer_lem (room h.count) k wanted (length bs))) g.sound.1 in
      let at = good_reserve_at meaning xs h.count h.entries rule bs b (rebuilds_room meaning (room (length xs)) (occupied xs) wanted (length bs)) g in
      let next : Good meaning (step meaning xs (reserve wanted rule bs)) (cond (rebuilds h.count (length h.entries) wanted bs) (length bs) h.count) (cond (rebuilds h.count (length h.entries) wanted bs) (map (moved meaning rule) h.entries) h.entries) =
      subst (λ t. Good meaning (step meaning xs (reserve wanted rule bs)) (cond t (length bs) h.count) (cond t (map (moved meaning rule) h.entries) h.entries)) same at in
      subst (λ (k : ℕ). Good meaning (step meaning xs (reserve wanted rule bs)) k (held_step meaning h (reserve wanted rule bs)).entries)
      (sym (held_cond (rebuilds h.count (length h.entries) wanted bs) (length bs) (map (moved meaning rule) h.entries) h))
      (subst (λ zs. Good meaning (step meaning xs (reserve wanted rule bs)) (cond (rebuilds h.count (length h.entries) wanted bs) (length bs) h.count) zs)
      (sym (entries_cond (rebuilds h.count (length h.entries) wanted bs) (length bs) (map (moved meaning rule) h.entries) h)) next)

  pub good_after : (start : List (Slot X)) (past : List (Call X)) → Good meaning (slots_after meaning start past) (held_after meaning (length start) past).count (held_after meaning (length start) past).entries
  good_after start [] = good_clear meaning start
  good_after start (c ∷ past) = good_step (slots_after meaning start past) (held_after meaning (length start) past) c (good_after start past)

  pub reads : ReadsWhatIsIn meaning
  reads start past hash m =
      good_reads meaning (slots_after meaning start past) (held_after meaning (length start) past).count (held_after meaning (length start) past).entries hash m (good_after start past)

  some_or_none : (xs : List (Slot X)) (n : ℕ) (es : List (Entry X)) (hash : ℕ) (x : X) → Good meaning xs n es → (o : Option ℕ) → sought meaning xs hash x ≡ o → is_some o ≡ ltb 0 (how_many (fits_entry meaning n hash (meaning x)) es)
  some_or_none xs n es hash x g None e = let z = good_none meaning xs n es hash x g e in ap (ltb 0) (sym z)
  some_or_none xs n es hash x g (Some d) e =
      let z = good_some meaning xs n es hash x d g e in
      elim (leb_tells 1 (how_many (fits_entry meaning n hash (meaning x)) es)) [ inl t ↦ sym t.0 | inr t ↦ absurd (omega (arith, t.1)) ]

  pub answers : AnswersWhatIsIn meaning
  answers start past =
      let g = good_after start past in
      let h = held_after meaning (length start) past in
      let xs = slots_after meaning start past in (
        g.count,
        g.sound.1,
        λ hash x. some_or_none xs h.count h.entries hash x g (sought meaning xs hash x) refl,
      )

  -- an entry stands in a list
  abbrev Stands : ℕ → List ℕ → List (Entry X) → Type 0
  Stands hash m [] = ⊥
  Stands hash m (e ∷ es) = ((e.hash ≡ hash) × (meaning e.handle ≡ m)) ⊎ Stands hash m es

  stands_drop : (n g hash : ℕ) (k m : List ℕ) (es : List (Entry X)) → (k ≡ m → ⊥) → Stands hash m es → Stands hash m (drop_first (fits_entry meaning n g k) es)
  stands_drop n g hash k m [] ne s = s
  stands_drop n g hash k m (e ∷ es) ne (inl s) =
      (elim (fits_entry meaning n g k e) as (λ b. fits_entry meaning n g k e ≡ b → Stands hash m (cond b es (e ∷ drop_first (fits_entry meaning n g k) es))) [
        | true ↦ λ t. absurd (ne (sym ((alike_decides (meaning e.handle) k).0 (and_right (same_spot n e.hash g) (alike (meaning e.handle) k) t)) ∙ s.1))
        | false ↦ λ t. inl s
      ]) refl
  stands_drop n g hash k m (e ∷ es) ne (inr s) =
      elim (fits_entry meaning n g k e) as (λ b. Stands hash m (cond b es (e ∷ drop_first (fits_entry meaning n g k) es))) [
        | true ↦ s
        | false ↦ inr (stands_drop n g hash k m es ne s)
      ]

  stands_moved : (rule : List ℕ → ℕ) (hash : ℕ) (m : List ℕ) (es : List (Entry X)) → rule m ≡ hash → Stands hash m es → Stands hash m (map (moved meaning rule) es)
  stands_moved rule hash m [] r s = s
  stands_moved rule hash m (e ∷ es) r (inl s) = inl ((ap rule s.1 ∙ r), s.1)
  stands_moved rule hash m (e ∷ es) r (inr s) = inr (stands_moved rule hash m es r s)

  stands_step : (h : Held X) (c : Call X) (hash : ℕ) (m : List ℕ) → Spares meaning hash m c → Stands hash m h.entries → Stands hash m (held_step meaning h c).entries
  stands_step h (insert g x) hash m sp s =
      elim (ltb (length h.entries) (room h.count)) as (λ b. Stands hash m (cond b (record { hash = g; handle = x } ∷ h.entries) h.entries)) [ true ↦ inr s | false ↦ s ]
  stands_step h (remove g x) hash m sp s = stands_drop h.count g hash (meaning x) m h.entries sp s
  stands_step h clear hash m sp s = absurd sp
  stands_step h (reserve wanted rule bs) hash m sp s =
      elim (rebuilds h.count (length h.entries) wanted bs) as (λ b. Stands hash m (cond b (record { count = length bs; entries = map (moved meaning rule) h.entries }) h).entries) [
        | true ↦ stands_moved rule hash m h.entries sp s
        | false ↦ s
      ]

  stands_later : (n : ℕ) (earlier later : List (Call X)) (hash : ℕ) (m : List ℕ) → Stands hash m (held_after meaning n earlier).entries → AllSpare meaning hash m later → Stands hash m (held_after meaning n (later ++ earlier)).entries
  stands_later n earlier [] hash m s sp = s
  stands_later n earlier (c ∷ later) hash m s sp =
      stands_step (held_after meaning n (later ++ earlier)) c hash m sp.0 (stands_later n earlier later hash m s sp.1)

  stands_counts : (n hash : ℕ) (m : List ℕ) (es : List (Entry X)) → Stands hash m es → 0 < how_many (fits_entry meaning n hash m) es
  stands_counts n hash m [] s = absurd s
  stands_counts n hash m (e ∷ es) (inl s) =
      let a : eqb (e.hash % n) (hash % n) ≡ true = eq-eqb (e.hash % n) (hash % n) (ap (λ (k : ℕ). k % n) s.0) in
      let b : eqb (fingerprint e.hash) (fingerprint hash) ≡ true = eq-eqb (fingerprint e.hash) (fingerprint hash) (ap fingerprint s.0) in
      let c = (alike_decides (meaning e.handle) m).1 s.1 in
      let t : fits_entry meaning n hash m e ≡ true =
      ap (λ z. (z && eqb (fingerprint e.hash) (fingerprint hash)) && alike (meaning e.handle) m) a
      ∙ ap (λ z. z && alike (meaning e.handle) m) b ∙ c in
      let u : ◌≡◌ {A = ℕ} (cond (fits_entry meaning n hash m e) 1 0) 1 = ap (λ z. cond z 1 0) t in
      omega arith
  stands_counts n hash m (e ∷ es) (inr s) = let ih = stands_counts n hash m es s in omega arith

  pub stays : StaysFindable meaning
  stays start earlier later hash x free sp =
      let g = good_after start earlier in
      let h = held_after meaning (length start) earlier in
      let xs = slots_after meaning start earlier in
      let full : ltb (length h.entries) (room h.count) ≡ true =
      sym (ap (λ (k : ℕ). ltb k (room (length xs))) g.sound.1 ∙ ap (λ (k : ℕ). ltb (length h.entries) (room k)) g.count) ∙ free in
      let in_now : Stands hash (meaning x) (held_after meaning (length start) (insert hash x ∷ earlier)).entries =
      subst (λ b. Stands hash (meaning x) (cond b (record { hash = hash; handle = x } ∷ h.entries) h.entries)) (sym full) (inl (refl, refl)) in
      let still = stands_later (length start) (insert hash x ∷ earlier) later hash (meaning x) in_now sp in
      let r = reads start (later ++ insert hash x ∷ earlier) hash (meaning x) in
      let c = stands_counts (held_after meaning (length start) (later ++ insert hash x ∷ earlier)).count hash (meaning x) (held_after meaning (length start) (later ++ insert hash x ∷ earlier)).entries still in
      omega arith
