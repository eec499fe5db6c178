-- After every list of calls the slots are sound and hold, in every weighing by meaning, what is in by the calls.
use Rattle.std.proofs.Common.{◌≡◌, ℕ, suc, ◌+◌, ◌-◌, ◌%◌, ◌<◌, ◌≤◌, Bool, true, false, cond, eqb, ltb, leb, List, [], ◌∷◌, map, length, Some, None, Ok, Err, Option, sym, refl, ap, ◌∙◌, subst, inl, inr, mod-lt, arith}
use Rattle.std.proofs.lemmas.List.{length-map}
use Rattle.std.proofs.lemmas.Bool.Decides.{leb_tells}
use Rattle.handles.specs.Meaning.{alike}
use Rattle.handles.specs.Slots.{Sound, room, allowed, occupied, weigh, weigh_from, fingerprint, empty}
use Rattle.handles.specs.Shift.{inserted, cleared, erased}
use Rattle.handles.specs.Seek.{candidates, first_by}
use Rattle.handles.specs.Calls.{insertion, removal, sought, taken_out, roomy, rebuilt, reserve_answer_lem, did_rebuild}
use Rattle.handles.specs.declared.slot.Slot.{Slot}
use Rattle.handles.specs.declared.refusal.Reserved.TheVariants.{Room, Rebuilt}
use Rattle.handles.specs.declared.refusal.TableRefusal.TheVariants.{SlotCount, TooFewSlots}
use Rattle.handles.proofs.Pushing.{Ring, ring_pos}
use Rattle.handles.proofs.Placing.{print_below, sound_ring, sound_some, roomy_ring, inserted_sound, inserted_length, inserted_weighs, erased_sound, erased_length, cleared_sound, cleared_weighs}
use Rattle.handles.proofs.Candidates.{first_is, handle_at}
use Rattle.handles.proofs.Calling.{found_at, remove_weighs, sought_empty, roomy_says}
use Rattle.handles.proofs.Reading.{empty_candidates}
use Rattle.handle_laws.specs.Runs.{Entry, fits_entry, drop_first, how_many, times_read}
use Rattle.handle_laws.proofs.Counting.{count_all}
use Rattle.handle_laws.proofs.Totals.{total, total_times, total_drop, total_moved, moved, drop_none, drop_length, first_none, first_some, spot_of}

module _ {X : Type 0} (meaning : X → List ℕ) where
  -- a weighing by meaning
  abbrev pub by : (ℕ → ℕ → List ℕ → ℕ) → ℕ → ℕ → X → ℕ
  by w b p y = w b p (meaning y)

  pub record Good (xs : List (Slot X)) (n : ℕ) (es : List (Entry X)) : Type 0 where
    pub sound : Sound xs (length es)
    pub count : length xs ≡ n
    pub weighs : (w : ℕ → ℕ → List ℕ → ℕ) → weigh (by w) xs ≡ total meaning n w es

  good_ring : (xs : List (Slot X)) (n : ℕ) (e : Entry X) (es : List (Entry X)) → Good xs n (e ∷ es) → Ring (length xs) xs
  good_ring xs n e es g =
      let s = sound_some xs (length (e ∷ es)) g.sound (λ z. omega arith) in
      sound_ring xs (length (e ∷ es)) g.sound s.0 s.1

  -- a reader yields what is in
  pub good_reads : (xs : List (Slot X)) (n : ℕ) (es : List (Entry X)) (hash : ℕ) (m : List ℕ) → Good xs n es → times_read meaning (candidates xs hash) m ≡ how_many (fits_entry meaning n hash m) es
  good_reads xs n [] hash m g = ap (λ zs. times_read meaning zs m) (empty_candidates xs 0 hash g.sound refl)
  good_reads xs n (e ∷ es) hash m g =
      let r = good_ring xs n e es g in
      let s : Slot X = record { meta = 0; handle = e.handle } in
      let a = count_all meaning (length xs) xs (hash % length xs) (fingerprint hash) m r (mod-lt hash (ring_pos (length xs) xs r)) (print_below hash) s in
      let b = g.weighs (spot_of (hash % length xs) (fingerprint hash) m) in
      let c = ap (λ (k : ℕ). total meaning n (spot_of (hash % k) (fingerprint hash) m) (e ∷ es)) g.count in
      a ∙ b ∙ c ∙ total_times meaning n hash m (e ∷ es)

  good_insert_at : (xs : List (Slot X)) (n : ℕ) (es : List (Entry X)) (hash : ℕ) (x : X) (b : Bool) → roomy xs ≡ b → Good xs n es → Good (cond b (inserted xs hash x) xs) n (cond b (record { hash = hash; handle = x } ∷ es) es)
  good_insert_at xs n es hash x true full g =
      let lt = roomy_says xs full in
      let s = g.sound in
      let c = s.1 in
      let room_left : length es < room (length xs) = omega arith in
      let r = roomy_ring xs (length es) (length es) s room_left in
      let one : length es + 1 ≡ suc (length es) = omega arith in
      record {
        sound = subst (λ (k : ℕ). Sound (inserted xs hash x) k) one (inserted_sound xs (length es) hash x s room_left);
        count = inserted_length xs hash x ∙ g.count;
        weighs = λ w.
            (let a = inserted_weighs (by w) xs hash x r in
            let b = g.weighs w in
            let c = ap (λ (k : ℕ). w (hash % k) (fingerprint hash) (meaning x)) g.count in
            omega arith);
      }
  good_insert_at xs n es hash x false full g = g

  pub good_insert : (xs : List (Slot X)) (n : ℕ) (es : List (Entry X)) (hash : ℕ) (x : X) → Good xs n es → Good (insertion xs hash x) n (cond (ltb (length es) (room n)) (record { hash = hash; handle = x } ∷ es) es)
  good_insert xs n es hash x g =
      let e : roomy xs ≡ ltb (length es) (room n) = ap (λ (k : ℕ). ltb k (room (length xs))) g.sound.1 ∙ ap (λ (k : ℕ). ltb (length es) (room k)) g.count in
      subst (λ b. Good (insertion xs hash x) n (cond b (record { hash = hash; handle = x } ∷ es) es)) e
      (good_insert_at xs n es hash x (roomy xs) refl g)

  -- what a search by meaning found says how often the meaning is in
  sought_says : (xs : List (Slot X)) (n : ℕ) (e : Entry X) (es : List (Entry X)) (hash : ℕ) (x : X) → Good xs n (e ∷ es) → first_by (λ y. alike (meaning y) (meaning x)) (candidates xs hash) ≡ handle_at (length xs) xs (hash % length xs) (fingerprint hash) (record { meta = 0; handle = x }) (sought meaning xs hash x)
  sought_says xs n e es hash x g =
      let r = good_ring xs n e es g in
      first_is (length xs) xs (hash % length xs) (fingerprint hash) refl (ring_pos (length xs) xs r) (record { meta = 0; handle = x }) (λ y. alike (meaning y) (meaning x)) (length xs) 0

  pub good_none : (xs : List (Slot X)) (n : ℕ) (es : List (Entry X)) (hash : ℕ) (x : X) → Good xs n es → sought meaning xs hash x ≡ None → how_many (fits_entry meaning n hash (meaning x)) es ≡ 0
  good_none xs n [] hash x g e = refl
  good_none xs n (y ∷ es) hash x g e =
      let f = sought_says xs n y es hash x g ∙ ap (handle_at (length xs) xs (hash % length xs) (fingerprint hash) (record { meta = 0; handle = x })) e in
      let z = first_none (λ y. alike (meaning y) (meaning x)) (candidates xs hash) f in
      sym (good_reads xs n (y ∷ es) hash (meaning x) g) ∙ z

  pub good_some : (xs : List (Slot X)) (n : ℕ) (es : List (Entry X)) (hash : ℕ) (x : X) (d : ℕ) → Good xs n es → sought meaning xs hash x ≡ Some d → 0 < how_many (fits_entry meaning n hash (meaning x)) es
  good_some xs n [] hash x d g e =
      absurd (let f = sought_empty meaning xs hash x 0 g.sound refl in cc)
  good_some xs n (y ∷ es) hash x d g e =
      let f = sought_says xs n y es hash x g ∙ ap (handle_at (length xs) xs (hash % length xs) (fingerprint hash) (record { meta = 0; handle = x })) e in
      let z = first_some (λ y. alike (meaning y) (meaning x)) (candidates xs hash) _ f in
      let k = good_reads xs n (y ∷ es) hash (meaning x) g in
      omega arith

  good_remove_at : (xs : List (Slot X)) (n : ℕ) (es : List (Entry X)) (hash : ℕ) (x : X) (o : Option ℕ) → sought meaning xs hash x ≡ o → Good xs n es → Good (taken_out xs hash x o) n (drop_first (fits_entry meaning n hash (meaning x)) es)
  good_remove_at xs n es hash x None e g =
      subst (λ zs. Good xs n zs) (sym (drop_none (fits_entry meaning n hash (meaning x)) es (good_none xs n es hash x g e))) g
  good_remove_at xs n [] hash x (Some d) e g =
      absurd (let f = sought_empty meaning xs hash x 0 g.sound refl in cc)
  good_remove_at xs n (y ∷ es) hash x (Some d) e g =
      let r = good_ring xs n y es g in
      let f = found_at meaning xs hash x d (ring_pos (length xs) xs r) e in
      let vacant : Slot X = record { meta = empty; handle = x } in
      let some = good_some xs n (y ∷ es) hash x d g e in
      let short = drop_length (fits_entry meaning n hash (meaning x)) (y ∷ es) some in
      let len : length (y ∷ es) - 1 ≡ length (drop_first (fits_entry meaning n hash (meaning x)) (y ∷ es)) = omega arith in
      record {
        sound = subst (λ (k : ℕ). Sound (erased xs (hash % length xs + d) vacant) k) len
            (erased_sound xs (length (y ∷ es)) (hash % length xs + d) vacant g.sound r (omega (arith, f.1))).1;
        count = erased_length xs (hash % length xs + d) vacant ∙ g.count;
        weighs = λ w.
            (let a = remove_weighs meaning xs hash x w d r e in
            let b = g.weighs w in
            let c = total_drop meaning n hash (meaning x) w (y ∷ es) some in
            let k = ap (λ (i : ℕ). w (hash % i) (fingerprint hash) (meaning x)) g.count in
            omega arith);
      }

  pub good_remove : (xs : List (Slot X)) (n : ℕ) (es : List (Entry X)) (hash : ℕ) (x : X) → Good xs n es → Good (removal meaning xs hash x) n (drop_first (fits_entry meaning n hash (meaning x)) es)
  good_remove xs n es hash x g = good_remove_at xs n es hash x (sought meaning xs hash x) refl g

  pub good_clear : (xs : List (Slot X)) → Good (cleared xs) (length xs) []
  good_clear xs =
      record {
        sound = cleared_sound xs;
        count = length-map xs _;
        weighs = λ w. cleared_weighs (by w) (length (cleared xs)) 0 xs;
      }

  -- a weighing that looks at the handle alone, whatever the slot
  weigh_anywhere : (v : X → ℕ) (n i k j : ℕ) (xs : List (Slot X)) → weigh_from (λ _ _ y. v y) n i xs ≡ weigh_from (λ _ _ y. v y) k j xs
  weigh_anywhere v n i k j [] = refl
  weigh_anywhere v n i k j (s ∷ xs) = ap (λ (z : ℕ). cond (eqb s.meta empty) 0 (v s.handle) + z) (weigh_anywhere v n (suc i) k (suc j) xs)

  -- old entries placed anew are all in, under the rule's hashes
  pub rebuilt_good : (rule : X → ℕ) (xs ys : List (Slot X)) (k : ℕ) → Sound ys k → k + occupied xs ≤ room (length ys) → Sound (rebuilt rule ys xs) (k + occupied xs) × (length (rebuilt rule ys xs) ≡ length ys) × ((w : ℕ → ℕ → X → ℕ) → weigh w (rebuilt rule ys xs) ≡ weigh w ys + weigh_from (λ _ _ y. w (rule y % length ys) (fingerprint (rule y)) y) 0 0 xs)
  rebuilt_good rule [] ys k s top =
      let e : k + 0 ≡ k = omega arith in
      (subst (λ (i : ℕ). Sound ys i) (sym e) s, refl, (λ w. omega arith))
  rebuilt_good rule (t ∷ xs) ys k s top =
      (elim (eqb t.meta empty) as (λ b.
      k + (cond b 0 1 + occupied xs) ≤ room (length ys) →
      Sound (rebuilt rule (cond b ys (inserted ys (rule t.handle) t.handle)) xs) (k + (cond b 0 1 + occupied xs))
      × (length (rebuilt rule (cond b ys (inserted ys (rule t.handle) t.handle)) xs) ≡ length ys)
      × ((w : ℕ → ℕ → X → ℕ) → weigh w (rebuilt rule (cond b ys (inserted ys (rule t.handle) t.handle)) xs) ≡ weigh w ys + (cond b 0 (w (rule t.handle % length ys) (fingerprint (rule t.handle)) t.handle) + weigh_from (λ _ _ y. w (rule y % length ys) (fingerprint (rule y)) y) 0 1 xs))) [
        | true ↦ λ le.
            (let e : k + (0 + occupied xs) ≡ k + occupied xs = omega arith in
            let ih = rebuilt_good rule xs ys k s (omega arith) in (
              subst (λ (i : ℕ). Sound (rebuilt rule ys xs) i) (sym e) ih.0,
              ih.1,
              λ w. (let a = ih.2 w in let b = weigh_anywhere (λ y. w (rule y % length ys) (fingerprint (rule y)) y) 0 0 0 1 xs in omega arith),
            ))
        | false ↦ λ le.
            (let lt : k < room (length ys) = omega arith in
            let x = t.handle in
            let zs = inserted ys (rule x) x in
            let same = inserted_length ys (rule x) x in
            let good = inserted_sound ys k (rule x) x s lt in
            let ih = rebuilt_good rule xs zs (k + 1) good (subst (λ (i : ℕ). k + 1 + occupied xs ≤ room i) (sym same) (omega arith)) in
            let e : k + 1 + occupied xs ≡ k + (1 + occupied xs) = omega arith in
            let ring = roomy_ring ys k k s lt in (
              subst (λ (i : ℕ). Sound (rebuilt rule zs xs) i) e ih.0,
              ih.1 ∙ same,
              λ w.
                  (let a = ih.2 w in
                  let b = inserted_weighs w ys (rule x) x ring in
                  let c = weigh_anywhere (λ y. w (rule y % length ys) (fingerprint (rule y)) y) 0 0 0 1 xs in
                  let d = ap (λ (i : ℕ). weigh_from (λ _ _ y. w (rule y % i) (fingerprint (rule y)) y) 0 0 xs) same in
                  omega arith),
            ))
      ]) top

  -- a reservation that rebuilds has room in the brought slots
  pub rebuilds_room : (c entries wanted k : ℕ) → did_rebuild (reserve_answer_lem c entries wanted k) ≡ true → entries ≤ room k
  rebuilds_room c entries wanted k e =
      (elim (leb (entries + wanted) c) as (λ b. did_rebuild (cond b (Ok Room) (cond (allowed k) (cond (leb (entries + wanted) (room k)) (Ok Rebuilt) (Err (TooFewSlots (room k) entries wanted))) (Err (SlotCount k)))) ≡ true → entries ≤ room k) [
        | true ↦ λ q. absurd (cc)
        | false ↦
            elim (allowed k) as (λ b. did_rebuild (cond b (cond (leb (entries + wanted) (room k)) (Ok Rebuilt) (Err (TooFewSlots (room k) entries wanted))) (Err (SlotCount k))) ≡ true → entries ≤ room k) [
              | true ↦
                  λ q. elim (leb_tells (entries + wanted) (room k)) [
                    | inl t ↦ omega (arith, t.1)
                    | inr t ↦ absurd (let z : did_rebuild (cond false (Ok Rebuilt) (Err (TooFewSlots (room k) entries wanted))) ≡ true = ap (λ b. did_rebuild (cond b (Ok Rebuilt) (Err (TooFewSlots (room k) entries wanted)))) (sym t.0) ∙ q in cc)
                  ]
              | false ↦ λ q. absurd (cc)
            ]
      ]) e

  pub good_reserve_at : (xs : List (Slot X)) (n : ℕ) (es : List (Entry X)) (rule : List ℕ → ℕ) (bs : List (Slot X)) (b : Bool) → (b ≡ true → occupied xs ≤ room (length bs)) → Good xs n es → Good (cond b (rebuilt (λ x. rule (meaning x)) (cleared bs) xs) xs) (cond b (length bs) n) (cond b (map (moved meaning rule) es) es)
  good_reserve_at xs n es rule bs false top g = g
  good_reserve_at xs n es rule bs true top g =
      let same : length (cleared bs) ≡ length bs = length-map bs _ in
      let r = rebuilt_good (λ x. rule (meaning x)) xs (cleared bs) 0 (cleared_sound bs)
      (subst (λ (i : ℕ). 0 + occupied xs ≤ room i) (sym same) (let h = top refl in omega arith)) in
      let len : 0 + occupied xs ≡ length (map (moved meaning rule) es) = (let a = length-map es (moved meaning rule) in let c = g.sound.1 in omega arith) in
      record {
        sound = subst (λ (i : ℕ). Sound (rebuilt (λ x. rule (meaning x)) (cleared bs) xs) i) len r.0;
        count = r.1 ∙ same;
        weighs = λ w.
            (let a = r.2 (by w) in
            let z = cleared_weighs (by w) (length (cleared bs)) 0 bs in
            let v = λ (_ _ : ℕ) (m : List ℕ). w (rule m % length bs) (fingerprint (rule m)) m in
            let c = g.weighs v in
            let d = weigh_anywhere (λ y. w (rule (meaning y) % length bs) (fingerprint (rule (meaning y))) (meaning y)) 0 0 (length xs) 0 xs in
            let e = total_moved meaning n (length bs) rule w es in
            let f = ap (λ (i : ℕ). weigh_from (λ _ _ y. w (rule (meaning y) % i) (fingerprint (rule (meaning y))) (meaning y)) 0 0 xs) same in
            omega arith);
      }
