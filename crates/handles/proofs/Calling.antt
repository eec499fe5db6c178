-- What an insertion and a removal answer and leave, from what the code did.
use Rattle.std.proofs.Common.{◌≡◌, ℕ, suc, ◌+◌, ◌-◌, ◌/◌, ◌%◌, ◌<◌, ◌≤◌, Bool, true, false, cond, ◌&&◌, eqb, List, length, get_or, is_some, Some, None, Ok, Err, Option, sym, refl, ap, ◌∙◌, subst, inl, inr, mod-lt, arith}
use native.Mathlib.Nat.{mod-mod}
use Rattle.std.proofs.lemmas.Bool.Decides.{leb_tells}
use Rattle.std.proofs.lemmas.Bool.{cases_eq, eqb-true, ltb-true, lt-ltb}
use Rattle.handles.specs.Meaning.{alike}
use Rattle.handles.specs.Slots.{rank, rank_of, occupied, room, Sound, fingerprint, meta_at, weigh, weight, home_of, empty}
use Rattle.handles.specs.Shift.{inserted, erased, pulled, away}
use Rattle.handles.specs.Seek.{seek_from}
use Rattle.handles.specs.Calls.{Inserts, Removes, roomy, sought, taken_out}
use Rattle.handles.specs.declared.slot.Slot.{Slot}
use Rattle.handles.specs.declared.refusal.TableRefusal.TheVariants.{Full}
use Rattle.handles.proofs.Meaning.{alike_decides}
use Rattle.handles.proofs.Ring.{round}
use Rattle.handles.proofs.Ranks.{rank_same}
use Rattle.handles.proofs.Weighing.{weight_full}
use Rattle.handles.proofs.Seeking.{seek_stop}
use Rattle.handles.proofs.Candidates.{Found, seek_found}
use Rattle.handles.proofs.Pushing.{Ring, ring_pos}
use Rattle.handles.proofs.Pulling.{away_same, pulled_same}
use Rattle.handles.proofs.Placing.{inserted_sound, inserted_weighs, roomy_ring, erased_weighs, erased_sound, home_back, meta_parts, print_below, sound_ring, sound_some}
use Rattle.handles.proofs.Reading.{none_occupied}

pub and_left : (a b : Bool) → (a && b) ≡ true → a ≡ true
and_left true b e = refl
and_left false b e = e

pub and_right : (a b : Bool) → (a && b) ≡ true → b ≡ true
and_right true b e = e
and_right false b e = absurd (cc)

module _ {X : Type 0} where
  pub roomy_true : (xs : List (Slot X)) (len : ℕ) → occupied xs ≡ len → len < room (length xs) → roomy xs ≡ true
  roomy_true xs len e h = lt-ltb (occupied xs) (room (length xs)) (omega arith)

  pub roomy_false : (xs : List (Slot X)) (len : ℕ) → occupied xs ≡ len → room (length xs) ≤ len → roomy xs ≡ false
  roomy_false xs len e h = elim (leb_tells (suc (occupied xs)) (room (length xs))) [ inl t ↦ absurd (omega (arith, t.1)) | inr t ↦ t.0 ]

  pub roomy_says : (xs : List (Slot X)) → roomy xs ≡ true → occupied xs < room (length xs)
  roomy_says xs e = ltb-true (occupied xs) (room (length xs)) e

  pub insert_made : (xs : List (Slot X)) (len cap hash : ℕ) (x : X) (ys : List (Slot X)) → Sound xs len → cap ≡ room (length xs) → (len ≡ cap → ⊥) → ys ≡ inserted xs hash x → Inserts xs hash x (Ok tt) ys × Sound ys (len + 1)
  insert_made xs len cap hash x ys s e ne is =
      let top = s.2 in
      let lt : len < room (length xs) = (elim (cases_eq len cap) [ inl q ↦ absurd (ne q) | inr _ ↦ omega arith ]) in
      let t = roomy_true xs len s.1 lt in (
        record {
          answer = ap (λ b. cond b (Ok tt) (Err (Full (room (length xs))))) (sym t);
          slots = is ∙ ap (λ b. cond b (inserted xs hash x) xs) (sym t);
          weighs = λ w _. ap (weigh w) is ∙ inserted_weighs w xs hash x (roomy_ring xs len len s lt);
        },
        subst (λ (zs : List (Slot X)). Sound zs (len + 1)) (sym is) (inserted_sound xs len hash x s lt),
      )

  pub erased_same : (xs : List (Slot X)) (p q : ℕ) (d : Slot X) → p % length xs ≡ q % length xs → erased xs p d ≡ erased xs q d
  erased_same xs p q d e =
      pulled_same (length xs) xs p q (away (length xs) xs (p + 1)) d e
      ∙ ap (λ (k : ℕ). pulled (length xs) xs q k d) (away_same (length xs) xs (length xs) (p + 1) (q + 1) (round (length xs) p q 1 e))

  module _ (meaning : X → List ℕ) (xs : List (Slot X)) (hash : ℕ) (x : X) where
    pub remove_none : sought meaning xs hash x ≡ None → Removes meaning xs hash x false xs
    remove_none e =
        record {
          answer = ap is_some (sym e);
          slots = ap (taken_out xs hash x) (sym e);
          weighs = λ w t. absurd (cc);
        }

    pub sought_empty : (len : ℕ) → Sound xs len → len ≡ 0 → sought meaning xs hash x ≡ None
    sought_empty len s z =
        seek_stop (λ y. alike (meaning y) (meaning x)) (length xs) xs (hash % length xs) (fingerprint hash) (length xs) 0
        (let r : rank (length xs) xs (hash % length xs + 0) ≡ 0 = ap rank_of (none_occupied xs ((hash % length xs + 0) % length xs) (s.1 ∙ z)) in omega arith)

    pub sought_is : (ys : List (Slot X)) (home print : ℕ) (o : Option ℕ) → ys ≡ xs → home ≡ hash % length xs → print ≡ fingerprint hash → o ≡ seek_from (λ y. alike (meaning y) (meaning x)) (length ys) ys home print (length ys - 0) 0 → sought meaning xs hash x ≡ o
    sought_is ys home print o over h p e =
        let z : length xs - 0 ≡ length xs = omega arith in
        sym (e
        ∙ ap (λ (zs : List (Slot X)). seek_from (λ y. alike (meaning y) (meaning x)) (length zs) zs home print (length zs - 0) 0) over
        ∙ ap (λ (k : ℕ). seek_from (λ y. alike (meaning y) (meaning x)) (length xs) xs home print k 0) z
        ∙ ap (λ (k : ℕ). seek_from (λ y. alike (meaning y) (meaning x)) (length xs) xs k print (length xs) 0) h
        ∙ ap (λ (k : ℕ). seek_from (λ y. alike (meaning y) (meaning x)) (length xs) xs (hash % length xs) k (length xs) 0) p)

    abbrev vacant : Slot X
    vacant = record { meta = empty; handle = x }

    -- what was sought and found
    pub found_at : (e : ℕ) → 0 < length xs → sought meaning xs hash x ≡ Some e → (e < length xs) × (e < rank (length xs) xs (hash % length xs + e)) × ((get_or xs ((hash % length xs + e) % length xs) vacant).meta ≡ meta_at (fingerprint hash) e) × (meaning (get_or xs ((hash % length xs + e) % length xs) vacant).handle ≡ meaning x)
    found_at e pos is =
        let n = length xs in
        let ok = λ (y : X). alike (meaning y) (meaning x) in
        let f : Found n xs (hash % n) (fingerprint hash) ok vacant n 0 (Some e) =
        subst (Found n xs (hash % n) (fingerprint hash) ok vacant n 0) is
        (seek_found n xs (hash % n) (fingerprint hash) refl pos vacant ok n 0) in
        let y = get_or xs ((hash % n + e) % n) vacant in (
          omega (arith, f.1),
          f.2,
          eqb-true y.meta (meta_at (fingerprint hash) e) (and_left (eqb y.meta (meta_at (fingerprint hash) e)) (ok y.handle) f.3),
          (alike_decides (meaning y.handle) (meaning x)).0 (and_right (eqb y.meta (meta_at (fingerprint hash) e)) (ok y.handle) f.3),
        )

    pub remove_weighs : (w : ℕ → ℕ → List ℕ → ℕ) (e : ℕ) → Ring (length xs) xs → sought meaning xs hash x ≡ Some e → weigh (λ b p y. w b p (meaning y)) (erased xs (hash % length xs + e) vacant) + w (hash % length xs) (fingerprint hash) (meaning x) ≡ weigh (λ b p y. w b p (meaning y)) xs
    remove_weighs w e r is =
        let n = length xs in
        let pos = ring_pos n xs r in
        let high = r.high in
        let f = found_at e pos is in
        let y = get_or xs ((hash % n + e) % n) vacant in
        let m = meta_parts (fingerprint hash) e (print_below hash) (omega (arith, f.0)) in
        let v = λ (b p : ℕ) (y : X). w b p (meaning y) in
        let g = erased_weighs v xs (hash % n + e) vacant r (omega (arith, f.1)) in
        let some : y.meta ≡ empty → ⊥ = λ q. m.2 (sym f.2 ∙ q) in
        let k = weight_full v n ((hash % n + e) % n) y some in
        let home : home_of n ((hash % n + e) % n) y.meta ≡ hash % n =
        ap (λ (i : ℕ). ((hash % n + e) % n + n - i / 256) % n) f.2
        ∙ ap (λ (i : ℕ). ((hash % n + e) % n + n - i) % n) m.0
        ∙ home_back n (hash % n) e (mod-lt hash pos) f.0 in
        let print : y.meta % 256 ≡ fingerprint hash = ap (λ (i : ℕ). i % 256) f.2 ∙ m.1 in
        let all : weight v n ((hash % n + e) % n) y ≡ w (hash % n) (fingerprint hash) (meaning x) =
        k ∙ ap (λ (i : ℕ). w i (y.meta % 256) (meaning y.handle)) home
        ∙ ap (λ (i : ℕ). w (hash % n) i (meaning y.handle)) print
        ∙ ap (λ (i : List ℕ). w (hash % n) (fingerprint hash) i) f.3 in
        ap (λ (i : ℕ). weigh v (erased xs (hash % n + e) vacant) + i) (sym all) ∙ g

    pub remove_made : (len e p : ℕ) (ys : List (Slot X)) → Sound xs len → (len ≡ 0 → ⊥) → sought meaning xs hash x ≡ Some e → p % length xs ≡ (hash % length xs + e) % length xs → ys ≡ erased xs p vacant → Removes meaning xs hash x true ys × Sound ys (len - 1)
    remove_made len e p ys s ne is at left =
        let n = length xs in
        let good = sound_some xs len s ne in
        let r = sound_ring xs len s good.0 good.1 in
        let f = found_at e good.1 is in
        let z : ys ≡ erased xs (hash % n + e) vacant = left ∙ erased_same xs p (hash % n + e) vacant at in
        let k = erased_sound xs len (hash % n + e) vacant s r (omega (arith, f.1)) in (
          record {
            answer = ap is_some (sym is);
            slots = z ∙ ap (taken_out xs hash x) (sym is);
            weighs = λ w _. ap (λ (zs : List (Slot X)). weigh (λ b p y. w b p (meaning y)) zs + w (hash % n) (fingerprint hash) (meaning x)) z ∙ remove_weighs w e r is;
          },
          subst (λ (zs : List (Slot X)). Sound zs (len - 1)) (sym z) k.1,
        )

    -- the slot to empty, as the code finds it
    pub remove_slot : (ys : List (Slot X)) (len e home p : ℕ) → Sound xs len → (len ≡ 0 → ⊥) → ys ≡ xs → home ≡ hash % length xs → sought meaning xs hash x ≡ Some e → p ≡ (home + e) % length ys → (0 < rank (length xs) xs p) × (p % length xs ≡ (hash % length xs + e) % length xs)
    remove_slot ys len e home p s ne over h is at =
        let n = length xs in
        let good = sound_some xs len s ne in
        let r = sound_ring xs len s good.0 good.1 in
        let f = found_at e good.1 is in
        let q : p % n ≡ (hash % n + e) % n =
        ap (λ (i : ℕ). i % n) (at ∙ ap (λ (zs : List (Slot X)). (home + e) % length zs) over) ∙ mod-mod (home + e) n ∙ ap (λ (i : ℕ). (i + e) % n) h in
        let same = rank_same n xs p (hash % n + e) q in
        (omega (arith, f.1), q)
