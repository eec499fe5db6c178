-- A rebuild places each old entry anew, one by one, and stays sound all along.
use Rattle.std.proofs.Common.{◌≡◌, ℕ, ◌+◌, ◌<◌, ◌≤◌, cond, eqb, List, length, get_or, drop, sym, ap, ◌∙◌, subst, inl, inr, arith}
use Rattle.std.proofs.lemmas.List.{drop_more}
use Rattle.std.proofs.lemmas.Bool.Decides.{eqb_tells}
use Rattle.handles.specs.Slots.{occupied, room, Sound, empty}
use Rattle.handles.specs.Shift.{inserted}
use Rattle.handles.specs.Calls.{rebuilt}
use Rattle.handles.specs.declared.slot.Slot.{Slot}
use Rattle.handles.proofs.Vacancy.{full, full_one}
use Rattle.handles.proofs.Placing.{inserted_sound, inserted_occupied, roomy_ring}

module _ {X : Type 0} (rule : X → ℕ) where
  -- one old slot: passed over where it is empty, and placed anew where it is not
  abbrev pub replaced : List (Slot X) → Slot X → List (Slot X)
  replaced ys s = cond (eqb s.meta empty) ys (inserted ys (rule s.handle) s.handle)

  pub replaced_empty : (ys : List (Slot X)) (s : Slot X) → s.meta ≡ empty → replaced ys s ≡ ys
  replaced_empty ys s e = ap (λ (m : ℕ). cond (eqb m empty) ys (inserted ys (rule s.handle) s.handle)) e

  pub replaced_full : (ys : List (Slot X)) (s : Slot X) → (s.meta ≡ empty → ⊥) → replaced ys s ≡ inserted ys (rule s.handle) s.handle
  replaced_full ys s ne =
      elim (eqb_tells s.meta empty) [
        | inl t ↦ absurd (ne t.1)
        | inr t ↦ ap (λ b. cond b ys (inserted ys (rule s.handle) s.handle)) t.0
      ]

  -- the state of a rebuild into ys, at place i of the old slots
  abbrev pub Midway : List (Slot X) → List (Slot X) → List (Slot X) → ℕ → Type 0
  Midway old start ys i =
      (rebuilt rule ys (drop i old) ≡ rebuilt rule start old)
      × Sound ys (occupied ys)
      × (occupied ys + occupied (drop i old) ≡ occupied old)

  occupied_more : (old : List (Slot X)) (i : ℕ) (s : Slot X) → i < length old → s ≡ get_or old i s → occupied (drop i old) ≡ full s.meta + occupied (drop (i + 1) old)
  occupied_more old i s lt is =
      ap occupied (drop_more old i s lt) ∙ ap (λ (y : Slot X). full y.meta + occupied (drop (i + 1) old)) (sym is)

  rebuilt_more : (old ys : List (Slot X)) (i : ℕ) (s : Slot X) → i < length old → s ≡ get_or old i s → rebuilt rule ys (drop i old) ≡ rebuilt rule (replaced ys s) (drop (i + 1) old)
  rebuilt_more old ys i s lt is =
      ap (rebuilt rule ys) (drop_more old i s lt) ∙ ap (λ (y : Slot X). rebuilt rule (replaced ys y) (drop (i + 1) old)) (sym is)

  pub midway_room : (old start ys : List (Slot X)) (i : ℕ) (s : Slot X) → Midway old start ys i → i < length old → s ≡ get_or old i s → (s.meta ≡ empty → ⊥) → occupied old ≤ room (length ys) → occupied ys < room (length ys)
  midway_room old start ys i s m lt is ne top =
      let e = occupied_more old i s lt is in
      let f = full_one s.meta ne in
      let k = m.2 in
      omega arith

  pub midway_pass : (old start ys : List (Slot X)) (i : ℕ) (s : Slot X) → Midway old start ys i → i < length old → s ≡ get_or old i s → s.meta ≡ empty → Midway old start ys (i + 1)
  midway_pass old start ys i s m lt is e =
      let o = occupied_more old i s lt is in
      let z : full s.meta ≡ 0 = ap full e in
      let k = m.2 in (
        sym (rebuilt_more old ys i s lt is ∙ ap (λ zs. rebuilt rule zs (drop (i + 1) old)) (replaced_empty ys s e)) ∙ m.0,
        m.1,
        omega arith,
      )

  pub midway_place : (old start ys zs : List (Slot X)) (i : ℕ) (s : Slot X) → Midway old start ys i → i < length old → s ≡ get_or old i s → (s.meta ≡ empty → ⊥) → occupied old ≤ room (length ys) → zs ≡ inserted ys (rule s.handle) s.handle → Midway old start zs (i + 1)
  midway_place old start ys zs i s m lt is ne top put =
      let o = occupied_more old i s lt is in
      let f = full_one s.meta ne in
      let k = m.2 in
      let room = midway_room old start ys i s m lt is ne top in
      let ring = roomy_ring ys (occupied ys) (occupied ys) m.1 room in
      let c : occupied zs ≡ occupied ys + 1 = ap occupied put ∙ inserted_occupied ys (rule s.handle) s.handle ring in
      let good : Sound zs (occupied ys + 1) =
      subst (λ (z : List (Slot X)). Sound z (occupied ys + 1)) (sym put) (inserted_sound ys (occupied ys) (rule s.handle) s.handle m.1 room) in (
        sym (rebuilt_more old ys i s lt is ∙ ap (λ z. rebuilt rule z (drop (i + 1) old)) (replaced_full ys s ne ∙ sym put)) ∙ m.0,
        subst (λ (n : ℕ). Sound zs n) (sym c) good,
        omega arith,
      )
