-- The next place never opened goes onto the free stack.
use Rattle.std.proofs.Common.{◌≡◌, ℕ, ◌+◌, ◌<◌, ◌≤◌, List, ◌∷◌, sym, refl, ap, ◌∙◌, inl, inr, add-one, arith}
use Rattle.std.proofs.lemmas.Bool.{cases_eq, cases_lt, eq-eqb, ne_eqb, lt-ltb, le-ltb, ltb-false}
use Rattle.links.specs.declared.line.Line.{Line}
use Rattle.links.specs.Lists.{lists, rehomed}
use Rattle.links.specs.Rows.{without, fronted, pushed_front, nth}
use Rattle.links.proofs.Counts.{without_absent}
use Rattle.queues.specs.declared.slots.Slots.{Slots}
use Rattle.queues.specs.Slots.{list_of, home_in}
use Rattle.queues.specs.Held.{parts_of}
use Rattle.queues.specs.Steps.{unlocked}
use Rattle.queues.proofs.Sound.{Sound, none_in_all, out_of_list, front_long, all_long}

abbrev pub widened : Slots → Line → Slots
widened s l =
    record { line = l; places = s.places; admissions = s.admissions; opened = s.opened + 1; window = s.window }

module _ (b : ℕ) (s : Slots) (l : Line) (sound : Sound b s) (room : s.opened < 512) (to : lists l ≡ fronted s.opened 3 (lists s.line)) where
  far : 4 ≤ home_in s s.opened
  far = ltb-false (home_in s s.opened) 4 (sound.listed s.opened ∙ le-ltb s.opened s.opened (omega arith))

  absent : (k : ℕ) → k < 4 → without s.opened (list_of k s) ≡ list_of k s
  absent k h = without_absent s.opened (list_of k s) (out_of_list s s.opened k h (λ e. let f = far in omega arith))

  to_front : lists l ≡ pushed_front s.opened 3 (lists s.line)
  to_front = to ∙ rw (lt-ltb s.opened 512 room)

  y : list_of 0 (widened s l) ≡ list_of 0 s
  y = ap (λ (xss : List (List ℕ)). nth 0 xss) to_front ∙ absent 0 (omega arith)

  o : list_of 1 (widened s l) ≡ list_of 1 s
  o = ap (λ (xss : List (List ℕ)). nth 1 xss) to_front ∙ absent 1 (omega arith)

  m : list_of 2 (widened s l) ≡ list_of 2 s
  m = ap (λ (xss : List (List ℕ)). nth 2 xss) to_front ∙ absent 2 (omega arith)

  f : list_of 3 (widened s l) ≡ s.opened ∷ list_of 3 s
  f = ap (λ (xss : List (List ℕ)). nth 3 xss) to_front ∙ ap (λ (xs : List ℕ). s.opened ∷ xs) (absent 3 (omega arith))

  pub unlocked_parts : parts_of (widened s l) ≡ unlocked (parts_of s)
  unlocked_parts =
      let a = y in
      let b = o in
      let c = m in
      let d = f in
      let e = add-one s.opened in
      rw (a, b, c, d, e)

  pub unlocked_sound : ((q : ℕ) → home_in (widened s l) q ≡ rehomed s.opened 3 (home_in s) q) → Sound b (widened s l)
  unlocked_sound homes =
      let here : home_in (widened s l) s.opened ≡ 3 = homes s.opened ∙ rw (lt-ltb s.opened 512 room, eq-eqb s.opened s.opened refl) in
      let other : (q : ℕ) → (q ≡ s.opened → ⊥) → home_in (widened s l) q ≡ home_in s q = λ q n. homes q ∙ rw (lt-ltb s.opened 512 room, ne_eqb q s.opened n) in
      record {
        sized = sound.sized;
        listed = λ q.
            elim (cases_eq q s.opened) [
              | inl e ↦ rw (e, here) (sym (lt-ltb s.opened (s.opened + 1) (omega arith)))
              | inr e ↦
                  rw (other q e)
                  (sound.listed q ∙ (elim (cases_lt q s.opened) [
                    | inl h ↦ lt-ltb q s.opened h ∙ sym (lt-ltb q (s.opened + 1) (omega arith))
                    | inr h ↦ le-ltb q s.opened h ∙ sym (le-ltb q (s.opened + 1) (omega arith))
                  ]))
            ];
        counted =
            let n = none_in_all s s.opened far in
            let g = front_long s.opened (list_of 0 s) (list_of 1 s) (list_of 2 s) (list_of 3 s) 3 (omega arith) in
            let h = ap all_long to_front in
            let i = sound.counted in
            omega arith;
        sorted = λ q.
            elim (cases_eq q s.opened) [
              | inl e ↦
                  let k = sound.sorted s.opened in
                  let g = far in
                  rw (e, here) (k ∙ ne_eqb (home_in s s.opened) 0 (λ i. omega arith))
              | inr e ↦ rw (other q e) (sound.sorted q)
            ];
        recent = λ q h.
            elim (cases_eq q s.opened) [
              | inl e ↦ let i : home_in (widened s l) q ≡ 3 = ap (λ (x : ℕ). home_in (widened s l) x) e ∙ here in absurd (omega arith)
              | inr e ↦ sound.recent q (sym (other q e) ∙ h)
            ];
        rising = rw y sound.rising;
      }
