-- A newcomer takes its seat in Small, and the window of at most one other closes.
use Rattle.std.proofs.Common.{◌≡◌, ℕ, suc, ◌+◌, ◌<◌, ◌≤◌, true, false, leb, ◌≢◌, List, [], ◌∷◌, ◌++◌, map, length, get_or, Some, None, Option, sym, refl, ap, ◌∙◌, subst, inl, inr, arith, length-set}
use Rattle.std.proofs.lemmas.List.{get_or-set_same, get_or-set_other, append_assoc}
use Rattle.std.proofs.lemmas.Bool.{cases_eq, cases_lt, eq-eqb, ne_eqb, lt-ltb, le-ltb, le-leb, lt-leb}
use Rattle.std.proofs.lemmas.Bool.Decides.{when_true, when_false}
use Rattle.std.proofs.lemmas.Simd.{map-map}
use Rattle.links.specs.Lists.{lists}
use Rattle.links.specs.Rows.{occurs, without, pushed_front, nth, last_of}
use Rattle.links.proofs.Counts.{occurs_same, occurs_other, occurs_append, without_absent, without_first, without_last}
use Rattle.machine.specs.declared.report.Part.TheVariants.{Small}
use Rattle.machine.specs.Replacement.{Mark, young, marked, aged}
use Rattle.queues.specs.declared.slots.Slots.{Slots}
use Rattle.queues.specs.declared.slots.ResidentSlot.{ResidentSlot}
use Rattle.queues.specs.declared.state.SlotState.{SlotState}
use Rattle.queues.specs.declared.state.SlotState.TheVariants.{Plain, Young, Used}
use Rattle.queues.specs.declared.state.Event.TheVariants.{WindowClosed}
use Rattle.queues.specs.State.{met, seen, is_young}
use Rattle.queues.specs.Slots.{list_of, home_in, slot_of, state_of, age_of, rising}
use Rattle.queues.specs.Seats.{Joined, Closed, closing}
use Rattle.queues.specs.Held.{resident, parts_of}
use Rattle.queues.specs.Steps.{seated_top}
use Rattle.queues.proofs.Maps.{map_same}
use Rattle.queues.proofs.Sound.{Sound, in_list, out_of_list, home_from, at_most_once, home_low, home_opened, one_in_all, front_long, all_long}
use Rattle.queues.proofs.Moved.{Restated, fronted_sound, home_other, home_here as home_moved, state_here, resident_other, age_kept}
use Rattle.queues.proofs.Ages.{since_now, since_next, rising_next, rising_last}
use Rattle.links.proofs.Ends.{Split, split_last}
use Rattle.queues.proofs.ToMain.{small_home}

pub young_is : (st : SlotState) → is_young st ≡ true → st ≡ Young
young_is Plain h = let z : ◌≡◌ {A = ℕ} 0 1 = cc in absurd (omega arith)
young_is Young h = refl
young_is Used h = let z : ◌≡◌ {A = ℕ} 0 1 = cc in absurd (omega arith)

pub calm_seen : (st : SlotState) (a b : ℕ) → is_young st ≡ false → seen st a ≡ seen st b
calm_seen Plain a b h = refl
calm_seen Young a b h = let z : ◌≡◌ {A = ℕ} 0 1 = cc in absurd (omega arith)
calm_seen Used a b h = refl

calm_aged : (w : ℕ) (st : SlotState) (a b : ℕ) → is_young st ≡ false → seen st a ≡ aged w (seen st b)
calm_aged w Plain a b h = refl
calm_aged w Young a b h = let z : ◌≡◌ {A = ℕ} 0 1 = cc in absurd (omega arith)
calm_aged w Used a b h = refl

closed_calm : (st : SlotState) → is_young (met st WindowClosed) ≡ false
closed_calm Plain = refl
closed_calm Young = refl
closed_calm Used = refl

module _ (s t : Slots) (w : ℕ) (sound : Sound w s) (small : w ≤ 255) (some : 1 ≤ w) (p : ℕ) (rest : List ℕ) (top : list_of 3 s ≡ p ∷ rest) (j : Joined s t p) where
  home_p : home_in s p ≡ 3
  home_p =
      let c : occurs p (list_of 3 s) ≡ occurs p (p ∷ rest) = ap (λ (xs : List ℕ). occurs p xs) top in
      let n = occurs_same p rest in
      home_from s p 3 (omega arith) (omega arith)

  low : p < 512
  low = let h = home_p in home_low s p (omega arith)

  line : lists t.line ≡ pushed_front p 0 (lists s.line)
  line = j.line ∙ rw (lt-ltb p 512 low)

  absent : (k : ℕ) → k < 3 → without p (list_of k s) ≡ list_of k s
  absent k l = let h = home_p in without_absent p (list_of k s) (out_of_list s p k (omega arith) (λ e. omega arith))

  list0 : list_of 0 t ≡ p ∷ list_of 0 s
  list0 = ap (λ (xss : List (List ℕ)). nth 0 xss) line ∙ ap (λ (xs : List ℕ). p ∷ xs) (absent 0 (omega arith))

  list1 : list_of 1 t ≡ list_of 1 s
  list1 = ap (λ (xss : List (List ℕ)). nth 1 xss) line ∙ absent 1 (omega arith)

  list2 : list_of 2 t ≡ list_of 2 s
  list2 = ap (λ (xss : List (List ℕ)). nth 2 xss) line ∙ absent 2 (omega arith)

  list3 : list_of 3 t ≡ rest
  list3 =
      let o = at_most_once s p 3 (omega arith) in
      let c : occurs p (list_of 3 s) ≡ occurs p (p ∷ rest) = ap (λ (xs : List ℕ). occurs p xs) top in
      ap (λ (xss : List (List ℕ)). nth 3 xss) line ∙ (ap (without p) top ∙ without_first p rest (omega arith))

  home_here : home_in t p ≡ 0
  home_here = j.homes p ∙ rw (lt-ltb p 512 low, eq-eqb p p refl)

  home_there : (q : ℕ) → (q ≡ p → ⊥) → home_in t q ≡ home_in s q
  home_there q n = j.homes q ∙ rw (lt-ltb p 512 low, ne_eqb q p n)

  slot_p : slot_of t p ≡ record { state = Young; admitted = t.admissions }
  slot_p =
      let z = sound.sized in
      let l = low in
      ap (λ (xs : List ResidentSlot). get_or xs p (record { state = Plain; admitted = 0 })) j.places
      ∙ get_or-set_same s.places p (record { state = Young; admitted = t.admissions }) (record { state = Plain; admitted = 0 }) (omega arith)

  slot_q : (q : ℕ) → (q ≡ p → ⊥) → slot_of t q ≡ slot_of s q
  slot_q q n =
      let ne : q ≢ p = n in
      ap (λ (xs : List ResidentSlot). get_or xs q (record { state = Plain; admitted = 0 })) j.places
      ∙ get_or-set_other s.places p q (record { state = Young; admitted = t.admissions }) (record { state = Plain; admitted = 0 }) ne

  state_p : state_of t p ≡ Young
  state_p =
      ap (λ (r : ResidentSlot). r.state) slot_p

  state_q : (q : ℕ) → (q ≡ p → ⊥) → state_of t q ≡ state_of s q
  state_q q n =
      ap (λ (r : ResidentSlot). r.state) (slot_q q n)

  age_p : age_of t p ≡ 0
  age_p =
      let a : (slot_of t p).admitted ≡ t.admissions = ap (λ (r : ResidentSlot). r.admitted) slot_p in
      rw (a, j.admissions) (since_now (s.admissions + 1))

  age_q : (q : ℕ) → (q ≡ p → ⊥) → home_in s q ≡ 0 → age_of t q ≡ age_of s q + 1
  age_q q n h =
      let r = sound.recent q h in
      let a : (slot_of t q).admitted ≡ (slot_of s q).admitted = ap (λ (r : ResidentSlot). r.admitted) (slot_q q n) in
      rw (a, j.admissions) (since_next s.admissions (slot_of s q).admitted (omega arith))

  other_young : (q : ℕ) → home_in s q ≡ 0 → q ≡ p → ⊥
  other_young q h e = let i = home_p in let k : home_in s q ≡ home_in s p = ap (home_in s) e in omega arith

  -- for a moment the oldest of the young may be as old as the window
  pub joined_sound : Sound (w + 1) t
  joined_sound =
      let i = home_p in
      record {
        sized = ap (λ (xs : List ResidentSlot). length xs) j.places ∙ simp length-set sound.sized;
        listed = λ q.
            elim (cases_eq q p) [
              | inl e ↦
                  let l = home_opened s sound.listed p (omega arith) in
                  rw (e, home_here, j.opened) (sym (lt-ltb p s.opened l))
              | inr e ↦ rw (home_there q e, j.opened) (sound.listed q)
            ];
        counted =
            let o = one_in_all s p (omega arith) in
            let g = front_long p (list_of 0 s) (list_of 1 s) (list_of 2 s) (list_of 3 s) 0 (omega arith) in
            let h = ap all_long line in
            let k = sound.counted in
            let n = j.opened in
            omega arith;
        sorted = λ q.
            elim (cases_eq q p) [
              | inl e ↦ rw (e, state_p, home_here)
              | inr e ↦ rw (home_there q e, state_q q e) (sound.sorted q)
            ];
        recent = λ q h.
            elim (cases_eq q p) [
              | inl e ↦ let a : age_of t q ≡ 0 = ap (age_of t) e ∙ age_p in omega arith
              | inr e ↦
                  let k = sym (home_there q e) ∙ h in
                  let a = age_q q e k in
                  let r = sound.recent q k in
                  omega arith
            ];
        rising =
            rw (list0, age_p)
            (rising_next (age_of s) (age_of t) 0 (list_of 0 s)
            (λ q o. let h = home_from s q 0 (omega arith) o in age_q q (other_young q h) h) sound.rising);
      }

  -- the newcomer, and everyone else
  mark_p : resident t p ≡ record { item = p; mark = young 0 }
  mark_p = let a = state_p in let b = age_p in rw (a, b)

  mark_calm : (q : ℕ) → (q ≡ p → ⊥) → (home_in s q ≡ 0 → ⊥) → resident t q ≡ resident s q
  mark_calm q n h =
      let c = calm_seen (state_of s q) (age_of t q) (age_of s q) (sound.sorted q ∙ ne_eqb (home_in s q) 0 h) in
      rw (state_q q n, c)

  in_y : (q : ℕ) → home_in s q ≡ 0 → state_of s q ≡ Young
  in_y q h = young_is (state_of s q) (sound.sorted q ∙ rw h)

  -- the last of the young, z, with the others before it
  module _ (z : ℕ) (split : Split (p ∷ list_of 0 s) z) where
    rising_t : rising 0 (map (age_of t) (split.rest ++ z ∷ [])) ≡ true
    rising_t = subst (λ (xs : List ℕ). rising 0 (map (age_of t) xs) ≡ true) (list0 ∙ split.is) joined_sound.rising

    younger : (q : ℕ) → home_in t q ≡ 0 → (q ≡ z → ⊥) → age_of t q < age_of t z
    younger q h n =
        let o = in_list t q 0 (omega arith) h in
        let c : occurs q (list_of 0 t) ≡ occurs q (split.rest ++ z ∷ []) = ap (λ (xs : List ℕ). occurs q xs) (list0 ∙ split.is) in
        let a = occurs_append q split.rest (z ∷ []) in
        let b = occurs_other q z [] n in
        rising_last (age_of t) 0 split.rest z rising_t q (omega arith)

    home_z : home_in t z ≡ 0
    home_z =
        let c : occurs z (list_of 0 t) ≡ occurs z (split.rest ++ z ∷ []) = ap (λ (xs : List ℕ). occurs z xs) (list0 ∙ split.is) in
        let a = occurs_append z split.rest (z ∷ []) in
        let b = occurs_same z [] in
        home_from t z 0 (omega arith) (omega arith)

    -- a young one whose window stays open
    mark_open : (q : ℕ) → home_in s q ≡ 0 → age_of t q < w → resident t q ≡ marked (aged w (resident s q).mark) (resident s q)
    mark_open q h l =
        let n = other_young q h in
        let a = age_q q n h in
        let b = in_y q h in
        let c : leb w (suc (age_of s q)) ≡ false = lt-leb w (suc (age_of s q)) (omega arith) in
        let d : age_of t q ≡ suc (age_of s q) = omega arith in
        rw (state_q q n, b, c, d)

    mark_old : (q : ℕ) → (home_in s q ≡ 0 → ⊥) → (q ≡ p → ⊥) → resident t q ≡ marked (aged w (resident s q).mark) (resident s q)
    mark_old q h n =
        let c = calm_aged w (state_of s q) (age_of t q) (age_of s q) (sound.sorted q ∙ ne_eqb (home_in s q) 0 h) in
        rw (state_q q n) (ap (λ (m : Mark). record { item = q; mark = m }) c)

    -- what the machine's step makes of the parts, from what the slots hold after it
    seat_parts : (u : Slots) → list_of 0 u ++ list_of 1 u ≡ p ∷ (list_of 0 s ++ list_of 1 s) → list_of 2 u ≡ list_of 2 s → list_of 3 u ≡ rest → u.opened ≡ s.opened → resident u p ≡ record { item = p; mark = young 0 } → ((q : ℕ) → home_in s q < 2 → resident u q ≡ marked (aged w (resident s q).mark) (resident s q)) → ((q : ℕ) → home_in s q ≡ 2 → resident u q ≡ resident s q) → parts_of u ≡ seated_top w Small (parts_of s).free (parts_of s)
    seat_parts u a b c d here near far =
        let m = map_same (resident u) (λ q. marked (aged w (resident s q).mark) (resident s q)) (list_of 0 s ++ list_of 1 s)
        (λ q o. near q (small_home s q (let k = occurs_append q (list_of 0 s) (list_of 1 s) in omega arith))) in
        let n = map-map (λ r. marked (aged w r.mark) r) (resident s) (list_of 0 s ++ list_of 1 s) in
        let f = map_same (resident u) (resident s) (list_of 2 s) (λ q o. far q (home_from s q 2 (omega arith) o)) in
        rw (a, b, c, d, top, here, m, n, f)

    not_p : (q : ℕ) → home_in s q < 3 → q ≡ p → ⊥
    not_p q h e = let i = home_p in let k : home_in s q ≡ home_in s p = ap (home_in s) e in omega arith

    -- every window stays open
    module _ (open_z : age_of t z < w) where
      all_open : (q : ℕ) → home_in t q ≡ 0 → age_of t q < w
      all_open q h =
          elim (cases_eq q z) [
            | inl e ↦ let k : age_of t q ≡ age_of t z = ap (age_of t) e in omega arith
            | inr e ↦ let k = younger q h e in omega arith
          ]

      pub open_sound : Sound w t
      open_sound =
          let k = joined_sound in
          record { sized = k.sized; listed = k.listed; counted = k.counted; sorted = k.sorted; recent = all_open; rising = k.rising }

      pub open_parts : parts_of t ≡ seated_top w Small (parts_of s).free (parts_of s)
      open_parts =
          seat_parts t (rw (list0, list1)) list2 list3 j.opened mark_p
          (λ q h.
          elim (cases_eq (home_in s q) 0) [
            | inl e ↦ mark_open q e (all_open q (home_there q (other_young q e) ∙ e))
            | inr e ↦ mark_old q e (not_p q (omega arith))
          ])
          (λ q h. mark_calm q (not_p q (omega arith)) (λ e. omega arith))

    -- the window of z closes
    module _ (u : Slots) (shut : w ≤ age_of t z) (cl : Closed t u z) where
      st : SlotState
      st = met (state_of t z) WindowClosed

      z≢p : z ≡ p → ⊥
      z≢p e = let a = age_p in let k : age_of t z ≡ age_of t p = ap (age_of t) e in omega arith

      home_s_z : home_in s z ≡ 0
      home_s_z = sym (home_there z z≢p) ∙ home_z

      re : Restated t u z (met (state_of t z) WindowClosed)
      re = record { places = cl.places; admissions = cl.admissions; opened = cl.opened; window = cl.window }

      low_z : z < t.opened
      low_z = let h = home_z in home_opened t joined_sound.listed z (omega arith)

      nearly : Sound (w + 1) u
      nearly =
          fronted_sound t u z (met (state_of t z) WindowClosed) re (w + 1) 1 (omega arith) (omega arith) joined_sound low_z cl.homes (closed_calm (state_of t z)) cl.line

      home_u : (q : ℕ) → (q ≡ z → ⊥) → home_in u q ≡ home_in t q
      home_u q n = home_other t u z (met (state_of t z) WindowClosed) re (w + 1) 1 (omega arith) (omega arith) joined_sound low_z cl.homes (closed_calm (state_of t z)) q n

      home_u_z : home_in u z ≡ 1
      home_u_z = home_moved t u z (met (state_of t z) WindowClosed) re (w + 1) 1 (omega arith) (omega arith) joined_sound low_z cl.homes (closed_calm (state_of t z))

      age_u : (q : ℕ) → age_of u q ≡ age_of t q
      age_u q = age_kept t u z (met (state_of t z) WindowClosed) re q

      at_most_w : age_of t z ≤ w
      at_most_w = let r = joined_sound.recent z home_z in omega arith

      pub closed_sound : Sound w u
      closed_sound =
          record {
            sized = nearly.sized;
            listed = nearly.listed;
            counted = nearly.counted;
            sorted = nearly.sorted;
            recent = λ q h.
                elim (cases_eq q z) [
                  | inl e ↦ let k : home_in u q ≡ 1 = ap (home_in u) e ∙ home_u_z in absurd (omega arith)
                  | inr e ↦
                      let k = younger q (sym (home_u q e) ∙ h) e in
                      let a = age_u q in
                      let b = at_most_w in
                      omega arith
                ];
            rising = nearly.rising;
          }

      line_u : lists u.line ≡ pushed_front z 1 (lists t.line)
      line_u = let h = home_z in cl.line ∙ rw (lt-ltb z 512 (home_low t z (omega arith)))

      absent_z : (k : ℕ) → 1 ≤ k → k < 4 → without z (list_of k t) ≡ list_of k t
      absent_z k a l = let h = home_z in without_absent z (list_of k t) (out_of_list t z k l (λ e. omega arith))

      u0 : list_of 0 u ≡ split.rest
      u0 =
          let o = at_most_once t z 0 (omega arith) in
          let c : occurs z (list_of 0 t) ≡ occurs z (split.rest ++ z ∷ []) = ap (λ (xs : List ℕ). occurs z xs) (list0 ∙ split.is) in
          ap (λ (xss : List (List ℕ)). nth 0 xss) line_u ∙ (ap (without z) (list0 ∙ split.is) ∙ without_last z split.rest (omega arith))

      u1 : list_of 1 u ≡ z ∷ list_of 1 s
      u1 = ap (λ (xss : List (List ℕ)). nth 1 xss) line_u ∙ ap (λ (xs : List ℕ). z ∷ xs) (absent_z 1 (omega arith) (omega arith) ∙ list1)

      u01 : list_of 0 u ++ list_of 1 u ≡ p ∷ (list_of 0 s ++ list_of 1 s)
      u01 =
          let a = u0 in
          let b = u1 in
          let d = split.is in
          rw (a, b) (sym (append_assoc split.rest (z ∷ []) (list_of 1 s)) ∙ ap (λ (xs : List ℕ). xs ++ list_of 1 s) (sym d))

      same_u : (q : ℕ) → (q ≡ z → ⊥) → resident u q ≡ resident t q
      same_u q n = resident_other t u z (met (state_of t z) WindowClosed) re q n

      mark_z : resident u z ≡ marked (aged w (resident s z).mark) (resident s z)
      mark_z =
          let h = home_z in
          let l = home_low t z (omega arith) in
          let k = joined_sound.sized in
          let a : state_of u z ≡ met (state_of t z) WindowClosed = state_here t u z (met (state_of t z) WindowClosed) re (omega arith) in
          let b = in_y z home_s_z in
          let c : state_of t z ≡ Young = state_q z z≢p ∙ b in
          let d = age_q z z≢p home_s_z in
          let e : leb w (suc (age_of s z)) ≡ true = le-leb w (suc (age_of s z)) (omega arith) in
          rw (a, c, b, e)

      pub closed_parts : parts_of u ≡ seated_top w Small (parts_of s).free (parts_of s)
      closed_parts =
          seat_parts u u01 (ap (λ (xss : List (List ℕ)). nth 2 xss) line_u ∙ (absent_z 2 (omega arith) (omega arith) ∙ list2))
          (ap (λ (xss : List (List ℕ)). nth 3 xss) line_u ∙ (absent_z 3 (omega arith) (omega arith) ∙ list3)) (cl.opened ∙ j.opened)
          (same_u p (λ e. z≢p (sym e)) ∙ mark_p)
          (λ q h.
          elim (cases_eq q z) [
            | inl e ↦ rw e mark_z
            | inr e ↦
                same_u q e
                ∙ (elim (cases_eq (home_in s q) 0) [
                  | inl i ↦
                      let k = younger q (home_there q (other_young q i) ∙ i) e in
                      let b = at_most_w in
                      mark_open q i (omega arith)
                  | inr i ↦ mark_old q i (not_p q (omega arith))
                ])
          ])
          (λ q h.
          same_u q (λ e. let a = home_s_z in let k : home_in s q ≡ home_in s z = ap (home_in s) e in omega arith)
          ∙ mark_calm q (not_p q (omega arith)) (λ e. omega arith))

-- both steps of seating
module _ (s t u : Slots) (sound : Sound s.window s) (small : s.window ≤ 255) (some : 1 ≤ s.window) (p : ℕ) (rest : List ℕ) (top : list_of 3 s ≡ p ∷ rest) (j : Joined s t p) where
  finish : (o : Option ℕ) → o ≡ last_of (list_of 0 t) → closing t u o → Sound s.window u × (parts_of u ≡ seated_top s.window Small (parts_of s).free (parts_of s)) × (u.window ≡ s.window)
  finish None e c =
      let l = list0 s t s.window sound small some p rest top j in
      let i : None ≡ last_of (p ∷ list_of 0 s) = e ∙ ap last_of l in
      let z : ◌≡◌ {A = ℕ} 0 1 = cc in
      absurd (omega arith)
  finish (Some z) e c =
      let l = list0 s t s.window sound small some p rest top j in
      let split = split_last (p ∷ list_of 0 s) z (e ∙ ap last_of l) in
      let v = j.window in
      elim (cases_lt (age_of t z) s.window) [
        | inl h ↦
            let same = when_true (u ≡ t) (Closed t u z) (lt-ltb (age_of t z) t.window (omega arith)) c in
            subst (λ (x : Slots). Sound s.window x × (parts_of x ≡ seated_top s.window Small (parts_of s).free (parts_of s)) × (x.window ≡ s.window)) (sym same)
            (open_sound s t s.window sound small some p rest top j z split h, open_parts s t s.window sound small some p rest top j z split h, v)
        | inr h ↦
            let cl = when_false (u ≡ t) (Closed t u z) (le-ltb (age_of t z) t.window (omega arith)) c in
            (closed_sound s t s.window sound small some p rest top j z split u h cl, closed_parts s t s.window sound small some p rest top j z split u h cl, cl.window ∙ v)
      ]

  pub seated : closing t u (last_of (list_of 0 t)) → Sound s.window u × (parts_of u ≡ seated_top s.window Small (parts_of s).free (parts_of s)) × (u.window ≡ s.window)
  seated c = finish (last_of (list_of 0 t)) refl c
