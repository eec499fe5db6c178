-- A place goes to a list other than that of the young, with a state that is not young: what always holds still does.
use Rattle.std.proofs.Common.{◌≡◌, ℕ, zero, suc, ◌<◌, ◌≤◌, false, ◌≢◌, List, [], ◌∷◌, map, length, get_or, set, sym, refl, ap, ◌∙◌, inl, inr, arith, length-set}
use Rattle.std.proofs.lemmas.List.{get_or-set_same, get_or-set_other}
use Rattle.std.proofs.lemmas.Bool.{cases_eq, eq-eqb, ne_eqb, lt-ltb}
use Rattle.links.specs.declared.line.Line.{Line}
use Rattle.links.specs.Lists.{lists, rehomed}
use Rattle.links.specs.Rows.{occurs, without, fronted, backed, pushed_front, pushed_back, nth}
use Rattle.queues.specs.declared.slots.Slots.{Slots}
use Rattle.queues.specs.declared.slots.ResidentSlot.{ResidentSlot}
use Rattle.queues.specs.declared.state.SlotState.{SlotState}
use Rattle.queues.specs.declared.state.SlotState.TheVariants.{Plain}
use Rattle.queues.specs.State.{is_young, with_state}
use Rattle.queues.specs.Slots.{list_of, home_in, slot_of, state_of, age_of}
use Rattle.queues.specs.Held.{resident}
use Rattle.queues.proofs.Maps.{map_same}
use Rattle.queues.proofs.Sound.{Sound, opened_home, home_low, one_in_all, front_long, back_long, all_long, rising_without}

-- past the end
abbrev nobody : ResidentSlot
nobody = record { state = Plain; admitted = 0 }

admitted_kept : (xs : List ResidentSlot) (p q : ℕ) (st : SlotState) → (get_or (set xs p (with_state (get_or xs p nobody) st)) q nobody).admitted ≡ (get_or xs q nobody).admitted
admitted_kept [] p q st = refl
admitted_kept (x ∷ xs) zero zero st = refl
admitted_kept (x ∷ xs) zero (suc q) st = refl
admitted_kept (x ∷ xs) (suc p) zero st = refl
admitted_kept (x ∷ xs) (suc p) (suc q) st = admitted_kept xs p q st

-- t is s with another line and the state of p changed
pub record Restated (s t : Slots) (p : ℕ) (st : SlotState) : Type 0 where
  pub places : t.places ≡ set s.places p (with_state (slot_of s p) st)
  pub admissions : t.admissions ≡ s.admissions
  pub opened : t.opened ≡ s.opened
  pub window : t.window ≡ s.window

module _ (s t : Slots) (p : ℕ) (st : SlotState) (re : Restated s t p st) where
  pub age_kept : (q : ℕ) → age_of t q ≡ age_of s q
  age_kept q =
      let a = ap (λ (xs : List ResidentSlot). (get_or xs q nobody).admitted) re.places ∙ admitted_kept s.places p q st in
      let n = re.admissions in
      cc

  slot_other : (q : ℕ) → (q ≡ p → ⊥) → slot_of t q ≡ slot_of s q
  slot_other q n =
      let ne : q ≢ p = n in
      ap (λ (xs : List ResidentSlot). get_or xs q nobody) re.places ∙ get_or-set_other s.places p q (with_state (slot_of s p) st) nobody ne

  pub state_other : (q : ℕ) → (q ≡ p → ⊥) → state_of t q ≡ state_of s q
  state_other q n = ap (λ (r : ResidentSlot). r.state) (slot_other q n)

  pub state_here : p < length s.places → state_of t p ≡ st
  state_here l =
      ap (λ (xs : List ResidentSlot). (get_or xs p nobody).state) re.places
      ∙ ap (λ (r : ResidentSlot). r.state) (get_or-set_same s.places p (with_state (slot_of s p) st) nobody l)

  -- what the others carry is as it was
  pub resident_other : (q : ℕ) → (q ≡ p → ⊥) → resident t q ≡ resident s q
  resident_other q n =
      let a = age_kept q in
      let b = state_other q n in
      cc

  pub residents_kept : (xs : List ℕ) → occurs p xs ≡ 0 → map (resident t) xs ≡ map (resident s) xs
  residents_kept xs z =
      map_same (resident t) (resident s) xs (λ q o. resident_other q (λ e. let k : occurs p xs ≡ occurs q xs = ap (λ (x : ℕ). occurs x xs) (sym e) in omega arith))

  module _ (b k : ℕ) (from1 : 1 ≤ k) (small : k < 4) (sound : Sound b s) (low : p < s.opened)
      (homes : (q : ℕ) → home_in t q ≡ rehomed p k (home_in s) q) (calm : is_young st ≡ false) where
    at_512 : p < 512
    at_512 = home_low s p (opened_home s sound.listed p low)

    pub home_here : home_in t p ≡ k
    home_here = homes p ∙ rw (lt-ltb p 512 at_512, lt-ltb k 4 small, eq-eqb p p refl)

    pub home_other : (q : ℕ) → (q ≡ p → ⊥) → home_in t q ≡ home_in s q
    home_other q n = homes q ∙ rw (lt-ltb p 512 at_512, lt-ltb k 4 small, ne_eqb q p n)

    first_front : (j : ℕ) → 1 ≤ j → nth 0 (pushed_front p j (lists s.line)) ≡ without p (list_of 0 s)
    first_front zero l = absurd (omega arith)
    first_front (suc j) l = refl

    first_back : (j : ℕ) → 1 ≤ j → nth 0 (pushed_back p j (lists s.line)) ≡ without p (list_of 0 s)
    first_back zero l = absurd (omega arith)
    first_back (suc j) l = refl

    pub moved_sound : list_of 0 t ≡ without p (list_of 0 s) → all_long (lists t.line) ≡ all_long (lists s.line) → Sound b t
    moved_sound young long =
        record {
          sized = ap (λ (xs : List ResidentSlot). length xs) re.places ∙ simp length-set sound.sized;
          listed = λ q.
              elim (cases_eq q p) [
                | inl e ↦
                    let l : q < t.opened = let o = re.opened in omega arith in
                    let h : home_in t q ≡ k = ap (λ (x : ℕ). home_in t x) e ∙ home_here in
                    rw h (lt-ltb k 4 small ∙ sym (lt-ltb q t.opened l))
                | inr e ↦ rw (home_other q e, re.opened) (sound.listed q)
              ];
          counted = long ∙ (sound.counted ∙ sym re.opened);
          sorted = λ q.
              elim (cases_eq q p) [
                | inl e ↦
                    let l : p < length s.places = let z = sound.sized in let i = at_512 in omega arith in
                    rw (e, state_here l, home_here, calm, ne_eqb k 0 (λ i. omega arith))
                | inr e ↦ rw (home_other q e, state_other q e) (sound.sorted q)
              ];
          recent = λ q h.
              elim (cases_eq q p) [
                | inl e ↦ let i : home_in t q ≡ k = ap (λ (x : ℕ). home_in t x) e ∙ home_here in absurd (omega arith)
                | inr e ↦
                    let a = age_kept q in
                    let r = sound.recent q (sym (home_other q e) ∙ h) in
                    omega arith
              ];
          rising =
              rw young
              (rw (map_same (age_of t) (age_of s) (without p (list_of 0 s)) (λ q o. age_kept q))
              (rising_without (age_of s) p 0 (list_of 0 s) sound.rising));
        }

    -- after a push to an end of list k
    pub fronted_sound : lists t.line ≡ fronted p k (lists s.line) → Sound b t
    fronted_sound e =
        let i = at_512 in
        let e' : lists t.line ≡ pushed_front p k (lists s.line) = e ∙ rw (lt-ltb p 512 i, lt-ltb k 4 small) in
        let o = one_in_all s p (opened_home s sound.listed p low) in
        let l = front_long p (list_of 0 s) (list_of 1 s) (list_of 2 s) (list_of 3 s) k small in
        moved_sound (ap (λ (xss : List (List ℕ)). nth 0 xss) e' ∙ first_front k from1) (ap all_long e' ∙ (omega arith))

    pub backed_sound : lists t.line ≡ backed p k (lists s.line) → Sound b t
    backed_sound e =
        let i = at_512 in
        let e' : lists t.line ≡ pushed_back p k (lists s.line) = e ∙ rw (lt-ltb p 512 i, lt-ltb k 4 small) in
        let o = one_in_all s p (opened_home s sound.listed p low) in
        let l = back_long p (list_of 0 s) (list_of 1 s) (list_of 2 s) (list_of 3 s) k small in
        moved_sound (ap (λ (xss : List (List ℕ)). nth 0 xss) e' ∙ first_back k from1) (ap all_long e' ∙ (omega arith))

-- s with another line, and another state of p
abbrev pub placed : Slots → Line → ℕ → SlotState → Slots
placed s l p st =
    record { line = l; places = set s.places p (with_state (slot_of s p) st); admissions = s.admissions; opened = s.opened; window = s.window }

pub placed_restated : (s : Slots) (l : Line) (p : ℕ) (st : SlotState) → Restated s (placed s l p st) p st
placed_restated s l p st = record { places = refl; admissions = refl; opened = refl; window = refl }

-- s with another line and other slots
abbrev pub with_line : Slots → Line → List ResidentSlot → Slots
with_line s l places =
    record { line = l; places = places; admissions = s.admissions; opened = s.opened; window = s.window }

pub restated : (s : Slots) (l : Line) (places : List ResidentSlot) (p : ℕ) (st : SlotState) → places ≡ set s.places p (with_state (slot_of s p) st) → Restated s (with_line s l places) p st
restated s l places p st e = record { places = e; admissions = refl; opened = refl; window = refl }
