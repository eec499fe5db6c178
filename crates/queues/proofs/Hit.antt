-- A use of a place changes one mark, and nothing else that shows.
use Rattle.std.proofs.Common.{◌≡◌, ℕ, ◌<◌, ◌≤◌, eqb, List, ◌++◌, map, length, set, sym, refl, ap, ◌∙◌, inl, inr, arith, length-set}
use Rattle.std.proofs.lemmas.Bool.{cases_eq, eq-eqb, ne_eqb}
use Rattle.std.proofs.lemmas.Simd.{map-map}
use Rattle.links.specs.Rows.{occurs}
use Rattle.machine.specs.Replacement.{Mark, Resident, hit, uses, touched}
use Rattle.queues.specs.declared.slots.Slots.{Slots}
use Rattle.queues.specs.declared.slots.ResidentSlot.{ResidentSlot}
use Rattle.queues.specs.declared.state.SlotState.{SlotState}
use Rattle.queues.specs.declared.state.SlotState.TheVariants.{Plain, Young, Used}
use Rattle.queues.specs.declared.state.Event.TheVariants.{Hit}
use Rattle.queues.specs.State.{met, seen, is_young, with_state}
use Rattle.queues.specs.Slots.{list_of, home_in, slot_of, state_of, age_of}
use Rattle.queues.specs.Held.{resident, parts_of}
use Rattle.queues.proofs.Maps.{map_same}
use Rattle.links.proofs.Counts.{occurs_append}
use Rattle.queues.proofs.Sound.{Sound, none_in_all}
use Rattle.queues.proofs.Moved.{Restated, age_kept, state_here, state_other, resident_other, restated, with_line}

pub seen_hit : (st : SlotState) (a : ℕ) → seen (met st Hit) a ≡ touched (seen st a)
seen_hit Plain a = refl
seen_hit Young a = refl
seen_hit Used a = refl

young_hit : (st : SlotState) → is_young (met st Hit) ≡ is_young st
young_hit Plain = refl
young_hit Young = refl
young_hit Used = refl

abbrev hits : ℕ → Resident ℕ → Resident ℕ
hits p = hit (λ q. eqb q p)

module _ (s t : Slots) (p : ℕ) (low : p < length s.places) (re : Restated s t p (met (state_of s p) Hit)) where
  each : (q : ℕ) → resident t q ≡ hits p (resident s q)
  each q =
      elim (cases_eq q p) [
        | inl e ↦
            let a = age_kept s t p (met (state_of s p) Hit) re p in
            let b = state_here s t p (met (state_of s p) Hit) re low in
            let g = seen_hit (state_of s p) (age_of s p) in
            rw (e, eq-eqb p p refl, b, a) (ap (λ (m : Mark). record { item = p; mark = m }) g)
        | inr e ↦ rw (ne_eqb q p e) (resident_other s t p (met (state_of s p) Hit) re q e)
      ]

  marks : (xs : List ℕ) → map (resident t) xs ≡ map (hits p) (map (resident s) xs)
  marks xs = map_same (resident t) (λ q. hits p (resident s q)) xs (λ q o. each q) ∙ sym (map-map (hits p) (resident s) xs)

  pub hit_parts : t.line ≡ s.line → parts_of t ≡ uses (λ q. eqb q p) (parts_of s)
  hit_parts l =
      let a = marks (list_of 0 s ++ list_of 1 s) in
      let b = marks (list_of 2 s) in
      let o = re.opened in
      cc

-- what always holds still does
pub hit_sound : (b : ℕ) (s : Slots) (places : List ResidentSlot) (p : ℕ) → p < length s.places → places ≡ set s.places p (with_state (slot_of s p) (met (state_of s p) Hit)) → Sound b s → Sound b (with_line s s.line places)
hit_sound b s places p low e sound =
    let t = with_line s s.line places in
    let re = restated s s.line places p (met (state_of s p) Hit) e in
    let age = age_kept s t p (met (state_of s p) Hit) re in
    record {
      sized = ap (λ (xs : List ResidentSlot). length xs) e ∙ simp length-set sound.sized;
      listed = sound.listed;
      counted = sound.counted;
      sorted = λ q.
          elim (cases_eq q p) [
            | inl i ↦ rw (i, state_here s t p (met (state_of s p) Hit) re low, young_hit (state_of s p)) (sound.sorted p)
            | inr i ↦ rw (state_other s t p (met (state_of s p) Hit) re q i) (sound.sorted q)
          ];
      recent = λ q h. let a = age q in let r = sound.recent q h in omega arith;
      rising = rw (map_same (age_of t) (age_of s) (list_of 0 s) (λ q o. age q)) sound.rising;
    }

-- a place that has no slot is nobody's
module _ (s : Slots) (p : ℕ) (far : 4 ≤ home_in s p) where
  unhit : (xs : List ℕ) → occurs p xs ≡ 0 → map (resident s) xs ≡ map (hits p) (map (resident s) xs)
  unhit xs z =
      map_same (resident s) (λ q. hits p (resident s q)) xs
      (λ q o. rw (ne_eqb q p (λ e. let k : occurs p xs ≡ occurs q xs = ap (λ (x : ℕ). occurs x xs) (sym e) in omega arith)))
      ∙ sym (map-map (hits p) (resident s) xs)

  pub unhit_parts : parts_of s ≡ uses (λ q. eqb q p) (parts_of s)
  unhit_parts =
      let n = none_in_all s p far in
      let a = unhit (list_of 0 s ++ list_of 1 s) (let h = occurs_append p (list_of 0 s) (list_of 1 s) in omega arith) in
      let b = unhit (list_of 2 s) (omega arith) in
      cc
