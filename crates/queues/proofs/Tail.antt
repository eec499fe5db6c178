-- Small's tail: which place it is, and what stands before it.
use Rattle.std.proofs.Common.{◌≡◌, ℕ, ◌<◌, false, List, [], ◌∷◌, ◌++◌, map, Some, None, Option, sym, refl, ap, ◌∙◌, arith}
use Rattle.std.proofs.lemmas.List.{append-nil, append_assoc}
use Rattle.std.specs.Option.{option_or}
use Rattle.links.specs.Rows.{occurs, last_or, last_of}
use Rattle.links.proofs.Counts.{occurs_append, occurs_same}
use Rattle.machine.specs.Replacement.{Resident, Ended, ended, is_tail_used}
use Rattle.queues.specs.declared.slots.Slots.{Slots}
use Rattle.queues.specs.State.{was_used}
use Rattle.queues.specs.Slots.{list_of, home_in, state_of, age_of}
use Rattle.queues.specs.Held.{resident, parts_of}
use Rattle.queues.specs.Steps.{place_of}
use Rattle.links.proofs.Ends.{front, front_last, Split, split_last, no_last}
use Rattle.queues.proofs.Ends.{ended_map}
use Rattle.queues.proofs.ToMain.{small_home, used_seen}

last_snoc : (x : ℕ) (xs : List ℕ) (p : ℕ) → last_or x (xs ++ p ∷ []) ≡ p
last_snoc x [] p = refl
last_snoc x (y ∷ ys) p = last_snoc y ys p

pub last_of_snoc : (xs : List ℕ) (p : ℕ) → last_of (xs ++ p ∷ []) ≡ Some p
last_of_snoc [] p = refl
last_of_snoc (x ∷ xs) p = ap (λ (q : ℕ). Some q) (last_snoc x xs p)

module _ (s : Slots) where
  pub tail_place : (xs : List ℕ) → last_of xs ≡ place_of (ended (map (resident s) xs))
  tail_place [] = refl
  tail_place (x ∷ xs) =
      sym (ap (λ (ys : List ℕ). place_of (ended (map (resident s) ys))) (front_last x xs) ∙ ap place_of (ended_map (resident s) (front x xs) (last_or x xs)))

  tail_old : (p : ℕ) → Some p ≡ last_of (list_of 1 s) → Some p ≡ place_of (ended (parts_of s).small)
  tail_old p e =
      let o = split_last (list_of 1 s) p e in
      let w : list_of 0 s ++ list_of 1 s ≡ (list_of 0 s ++ o.rest) ++ p ∷ [] = ap (λ (xs : List ℕ). list_of 0 s ++ xs) o.is ∙ sym (append_assoc (list_of 0 s) o.rest (p ∷ [])) in
      sym (last_of_snoc (list_of 0 s ++ o.rest) p) ∙ (ap last_of (sym w) ∙ tail_place (list_of 0 s ++ list_of 1 s))

  tail_young : None ≡ last_of (list_of 1 s) → (r : Option ℕ) → r ≡ last_of (list_of 0 s) → r ≡ place_of (ended (parts_of s).small)
  tail_young e r i =
      let o = no_last (list_of 1 s) e in
      let w : list_of 0 s ++ list_of 1 s ≡ list_of 0 s = ap (λ (xs : List ℕ). list_of 0 s ++ xs) o ∙ append-nil (list_of 0 s) in
      i ∙ (ap last_of (sym w) ∙ tail_place (list_of 0 s ++ list_of 1 s))

  -- the last of the others, else the oldest of the young
  pub tail_is : (o y : Option ℕ) → o ≡ last_of (list_of 1 s) → y ≡ last_of (list_of 0 s) → option_or o y ≡ place_of (ended (parts_of s).small)
  tail_is None y e f = tail_young e y f
  tail_is (Some p) y e f = tail_old p e

  pub untailed_is : None ≡ place_of (ended (parts_of s).small) → false ≡ is_tail_used (ended (parts_of s).small)
  untailed_is h = go (ended (parts_of s).small) h
    where
      go : (o : Option (Ended (Resident ℕ))) → None ≡ place_of o → false ≡ is_tail_used o
      go None e = refl
      go (Some x) e = let z : ◌≡◌ {A = ℕ} 0 1 = cc in absurd (omega arith)

  -- what the place of the tail tells
  module _ (p : ℕ) (e : Some p ≡ place_of (ended (parts_of s).small)) where
    pub tail_split : Split (list_of 0 s ++ list_of 1 s) p
    tail_split = split_last (list_of 0 s ++ list_of 1 s) p (e ∙ sym (tail_place (list_of 0 s ++ list_of 1 s)))

    pub tail_home : home_in s p < 2
    tail_home =
        let w = tail_split in
        let c : occurs p (list_of 0 s ++ list_of 1 s) ≡ occurs p (w.rest ++ p ∷ []) = ap (λ (xs : List ℕ). occurs p xs) w.is in
        let a = occurs_append p (list_of 0 s) (list_of 1 s) in
        let b = occurs_append p w.rest (p ∷ []) in
        let d = occurs_same p [] in
        small_home s p (omega arith)

    pub tail_used_is : was_used (state_of s p) ≡ is_tail_used (ended (parts_of s).small)
    tail_used_is =
        let w = tail_split in
        let k : ended (map (resident s) (list_of 0 s ++ list_of 1 s)) ≡ Some (record { front = map (resident s) w.rest; tail = resident s p }) = ap (λ (xs : List ℕ). ended (map (resident s) xs)) w.is ∙ ended_map (resident s) w.rest p in
        sym (used_seen (state_of s p) (age_of s p)) ∙ sym (ap is_tail_used k)
