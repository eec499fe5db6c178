-- Main's hand, and a sweep as so many turns of it.
use Rattle.std.proofs.Common.{◌≡◌, ℕ, zero, suc, ◌+◌, ◌<◌, ◌≤◌, Bool, true, false, List, [], ◌∷◌, ◌++◌, map, length, take, drop, Some, None, Option, sym, refl, ap, ◌∙◌, add-one, arith}
use Rattle.std.proofs.lemmas.List.{append_assoc, map-append, length-append, length-map, take-append-drop}
use Rattle.links.specs.Rows.{occurs, first_of}
use Rattle.links.proofs.Counts.{occurs_same}
use Rattle.machine.specs.Replacement.{Resident, Parts, Swept, marked, plain, is_used, sweep_from, sweep}
use Rattle.queues.specs.declared.slots.Slots.{Slots}
use Rattle.queues.specs.Slots.{list_of, home_in}
use Rattle.queues.specs.Steps.{hand_at, passed, turned, told}
use Rattle.queues.proofs.Sound.{home_from}
use Rattle.links.proofs.Ends.{split_first}

pub hand_home : (s : Slots) (p : ℕ) → Some p ≡ first_of (list_of 2 s) → home_in s p ≡ 2
hand_home s p e =
    let w = split_first (list_of 2 s) p e in
    let c : occurs p (list_of 2 s) ≡ occurs p (p ∷ w.rest) = ap (λ (xs : List ℕ). occurs p xs) w.is in
    let n = occurs_same p w.rest in
    home_from s p 2 (omega arith) (omega arith)

-- Main after n turns of the hand
abbrev pub calmed : List (Resident ℕ) → List (Resident ℕ)
calmed rs = map (marked plain) rs

abbrev pub after : ℕ → List (Resident ℕ) → List (Resident ℕ)
after n rs = drop n rs ++ calmed (take n rs)

abbrev pub left_to_sweep : ℕ → List (Resident ℕ) → Option (Swept ℕ)
left_to_sweep n rs = sweep_from n (calmed (take n rs)) (drop n rs)

pub record Next (n : ℕ) (xs : List (Resident ℕ)) (d : Resident ℕ) (ds : List (Resident ℕ)) : Type 0 where
  pub low : n < length xs
  pub rest : drop (suc n) xs ≡ ds
  pub front : take (suc n) xs ≡ take n xs ++ d ∷ []

pub next_of : (n : ℕ) (xs : List (Resident ℕ)) (d : Resident ℕ) (ds : List (Resident ℕ)) → drop n xs ≡ d ∷ ds → Next n xs d ds
next_of zero [] d ds e = let z : ◌≡◌ {A = ℕ} 0 1 = cc in absurd (omega arith)
next_of zero (x ∷ xs) d ds e =
    let a : x ≡ d = cc in
    let b : xs ≡ ds = cc in
    record { low = omega arith; rest = b; front = rw a }
next_of (suc n) [] d ds e = let z : ◌≡◌ {A = ℕ} 0 1 = cc in absurd (omega arith)
next_of (suc n) (x ∷ xs) d ds e =
    let ih = next_of n xs d ds e in
    record { low = let l = ih.low in omega arith; rest = ih.rest; front = ap (λ (r : List (Resident ℕ)). x ∷ r) ih.front }

module _ (n : ℕ) (xs : List (Resident ℕ)) (r : Resident ℕ) (rs : List (Resident ℕ)) where
  -- the first is used: one more turn
  pub turn : after n xs ≡ r ∷ rs → is_used r.mark ≡ true → (n < length xs) × (rs ++ marked plain r ∷ [] ≡ after (suc n) xs) × (left_to_sweep n xs ≡ left_to_sweep (suc n) xs)
  turn e u = go (drop n xs) refl
    where
      go : (ds : List (Resident ℕ)) → drop n xs ≡ ds → (n < length xs) × (rs ++ marked plain r ∷ [] ≡ after (suc n) xs) × (left_to_sweep n xs ≡ left_to_sweep (suc n) xs)
      go [] i = absurd (all_calm (take n xs) (sym (ap (λ (ds : List (Resident ℕ)). ds ++ calmed (take n xs)) i) ∙ e))
        where
          all_calm : (ys : List (Resident ℕ)) → calmed ys ≡ r ∷ rs → ⊥
          all_calm [] j = let z : ◌≡◌ {A = ℕ} 0 1 = cc in omega arith
          all_calm (y ∷ ys) j =
              let k : marked plain y ≡ r = cc in
              let t : is_used (marked plain y).mark ≡ true = ap (λ (q : Resident ℕ). is_used q.mark) k ∙ u in
              let z : ◌≡◌ {A = ℕ} 0 1 = cc in
              omega arith
      go (d ∷ ds) i =
          let x = next_of n xs d ds i in
          let j : d ∷ (ds ++ calmed (take n xs)) ≡ r ∷ rs = sym (ap (λ (es : List (Resident ℕ)). es ++ calmed (take n xs)) i) ∙ e in
          let a : d ≡ r = cc in
          let b : ds ++ calmed (take n xs) ≡ rs = cc in
          let c = map-append (marked plain) (take n xs) (d ∷ []) in
          let f = x.front in
          let g = x.rest in
          let k : calmed (take (suc n) xs) ≡ calmed (take n xs) ++ marked plain r ∷ [] = ap calmed f ∙ (c ∙ ap (λ (q : Resident ℕ). calmed (take n xs) ++ marked plain q ∷ []) a) in (
            x.low,
            ap (λ (q : List (Resident ℕ)). q ++ marked plain r ∷ []) (sym b) ∙ (append_assoc ds (calmed (take n xs)) (marked plain r ∷ []) ∙ sym (rw (g, k))),
            rw (i, a, u, g, k),
          )

  -- the first is not used: it is the victim
  pub stop : after n xs ≡ r ∷ rs → is_used r.mark ≡ false → left_to_sweep n xs ≡ Some (record { victim = r; rest = rs; chances = n })
  stop e u = go (drop n xs) refl
    where
      go : (ds : List (Resident ℕ)) → drop n xs ≡ ds → left_to_sweep n xs ≡ Some (record { victim = r; rest = rs; chances = n })
      go [] i =
          let j : calmed (take n xs) ≡ r ∷ rs = sym (ap (λ (ds : List (Resident ℕ)). ds ++ calmed (take n xs)) i) ∙ e in
          rw (i, j)
      go (d ∷ ds) i =
          let j : d ∷ (ds ++ calmed (take n xs)) ≡ r ∷ rs = sym (ap (λ (es : List (Resident ℕ)). es ++ calmed (take n xs)) i) ∙ e in
          let a : d ≡ r = cc in
          let b : ds ++ calmed (take n xs) ≡ rs = cc in
          rw (i, a, u, b)

-- the parts with another Main
abbrev pub mained : List (Resident ℕ) → Parts ℕ ℕ ℕ → Parts ℕ ℕ ℕ
mained rs s = record { small = s.small; main = rs; remembered = s.remembered; free = s.free; opened = s.opened }

-- what the hand finds
pub record AtHand (ms : List (Resident ℕ)) (p : ℕ) (u : Bool) : Type 0 where
  pub first : Resident ℕ
  pub rest : List (Resident ℕ)
  pub is : ms ≡ first ∷ rest
  pub place : p ≡ first.item
  pub used : u ≡ is_used first.mark

pub at_hand : (ms : List (Resident ℕ)) (p : ℕ) (u : Bool) → Some (p, u) ≡ hand_at ms → AtHand ms p u
at_hand [] p u e = let z : ◌≡◌ {A = ℕ} 0 1 = cc in absurd (omega arith)
at_hand (r ∷ rs) p u e =
    let i : ◌≡◌ {A = ℕ × Bool} (p, u) (r.item, is_used r.mark) = cc in
    record { first = r; rest = rs; is = refl; place = ap (λ (x : ℕ × Bool). x.0) i; used = ap (λ (x : ℕ × Bool). x.1) i }

pub no_hand : (ms : List (Resident ℕ)) → None ≡ hand_at ms → ms ≡ []
no_hand [] e = refl
no_hand (r ∷ rs) e = let z : ◌≡◌ {A = ℕ} 0 1 = cc in absurd (omega arith)

pub length_after : (n : ℕ) (xs : List (Resident ℕ)) → length (after n xs) ≡ length xs
length_after n xs =
    let a = length-append (drop n xs) (calmed (take n xs)) in
    let b = length-map (take n xs) (marked plain) in
    let c = length-append (take n xs) (drop n xs) in
    let d = ap (λ (ys : List (Resident ℕ)). length ys) (take-append-drop n xs) in
    omega arith

module _ (s0 s1 : Parts ℕ ℕ ℕ) (n : ℕ) (e1 : s1 ≡ mained (after n s0.main) s0) where
  main_is : s1.main ≡ after n s0.main
  main_is = ap (λ (s : Parts ℕ ℕ ℕ). s.main) e1

  pub main_long : length s1.main ≡ length s0.main
  main_long = ap (λ (xs : List (Resident ℕ)). length xs) main_is ∙ length_after n s0.main

  module _ (p : ℕ) (u : Bool) (h : AtHand s1.main p u) where
    -- one more turn of the hand
    pub turn_parts : u ≡ true → (s2 : Parts ℕ ℕ ℕ) → s2 ≡ passed s1.main s1 → (n + 1 ≤ length s0.main) × (s2 ≡ mained (after (n + 1) s0.main) s0) × (left_to_sweep (n + 1) s0.main ≡ left_to_sweep n s0.main)
    turn_parts i s2 e2 =
        let k : after n s0.main ≡ h.first ∷ h.rest = sym main_is ∙ h.is in
        let t = turn n s0.main h.first h.rest k (sym h.used ∙ i) in
        let j = add-one n in
        let a : s2 ≡ passed (after n s0.main) (mained (after n s0.main) s0) = e2 ∙ ap (λ (s : Parts ℕ ℕ ℕ). passed s.main s) e1 in
        let b : s2 ≡ mained (h.rest ++ marked plain h.first ∷ []) s0 = a ∙ ap (λ (ms : List (Resident ℕ)). passed ms (mained (after n s0.main) s0)) k in
        (let l = t.0 in omega arith, rw j (b ∙ ap (λ (ms : List (Resident ℕ)). mained ms s0) t.1), rw j (sym t.2))

    -- the hand stops
    pub stop_parts : u ≡ false → left_to_sweep n s0.main ≡ sweep s0.main → (Some (record { victim = p; chances = n }) ≡ told (sweep s0.main)) × (s1 ≡ turned (sweep s0.main) s0)
    stop_parts i e =
        let k : after n s0.main ≡ h.first ∷ h.rest = sym main_is ∙ h.is in
        let t = sym e ∙ stop n s0.main h.first h.rest k (sym h.used ∙ i) in
        let q = h.place in
        (rw (t, q), e1 ∙ rw (t, k))
