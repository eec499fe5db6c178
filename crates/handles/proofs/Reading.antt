-- What the code of the reader and of a search answers, from the search's own answer.
use Rattle.std.proofs.Common.{◌≡◌, ℕ, zero, suc, ◌+◌, ◌-◌, ◌%◌, ◌<◌, Bool, true, cond, List, [], ◌∷◌, length, get_or, Some, None, sym, refl, ap, ◌∙◌, subst, inl, inr, arith}
use Rattle.std.proofs.lemmas.Bool.Decides.{eqb_tells}
use Rattle.handles.specs.Slots.{rank_of, meta_of, occupied, empty, Sound, fingerprint}
use Rattle.handles.specs.Seek.{seek_from, candidates_from, candidates, first_by, to_come}
use Rattle.handles.specs.declared.slot.Slot.{Slot}
use Rattle.handles.proofs.Vacancy.{full}
use Rattle.handles.proofs.Candidates.{cands_follow, cands_none, first_is, handle_at, Follows}

module _ {X : Type 0} where
  -- no slot is occupied where none counts
  pub none_occupied : (xs : List (Slot X)) (i : ℕ) → occupied xs ≡ 0 → meta_of xs i ≡ empty
  none_occupied [] i e = refl
  none_occupied (s ∷ xs) zero e =
      elim (eqb_tells s.meta empty) [
        | inl t ↦ t.1
        | inr t ↦ absurd (let f : full s.meta ≡ 1 = ap (λ b. cond b 0 1) t.0 in omega arith)
      ]
  none_occupied (s ∷ xs) (suc i) e = none_occupied xs i (omega arith)

  pub empty_candidates : (xs : List (Slot X)) (len hash : ℕ) → Sound xs len → len ≡ 0 → candidates xs hash ≡ []
  empty_candidates xs len hash s e =
      cands_none (length xs) xs (hash % length xs) (fingerprint hash) (length xs) 0
      (λ p. ap rank_of (none_occupied xs (p % length xs) (s.1 ∙ e)))

  module _ (home print d : ℕ) where
    pub next_some : (xs : List (Slot X)) (e : ℕ) (x : X) → e < length xs → Some e ≡ seek_from (λ _. true) (length xs) xs home print (length xs - d) d → ((s : Slot X) → x ≡ (get_or xs ((home + e) % length xs) s).handle) → to_come xs home print d ≡ x ∷ to_come xs home print (e + 1)
    next_some xs e x lt is read =
        let s : Slot X = record { meta = 0; handle = x } in
        let f = cands_follow (length xs) xs home print refl (omega arith) s (length xs) (length xs - d) d refl in
        let g : Follows (length xs) xs home print s (length xs) (candidates_from (length xs) xs home print (length xs - d) d) (Some e) =
        subst (Follows (length xs) xs home print s (length xs) (candidates_from (length xs) xs home print (length xs - d) d)) (sym is) f in
        g ∙ ap (λ z. z ∷ to_come xs home print (e + 1)) (sym (read s))

    pub next_none : (xs : List (Slot X)) → None ≡ seek_from (λ _. true) (length xs) xs home print (length xs - d) d → to_come xs home print d ≡ []
    next_none [] is = let e : 0 - d ≡ 0 = omega arith in ap (λ (k : ℕ). candidates_from 0 [] home print k d) e
    next_none (y ∷ ys) is =
        let n = length (y ∷ ys) in
        subst (Follows n (y ∷ ys) home print y n (candidates_from n (y ∷ ys) home print (n - d) d)) (sym is)
        (cands_follow n (y ∷ ys) home print refl (omega arith) y n (n - d) d refl)

    -- the first to come that is sought, and that none is
    pub find_some : (ok : X → Bool) (xs : List (Slot X)) (e : ℕ) (x : X) → e < length xs → Some e ≡ seek_from ok (length xs) xs home print (length xs - d) d → ((s : Slot X) → x ≡ (get_or xs ((home + e) % length xs) s).handle) → Some x ≡ first_by ok (to_come xs home print d)
    find_some ok xs e x lt is read =
        let s : Slot X = record { meta = 0; handle = x } in
        let f = first_is (length xs) xs home print refl (omega arith) s ok (length xs - d) d in
        ap (λ z. Some z) (read s) ∙ sym (f ∙ ap (handle_at (length xs) xs home print s) (sym is))

    pub find_none : (ok : X → Bool) (xs : List (Slot X)) → None ≡ seek_from ok (length xs) xs home print (length xs - d) d → None ≡ first_by ok (to_come xs home print d)
    find_none ok [] is = let e : 0 - d ≡ 0 = omega arith in sym (ap (λ (k : ℕ). first_by ok (candidates_from 0 [] home print k d)) e)
    find_none ok (y ∷ ys) is =
        let n = length (y ∷ ys) in
        sym (first_is n (y ∷ ys) home print refl (omega arith) y ok (n - d) d ∙ ap (handle_at n (y ∷ ys) home print y) (sym is))
