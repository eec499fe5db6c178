-- A search finds the first candidate that passes its test, and the reader's candidates come one by one from such searches.
use Rattle.std.proofs.Common.{◌≡◌, ℕ, zero, suc, ◌+◌, ◌-◌, ◌%◌, ◌<◌, ◌≤◌, Bool, true, false, cond, ◌&&◌, eqb, List, [], ◌∷◌, ◌++◌, length, get_or, Some, None, Option, sym, refl, ap, ◌∙◌, subst, inl, inr, le_of_suc-le-suc, mod-lt, arith}
use Rattle.std.proofs.lemmas.Bool.Decides.{leb_tells}
use Rattle.handles.specs.Slots.{rank, meta_at}
use Rattle.handles.specs.Seek.{seek_from, pick, candidates_from, first_by}
use Rattle.handles.specs.declared.slot.Slot.{Slot}
use Rattle.handles.proofs.Seeking.{test_read, hits, seek_stop, seek_pass}

module _ {X : Type 0} where
  pub pick_read : (m : ℕ) (xs : List (Slot X)) (i : ℕ) (s : Slot X) → i < length xs → pick m xs i ≡ cond (eqb (get_or xs i s).meta m) ((get_or xs i s).handle ∷ []) []
  pick_read m [] i s h = absurd (omega arith)
  pick_read m (x ∷ xs) zero s h = refl
  pick_read m (x ∷ xs) (suc i) s h = pick_read m xs i s (le_of_suc-le-suc h)

  module _ (n : ℕ) (xs : List (Slot X)) (home print : ℕ) where
    pub cands_stop : (left d : ℕ) → rank n xs (home + d) ≤ d → candidates_from n xs home print left d ≡ []
    cands_stop zero d h = refl
    cands_stop (suc left) d h =
        elim (leb_tells (rank n xs (home + d)) d) [
          | inl t ↦ ap (λ b. cond b [] (pick (meta_at print d) xs ((home + d) % n) ++ candidates_from n xs home print left (d + 1))) t.0
          | inr t ↦ absurd (omega (arith, t.1))
        ]

    pub cands_pass : (left d : ℕ) → d < rank n xs (home + d) → candidates_from n xs home print (suc left) d ≡ pick (meta_at print d) xs ((home + d) % n) ++ candidates_from n xs home print left (d + 1)
    cands_pass left d h =
        elim (leb_tells (rank n xs (home + d)) d) [
          | inl t ↦ absurd (omega (arith, t.1))
          | inr t ↦ ap (λ b. cond b [] (pick (meta_at print d) xs ((home + d) % n) ++ candidates_from n xs home print left (d + 1))) t.0
        ]

    -- the handle at a displacement, where a search found one
    abbrev pub handle_at : Slot X → Option ℕ → Option X
    handle_at s None = None
    handle_at s (Some e) = Some (get_or xs ((home + e) % n) s).handle

    -- what follows a search that found a candidate
    abbrev pub Follows : Slot X → ℕ → List X → Option ℕ → Type 0
    Follows s end list None = list ≡ []
    Follows s end list (Some e) = list ≡ (get_or xs ((home + e) % n) s).handle ∷ candidates_from n xs home print (end - (e + 1)) (e + 1)

    -- a found candidate lies on the walk and has the meta of the hash there
    abbrev pub Found : (X → Bool) → Slot X → ℕ → ℕ → Option ℕ → Type 0
    Found ok s left d None = Unit {0}
    Found ok s left d (Some e) = (d ≤ e) × (e < d + left) × (e < rank n xs (home + e)) × (hits ok print e (get_or xs ((home + e) % n) s) ≡ true)

    module _ (len : n ≡ length xs) (pos : 0 < n) (s : Slot X) where
      at_below : (p : ℕ) → p % n < length xs
      at_below p = let m = mod-lt p pos in omega arith

      first_of : (ok : X → Bool) (y : Slot X) (m d : ℕ) (rest : List X) (more : Option ℕ) → first_by ok rest ≡ handle_at s more → y ≡ get_or xs ((home + d) % n) s → first_by ok (cond (eqb y.meta m) (y.handle ∷ []) [] ++ rest) ≡ handle_at s (cond (eqb y.meta m && ok y.handle) (Some d) more)
      first_of ok y m d rest more ih is =
          (elim (eqb y.meta m) as (λ b. first_by ok (cond b (y.handle ∷ []) [] ++ rest) ≡ handle_at s (cond (b && ok y.handle) (Some d) more)) [
            | true ↦
                (elim (ok y.handle) as (λ b. cond b (Some y.handle) (first_by ok rest) ≡ handle_at s (cond b (Some d) more)) [
                  | true ↦ ap (λ (z : Slot X). Some z.handle) is
                  | false ↦ ih
                ])
            | false ↦ ih
          ])

      pub first_is : (ok : X → Bool) (left d : ℕ) → first_by ok (candidates_from n xs home print left d) ≡ handle_at s (seek_from ok n xs home print left d)
      first_is ok zero d = refl
      first_is ok (suc left) d =
          elim (leb_tells (rank n xs (home + d)) d) [
            | inl t ↦
                ap (first_by ok) (cands_stop (suc left) d t.1)
                ∙ ap (handle_at s) (sym (seek_stop ok n xs home print (suc left) d t.1))
            | inr t ↦
                (let y = get_or xs ((home + d) % n) s in
                let test = test_read (hits ok print d) xs ((home + d) % n) s (at_below (home + d)) in
                ap (first_by ok) (cands_pass left d t.1 ∙ ap (λ zs. zs ++ candidates_from n xs home print left (d + 1)) (pick_read (meta_at print d) xs ((home + d) % n) s (at_below (home + d))))
                ∙ first_of ok y (meta_at print d) d (candidates_from n xs home print left (d + 1)) (seek_from ok n xs home print left (d + 1)) (first_is ok left (d + 1)) refl
                ∙ ap (handle_at s) (sym (seek_pass ok n xs home print left d (hits ok print d y) t.1 test)))
          ]

      found_more : (ok : X → Bool) (left d : ℕ) (o : Option ℕ) → Found ok s left (d + 1) o → Found ok s (suc left) d o
      found_more ok left d None f = tt
      found_more ok left d (Some e) f = (omega (arith, f.0), omega (arith, f.1), f.2, f.3)

      found_or : (ok : X → Bool) (left d : ℕ) (b : Bool) (o : Option ℕ) → d < rank n xs (home + d) → hits ok print d (get_or xs ((home + d) % n) s) ≡ b → Found ok s left (d + 1) o → Found ok s (suc left) d (cond b (Some d) o)
      found_or ok left d true o h e f = (omega arith, omega arith, h, e)
      found_or ok left d false o h e f = found_more ok left d o f

      pub seek_found : (ok : X → Bool) (left d : ℕ) → Found ok s left d (seek_from ok n xs home print left d)
      seek_found ok zero d = tt
      seek_found ok (suc left) d =
          elim (leb_tells (rank n xs (home + d)) d) [
            | inl t ↦ subst (Found ok s (suc left) d) (sym (seek_stop ok n xs home print (suc left) d t.1)) tt
            | inr t ↦
                (let test = test_read (hits ok print d) xs ((home + d) % n) s (at_below (home + d)) in
                let b = hits ok print d (get_or xs ((home + d) % n) s) in
                subst (Found ok s (suc left) d) (sym (seek_pass ok n xs home print left d b t.1 test))
                (found_or ok left d b (seek_from ok n xs home print left (d + 1)) t.1 refl (seek_found ok left (d + 1))))
          ]

      follows_or : (m d end left : ℕ) (y : Slot X) (rest : List X) (o : Option ℕ) → y ≡ get_or xs ((home + d) % n) s → rest ≡ candidates_from n xs home print left (d + 1) → left ≡ end - (d + 1) → Follows s end rest o → Follows s end (cond (eqb y.meta m) (y.handle ∷ []) [] ++ rest) (cond (eqb y.meta m && true) (Some d) o)
      follows_or m d end left y rest o is tail gap f =
          elim (eqb y.meta m) as (λ b. Follows s end (cond b (y.handle ∷ []) [] ++ rest) (cond (b && true) (Some d) o)) [
            | true ↦
                ap (λ (z : Slot X). z.handle ∷ rest) is
                ∙ ap (λ zs. (get_or xs ((home + d) % n) s).handle ∷ zs) (tail ∙ ap (λ (k : ℕ). candidates_from n xs home print k (d + 1)) gap)
            | false ↦ f
          ]

      -- the search that takes every candidate gives the first to come, and what comes after it
      pub cands_follow : (end left d : ℕ) → left ≡ end - d → Follows s end (candidates_from n xs home print left d) (seek_from (λ _. true) n xs home print left d)
      cands_follow end zero d gap = refl
      cands_follow end (suc left) d gap =
          elim (leb_tells (rank n xs (home + d)) d) [
            | inl t ↦
                subst (Follows s end (candidates_from n xs home print (suc left) d)) (sym (seek_stop (λ _. true) n xs home print (suc left) d t.1))
                (cands_stop (suc left) d t.1)
            | inr t ↦
                (let y = get_or xs ((home + d) % n) s in
                let test = test_read (hits (λ _. true) print d) xs ((home + d) % n) s (at_below (home + d)) in
                let o = seek_from (λ _. true) n xs home print left (d + 1) in
                let rest = candidates_from n xs home print left (d + 1) in
                let f : Follows s end (cond (eqb y.meta (meta_at print d)) (y.handle ∷ []) [] ++ rest) (cond (eqb y.meta (meta_at print d) && true) (Some d) o) =
                follows_or (meta_at print d) d end left y rest o refl refl (omega arith) (cands_follow end left (d + 1) (omega arith)) in
                subst (Follows s end (candidates_from n xs home print (suc left) d))
                (sym (seek_pass (λ _. true) n xs home print left d (hits (λ _. true) print d y) t.1 test))
                (subst (λ (zs : List X). Follows s end zs (cond (hits (λ _. true) print d y) (Some d) o))
                (sym (cands_pass left d t.1 ∙ ap (λ zs. zs ++ rest) (pick_read (meta_at print d) xs ((home + d) % n) s (at_below (home + d)))))
                f))
          ]

  -- slots without an entry have no candidates
  pub cands_none : (n : ℕ) (xs : List (Slot X)) (home print left d : ℕ) → ((p : ℕ) → rank n xs p ≡ 0) → candidates_from n xs home print left d ≡ []
  cands_none n xs home print left d none = cands_stop n xs home print left d (let z = none (home + d) in omega arith)
