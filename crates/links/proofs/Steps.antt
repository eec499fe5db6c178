-- The two steps on a line keep its lists laid: a node taken out, and a node put in.
use Rattle.std.proofs.Common.{◌≡◌, ℕ, ◌+◌, ◌-◌, ◌<◌, ◌≤◌, cond, eqb, ◌≢◌, List, ◌∷◌, ◌++◌, length, get_or, set, sym, refl, ap, ◌∙◌, subst, inl, inr, arith, length-append, length-set}
use Rattle.std.proofs.lemmas.List.{get_or-set_same, get_or-set_other}
use Rattle.std.proofs.lemmas.Bool.{cases_eq, eq-eqb, ne_eqb}
use Rattle.links.specs.Rows.{occurs, without, last_or}
use Rattle.links.proofs.Counts.{occurs_same, occurs_other, occurs_append, occurs_lost, occurs_kept, length_without, without_absent}
use Rattle.links.proofs.Paths.{Path, Among, first_or, before_among, after_among, last_among, first_among, frame}
use Rattle.links.proofs.Moves.{taken, placed}
use Rattle.links.proofs.Laid.{Laid, here, elsewhere, simple, within, apart, absent}

module _ (nx pv home lens : List ℕ) (ls : ℕ → List ℕ) (laid : Laid nx pv home lens ls) (m : ℕ) where
  module _ (h : ℕ) (small : h < 4) (at : get_or home m 4 ≡ h) where
    left_of : Among (get_or pv m 0) (512 + h) (ls h)
    left_of = before_among nx pv (512 + h) (ls h) (513 + h) m (laid.path h small) (let o = here nx pv home lens ls laid m h small at in omega arith)

    right_of : Among (get_or nx m 0) (513 + h) (ls h)
    right_of = after_among nx pv (512 + h) (ls h) (513 + h) m (laid.path h small) (let o = here nx pv home lens ls laid m h small at in omega arith)

    pub left_within : get_or pv m 0 < 517
    left_within = within nx pv home lens ls laid (get_or pv m 0) 512 h (omega arith) small left_of

    pub right_within : get_or nx m 0 < 517
    right_within = within nx pv home lens ls laid (get_or nx m 0) 513 h (omega arith) small right_of

    pub counted : 1 ≤ get_or lens h 0
    counted =
        let o = here nx pv home lens ls laid m h small at in
        let n = length_without m (ls h) in
        let l = laid.long h small in
        omega arith

    pub detached_path : (k : ℕ) → k < 4 → Path (set nx (get_or pv m 0) (get_or nx m 0)) (set pv (get_or nx m 0) (get_or pv m 0)) (512 + k) (without m (ls k)) (513 + k)
    detached_path k l =
        let ln = laid.next_long in
        let lp = laid.prev_long in
        let a = left_within in
        let b = right_within in
        let s = simple nx pv home lens ls laid k l in
        elim (cases_eq k h) [
          | inl e ↦
              taken nx pv m (get_or pv m 0) (get_or nx m 0) refl refl (512 + k) (ls k) (513 + k) (omega arith) (omega arith) (laid.path k l)
              (here nx pv home lens ls laid m k l (at ∙ sym e)) s.once (s.ends, s.no_x) s.no_y
          | inr e ↦
              rw (without_absent m (ls k) (elsewhere nx pv home lens ls laid m k l (λ i. e (sym i ∙ at))))
              (frame nx pv (get_or pv m 0) (get_or nx m 0) (get_or nx m 0) (get_or pv m 0) (512 + k) (ls k) (513 + k)
              (apart nx pv home lens ls laid (get_or pv m 0) 512 h k (omega arith) small l e left_of)
              (apart nx pv home lens ls laid (get_or nx m 0) 513 h k (omega arith) small l e right_of) (laid.path k l))
        ]

    pub detached_once : m < 512 → (p k : ℕ) → k < 4 → occurs p (without m (ls k)) ≡ cond (eqb (get_or (set home m 4) p 4) k) 1 0
    detached_once i p k l =
        let lh = laid.home_long in
        let il : m < length home = omega arith in
        elim (cases_eq p m) [
          | inl e ↦
              let z = occurs_lost m (ls k) in
              rw (e, get_or-set_same home m 4 4 il, ne_eqb 4 k (λ q. omega arith)) z
          | inr e ↦
              let ne : p ≢ m = e in
              rw (get_or-set_other home m p 4 4 ne) (occurs_kept p m (ls k) e ∙ laid.once p k l)
        ]

    pub detached_long : (k : ℕ) → k < 4 → get_or (set lens h (get_or lens h 0 - 1)) k 0 ≡ length (without m (ls k))
    detached_long k l =
        let ll = laid.lens_long in
        let n = length_without m (ls k) in
        let g = laid.long k l in
        elim (cases_eq k h) [
          | inl e ↦
              let o = here nx pv home lens ls laid m k l (at ∙ sym e) in
              let il : h < length lens = omega arith in
              let gh : get_or lens h 0 ≡ get_or lens k 0 = ap (λ (q : ℕ). get_or lens q 0) (sym e) in
              rw (e, get_or-set_same lens h (get_or lens h 0 - 1) 0 il, ← e) (omega arith)
          | inr e ↦
              let ne : k ≢ h = e in
              let o = elsewhere nx pv home lens ls laid m k l (λ i. e (sym i ∙ at)) in
              get_or-set_other lens h k (get_or lens h 0 - 1) 0 ne ∙ (omega arith)
        ]

    pub laid_detached : m < 512 → Laid (set nx (get_or pv m 0) (get_or nx m 0)) (set pv (get_or nx m 0) (get_or pv m 0)) (set home m 4) (set lens h (get_or lens h 0 - 1)) (λ k. without m (ls k))
    laid_detached i =
        record {
          next_long = simp length-set laid.next_long;
          prev_long = simp length-set laid.prev_long;
          home_long = simp length-set laid.home_long;
          lens_long = simp length-set laid.lens_long;
          path = detached_path;
          once = detached_once i;
          long = detached_long;
        }

  -- the lists with m between the last of us and the first of vs in list k
  module _ (k : ℕ) (small : k < 4) (us vs : List ℕ) (split : ls k ≡ us ++ vs) (low : m < 512) (loose : 4 ≤ get_or home m 4) (a b : ℕ) (ea : a ≡ last_or (512 + k) us) (eb : b ≡ first_or vs (513 + k)) where
    joined : Path nx pv (512 + k) (us ++ vs) (513 + k)
    joined = rw (← split) (laid.path k small)

    pub left_end : Among a (512 + k) (ls k)
    left_end =
        rw (split, ea)
        (elim (last_among (512 + k) us) [ inl e ↦ inl e | inr o ↦ inr (let q = occurs_append (last_or (512 + k) us) us vs in omega arith) ])

    pub right_end : Among b (513 + k) (ls k)
    right_end =
        rw (split, eb)
        (elim (first_among vs (513 + k)) [ inl e ↦ inl e | inr o ↦ inr (let q = occurs_append (first_or vs (513 + k)) us vs in omega arith) ])

    pub attached_path : (j : ℕ) → j < 4 → Path (set (set nx a m) m b) (set (set pv m a) b m) (512 + j) (cond (eqb j k) (us ++ m ∷ vs) (ls j)) (513 + j)
    attached_path j l =
        let ln = laid.next_long in
        let lp = laid.prev_long in
        let wa = within nx pv home lens ls laid a 512 k (omega arith) small left_end in
        let wb = within nx pv home lens ls laid b 513 k (omega arith) small right_end in
        let s = simple nx pv home lens ls laid k small in
        elim (cases_eq j k) [
          | inl e ↦
              rw (eq-eqb j k e, e)
              (placed nx pv m a b (omega arith) (omega arith) (omega arith) (omega arith) (512 + k) us vs (513 + k) ea eb joined
              (rw (← split) (absent nx pv home lens ls laid m 512 k low (omega arith) small (λ q. omega arith)))
              (rw (← split) (absent nx pv home lens ls laid m 513 k low (omega arith) small (λ q. omega arith)))
              (rw (← split) s))
          | inr e ↦
              rw (ne_eqb j k e)
              (frame (set nx a m) (set pv m a) m b b m (512 + j) (ls j) (513 + j)
              (absent nx pv home lens ls laid m 512 j low (omega arith) l (λ q. omega arith))
              (apart nx pv home lens ls laid b 513 k j (omega arith) small l e right_end)
              (frame nx pv a m m a (512 + j) (ls j) (513 + j)
              (apart nx pv home lens ls laid a 512 k j (omega arith) small l e left_end)
              (absent nx pv home lens ls laid m 513 j low (omega arith) l (λ q. omega arith)) (laid.path j l)))
        ]

    pub attached_once : (p j : ℕ) → j < 4 → occurs p (cond (eqb j k) (us ++ m ∷ vs) (ls j)) ≡ cond (eqb (get_or (set home m k) p 4) j) 1 0
    attached_once p j l =
        let lh = laid.home_long in
        let il : m < length home = omega arith in
        let ap1 = occurs_append p us (m ∷ vs) in
        let ap2 = occurs_append p us vs in
        let o : occurs p (us ++ vs) ≡ cond (eqb (get_or home p 4) k) 1 0 = rw (← split) (laid.once p k small) in
        elim (cases_eq p m) [
          | inl e ↦
              let z = elsewhere nx pv home lens ls laid m j l (λ q. omega arith) in
              let zm = elsewhere nx pv home lens ls laid m k small (λ q. omega arith) in
              let zk : occurs p (us ++ vs) ≡ 0 = subst (λ (q : ℕ). occurs q (us ++ vs) ≡ 0) (sym e) (rw (← split) zm) in
              let same : occurs p (m ∷ vs) ≡ 1 + occurs p vs = subst (λ (q : ℕ). occurs q (m ∷ vs) ≡ 1 + occurs q vs) (sym e) (occurs_same m vs) in
              elim (cases_eq j k) [
                | inl i ↦
                    let t : occurs p (us ++ m ∷ vs) ≡ 1 = omega arith in
                    rw (eq-eqb j k i) (t ∙ sym (rw (e, get_or-set_same home m k 4 il, eq-eqb k j (sym i))))
                | inr i ↦
                    rw (ne_eqb j k i, e, get_or-set_same home m k 4 il, ne_eqb k j (λ q. i (sym q))) z
              ]
          | inr e ↦
              let ne : p ≢ m = e in
              let other = occurs_other p m vs e in
              rw (get_or-set_other home m p k 4 ne)
              (elim (cases_eq j k) [
                | inl i ↦ rw (eq-eqb j k i, i) (omega arith)
                | inr i ↦ rw (ne_eqb j k i) (laid.once p j l)
              ])
        ]

    pub attached_long : (j : ℕ) → j < 4 → get_or (set lens k (get_or lens k 0 + 1)) j 0 ≡ length (cond (eqb j k) (us ++ m ∷ vs) (ls j))
    attached_long j l =
        let ll = laid.lens_long in
        let g = laid.long k small in
        let n1 = length-append us (m ∷ vs) in
        let n2 = length-append us vs in
        let s = ap (λ (r : List ℕ). length r) split in
        let il : k < length lens = omega arith in
        elim (cases_eq j k) [
          | inl e ↦ rw (eq-eqb j k e, e, get_or-set_same lens k (get_or lens k 0 + 1) 0 il) (omega arith)
          | inr e ↦ let ne : j ≢ k = e in rw (ne_eqb j k e) (get_or-set_other lens k j (get_or lens k 0 + 1) 0 ne ∙ laid.long j l)
        ]

    pub laid_attached : Laid (set (set nx a m) m b) (set (set pv m a) b m) (set home m k) (set lens k (get_or lens k 0 + 1)) (λ j. cond (eqb j k) (us ++ m ∷ vs) (ls j))
    laid_attached =
        record {
          next_long = simp length-set laid.next_long;
          prev_long = simp length-set laid.prev_long;
          home_long = simp length-set laid.home_long;
          lens_long = simp length-set laid.lens_long;
          path = attached_path;
          once = attached_once;
          long = attached_long;
        }
