-- A node taken out of a path, and one put into it.
use Rattle.std.proofs.Common.{◌≡◌, ℕ, ◌<◌, ◌≤◌, ◌≢◌, List, [], ◌∷◌, ◌++◌, length, get_or, set, sym, ap, ◌∙◌, subst, inl, inr, arith, length-set}
use Rattle.std.proofs.lemmas.List.{get_or-set_same, get_or-set_other}
use Rattle.std.proofs.lemmas.Bool.{cases_eq, eq-eqb, ne_eqb}
use Rattle.links.specs.Rows.{occurs, without, last_or}
use Rattle.links.proofs.Counts.{occurs_same, occurs_other, occurs_append, without_absent}
use Rattle.links.proofs.Paths.{Path, Among, Away, first_or, before_among, after_among, last_among, first_among, away_first, frame}

-- what stands among nodes is not what stands away from them
pub differ : (a x y : ℕ) (us : List ℕ) → Among a x us → (y ≡ x → ⊥) → occurs y us ≡ 0 → y ≡ a → ⊥
differ a x y us (inl e) n z i = n (i ∙ e)
differ a x y us (inr l) n z i = let k : 1 ≤ occurs y us = rw i l in omega arith

module _ (nx pv : List ℕ) (m : ℕ) (a b : ℕ) (ea : get_or pv m 0 ≡ a) (eb : get_or nx m 0 ≡ b) where
  -- the path from the node's left neighbour x, where m is the first
  pub taken_first : (x : ℕ) (us : List ℕ) (y : ℕ) → x ≡ a → a < length nx → b < length pv → Path nx pv m us y → Away x y us → ((p : ℕ) → occurs p us ≤ 1) → occurs y us ≡ 0 → Path (set nx a b) (set pv b a) x us y
  taken_first x [] y e la lb h α once z =
      let b_is : b ≡ y = sym eb ∙ h.0 in
      (rw (e, get_or-set_same nx a b 0 la) b_is, rw (e, ← b_is) (get_or-set_same pv b a 0 lb))
  taken_first x (v ∷ vs) y e la lb h α once z =
      let b_is : b ≡ v = sym eb ∙ h.0 in
      let o = once v in
      let s = occurs_same v vs in
      let zv : occurs v vs ≡ 0 = omega arith in
      let αx = away_first x v vs α.1 in
      let αy = away_first y v vs z in
      let αa : Away a v vs = subst (λ (w : ℕ). Away w v vs) e αx in
      let αb : Away b y vs = subst (λ (w : ℕ). Away w y vs) (sym b_is) (λ i. αy.0 (sym i), zv) in
      (rw (e, get_or-set_same nx a b 0 la) b_is, rw (e, ← b_is) (get_or-set_same pv b a 0 lb), frame nx pv a b b a v vs y αa αb h.2)

  pub taken : (x : ℕ) (us : List ℕ) (y : ℕ) → a < length nx → b < length pv → Path nx pv x us y → occurs m us ≡ 1 → ((p : ℕ) → occurs p us ≤ 1) → Away x y us → occurs y us ≡ 0 → Path (set nx a b) (set pv b a) x (without m us) y
  taken x [] y la lb h o once α z = absurd (omega arith)
  taken x (u ∷ us) y la lb h o once α z =
      let αx = away_first x u us α.1 in
      let αy = away_first y u us z in
      let ou = once u in
      let su = occurs_same u us in
      let zu : occurs u us ≡ 0 = omega arith in
      elim (cases_eq m u) [
        | inl e ↦
            let zm : occurs m us ≡ 0 = rw e zu in
            let w : without m (u ∷ us) ≡ us = rw (eq-eqb m u e) (without_absent m us zm) in
            let xa : x ≡ a = sym h.1 ∙ (ap (λ (q : ℕ). get_or pv q 0) (sym e) ∙ ea) in
            let h' : Path nx pv m us y = subst (λ (q : ℕ). Path nx pv q us y) (sym e) h.2 in
            rw w (taken_first x us y xa la lb h' (α.0, αx.1) (λ p. let q = once p in omega arith) αy.1)
        | inr e ↦
            let om : occurs m us ≡ 1 = let k = occurs_other m u us e in omega arith in
            let ba = before_among nx pv u us y m h.2 (omega arith) in
            let aa = after_among nx pv u us y m h.2 (omega arith) in
            let x≢a : x ≢ a = differ a u x us (subst (λ (q : ℕ). Among q u us) ea ba) αx.0 αx.1 in
            let u≢b : u ≢ b = differ b y u us (subst (λ (q : ℕ). Among q y us) eb aa) (λ i. αy.0 (sym i)) zu in
            let ih = taken u us y la lb h.2 om (λ p. let q = once p in omega arith) (λ i. αy.0 (sym i), zu) αy.1 in
            rw (ne_eqb m u e) (get_or-set_other nx a x b 0 x≢a ∙ h.0, get_or-set_other pv b u a 0 u≢b ∙ h.1, ih)
      ]

-- x and y stand apart from the nodes and each other, and no node twice
pub record Plain (x : ℕ) (us : List ℕ) (y : ℕ) : Type 0 where
  pub once : (p : ℕ) → occurs p us ≤ 1
  pub ends : x ≡ y → ⊥
  pub no_x : occurs x us ≡ 0
  pub no_y : occurs y us ≡ 0

pub plain_rest : (x u : ℕ) (us : List ℕ) (y : ℕ) → Plain x (u ∷ us) y → Plain u us y
plain_rest x u us y h =
    let o = h.once u in
    let s = occurs_same u us in
    let α = away_first y u us h.no_y in
    record { once = λ p. let q = h.once p in omega arith; ends = λ e. α.0 (sym e); no_x = omega arith; no_y = α.1 }

module _ (nx pv : List ℕ) (m a b : ℕ) (mn : m < length nx) (mp : m < length pv) (an : a < length nx) (bp : b < length pv) where
  next_a : (m ≡ a → ⊥) → get_or (set (set nx a m) m b) a 0 ≡ m
  next_a h = let ne : a ≢ m = λ e. h (sym e) in get_or-set_other (set nx a m) m a b 0 ne ∙ get_or-set_same nx a m 0 an

  next_m : get_or (set (set nx a m) m b) m 0 ≡ b
  next_m = let l : m < length (set nx a m) = simp length-set mn in get_or-set_same (set nx a m) m b 0 l

  prev_m : (m ≡ b → ⊥) → get_or (set (set pv m a) b m) m 0 ≡ a
  prev_m h = get_or-set_other (set pv m a) b m m 0 h ∙ get_or-set_same pv m a 0 mp

  prev_b : get_or (set (set pv m a) b m) b 0 ≡ m
  prev_b = let l : b < length (set pv m a) = simp length-set bp in get_or-set_same (set pv m a) b m 0 l

  -- m between x and the first of vs
  pub placed_first : (x : ℕ) (vs : List ℕ) (y : ℕ) → a ≡ x → b ≡ first_or vs y → Path nx pv x vs y → Away m x vs → Away m y vs → Plain x vs y → Path (set (set nx a m) m b) (set (set pv m a) b m) x (m ∷ vs) y
  placed_first x [] y ea eb h αx αy once =
      (rw (← ea) (next_a (λ e. αx.0 (e ∙ ea))), prev_m (λ e. αy.0 (e ∙ eb)) ∙ ea, (next_m ∙ eb, rw (← eb) prev_b))
  placed_first x (v ∷ vs) y ea eb h αx αy once =
      let m_v = away_first m v vs αx.1 in
      let x_v = away_first x v vs once.no_x in
      let rest = plain_rest x v vs y once in
      let f =
      frame (set nx a m) (set pv m a) m b b m v vs y m_v (subst (λ (q : ℕ). Away q y vs) (sym eb) (rest.ends, rest.no_x))
      (frame nx pv a m m a v vs y (subst (λ (q : ℕ). Away q v vs) (sym ea) x_v) (αy.0, m_v.1) h.2)
      in
      (rw (← ea) (next_a (λ e. αx.0 (e ∙ ea))), prev_m (λ e. m_v.0 (e ∙ eb)) ∙ ea, (next_m ∙ eb, rw (← eb) prev_b, f))

  -- m between the last of us and the first of vs
  pub placed : (x : ℕ) (us vs : List ℕ) (y : ℕ) → a ≡ last_or x us → b ≡ first_or vs y → Path nx pv x (us ++ vs) y → Away m x (us ++ vs) → Away m y (us ++ vs) → Plain x (us ++ vs) y → Path (set (set nx a m) m b) (set (set pv m a) b m) x (us ++ m ∷ vs) y
  placed x [] vs y ea eb h αx αy once = placed_first x vs y ea eb h αx αy once
  placed x (u ∷ us) vs y ea eb h αx αy once =
      let rest = plain_rest x u (us ++ vs) y once in
      let m_u = away_first m u (us ++ vs) αx.1 in
      let x_u = away_first x u (us ++ vs) once.no_x in
      let ou = occurs_append u us vs in
      let ox = occurs_append x us vs in
      let nu = rest.no_x in
      let nx0 = x_u.1 in
      let x≢a : x ≢ a = λ e. differ (last_or u us) u x us (last_among u us) x_u.0 (omega arith) (e ∙ ea) in
      let u≢b : u ≢ b = λ e. differ (first_or vs y) y u vs (first_among vs y) rest.ends (omega arith) (e ∙ eb) in
      let x≢m : x ≢ m = λ e. αx.0 (sym e) in
      let u≢m : u ≢ m = λ e. m_u.0 (sym e) in
      let ih = placed u us vs y ea eb h.2 m_u (αy.0, m_u.1) rest in (
        get_or-set_other (set nx a m) m x b 0 x≢m ∙ (get_or-set_other nx a x m 0 x≢a ∙ h.0),
        get_or-set_other (set pv m a) b u m 0 u≢b ∙ (get_or-set_other pv m u a 0 u≢m ∙ h.1),
        ih,
      )
