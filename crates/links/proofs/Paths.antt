-- What leads from x through some nodes to y, and which writes leave it.
use Rattle.std.proofs.Common.{◌≡◌, ℕ, ◌≤◌, true, ◌&&◌, eqb, ◌≢◌, ◌⊎◌, List, [], ◌∷◌, length, get_or, set, sym, refl, ap, ◌∙◌, subst, inl, inr, arith}
use Rattle.std.proofs.lemmas.List.{get_or-set_other}
use Rattle.std.proofs.lemmas.Bool.{cases_eq, eq-eqb, eqb-true, and_parts, and_from}
use Rattle.links.specs.Rows.{walk, leads, occurs, last_or}
use Rattle.links.proofs.Counts.{occurs_same, occurs_other}

abbrev pub Path : List ℕ → List ℕ → ℕ → List ℕ → ℕ → Type 0
Path nx pv x [] y = (get_or nx x 0 ≡ y) × (get_or pv y 0 ≡ x)
Path nx pv x (u ∷ us) y = (get_or nx x 0 ≡ u) × (get_or pv u 0 ≡ x) × Path nx pv u us y

pub path_from : (nx pv : List ℕ) (x : ℕ) (us : List ℕ) (y : ℕ) → leads nx pv x us y ≡ true → Path nx pv x us y
path_from nx pv x [] y h =
    let p = and_parts (eqb (get_or nx x 0) y) (eqb (get_or pv y 0) x) h in
    (eqb-true _ _ p.0, eqb-true _ _ p.1)
path_from nx pv x (u ∷ us) y h =
    let p = and_parts (eqb (get_or nx x 0) u) (eqb (get_or pv u 0) x && leads nx pv u us y) h in
    let q = and_parts (eqb (get_or pv u 0) x) (leads nx pv u us y) p.1 in
    (eqb-true _ _ p.0, eqb-true _ _ q.0, path_from nx pv u us y q.1)

pub path_leads : (nx pv : List ℕ) (x : ℕ) (us : List ℕ) (y : ℕ) → Path nx pv x us y → leads nx pv x us y ≡ true
path_leads nx pv x [] y h = and_from _ _ (eq-eqb _ _ h.0) (eq-eqb _ _ h.1)
path_leads nx pv x (u ∷ us) y h =
    and_from _ _ (eq-eqb _ _ h.0) (and_from _ _ (eq-eqb _ _ h.1) (path_leads nx pv u us y h.2))

-- a path is what a walk of its length finds
pub walk_is : (nx pv : List ℕ) (x : ℕ) (us : List ℕ) (y : ℕ) → Path nx pv x us y → walk nx x (length us) ≡ us
walk_is nx pv x [] y h = refl
walk_is nx pv x (u ∷ us) y h =
    rw h.0 (ap (λ (r : List ℕ). u ∷ r) (walk_is nx pv u us y h.2))

abbrev pub first_or : List ℕ → ℕ → ℕ
first_or [] y = y
first_or (u ∷ us) y = u

pub next_is : (nx pv : List ℕ) (x : ℕ) (us : List ℕ) (y : ℕ) → Path nx pv x us y → get_or nx x 0 ≡ first_or us y
next_is nx pv x [] y h = h.0
next_is nx pv x (u ∷ us) y h = h.0

pub prev_is : (nx pv : List ℕ) (x : ℕ) (us : List ℕ) (y : ℕ) → Path nx pv x us y → get_or pv y 0 ≡ last_or x us
prev_is nx pv x [] y h = h.1
prev_is nx pv x (u ∷ us) y h = prev_is nx pv u us y h.2

-- a is x or stands among the nodes
abbrev pub Among : ℕ → ℕ → List ℕ → Type 0
Among a x us = (a ≡ x) ⊎ (1 ≤ occurs a us)

abbrev pub Away : ℕ → ℕ → List ℕ → Type 0
Away a x us = (a ≡ x → ⊥) × (occurs a us ≡ 0)

pub last_among : (x : ℕ) (us : List ℕ) → Among (last_or x us) x us
last_among x [] = inl refl
last_among x (u ∷ us) =
    elim (last_among u us) [
      | inl e ↦ inr (rw e (let s = occurs_same u us in omega arith))
      | inr l ↦ inr (omega arith)
    ]

pub first_among : (us : List ℕ) (y : ℕ) → Among (first_or us y) y us
first_among [] y = inl refl
first_among (u ∷ us) y = inr (let s = occurs_same u us in omega arith)

-- the neighbours of a node of a path
pub before_among : (nx pv : List ℕ) (x : ℕ) (us : List ℕ) (y m : ℕ) → Path nx pv x us y → 1 ≤ occurs m us → Among (get_or pv m 0) x us
before_among nx pv x [] y m h o = absurd (omega arith)
before_among nx pv x (u ∷ us) y m h o =
    elim (cases_eq m u) [
      | inl e ↦ rw e (inl h.1)
      | inr e ↦
          let k = occurs_other m u us e in
          elim (before_among nx pv u us y m h.2 (omega arith)) [
            | inl i ↦ inr (rw i (let s = occurs_same u us in omega arith))
            | inr l ↦ inr (omega arith)
          ]
    ]

pub after_among : (nx pv : List ℕ) (x : ℕ) (us : List ℕ) (y m : ℕ) → Path nx pv x us y → 1 ≤ occurs m us → Among (get_or nx m 0) y us
after_among nx pv x [] y m h o = absurd (omega arith)
after_among nx pv x (u ∷ us) y m h o =
    elim (cases_eq m u) [
      | inl e ↦
          let n : get_or nx m 0 ≡ first_or us y = ap (λ (z : ℕ). get_or nx z 0) e ∙ next_is nx pv u us y h.2 in
          subst (λ (z : ℕ). Among z y (u ∷ us)) (sym n)
          (elim (first_among us y) [ inl i ↦ inl i | inr l ↦ inr (omega arith) ])
      | inr e ↦
          let k = occurs_other m u us e in
          elim (after_among nx pv u us y m h.2 (omega arith)) [ inl i ↦ inl i | inr l ↦ inr (omega arith) ]
    ]

pub away_first : (a u : ℕ) (us : List ℕ) → occurs a (u ∷ us) ≡ 0 → Away a u us
away_first a u us h =
    (λ e. let s = occurs_same u us in let z : occurs u (u ∷ us) ≡ 0 = subst (λ (q : ℕ). occurs q (u ∷ us) ≡ 0) e h in omega arith, omega arith)

-- a write to next away from x and the nodes, and one to prev away from the nodes and y, change nothing
pub frame : (nx pv : List ℕ) (a v b w x : ℕ) (us : List ℕ) (y : ℕ) → Away a x us → Away b y us → Path nx pv x us y → Path (set nx a v) (set pv b w) x us y
frame nx pv a v b w x [] y α β h =
    let i : x ≢ a = λ e. α.0 (sym e) in
    let j : y ≢ b = λ e. β.0 (sym e) in
    (get_or-set_other nx a x v 0 i ∙ h.0, get_or-set_other pv b y w 0 j ∙ h.1)
frame nx pv a v b w x (u ∷ us) y α β h =
    let i : x ≢ a = λ e. α.0 (sym e) in
    let α' = away_first a u us α.1 in
    let β' = away_first b u us β.1 in
    let j : u ≢ b = λ e. β'.0 (sym e) in
    (get_or-set_other nx a x v 0 i ∙ h.0, get_or-set_other pv b u w 0 j ∙ h.1, frame nx pv a v b w u us y α' (β.0, β'.1) h.2)
