-- A node goes to the front of the remembered or of the spare.
use Rattle.std.proofs.Common.{◌≡◌, ℕ, zero, suc, ◌+◌, ◌<◌, ◌≤◌, max, Bool, true, false, List, [], ◌∷◌, ◌++◌, length, take, Some, sym, refl, ap, ◌∙◌, subst, inl, inr, arith}
use Rattle.std.proofs.lemmas.List.{take_all, take_at, length-append}
use Rattle.std.proofs.lemmas.Bool.{cases_eq, cases_lt, lt-ltb, ne_eqb, le-leb, lt-leb}
use Rattle.links.specs.declared.line.Line.{Line}
use Rattle.links.specs.Lists.{lists, home_of, rehomed}
use Rattle.links.specs.Rows.{occurs, without, fronted, pushed_front, nth, first_of, last_of}
use Rattle.links.proofs.Counts.{occurs_same, occurs_append, length_without, without_absent, without_last}
use Rattle.links.proofs.Members.{stands, lacks, home_is, no_more, low_node}
use Rattle.links.proofs.Ends.{split_last, split_first}
use Rattle.ghosts.specs.declared.notes.Notes.{Notes}
use Rattle.ghosts.specs.declared.noted.Noted.{Noted}
use Rattle.ghosts.specs.Notes.{note_list, Counted, Unopened, Within, Chosen}
use Rattle.ghosts.specs.Remembered.{Pushed, holds_node}

abbrev pub relinked : Notes → Line → ℕ → Notes
relinked n l opened = record { line = l; opened = opened; capacity = n.capacity }

-- what the ghost fields say
abbrev pub Ghosts : Notes → Type 0
Ghosts n = record { counted : Counted n; unopened : Unopened n; within : Within n }

-- a node that has a home was opened
pub opened_before : (n : Notes) → Unopened n → (p : ℕ) → home_of n.line p < 4 → p < n.opened
opened_before n unopened p h = elim (cases_lt p n.opened) [ inl i ↦ i | inr i ↦ let u = unopened p i in absurd (omega arith) ]

module _ (n : Notes) (counted : Counted n) (unopened : Unopened n) (within : Within n) (l : Line) (p : ℕ) where
  module _ (k : ℕ) (two : k < 2) (low : p < 512) (to : lists l ≡ fronted p k (lists n.line)) (homes : (q : ℕ) → home_of l q ≡ rehomed p k (home_of n.line) q) where
    line : lists l ≡ pushed_front p k (lists n.line)
    line = to ∙ rw (lt-ltb p 512 low, lt-ltb k 4 (omega arith))

    long : (j : ℕ) → j < 2 → length (nth 0 (pushed_front p j (lists n.line))) + length (nth 1 (pushed_front p j (lists n.line))) + (occurs p (note_list 0 n) + occurs p (note_list 1 n)) ≡ length (note_list 0 n) + length (note_list 1 n) + 1
    long zero h = let a = length_without p (note_list 0 n) in let b = length_without p (note_list 1 n) in omega arith
    long (suc zero) h = let a = length_without p (note_list 0 n) in let b = length_without p (note_list 1 n) in omega arith
    long (suc (suc j)) h = absurd (omega arith)

    pub longer : length (nth 0 (lists l)) + length (nth 1 (lists l)) + (occurs p (note_list 0 n) + occurs p (note_list 1 n)) ≡ n.opened + 1
    longer =
        let a = long k two in
        let b = ap (λ (xss : List (List ℕ)). length (nth 0 xss) + length (nth 1 xss)) line in
        let c = counted in
        omega arith

    others : (q : ℕ) → (q ≡ p → ⊥) → home_of l q ≡ home_of n.line q
    others q e = homes q ∙ rw (lt-ltb p 512 low, lt-ltb k 4 (omega arith), ne_eqb q p e)

    -- a node that has a home moves
    pub moved : home_of n.line p < 2 → Ghosts (relinked n l n.opened)
    moved h =
        let one : occurs p (note_list 0 n) + occurs p (note_list 1 n) ≡ 1 =
        elim (cases_eq (home_of n.line p) 0) [
          | inl e ↦ let a = stands n.line p 0 (omega arith) e in let b = lacks n.line p 1 (omega arith) (λ i. omega arith) in omega arith
          | inr e ↦ let a = lacks n.line p 0 (omega arith) e in let b = stands n.line p 1 (omega arith) (omega arith) in omega arith
        ] in
        let a = longer in
        let opened = opened_before n unopened p (omega arith) in
        record { counted = omega arith; unopened = λ q i. let u = unopened q i in let o = others q (λ e. omega arith) in omega arith; within = within }

    -- the next node is opened
    pub fresh : p ≡ n.opened → n.opened < n.capacity → Ghosts (relinked n l (n.opened + 1))
    fresh e h =
        let far = unopened p (omega arith) in
        let a = lacks n.line p 0 (omega arith) (λ i. omega arith) in
        let b = lacks n.line p 1 (omega arith) (λ i. omega arith) in
        let c = longer in
        record { counted = omega arith; unopened = λ q i. let u = unopened q (omega arith) in let o = others q (λ j. omega arith) in omega arith; within = (omega arith, within.1) }

  module _ (low : p < 512) (to : lists l ≡ fronted p 0 (lists n.line)) where
    newest : nth 0 (lists l) ≡ p ∷ without p (note_list 0 n)
    newest =
        let e : lists l ≡ pushed_front p 0 (lists n.line) = to ∙ rw (lt-ltb p 512 low) in
        ap (λ (xss : List (List ℕ)). nth 0 xss) e

    -- a node that remembered nothing
    pub pushed_new : (home_of n.line p ≡ 0 → ⊥) → length (note_list 0 n) < n.capacity → Pushed n.capacity (note_list 0 n) (nth 0 (lists l)) (record { node = p; forgot = false })
    pushed_new h i =
        let z = lacks n.line p 0 (omega arith) h in
        let w = without_absent p (note_list 0 n) z in
        record {
          newest = newest ∙ (ap (λ (xs : List ℕ). p ∷ xs) w ∙ sym (take_all n.capacity (p ∷ note_list 0 n) (omega arith)));
          forgot = sym (lt-leb n.capacity (length (note_list 0 n)) (omega arith));
          reused = z;
        }

    -- the oldest of a full Ghost
    pub pushed_old : Some p ≡ last_of (note_list 0 n) → length (note_list 0 n) ≡ n.capacity → Pushed n.capacity (note_list 0 n) (nth 0 (lists l)) (record { node = p; forgot = true })
    pushed_old e i =
        let s = split_last (note_list 0 n) p e in
        let c : occurs p (note_list 0 n) ≡ occurs p (s.rest ++ p ∷ []) = ap (λ (xs : List ℕ). occurs p xs) s.is in
        let a = occurs_append p s.rest (p ∷ []) in
        let b = occurs_same p [] in
        let m = no_more n.line p 0 (omega arith) in
        let w : without p (note_list 0 n) ≡ s.rest = ap (without p) s.is ∙ without_last p s.rest (omega arith) in
        let g = length-append s.rest (p ∷ []) in
        let h : length (note_list 0 n) ≡ length (s.rest ++ p ∷ []) = ap (λ (xs : List ℕ). length xs) s.is in
        let t : n.capacity ≡ suc (length s.rest) = omega arith in
        let u : take n.capacity (p ∷ note_list 0 n) ≡ p ∷ s.rest = ap (λ (m : ℕ). take m (p ∷ note_list 0 n)) t ∙ ap (λ (xs : List ℕ). p ∷ xs) (ap (take (length s.rest)) s.is ∙ take_at s.rest (p ∷ []) (length s.rest) refl) in
        record {
          newest = newest ∙ (ap (λ (xs : List ℕ). p ∷ xs) w ∙ sym u);
          forgot = sym (le-leb n.capacity (length (note_list 0 n)) (omega arith));
          reused = omega arith;
        }

-- a node that remembers a key is in list 0
pub held_home : (n : Notes) (p : ℕ) → true ≡ holds_node p (note_list 0 n) → home_of n.line p ≡ 0
held_home n p e =
    elim (cases_eq (home_of n.line p) 0) [
      | inl i ↦ i
      | inr i ↦
          let z = lacks n.line p 0 (omega arith) i in
          let x : ◌≡◌ {A = Bool} true false = e ∙ rw z in
          let y : ◌≡◌ {A = ℕ} 0 1 = cc in
          absurd (omega arith)
    ]

pub unheld_home : (n : Notes) (p : ℕ) → false ≡ holds_node p (note_list 0 n) → occurs p (note_list 0 n) ≡ 0
unheld_home n p e =
    elim (cases_eq (home_of n.line p) 0) [
      | inl i ↦
          let o = stands n.line p 0 (omega arith) i in
          let x : ◌≡◌ {A = Bool} false true = e ∙ rw o in
          let y : ◌≡◌ {A = ℕ} 0 1 = cc in
          absurd (omega arith)
      | inr i ↦ lacks n.line p 0 (omega arith) i
    ]

-- the first of the spare
pub spare_home : (n : Notes) (p : ℕ) → Some p ≡ first_of (note_list 1 n) → (home_of n.line p ≡ 1) × (1 ≤ length (note_list 1 n))
spare_home n p e =
    let b = split_first (note_list 1 n) p e in
    let c : occurs p (note_list 1 n) ≡ occurs p (p ∷ b.rest) = ap (λ (xs : List ℕ). occurs p xs) b.is in
    let o = occurs_same p b.rest in
    let h : length (note_list 1 n) ≡ suc (length b.rest) = ap (λ (xs : List ℕ). length xs) b.is in
    (home_is n.line p 1 (omega arith) (omega arith), omega arith)

-- the oldest that is remembered
pub oldest_home : (n : Notes) (p : ℕ) → Some p ≡ last_of (note_list 0 n) → home_of n.line p ≡ 0
oldest_home n p e =
    let b = split_last (note_list 0 n) p e in
    let c : occurs p (note_list 0 n) ≡ occurs p (b.rest ++ p ∷ []) = ap (λ (xs : List ℕ). occurs p xs) b.is in
    let a = occurs_append p b.rest (p ∷ []) in
    let o = occurs_same p [] in
    home_is n.line p 0 (omega arith) (omega arith)

-- the node that a push chooses is made the newest
module _ (n : Notes) (counted : Counted n) (unopened : Unopened n) (within : Within n) (x : Noted) (chosen : Chosen n (Some x)) where
  pub chosen_low : x.node < 512
  chosen_low =
      elim chosen [
        | inl s ↦ let h = (spare_home n x.node s.0).0 in low_node n.line x.node (omega arith)
        | inr (inl u) ↦ let w = within.1 in let i = u.0 in let j = u.1 in omega arith
        | inr (inr o) ↦ let h = oldest_home n x.node o.0 in low_node n.line x.node (omega arith)
      ]

  module _ (l : Line) (to : lists l ≡ fronted x.node 0 (lists n.line)) (homes : (q : ℕ) → home_of l q ≡ rehomed x.node 0 (home_of n.line) q) where
    pub newest_ghosts : (m : ℕ) → m ≡ max n.opened (x.node + 1) → Ghosts (relinked n l m)
    newest_ghosts m e =
        elim chosen [
          | inl s ↦
              let h = (spare_home n x.node s.0).0 in
              let b = opened_before n unopened x.node (omega arith) in
              subst (λ (k : ℕ). Ghosts (relinked n l k)) (omega arith) (moved n counted unopened within l x.node 0 (omega arith) chosen_low to homes (omega arith))
          | inr (inl u) ↦
              let i = u.0 in
              subst (λ (k : ℕ). Ghosts (relinked n l k)) (omega arith) (fresh n counted unopened within l x.node 0 (omega arith) chosen_low to homes u.0 u.1)
          | inr (inr o) ↦
              let h = oldest_home n x.node o.0 in
              let b = opened_before n unopened x.node (omega arith) in
              subst (λ (k : ℕ). Ghosts (relinked n l k)) (omega arith) (moved n counted unopened within l x.node 0 (omega arith) chosen_low to homes (omega arith))
        ]

    told : (f : Bool) → x.forgot ≡ f → Pushed n.capacity (note_list 0 n) (nth 0 (lists l)) (record { node = x.node; forgot = f }) → Pushed n.capacity (note_list 0 n) (nth 0 (lists l)) x
    told f e h = subst (λ (g : Bool). Pushed n.capacity (note_list 0 n) (nth 0 (lists l)) (record { node = x.node; forgot = g })) (sym e) h

    pub newest_pushed : Pushed n.capacity (note_list 0 n) (nth 0 (lists l)) x
    newest_pushed =
        elim chosen [
          | inl s ↦
              let h = spare_home n x.node s.0 in
              let i = h.0 in
              let k = h.1 in
              let b = within.0 in
              told _ s.1
              (pushed_new n counted unopened within l x.node chosen_low to (λ e. omega arith) (omega arith))
          | inr (inl u) ↦
              let f = unopened x.node (let i = u.0 in omega arith) in
              let i = u.1 in
              told _ u.2
              (pushed_new n counted unopened within l x.node chosen_low to (λ e. omega arith) (omega arith))
          | inr (inr o) ↦
              told _ o.2
              (pushed_old n counted unopened within l x.node chosen_low to o.0 o.1)
        ]
