-- The steps on the cells of a line, and what they make of its four lists.
use Rattle.std.proofs.Common.{◌≡◌, ℕ, zero, suc, ◌+◌, ◌<◌, ◌≤◌, true, cond, eqb, List, [], ◌∷◌, ◌++◌, map, length, get_or, set, sym, refl, ap, ◌∙◌, inl, inr, arith}
use Rattle.std.proofs.lemmas.List.{get_or_default, get_or-set_same, append-nil, map-set, length-map}
use Rattle.std.proofs.Math.Seq.{map-set_same}
use Rattle.std.proofs.lemmas.Bool.{cases_lt, lt-ltb, le-ltb}
use Rattle.links.specs.declared.cells.Link.{Link}
use Rattle.links.specs.declared.cells.Cells.{Cells}
use Rattle.links.specs.Rows.{walk, row, rows, leads, occurs, without, pushed_front, pushed_back}
use Rattle.links.specs.Cells.{Sized, link_at, nexts, prevs, set_next, set_prev, cut, detached, attached}
use Rattle.links.proofs.Counts.{without_absent}
use Rattle.links.proofs.Paths.{path_from, path_leads, next_is, prev_is}
use Rattle.links.proofs.Laid.{Laid, row_is, elsewhere}
use Rattle.links.proofs.Steps.{laid_detached, laid_attached}

-- one half of a link, read off the row of them
pub next_at : (ls : List Link) (p : ℕ) → get_or (map (λ l. l.next) ls) p 0 ≡ (link_at ls p).next
next_at [] p = refl
next_at (x ∷ xs) zero = refl
next_at (x ∷ xs) (suc p) = next_at xs p

pub prev_at : (ls : List Link) (p : ℕ) → get_or (map (λ l. l.prev) ls) p 0 ≡ (link_at ls p).prev
prev_at [] p = refl
prev_at (x ∷ xs) zero = refl
prev_at (x ∷ xs) (suc p) = prev_at xs p

-- and written: the other row stays
next_next : (ls : List Link) (p q : ℕ) → map (λ l. l.next) (set_next ls p q) ≡ set (map (λ l. l.next) ls) p q
next_next ls p q = map-set (λ (l : Link). l.next) ls p (record { prev = (link_at ls p).prev; next = q })

prev_next : (ls : List Link) (p q : ℕ) → map (λ l. l.prev) (set_next ls p q) ≡ map (λ l. l.prev) ls
prev_next ls p q = map-set_same (λ (l : Link). l.prev) ls p (record { prev = (link_at ls p).prev; next = q }) (record { prev = 0; next = 0 }) refl

next_prev : (ls : List Link) (p q : ℕ) → map (λ l. l.next) (set_prev ls p q) ≡ map (λ l. l.next) ls
next_prev ls p q = map-set_same (λ (l : Link). l.next) ls p (record { prev = q; next = (link_at ls p).next }) (record { prev = 0; next = 0 }) refl

prev_prev : (ls : List Link) (p q : ℕ) → map (λ l. l.prev) (set_prev ls p q) ≡ set (map (λ l. l.prev) ls) p q
prev_prev ls p q = map-set (λ (l : Link). l.prev) ls p (record { prev = q; next = (link_at ls p).next })

module _ (c : Cells) (m : ℕ) where
  cut_next : nexts (cut c m) ≡ set (nexts c) (get_or (prevs c) m 0) (get_or (nexts c) m 0)
  cut_next =
      let l = link_at c.links m in
      next_prev (set_next c.links l.prev l.next) l.next l.prev ∙ (next_next c.links l.prev l.next ∙ rw (next_at c.links m, prev_at c.links m))

  cut_prev : prevs (cut c m) ≡ set (prevs c) (get_or (nexts c) m 0) (get_or (prevs c) m 0)
  cut_prev =
      let l = link_at c.links m in
      prev_prev (set_next c.links l.prev l.next) l.next l.prev ∙ (ap (λ (xs : List ℕ). set xs l.next l.prev) (prev_next c.links l.prev l.next) ∙ rw (next_at c.links m, prev_at c.links m))

  module _ (l : Link) (k : ℕ) where
    attached_next : nexts (attached c m l k) ≡ set (set (nexts c) l.prev m) m l.next
    attached_next =
        next_prev (set (set_next c.links l.prev m) m l) l.next m
        ∙ (map-set (λ (x : Link). x.next) (set_next c.links l.prev m) m l ∙ ap (λ (xs : List ℕ). set xs m l.next) (next_next c.links l.prev m))

    attached_prev : prevs (attached c m l k) ≡ set (set (prevs c) m l.prev) l.next m
    attached_prev =
        prev_prev (set (set_next c.links l.prev m) m l) l.next m
        ∙ ap (λ (xs : List ℕ). set xs l.next m) (map-set (λ (x : Link). x.prev) (set_next c.links l.prev m) m l ∙ ap (λ (xs : List ℕ). set xs m l.prev) (prev_next c.links l.prev m))

laid_as : {nx nx' pv pv' home lens : List ℕ} {ls : ℕ → List ℕ} → nx' ≡ nx → pv' ≡ pv → Laid nx pv home lens ls → Laid nx' pv' home lens ls
laid_as a b h = rw (a, b) h

abbrev pub Holds : Cells → (ℕ → List ℕ) → Type 0
Holds c ls = Laid (nexts c) (prevs c) c.home c.lens ls

abbrev pub Linked : Cells → Type 0
Linked c = (k : ℕ) → k < 4 → leads (nexts c) (prevs c) (512 + k) (row (nexts c) c.lens k) (513 + k) ≡ true

abbrev pub Once : Cells → Type 0
Once c = (p k : ℕ) → k < 4 → occurs p (row (nexts c) c.lens k) ≡ cond (eqb (get_or c.home p 4) k) 1 0

pub length_walk : (nx : List ℕ) (x n : ℕ) → length (walk nx x n) ≡ n
length_walk nx x zero = refl
length_walk nx x (suc n) = ap suc (length_walk nx (get_or nx x 0) n)

-- a line's ghost fields say that its lists are laid
pub holds : (c : Cells) → Sized c → Linked c → Once c → Holds c (row (nexts c) c.lens)
holds c z linked once =
    record {
      next_long = let l = length-map c.links (λ l. l.next) in let i = z.0 in omega arith;
      prev_long = let l = length-map c.links (λ l. l.prev) in let i = z.0 in omega arith;
      home_long = z.1;
      lens_long = z.2;
      path = λ k l. path_from (nexts c) (prevs c) (512 + k) (row (nexts c) c.lens k) (513 + k) (linked k l);
      once = once;
      long = λ k l. sym (length_walk (nexts c) (512 + k) (get_or c.lens k 0));
    }

-- and the other way round
pub linked_from : (c : Cells) (ls : ℕ → List ℕ) → Holds c ls → Linked c
linked_from c ls h k l =
    rw (row_is (nexts c) (prevs c) c.home c.lens ls h k l)
    (path_leads (nexts c) (prevs c) (512 + k) (ls k) (513 + k) (h.path k l))

pub once_from : (c : Cells) (ls : ℕ → List ℕ) → Holds c ls → Once c
once_from c ls h p k l = rw (row_is (nexts c) (prevs c) c.home c.lens ls h k l) (h.once p k l)

holds_along : (c : Cells) (ls ms : ℕ → List ℕ) → ((k : ℕ) → k < 4 → ls k ≡ ms k) → Holds c ls → Holds c ms
holds_along c ls ms e h =
    record {
      next_long = h.next_long;
      prev_long = h.prev_long;
      home_long = h.home_long;
      lens_long = h.lens_long;
      path = λ k l. rw (← e k l) (h.path k l);
      once = λ p k l. rw (← e k l) (h.once p k l);
      long = λ k l. rw (← e k l) (h.long k l);
    }

module _ (c : Cells) (ls : ℕ → List ℕ) (h : Holds c ls) (m : ℕ) (low : m < 512) where
  at_4 : get_or c.home m 0 ≡ get_or c.home m 4
  at_4 = let l = h.home_long in get_or_default c.home m 0 4 (omega arith)

  pub holds_detached : Holds (detached c m) (λ k. without m (ls k))
  holds_detached =
      elim (cases_lt (get_or c.home m 0) 4) [
        | inl l ↦
            rw (lt-ltb (get_or c.home m 0) 4 l)
            (laid_as (cut_next c m) (cut_prev c m) (laid_detached (nexts c) (prevs c) c.home c.lens ls h m (get_or c.home m 0) l (sym at_4) low))
        | inr g ↦
            rw (le-ltb (get_or c.home m 0) 4 g)
            (holds_along c ls (λ k. without m (ls k)) (λ k l. sym (without_absent m (ls k) (elsewhere (nexts c) (prevs c) c.home c.lens ls h m k l (λ e. let d = at_4 in omega arith)))) h)
      ]

  pub loose_detached : 4 ≤ get_or (detached c m).home m 4
  loose_detached =
      let hl = h.home_long in
      let il : m < length c.home = omega arith in
      elim (cases_lt (get_or c.home m 0) 4) [
        | inl l ↦
            rw (lt-ltb (get_or c.home m 0) 4 l, get_or-set_same c.home m 4 4 il) (omega arith)
        | inr g ↦ let d = at_4 in rw (le-ltb (get_or c.home m 0) 4 g) (omega arith)
      ]

  module _ (loose : 4 ≤ get_or c.home m 4) (k : ℕ) (small : k < 4) where
    pub holds_front : Holds (attached c m (record { prev = 512 + k; next = (link_at c.links (512 + k)).next }) k) (λ j. cond (eqb j k) (m ∷ ls k) (ls j))
    holds_front =
        laid_as (attached_next c m (record { prev = 512 + k; next = (link_at c.links (512 + k)).next }) k) (attached_prev c m (record { prev = 512 + k; next = (link_at c.links (512 + k)).next }) k)
        (laid_attached (nexts c) (prevs c) c.home c.lens ls h m k small [] (ls k) refl low loose (512 + k) (link_at c.links (512 + k)).next refl
        (sym (next_at c.links (512 + k)) ∙ next_is (nexts c) (prevs c) (512 + k) (ls k) (513 + k) (h.path k small)))

    pub holds_back : Holds (attached c m (record { prev = (link_at c.links (513 + k)).prev; next = 513 + k }) k) (λ j. cond (eqb j k) (ls k ++ m ∷ []) (ls j))
    holds_back =
        laid_as (attached_next c m (record { prev = (link_at c.links (513 + k)).prev; next = 513 + k }) k) (attached_prev c m (record { prev = (link_at c.links (513 + k)).prev; next = 513 + k }) k)
        (laid_attached (nexts c) (prevs c) c.home c.lens ls h m k small (ls k) [] (sym (append-nil (ls k))) low loose (link_at c.links (513 + k)).prev (513 + k)
        (sym (prev_at c.links (513 + k)) ∙ prev_is (nexts c) (prevs c) (512 + k) (ls k) (513 + k) (h.path k small)) refl)

-- what holds of each of the four lists
pub four : (P : ℕ → Type 0) → P 0 → P 1 → P 2 → P 3 → (k : ℕ) → k < 4 → P k
four P a b c d zero l = a
four P a b c d (suc zero) l = b
four P a b c d (suc (suc zero)) l = c
four P a b c d (suc (suc (suc zero))) l = d
four P a b c d (suc (suc (suc (suc k)))) l = absurd (omega arith)

pub rows_are : (c : Cells) (ls : ℕ → List ℕ) → Holds c ls → rows (nexts c) c.lens ≡ ls 0 ∷ ls 1 ∷ ls 2 ∷ ls 3 ∷ []
rows_are c ls h =
    let is = row_is (nexts c) (prevs c) c.home c.lens ls h in
    let a = is 0 (omega arith) in
    let b = is 1 (omega arith) in
    let d = is 2 (omega arith) in
    let e = is 3 (omega arith) in
    cc

pub front_is : (ls : ℕ → List ℕ) (m k : ℕ) → k < 4 → (λ (j : ℕ). cond (eqb j k) (m ∷ without m (ls k)) (without m (ls j))) 0 ∷ (λ (j : ℕ). cond (eqb j k) (m ∷ without m (ls k)) (without m (ls j))) 1 ∷ (λ (j : ℕ). cond (eqb j k) (m ∷ without m (ls k)) (without m (ls j))) 2 ∷ (λ (j : ℕ). cond (eqb j k) (m ∷ without m (ls k)) (without m (ls j))) 3 ∷ [] ≡ pushed_front m k (ls 0 ∷ ls 1 ∷ ls 2 ∷ ls 3 ∷ [])
front_is ls m zero l = refl
front_is ls m (suc zero) l = refl
front_is ls m (suc (suc zero)) l = refl
front_is ls m (suc (suc (suc zero))) l = refl
front_is ls m (suc (suc (suc (suc k)))) l = absurd (omega arith)

pub back_is : (ls : ℕ → List ℕ) (m k : ℕ) → k < 4 → (λ (j : ℕ). cond (eqb j k) (without m (ls k) ++ m ∷ []) (without m (ls j))) 0 ∷ (λ (j : ℕ). cond (eqb j k) (without m (ls k) ++ m ∷ []) (without m (ls j))) 1 ∷ (λ (j : ℕ). cond (eqb j k) (without m (ls k) ++ m ∷ []) (without m (ls j))) 2 ∷ (λ (j : ℕ). cond (eqb j k) (without m (ls k) ++ m ∷ []) (without m (ls j))) 3 ∷ [] ≡ pushed_back m k (ls 0 ∷ ls 1 ∷ ls 2 ∷ ls 3 ∷ [])
back_is ls m zero l = refl
back_is ls m (suc zero) l = refl
back_is ls m (suc (suc zero)) l = refl
back_is ls m (suc (suc (suc zero))) l = refl
back_is ls m (suc (suc (suc (suc k)))) l = absurd (omega arith)
