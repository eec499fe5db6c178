-- A node is taken out and put at an end of a list: what each step needs, and what is left of the lists.
use Rattle.std.proofs.Common.{◌≡◌, ℕ, ◌+◌, ◌<◌, ◌≤◌, cond, eqb, [], ◌∷◌, ◌++◌, get_or, sym, ◌∙◌, subst, arith}
use Rattle.std.proofs.lemmas.List.{get_or_default, length-map}
use Rattle.std.proofs.lemmas.Bool.{lt-ltb}
use Rattle.links.specs.declared.cells.Cells.{Cells}
use Rattle.links.specs.Rows.{row, rows, without, fronted, backed}
use Rattle.links.specs.Cells.{Sized, link_at, nexts, prevs, detached, attached}
use Rattle.links.proofs.Paths.{next_is, prev_is, first_among, last_among, first_or}
use Rattle.links.proofs.Laid.{room, within}
use Rattle.links.proofs.Steps.{left_within, right_within, counted}
use Rattle.links.proofs.Whole.{next_at, prev_at, Holds, Linked, Once, holds, holds_detached, loose_detached, holds_front, holds_back, linked_from, once_from, rows_are, front_is, back_is}
use Rattle.links.specs.Rows.{last_or}

module _ (c : Cells) (sized : Sized c) (linked : Linked c) (once : Once c) (m k : ℕ) (low : m < 512) (small : k < 4) where
  all : Holds c (row (nexts c) c.lens)
  all = holds c sized linked once

  at_4 : get_or c.home m 4 ≡ get_or c.home m 0
  at_4 = let l = sized.1 in get_or_default c.home m 4 0 (omega arith)

  pub left_ok : get_or c.home m 0 < 4 → (link_at c.links m).prev < 517
  left_ok l = rw (← prev_at c.links m) (left_within (nexts c) (prevs c) c.home c.lens (row (nexts c) c.lens) all m (get_or c.home m 0) l at_4)

  pub right_ok : get_or c.home m 0 < 4 → (link_at c.links m).next < 517
  right_ok l = rw (← next_at c.links m) (right_within (nexts c) (prevs c) c.home c.lens (row (nexts c) c.lens) all m (get_or c.home m 0) l at_4)

  pub counted_ok : get_or c.home m 0 < 4 → 1 ≤ get_or c.lens (get_or c.home m 0) 0
  counted_ok l = counted (nexts c) (prevs c) c.home c.lens (row (nexts c) c.lens) all m (get_or c.home m 0) l at_4

  -- after the node was taken out
  module _ (d : Cells) (ed : d ≡ detached c m) where
    lost : Holds d (λ j. without m (row (nexts c) c.lens j))
    lost =
        subst (λ (x : Cells). Holds x (λ j. without m (row (nexts c) c.lens j))) (sym ed)
        (holds_detached c (row (nexts c) c.lens) all m low)

    loose : 4 ≤ get_or d.home m 4
    loose = subst (λ (x : Cells). 4 ≤ get_or x.home m 4) (sym ed) (loose_detached c (row (nexts c) c.lens) all m low)

    pub room_ok : get_or d.lens k 0 ≤ 512
    room_ok =
        let l = lost.long k small in
        let r = room (nexts d) (prevs d) d.home d.lens (λ j. without m (row (nexts c) c.lens j)) lost k small in
        omega arith

    pub after_ok : (link_at d.links (512 + k)).next < 517
    after_ok =
        let us = without m (row (nexts c) c.lens k) in
        rw (← next_at d.links (512 + k), next_is (nexts d) (prevs d) (512 + k) us (513 + k) (lost.path k small))
        (within (nexts d) (prevs d) d.home d.lens (λ j. without m (row (nexts c) c.lens j)) lost (first_or us (513 + k)) 513 k (omega arith) small (first_among us (513 + k)))

    pub before_ok : (link_at d.links (513 + k)).prev < 517
    before_ok =
        let us = without m (row (nexts c) c.lens k) in
        rw (← prev_at d.links (513 + k), prev_is (nexts d) (prevs d) (512 + k) us (513 + k) (lost.path k small))
        (within (nexts d) (prevs d) d.home d.lens (λ j. without m (row (nexts c) c.lens j)) lost (last_or (512 + k) us) 512 k (omega arith) small (last_among (512 + k) us))

    -- after it was put before the first
    module _ (e : Cells) (ee : e ≡ attached d m (record { prev = 512 + k; next = (link_at d.links (512 + k)).next }) k) where
      fronts : Holds e (λ j. cond (eqb j k) (m ∷ without m (row (nexts c) c.lens k)) (without m (row (nexts c) c.lens j)))
      fronts =
          subst (λ (x : Cells). Holds x (λ j. cond (eqb j k) (m ∷ without m (row (nexts c) c.lens k)) (without m (row (nexts c) c.lens j)))) (sym ee)
          (holds_front d (λ j. without m (row (nexts c) c.lens j)) lost m low loose k small)

      pub front_sized : Sized e
      front_sized = (let l = length-map e.links (λ x. x.next) in let n = fronts.next_long in omega arith, fronts.home_long, fronts.lens_long)

      pub front_linked : Linked e
      front_linked = linked_from e (λ j. cond (eqb j k) (m ∷ without m (row (nexts c) c.lens k)) (without m (row (nexts c) c.lens j))) fronts

      pub front_once : Once e
      front_once = once_from e (λ j. cond (eqb j k) (m ∷ without m (row (nexts c) c.lens k)) (without m (row (nexts c) c.lens j))) fronts

      pub front_lists : rows (nexts e) e.lens ≡ fronted m k (rows (nexts c) c.lens)
      front_lists =
          rw (lt-ltb m 512 low, lt-ltb k 4 small)
          (rows_are e (λ j. cond (eqb j k) (m ∷ without m (row (nexts c) c.lens k)) (without m (row (nexts c) c.lens j))) fronts
          ∙ front_is (row (nexts c) c.lens) m k small)

    -- after it was put after the last
    module _ (e : Cells) (ee : e ≡ attached d m (record { prev = (link_at d.links (513 + k)).prev; next = 513 + k }) k) where
      backs : Holds e (λ j. cond (eqb j k) (without m (row (nexts c) c.lens k) ++ m ∷ []) (without m (row (nexts c) c.lens j)))
      backs =
          subst (λ (x : Cells). Holds x (λ j. cond (eqb j k) (without m (row (nexts c) c.lens k) ++ m ∷ []) (without m (row (nexts c) c.lens j)))) (sym ee)
          (holds_back d (λ j. without m (row (nexts c) c.lens j)) lost m low loose k small)

      pub back_sized : Sized e
      back_sized = (let l = length-map e.links (λ x. x.next) in let n = backs.next_long in omega arith, backs.home_long, backs.lens_long)

      pub back_linked : Linked e
      back_linked = linked_from e (λ j. cond (eqb j k) (without m (row (nexts c) c.lens k) ++ m ∷ []) (without m (row (nexts c) c.lens j))) backs

      pub back_once : Once e
      back_once = once_from e (λ j. cond (eqb j k) (without m (row (nexts c) c.lens k) ++ m ∷ []) (without m (row (nexts c) c.lens j))) backs

      pub back_lists : rows (nexts e) e.lens ≡ backed m k (rows (nexts c) c.lens)
      back_lists =
          rw (lt-ltb m 512 low, lt-ltb k 4 small)
          (rows_are e (λ j. cond (eqb j k) (without m (row (nexts c) c.lens k) ++ m ∷ []) (without m (row (nexts c) c.lens j))) backs
          ∙ back_is (row (nexts c) c.lens) m k small)
