-- What is read off a line: the ends of a list, its length, and the list that holds a node.
use Rattle.std.proofs.Common.{◌≡◌, ℕ, zero, suc, ◌+◌, ◌<◌, ◌≤◌, cond, eqb, List, [], ◌∷◌, length, get_or, Some, None, sym, refl, ap, ◌∙◌, inl, inr, arith}
use Rattle.std.proofs.lemmas.Bool.{cases_lt}
use Rattle.links.specs.declared.cells.Cells.{Cells}
use Rattle.links.specs.Rows.{row, rows, nth, occurs, first_of, last_of, last_or, holder}
use Rattle.links.specs.Cells.{Sized, link_at, nexts, prevs}
use Rattle.links.proofs.Paths.{first_or, next_is, prev_is}
use Rattle.links.proofs.Laid.{elsewhere}
use Rattle.links.proofs.Whole.{next_at, prev_at, Holds, Linked, Once, holds, length_walk, four}

pub nth_row : (c : Cells) (k : ℕ) → k < 4 → nth k (rows (nexts c) c.lens) ≡ row (nexts c) c.lens k
nth_row c = four (λ k. nth k (rows (nexts c) c.lens) ≡ row (nexts c) c.lens k) refl refl refl refl

pub length_row : (c : Cells) (k : ℕ) → k < 4 → get_or c.lens k 0 ≡ length (nth k (rows (nexts c) c.lens))
length_row c k l = rw (nth_row c k l) (sym (length_walk (nexts c) (512 + k) (get_or c.lens k 0)))

first_some : (xs : List ℕ) (y z : ℕ) → 1 ≤ length xs → z ≡ first_or xs y → Some z ≡ first_of xs
first_some [] y z l e = absurd (omega arith)
first_some (x ∷ xs) y z l e = ap (λ (q : ℕ). Some q) e

last_some : (xs : List ℕ) (y z : ℕ) → 1 ≤ length xs → z ≡ last_or y xs → Some z ≡ last_of xs
last_some [] y z l e = absurd (omega arith)
last_some (x ∷ xs) y z l e = ap (λ (q : ℕ). Some q) e

pub nth_past : (c : Cells) (k : ℕ) → 4 ≤ k → nth k (rows (nexts c) c.lens) ≡ []
nth_past c zero l = absurd (omega arith)
nth_past c (suc zero) l = absurd (omega arith)
nth_past c (suc (suc zero)) l = absurd (omega arith)
nth_past c (suc (suc (suc zero))) l = absurd (omega arith)
nth_past c (suc (suc (suc (suc k)))) l = refl

module _ (c : Cells) (sized : Sized c) (linked : Linked c) (once : Once c) where
  all : Holds c (row (nexts c) c.lens)
  all = holds c sized linked once

  -- a list of somebody is one of the four
  there : (k : ℕ) → 1 ≤ length (nth k (rows (nexts c) c.lens)) → k < 4
  there k n =
      elim (cases_lt k 4) [
        | inl l ↦ l
        | inr g ↦ let e = ap (λ (xs : List ℕ). length xs) (nth_past c k g) in absurd (omega arith)
      ]

  pub first_is : (k : ℕ) → 1 ≤ length (nth k (rows (nexts c) c.lens)) → Some (link_at c.links (512 + k)).next ≡ first_of (nth k (rows (nexts c) c.lens))
  first_is k n =
      let l = there k n in
      first_some (nth k (rows (nexts c) c.lens)) (513 + k) (link_at c.links (512 + k)).next n
      (rw (nth_row c k l) (sym (next_at c.links (512 + k)) ∙ next_is (nexts c) (prevs c) (512 + k) (row (nexts c) c.lens k) (513 + k) (all.path k l)))

  pub last_is : (k : ℕ) → 1 ≤ length (nth k (rows (nexts c) c.lens)) → Some (link_at c.links (513 + k)).prev ≡ last_of (nth k (rows (nexts c) c.lens))
  last_is k n =
      let l = there k n in
      last_some (nth k (rows (nexts c) c.lens)) (512 + k) (link_at c.links (513 + k)).prev n
      (rw (nth_row c k l) (sym (prev_at c.links (513 + k)) ∙ prev_is (nexts c) (prevs c) (512 + k) (row (nexts c) c.lens k) (513 + k) (all.path k l)))

  count : (p k : ℕ) → k < 4 → occurs p (row (nexts c) c.lens k) ≡ cond (eqb (get_or c.home p 4) k) 1 0
  count = once

  pub held : (p h : ℕ) → h < 4 → get_or c.home p 4 ≡ h → Some h ≡ holder p 0 (rows (nexts c) c.lens)
  held p h l e =
      four (λ k. get_or c.home p 4 ≡ k → Some k ≡ holder p 0 (rows (nexts c) c.lens))
      (λ i. rw (count p 0 (omega arith), i))
      (λ i. rw (count p 0 (omega arith), i, count p 1 (omega arith), i))
      (λ i. rw (count p 0 (omega arith), i, count p 1 (omega arith), i, count p 2 (omega arith), i))
      (λ i. rw (count p 0 (omega arith), i, count p 1 (omega arith), i, count p 2 (omega arith), i, count p 3 (omega arith), i))
      h l e

  pub unheld : (p : ℕ) → 4 ≤ get_or c.home p 4 → None ≡ holder p 0 (rows (nexts c) c.lens)
  unheld p l =
      let z = λ (k : ℕ) (h : k < 4). elsewhere (nexts c) (prevs c) c.home c.lens (row (nexts c) c.lens) all p k h (λ e. omega arith) in
      rw (z 0 (omega arith), z 1 (omega arith), z 2 (omega arith), z 3 (omega arith))
