-- Which nodes stand in which list of a line, and how often.
use Rattle.std.proofs.Common.{◌≡◌, ℕ, ◌<◌, ◌≤◌, ◌∙◌, inl, inr, arith}
use Rattle.std.proofs.lemmas.List.{get_or_past}
use Rattle.std.proofs.lemmas.Bool.{cases_eq, cases_lt, ne_eqb}
use Rattle.links.specs.declared.line.Line.{Line}
use Rattle.links.specs.Lists.{lists, home_of}
use Rattle.links.specs.Rows.{occurs, nth}
use Rattle.links.proofs.Whole.{four}

module _ (l : Line) (p : ℕ) where
  pub stands : (k : ℕ) → k < 4 → home_of l p ≡ k → occurs p (nth k (lists l)) ≡ 1
  stands k h e =
      four (λ j. home_of l p ≡ j → occurs p (nth j (lists l)) ≡ 1)
      (λ i. l.once p 0 (omega arith) ∙ rw i) (λ i. l.once p 1 (omega arith) ∙ rw i)
      (λ i. l.once p 2 (omega arith) ∙ rw i) (λ i. l.once p 3 (omega arith) ∙ rw i) k h e

  pub lacks : (k : ℕ) → k < 4 → (home_of l p ≡ k → ⊥) → occurs p (nth k (lists l)) ≡ 0
  lacks k h e =
      four (λ j. (home_of l p ≡ j → ⊥) → occurs p (nth j (lists l)) ≡ 0)
      (λ i. l.once p 0 (omega arith) ∙ rw (ne_eqb (home_of l p) 0 i)) (λ i. l.once p 1 (omega arith) ∙ rw (ne_eqb (home_of l p) 1 i))
      (λ i. l.once p 2 (omega arith) ∙ rw (ne_eqb (home_of l p) 2 i)) (λ i. l.once p 3 (omega arith) ∙ rw (ne_eqb (home_of l p) 3 i)) k h e

  pub home_is : (k : ℕ) → k < 4 → 1 ≤ occurs p (nth k (lists l)) → home_of l p ≡ k
  home_is k h o =
      elim (cases_eq (home_of l p) k) [ inl e ↦ e | inr e ↦ let z = lacks k h e in absurd (omega arith) ]

  pub no_more : (k : ℕ) → k < 4 → occurs p (nth k (lists l)) ≤ 1
  no_more k h =
      elim (cases_eq (home_of l p) k) [ inl e ↦ let z = stands k h e in omega arith | inr e ↦ let z = lacks k h e in omega arith ]

  pub low_node : home_of l p < 4 → p < 512
  low_node h =
      elim (cases_lt p 512) [
        | inl i ↦ i
        | inr i ↦ let z = l.sized.1 in let e = get_or_past l.cells.home p 4 (omega arith) in absurd (omega arith)
      ]
