-- Lists laid on a line: a node is taken out of its list, or put into one, and every other list stays.
use Rattle.std.proofs.Common.{◌≡◌, ℕ, ◌+◌, ◌<◌, ◌≤◌, cond, eqb, List, length, get_or, sym, ◌∙◌, inl, inr, arith}
use Rattle.std.proofs.lemmas.List.{get_or_past}
use Rattle.std.proofs.lemmas.Bool.{cases_eq, cases_lt, eq-eqb, ne_eqb}
use Rattle.links.specs.Rows.{occurs, row}
use Rattle.links.proofs.Counts.{short}
use Rattle.links.proofs.Paths.{Path, Among, Away, walk_is}
use Rattle.links.proofs.Moves.{Plain}

pub record Laid (nx pv home lens : List ℕ) (ls : ℕ → List ℕ) : Type 0 where
  pub next_long : length nx ≡ 517
  pub prev_long : length pv ≡ 517
  pub home_long : length home ≡ 512
  pub lens_long : length lens ≡ 4
  pub path : (k : ℕ) → k < 4 → Path nx pv (512 + k) (ls k) (513 + k)
  pub once : (p k : ℕ) → k < 4 → occurs p (ls k) ≡ cond (eqb (get_or home p 4) k) 1 0
  pub long : (k : ℕ) → k < 4 → get_or lens k 0 ≡ length (ls k)

module _ (nx pv home lens : List ℕ) (ls : ℕ → List ℕ) (laid : Laid nx pv home lens ls) where
  pub row_is : (k : ℕ) → k < 4 → row nx lens k ≡ ls k
  row_is k l = rw (laid.long k l) (walk_is nx pv (512 + k) (ls k) (513 + k) (laid.path k l))

  pub far : (p : ℕ) → 512 ≤ p → get_or home p 4 ≡ 4
  far p h = let l = laid.home_long in get_or_past home p 4 (omega arith)

  pub here : (p k : ℕ) → k < 4 → get_or home p 4 ≡ k → occurs p (ls k) ≡ 1
  here p k l e = laid.once p k l ∙ rw (eq-eqb (get_or home p 4) k e)

  pub elsewhere : (p k : ℕ) → k < 4 → (get_or home p 4 ≡ k → ⊥) → occurs p (ls k) ≡ 0
  elsewhere p k l e = laid.once p k l ∙ rw (ne_eqb (get_or home p 4) k e)

  pub home_of_lem : (p k : ℕ) → k < 4 → 1 ≤ occurs p (ls k) → get_or home p 4 ≡ k
  home_of_lem p k l o =
      elim (cases_eq (get_or home p 4) k) [ inl e ↦ e | inr e ↦ let z = elsewhere p k l e in absurd (omega arith) ]

  pub inside : (p k : ℕ) → k < 4 → 1 ≤ occurs p (ls k) → p < 512
  inside p k l o =
      elim (cases_lt p 512) [ inl h ↦ h | inr h ↦ let e = home_of_lem p k l o in let f = far p h in absurd (omega arith) ]

  pub sentinel : (p k : ℕ) → k < 4 → 512 ≤ p → occurs p (ls k) ≡ 0
  sentinel p k l h = elsewhere p k l (λ e. let f = far p h in omega arith)

  pub single : (p k : ℕ) → k < 4 → occurs p (ls k) ≤ 1
  single p k l =
      elim (cases_eq (get_or home p 4) k) [ inl e ↦ let z = here p k l e in omega arith | inr e ↦ let z = elsewhere p k l e in omega arith ]

  pub simple : (k : ℕ) → k < 4 → Plain (512 + k) (ls k) (513 + k)
  simple k l =
      record {
        once = λ p. single p k l;
        ends = λ e. omega arith;
        no_x = sentinel (512 + k) k l (omega arith);
        no_y = sentinel (513 + k) k l (omega arith);
      }

  -- no list is longer than there are nodes
  pub room : (k : ℕ) → k < 4 → length (ls k) ≤ 512
  room k l = short 512 (ls k) (λ p. single p k l) (λ p h. sentinel p k l h)

  pub within : (a c k : ℕ) → c ≤ 513 → k < 4 → Among a (c + k) (ls k) → a < 517
  within a c k h l (inl e) = omega arith
  within a c k h l (inr o) = let i = inside a k l o in omega arith

  -- what stands in or beside one list is away from another
  pub apart : (a c k j : ℕ) → 512 ≤ c → k < 4 → j < 4 → (j ≡ k → ⊥) → Among a (c + k) (ls k) → Away a (c + j) (ls j)
  apart a c k j h l m n (inl e) =
      (λ i. n (omega arith), sentinel a j m (omega arith))
  apart a c k j h l m n (inr o) =
      let e = home_of_lem a k l o in
      let i = inside a k l o in
      (λ q. omega arith, elsewhere a j m (λ q. n (sym q ∙ e)))

  pub absent : (p c k : ℕ) → p < 512 → 512 ≤ c → k < 4 → (get_or home p 4 ≡ k → ⊥) → Away p (c + k) (ls k)
  absent p c k h d l e = (λ q. omega arith, elsewhere p k l e)
