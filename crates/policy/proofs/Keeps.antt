-- Steps that bring in nobody keep the limits.
use Rattle.std.proofs.Common.{◌≡◌, ℕ, ◌≤◌, Bool, true, false, cond, not, eqb, List, [], ◌∷◌, length, filter, refl, ap, arith}
use Rattle.std.proofs.lemmas.List.{length-map}
use Rattle.std.proofs.lemmas.List.Sums.{length-filter, count_by-le-length}
use Rattle.links.specs.Rows.{without}
use Rattle.machine.specs.Replacement.{Parts, uses, drops, hit}
use Rattle.queues.proofs.Maps.{eqb_sym}

pub record Fewer (s t : Parts ℕ ℕ ℕ) : Type 0 where
  pub small : length t.small ≤ length s.small
  pub main : length t.main ≤ length s.main
  pub opened : t.opened ≡ s.opened

pub fewer_uses : (at : ℕ → Bool) (s t : Parts ℕ ℕ ℕ) → t ≡ uses at s → Fewer s t
fewer_uses at s t e =
    let a = ap (λ (x : Parts ℕ ℕ ℕ). length x.small) e in
    let b = ap (λ (x : Parts ℕ ℕ ℕ). length x.main) e in
    let c = length-map s.small (hit at) in
    let d = length-map s.main (hit at) in
    record { small = omega arith; main = omega arith; opened = ap (λ (x : Parts ℕ ℕ ℕ). x.opened) e }

pub fewer_drops : (order : ℕ → List ℕ → List ℕ) (at : ℕ → Bool) (s t : Parts ℕ ℕ ℕ) → t ≡ drops order (λ q. q) at s → Fewer s t
fewer_drops order at s t e =
    let a = ap (λ (x : Parts ℕ ℕ ℕ). length x.small) e in
    let b = ap (λ (x : Parts ℕ ℕ ℕ). length x.main) e in
    let c = length-filter (λ r. not (at r.item)) s.small in
    let d = length-filter (λ r. not (at r.item)) s.main in
    let c' = count_by-le-length (λ r. not (at r.item)) s.small in
    let d' = count_by-le-length (λ r. not (at r.item)) s.main in
    record { small = omega arith; main = omega arith; opened = ap (λ (x : Parts ℕ ℕ ℕ). x.opened) e }

-- a list without a node is what a filter keeps of it
pub without_kept : (p : ℕ) (xs : List ℕ) → without p xs ≡ filter (λ q. not (eqb q p)) xs
without_kept p [] = refl
without_kept p (x ∷ xs) =
    let ih = without_kept p xs in
    rw (eqb_sym x p)
    (elim (eqb p x) as (λ b. cond b (without p xs) (x ∷ without p xs) ≡ cond (not b) (x ∷ filter (λ q. not (eqb q p)) xs) (filter (λ q. not (eqb q p)) xs))
    [ true ↦ ih | false ↦ ap (λ (ys : List ℕ). x ∷ ys) ih ])
