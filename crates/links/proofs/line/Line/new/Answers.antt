use Rattle.std.proofs.Common.{◌≡◌, ℕ, ◌<◌, cond, eqb, get_or, replicate, refl, inl, inr, arith}
use lib.ListN.{get_or-replicate}
use Rattle.std.proofs.lemmas.List.{get_or_past, length-replicate}
use Rattle.std.proofs.lemmas.Bool.{cases_lt, ne_eqb}
use Rattle.links.proofs.Whole.{four}
use Rattle.links.proofs.line.Line.new.Goals as goal

nowhere : (p : ℕ) → get_or (replicate {A = ℕ} 512 4) p 4 ≡ 4
nowhere p =
    elim (cases_lt p 512) [
      | inl h ↦ get_or-replicate {A = ℕ} 512 p 4 4 h
      | inr h ↦ get_or_past {X = ℕ} (replicate 512 4) p 4 (let l = length-replicate {A = ℕ} 512 4 in omega arith)
    ]

none : (p k : ℕ) → k < 4 → ◌≡◌ {A = ℕ} 0 (cond (eqb (get_or (replicate {A = ℕ} 512 4) p 4) k) 1 0)
none p k l = rw (nowhere p, ne_eqb 4 k (λ e. omega arith))

pub invariant_of-result : goal.invariant_of-result
invariant_of-result c = record {
  sized = (refl, refl, refl);
  linked = four _ refl refl refl refl;
  once = λ p. four _ (none p 0 (omega arith)) (none p 1 (omega arith)) (none p 2 (omega arith)) (none p 3 (omega arith));
}

pub returns-clause-homes : goal.returns-clause-homes
returns-clause-homes c = nowhere
