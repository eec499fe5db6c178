use Rattle.std.proofs.Common.{◌≡◌, ℕ, eqb, List, get_or, replicate, sym, refl, ap, ◌∙◌, inl, inr, arith}
use lib.ListN.{get_or-replicate}
use Rattle.std.proofs.lemmas.List.{get_or_past, length-replicate}
use Rattle.std.proofs.lemmas.Bool.{cases_lt, le-ltb}
use Rattle.links.specs.Rows.{nth}
use Rattle.queues.specs.declared.slots.ResidentSlot.{ResidentSlot}
use Rattle.queues.specs.declared.state.SlotState.TheVariants.{Plain}
use Rattle.queues.specs.State.{is_young}
use Rattle.queues.proofs.Sound.{all_long}
use Rattle.queues.proofs.residents.Residents.new.Goals as goal

abbrev slot : ResidentSlot
slot = record { state = Plain; admitted = 0 }

calm : (p : ℕ) → (get_or (replicate 512 slot) p slot).state ≡ Plain
calm p =
    elim (cases_lt p 512) [
      | inl h ↦ ap (λ (r : ResidentSlot). r.state) (get_or-replicate 512 p slot slot h)
      | inr h ↦ ap (λ (r : ResidentSlot). r.state) (get_or_past (replicate 512 slot) p slot (let l = length-replicate 512 slot in omega arith))
    ]

pub invariant_of-result : goal.invariant_of-result
invariant_of-result c =
    let l = c.new.ensures.lists in
    let h = c.new.ensures.homes in
    let y = ap (λ (xss : List (List ℕ)). nth 0 xss) l in
    record {
      sized = refl;
      listed = λ p. rw (h p) (sym (le-ltb p 0 (omega arith)));
      counted = ap all_long l;
      sorted = λ p. ap is_young (calm p) ∙ sym (ap (λ (x : ℕ). eqb x 0) (h p));
      recent = λ p e. let z = h p in absurd (omega arith);
      rising = rw y;
      «open» = (let m = c.max.ensures in omega arith, let f = c.ranges.window in omega arith);
    }
