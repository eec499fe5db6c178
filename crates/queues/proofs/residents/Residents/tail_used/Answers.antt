use Rattle.std.proofs.Common.{◌≡◌, ℕ, ◌<◌, Some, None, ◌∙◌, sym, refl, arith, rules}
use Rattle.std.proofs.lemmas.Option.{MatchOption-at_none, MatchOption-at_some}
use Rattle.std.proofs.iter.Serving.{serving}
use Rattle.machine.specs.Replacement.{ended, is_tail_used}
use Rattle.queues.specs.Held.{parts_of}
use Rattle.queues.specs.State.{was_used}
use Rattle.queues.specs.Slots.{state_of}
use Rattle.queues.proofs.Sound.{home_low}
use Rattle.queues.proofs.Tail.{tail_home, tail_used_is, untailed_is}
use Rattle.queues.proofs.residents.Residents.tail_used.Goals as goal

pub map_or-requires : goal.map_or-requires
map_or-requires c =
    let s = c.args.self.now.slots in
    let low : (x : ℕ) → c.tail.result ≡ Some x → x < 512 = λ x e. let h = tail_home s x (sym e ∙ c.tail.ensures) in home_low s x (omega arith) in
    grind (arith, serving)

pub returns : goal.returns
returns c =
    let s = c.args.self.now.slots in
    let none : c.tail.result ≡ None → c.map_or.result ≡ is_tail_used (ended (parts_of s).small) = λ e.
    MatchOption-at_none _ _ e c.map_or.ensures ∙ untailed_is s (sym e ∙ c.tail.ensures) in
    let some : (p : ℕ) → c.tail.result ≡ Some p → c.map_or.result ≡ is_tail_used (ended (parts_of s).small) = λ p e.
    let f = MatchOption-at_some _ _ p e c.map_or.ensures in
    let r : c.map_or.result ≡ was_used (state_of s p) = search rules in
    r ∙ tail_used_is s p (sym e ∙ c.tail.ensures) in
    (elim c.tail.result as (λ o. c.tail.result ≡ o → c.map_or.result ≡ is_tail_used (ended (parts_of s).small)) [ None ↦ none | Some p ↦ some p ]) refl
