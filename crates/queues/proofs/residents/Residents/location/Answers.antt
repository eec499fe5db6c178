use Rattle.std.proofs.Common.{◌≡◌, ◌≤◌, ℕ, Some, None, Option, sym, refl, ap, ◌∙◌, rules}
use Rattle.std.specs.Option.{MatchOption}
use Rattle.std.proofs.lemmas.Option.{MatchOption-at_none, MatchOption-at_some}
use Rattle.queues.specs.declared.location.Location.{Location}
use Rattle.queues.specs.declared.lists.List as own
use Rattle.queues.specs.Lists.{number_of}
use Rattle.queues.specs.Held.{parts_of, locate, part_at}
use Rattle.queues.proofs.Located.{located_some, located_none, part_past}
use Rattle.queues.proofs.residents.Residents.location.Goals as goal

pub returns : goal.returns
returns c =
    let s = c.args.self.now.slots in
    let found : Location = locate c.args.place (parts_of s) in
    let none : c.home-number.result ≡ None → c.map_or.result ≡ found = λ e.
    MatchOption-at_none _ _ (MatchOption-at_none _ _ e c.and_then-list.ensures) c.map_or.ensures ∙ located_none s c.args.place (sym e ∙ c.home-number.ensures) in
    let some : (k : ℕ) → c.home-number.result ≡ Some k → c.map_or.result ≡ found = λ k e.
    let f = MatchOption-at_some _ _ k e c.and_then-list.ensures in
    let named : MatchOption c.and_then-list.result (4 ≤ k) (λ l. number_of l ≡ k) = search rules in
    let at = located_some s c.args.place k (sym e ∙ c.home-number.ensures) in
    (elim c.and_then-list.result as (λ (o : Option own.List). c.and_then-list.result ≡ o → MatchOption o (4 ≤ k) (λ l. number_of l ≡ k) → c.map_or.result ≡ found) [
      | None ↦ λ i h. MatchOption-at_none _ _ i c.map_or.ensures ∙ (sym (part_past k h) ∙ at)
      | Some l ↦ λ i h.
          let g = MatchOption-at_some _ _ l i c.map_or.ensures in
          let m : c.map_or.result ≡ part_at (number_of l) = search rules in
          m ∙ (ap part_at h ∙ at)
    ]) refl named in
    (elim c.home-number.result as (λ o. c.home-number.result ≡ o → c.map_or.result ≡ found) [ None ↦ none | Some k ↦ some k ]) refl
