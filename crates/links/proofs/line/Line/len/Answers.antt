use Rattle.std.proofs.Common.{◌≡◌, ℕ, get_or, List, length, Some, None, Option, Bor, sym, ap, ◌∙◌, inl, inr, arith, rules}
use Rattle.std.proofs.lemmas.List.{get_or_past}
use Rattle.std.proofs.lemmas.Bool.{cases_lt, ltb-false}
use Rattle.std.specs.Option.{unwrap_or, option_copied}
use Rattle.std.specs.Slice.{IsItemAt}
use Rattle.links.proofs.line.Line.len.Goals as goal
use Rattle.links.proofs.Found.{length_row, nth_past}

got : (r : Option (Bor ℕ)) (xs : List ℕ) (i : ℕ) → IsItemAt xs i r → unwrap_or (option_copied r) 0 ≡ get_or xs i 0
got None xs i h = sym (get_or_past xs i 0 (ltb-false i (length xs) (sym h.0)))
got (Some x) xs i h = search rules

pub returns : goal.returns
returns c =
    let s = c.args.self.now.cells in
    let e = got c.get.result s.lens c.args.list c.get.ensures.lookup in
    c.unwrap_or.ensures ∙ (ap (λ o. unwrap_or o 0) c.copied.ensures ∙ (e ∙ (elim (cases_lt c.args.list 4) [
      | inl l ↦ length_row s c.args.list l
      | inr g ↦ get_or_past s.lens c.args.list 0 (let z = c.args.self.now.sized.2 in omega arith) ∙ sym (ap (λ xs. length xs) (nth_past s c.args.list g))
    ])))
