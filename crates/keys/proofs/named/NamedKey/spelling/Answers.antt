use Rattle.std.proofs.Common.{◌≡◌, ℕ, min, List, length, take, sym, ap, ◌∙◌, inl, inr, arith, rules}
use Rattle.std.proofs.lemmas.List.{take_all}
use Rattle.std.proofs.lemmas.Bool.{cases_lt}
use Rattle.keys.proofs.named.NamedKey.spelling.Goals as goal

-- past a list's end nothing more is taken
take_capped : (xs : List ℕ) (m n : ℕ) → m ≡ min (length xs) n → take m xs ≡ take n xs
take_capped xs m n e =
    elim (cases_lt (length xs) n) [
      | inl h ↦ take_all m xs (omega arith) ∙ sym (take_all n xs (omega arith))
      | inr h ↦ ap (λ k. take k xs) (omega arith)
    ]

pub returns : goal.returns
returns c =
    let long : length c.args.self.now.bytes ≡ 16 = search rules in
    take_capped c.args.self.now.bytes c.min.result c.args.self.now.length (omega arith)
