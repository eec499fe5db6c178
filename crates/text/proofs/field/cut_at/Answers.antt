use Rattle.std.proofs.Common.{◌<◌, ap, ◌∙◌, arith}
use Rattle.std.proofs.lemmas.Str.Pattern.{split_parts}
use Rattle.text.proofs.Fields.{cut_from_split}
use Rattle.text.specs.Field.{mark_code, cut}
use Rattle.text.specs.declared.field.Mark.{Mark}
use Rattle.text.specs.declared.field.Mark.TheVariants.{LineFeed, Space, Dot}
use Rattle.text.proofs.field.cut_at.Goals as goal

-- each mark is an ASCII character
mark_ascii : (m : Mark) → mark_code m < 128
mark_ascii LineFeed = omega arith
mark_ascii Space = omega arith
mark_ascii Dot = omega arith

pub returns : goal.returns
returns c =
    let n = c.from.result in
    let low : n < 128 = omega (arith, mark_ascii c.args.mark) in
    let bs = c.args.text.now in
    cut_from_split n bs c.split_once.result (split_parts n bs c.split_once.result c.split_once.ensures.cases low) ∙ ap (λ m. cut m bs) c.from.ensures
