use Rattle.std.proofs.Common.{◌≡◌, true, map, length, Some, ap, ◌∙◌}
use Rattle.std.proofs.lemmas.List.{take_at}
use Rattle.keys.specs.Named.{folded, is_name_lem}
use Rattle.keys.proofs.named.read_named.Goals as goal

pub returns : goal.returns
returns c =
    let bs = c.args.text.now in
    let named : is_name_lem bs ≡ true = cc in
    let copied : c.copy_from_slice.new.self ≡ bs = c.copy_from_slice.ensures.after ∙ c.as_bytes-spelling.ensures.value in
    let kept = take_at c.copy_from_slice.new.self _ (length c.as_bytes-spelling.result.now) (ap length c.copy_from_slice.ensures.after) ∙ copied in
    record { value = ap (λ l. Some (map folded l)) kept ∙ rw named; spelled = kept }
