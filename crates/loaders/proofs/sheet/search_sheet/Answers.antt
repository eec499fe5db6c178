use Rattle.std.proofs.Common.{◌+◌, Err, sym, ap, ◌∙◌, arith, rules}
use Rattle.std.proofs.lemmas.Str.Pattern.{strip_suffix_char}
use Rattle.std.specs.Iterator.Adapters.{enumerate_count, enumerate_source}
use Rattle.std.specs.Option.{option_map}
use Rattle.std.specs.Str.Iter.{split_inclusive_pattern, split_inclusive_text}
use Rattle.survey.specs.Entry.{entry_of}
use Rattle.loaders.specs.Fault.{fault}
use Rattle.loaders.specs.Look.{look, sheet_entries}
use Rattle.loaders.specs.declared.fault.Cause.TheVariants.{BrokenLine}
use Rattle.loaders.proofs.Looking.{given_up, sheet_more, sheet_unended, sheet_unread}
use Rattle.loaders.proofs.sheet.search_sheet.Goals as goal

pub returns-in_err-line : goal.returns-in_err-line
returns-in_err-line g c =
    let it = c.loop-before.before-iterator in
    let step = c.in-Some.ensures.steps in
    let never = rw c.in_err-line.ensures.ok_part at (strip_suffix_char 10 c.in-Some.line.now c.strip_suffix.result c.strip_suffix.ensures.cases (omega arith)) in
    let up = given_up c.strip_suffix.result c.new-broken.result c.in_err-line.field-0.0 c.from_residual.result c.in_err-line.ensures.ok_part c.in_err-line.ensures.value c.from_residual.ensures.1 in
    up ∙ ap Err (c.new-broken.ensures ∙ ap (λ k. fault (BrokenLine (k + 1))) step.1) ∙ sym (sheet_unended g.K.WrittenKey.meant (enumerate_count it + 1) _ _ _ _ (g.K.Key.meaning c.args.key.now) c.loop-before.invariant.2 step.0.1.0 step.0.1.1 never) ∙ c.loop-before.invariant.3

pub returns-in_err-entry : goal.returns-in_err-entry
returns-in_err-entry g c =
    let it = c.loop-before.before-iterator in
    let step = c.in-Some.ensures.steps in
    let ends = rw c.in_ok-line.ensures.ok_part at (strip_suffix_char 10 c.in-Some.line.now c.strip_suffix.result c.strip_suffix.ensures.cases (omega arith)) in
    let read = sym c.read_entry.ensures ∙ ap (option_map (entry_of g.K.Key.meaning)) c.in_err-entry.ensures.ok_part in
    let up = given_up c.read_entry.result c.new-broken.result c.in_err-entry.field-0.0 c.from_residual-in_err-entry.result c.in_err-entry.ensures.ok_part c.in_err-entry.ensures.value c.from_residual-in_err-entry.ensures.1 in
    up ∙ ap Err (c.new-broken.ensures ∙ ap (λ k. fault (BrokenLine (k + 1))) step.1) ∙ sym (sheet_unread g.K.WrittenKey.meant (enumerate_count it + 1) _ _ _ _ (g.K.Key.meaning c.args.key.now) c.loop-before.invariant.2 step.0.1.0 step.0.1.1 c.in_ok-line.line.now ends read) ∙ c.loop-before.invariant.3

pub returns-then-same : goal.returns-then-same
returns-then-same g c =
    let it = c.loop-before.before-iterator in
    let step = c.in-Some.ensures.steps in
    let e = c.in_ok-entry.entry in
    let ends = rw c.in_ok-line.ensures.ok_part at (strip_suffix_char 10 c.in-Some.line.now c.strip_suffix.result c.strip_suffix.ensures.cases (omega arith)) in
    let read = sym c.read_entry.ensures ∙ ap (option_map (entry_of g.K.Key.meaning)) c.in_ok-entry.ensures.ok_part in
    let found = sheet_more g.K.WrittenKey.meant (enumerate_count it + 1) (split_inclusive_pattern (enumerate_source it)) (split_inclusive_text (enumerate_source it)) c.in-Some.line.now (split_inclusive_text (enumerate_source c.next.new.self)) (g.K.Key.meaning c.args.key.now) c.loop-before.invariant.2 step.0.1.0 step.0.1.1 c.in_ok-line.line.now (g.K.Key.meaning e.key) e.value c.same.result ends read c.same.ensures in
    sym (rw c.if-same.true at found) ∙ c.loop-before.invariant.3

pub loop-before-preserved : goal.loop-before-preserved
loop-before-preserved g c =
    let it = c.loop-before.before-iterator in
    let step = c.in-Some.ensures.steps in
    let e = c.in_ok-entry.entry in
    let ends = rw c.in_ok-line.ensures.ok_part at (strip_suffix_char 10 c.in-Some.line.now c.strip_suffix.result c.strip_suffix.ensures.cases (omega arith)) in
    let read = sym c.read_entry.ensures ∙ ap (option_map (entry_of g.K.Key.meaning)) c.in_ok-entry.ensures.ok_part in
    let found = sheet_more g.K.WrittenKey.meant (enumerate_count it + 1) (split_inclusive_pattern (enumerate_source it)) (split_inclusive_text (enumerate_source it)) c.in-Some.line.now (split_inclusive_text (enumerate_source c.next.new.self)) (g.K.Key.meaning c.args.key.now) c.loop-before.invariant.2 step.0.1.0 step.0.1.1 c.in_ok-line.line.now (g.K.Key.meaning e.key) e.value c.same.result ends read c.same.ensures in
    (search rules, search rules, step.0.0 ∙ c.loop-before.invariant.2, ap (λ k. look (k + 1) (sheet_entries g.K.WrittenKey.meant (split_inclusive_text (enumerate_source c.next.new.self))) (g.K.Key.meaning c.args.key.now)) step.2 ∙ sym (rw c.if-same.false at found) ∙ c.loop-before.invariant.3)
