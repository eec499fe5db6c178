use Rattle.std.proofs.Common.{◌≡◌, ◌+◌}
use Rattle.std.specs.Iterator.Adapters.{enumerate_count, enumerate_source}
use Rattle.std.specs.Str.Iter.{split_inclusive_pattern, split_inclusive_text}
use Rattle.loaders.specs.Look.{look, sheet_entries}
use Rattle.loaders.proofs.sheet.search_sheet.Given as goal

abbrev pub invariant-loop-before : goal.invariant-loop-before
invariant-loop-before g l =
    (goal.iterator-loop-before g).can_next l.before-iterator
    × (goal.iterator-loop-before g).is_finite l.before-iterator
    × (split_inclusive_pattern (enumerate_source l.before-iterator) ≡ 10)
    × (look (enumerate_count l.before-iterator + 1) (sheet_entries g.K.WrittenKey.meant (split_inclusive_text (enumerate_source l.before-iterator))) (g.K.Key.meaning l.key) ≡ look 1 (sheet_entries g.K.WrittenKey.meant l.sheet) (g.K.Key.meaning l.key))
