use Rattle.std.proofs.Common.{◌≡◌, ◌+◌, map, drop}
use Rattle.loaders.specs.Look.{look, whole}
use Rattle.loaders.proofs.roll.first_match.Given as goal

abbrev pub invariant-loop-record : goal.invariant-loop-record
invariant-loop-record g l =
    look (l.record-index + 1) (map (whole g.K.Key.meaning) (drop l.record-index l.records)) (g.K.Key.meaning l.key) ≡ look 1 (map (whole g.K.Key.meaning) l.records) (g.K.Key.meaning l.key)
