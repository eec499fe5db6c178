use Rattle.std.proofs.Common.{◌<◌, ◌≤◌, length, not, refl, ap, ◌∙◌, arith}
use Rattle.cache_calls.proofs.Sifted.{refused_past, refused_at, asked_past, asked_here}
use Rattle.cache_calls.proofs.retaining.refuses.Goals as goal

pub returns-in_default : goal.returns-in_default
returns-in_default g c =
    let mean = g.K.Key.meaning in
    let rs = c.args.records.now in
    let p = c.args.place in
    let rule = c.args.rule.now in
    let past : length rs ≤ p = (let t = c.in_default.ensures.lookup.0 in grind arith) in
    record {
      answer = refused_past {K = g.row.K.Denot} {V = g.row.V.Denot} mean (g.R.AskedKeepRule.keeps rule) rs p past;
      asked = asked_past {K = g.row.K.Denot} {V = g.row.V.Denot} mean g.R.AskedKeepRule.after rs p rule past;
      meaning = refl;
    }

pub returns : goal.returns
returns g c =
    let mean = g.K.Key.meaning in
    let rs = c.args.records.now in
    let p = c.args.place in
    let rule = c.args.rule.now in
    let x = c.in-Some.record.now in
    let found = c.in-Some.ensures.lookup in
    let inside : p < length rs = (let t = found.0 in grind arith) in
    record {
      answer = ap not c.keep.ensures.answers ∙ refused_at {K = g.row.K.Denot} {V = g.row.V.Denot} mean (g.R.AskedKeepRule.keeps rule) rs p x found.1 inside;
      asked = c.keep.ensures.asked ∙ asked_here {K = g.row.K.Denot} {V = g.row.V.Denot} mean g.R.AskedKeepRule.after rs p rule x found.1 inside;
      meaning = c.keep.ensures.meaning;
    }
