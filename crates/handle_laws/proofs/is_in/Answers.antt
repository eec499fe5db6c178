use Rattle.std.proofs.Common.{◌≡◌, ltb, is_some, sym, ap, ◌∙◌}
use Rattle.handles.specs.Meaning.{alike}
use Rattle.handles.specs.Seek.{candidates}
use Rattle.handle_laws.specs.Runs.{times_read}
use Rattle.handle_laws.proofs.Laws.{reads, stays, some_first, some_when}
use Rattle.handle_laws.proofs.is_in.Goals as goal

pub returns : goal.returns
returns g c =
    let mean = g.X.Handle.meaning in
    let xs = c.args.table.now.slots.now in
    let hash = c.args.hash in
    let x = c.args.handle in
    let found : c.is_some.result ≡ ltb 0 (times_read mean (candidates xs hash) (mean x)) =
    c.is_some.ensures ∙ ap is_some c.find.ensures ∙ some_first (λ y. alike (mean y) (mean x)) (candidates xs hash) in
    record {
      counted = λ start past is. found ∙ ap (λ ys. ltb 0 (times_read mean (candidates ys hash) (mean x))) (sym is) ∙ ap (ltb 0) (reads mean start past hash (mean x));
      stays = λ start earlier later is free spare.
          found ∙ ap (λ ys. ltb 0 (times_read mean (candidates ys hash) (mean x))) (sym is) ∙ some_when _ (stays mean start earlier later hash x free spare);
    }
