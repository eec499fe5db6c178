use Rattle.std.proofs.Common.{sym, ap, ◌∙◌}
use Rattle.handles.specs.Seek.{candidates}
use Rattle.handle_laws.specs.Runs.{times_read}
use Rattle.handle_laws.proofs.Laws.{reads}
use Rattle.handle_laws.proofs.read.Goals as goal

pub returns : goal.returns
returns g c = λ start past is m.
    ap (λ xs. times_read g.X.Handle.meaning xs m) (c.get.ensures ∙ ap (λ xs. candidates xs c.args.hash) (sym is))
    ∙ reads g.X.Handle.meaning start past c.args.hash m
