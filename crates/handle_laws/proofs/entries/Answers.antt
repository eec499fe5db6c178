use Rattle.std.proofs.Common.{sym, ap, ◌∙◌}
use Rattle.handles.specs.Slots.{occupied}
use Rattle.handle_laws.proofs.Laws.{answers}
use Rattle.handle_laws.proofs.entries.Goals as goal

pub returns : goal.returns
returns g c = λ start past is. c.len.ensures ∙ ap occupied (sym is) ∙ (answers g.X.Handle.meaning start past).1
