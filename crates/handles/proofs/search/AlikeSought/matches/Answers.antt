use Rattle.handles.proofs.Meaning.{alike_is}
use Rattle.handles.proofs.search.AlikeSought.matches.Goals as goal

pub returns : goal.returns
returns g c =
    alike_is c.same.result (g.X.Handle.meaning c.args.handle) (g.X.Handle.meaning c.args.self.now.handle) c.same.ensures
