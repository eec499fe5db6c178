use Rattle.std.proofs.Common.{rules}
use Rattle.index.proofs.Searched.{is_key_there}
use Rattle.index.proofs.search.PlaceOfSoughtPlace.matches.Goals as goal

pub returns : goal.returns
returns g c =
    is_key_there g.K.Key.meaning (g.K.Key.meaning c.args.self.now.key.now) _ c.key_at.result c.map_or.result _
    (λ x p. search rules) c.map_or.ensures c.key_at.ensures
