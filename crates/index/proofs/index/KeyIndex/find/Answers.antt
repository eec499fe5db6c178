use Rattle.std.proofs.Common.{rules}
use Rattle.index.proofs.Searched.{search_found}
use Rattle.index.proofs.Tied.{found_tied}
use Rattle.index.proofs.index.KeyIndex.find.Goals as goal

pub returns : goal.returns
returns g c =
    let i = c.args.self.now in
    let lying = g.P.KeyPlaces.lying c.args.places.now in
    let word = g.K.Key.meaning c.args.key.now in
    let hash = c.args.hash in
    let f = search_found i.table lying word hash c.find.result c.map.result _ (λ x p q. search rules) c.map.ensures.cases c.find.ensures in
    record { found = f; tied = λ hashed ps t h. found_tied hashed lying ps i hash word c.map.result f t h }
