use Rattle.std.proofs.Common.{List, length, sym, refl, ap, ◌∙◌, subst}
use Rattle.policy.specs.View.{view}
use Rattle.records.specs.declared.record.Record.{Record}
use Rattle.cache_core.specs.View.{seen}
use Rattle.cache_core.specs.Tied.{TiedWithin}
use Rattle.cache_core.proofs.Exact.{loosened, exact}
use Rattle.cache_core.proofs.Standing.{orderly, place_within}
use Rattle.cache_core.proofs.Valued.{valued_length, valued_tied, lays_place}
use Rattle.cache_core.proofs.inner.Inner.set_value.Goals as goal

pub returns : goal.returns
returns g c =
    let mean = g.K.Key.meaning in
    let hashed = g.K.HashedKey.hashed in
    let x = c.args.self.now in
    let rs = x.records.now in
    let s = view x.policy.core in
    let cap = x.policy.core.capacity in
    let laid = c.lay_value.ensures in
    let within : TiedWithin {K = g.row.K.Denot} {V = g.row.V.Denot} mean hashed cap rs s x.residents x.remembered → TiedWithin {K = g.row.K.Denot} {V = g.row.V.Denot} mean hashed cap c.lay_value.new.records s x.residents x.remembered =
    λ t.
    subst (λ (l : List (Record g.row.K.Denot g.row.V.Denot)). TiedWithin {K = g.row.K.Denot} {V = g.row.V.Denot} mean hashed cap l s x.residents x.remembered) (sym laid)
    (valued_tied {K = g.row.K.Denot} {V = g.row.V.Denot} mean rs c.args.place c.args.value hashed cap s x.residents x.remembered t) in
    record {
      policy = refl;
      records = laid;
      lays = λ d word t found.
          ap (λ (l : List (Record g.row.K.Denot g.row.V.Denot)). seen {K = g.row.K.Denot} {V = g.row.V.Denot} mean d l s) laid
          ∙ lays_place {K = g.row.K.Denot} {V = g.row.V.Denot} mean rs c.args.place c.args.value d word hashed cap s x.residents x.remembered t (orderly x.policy) (place_within x.policy (length rs) t.sized) found;
      tied = λ t. exact t refl (ap length laid ∙ valued_length {K = g.row.K.Denot} {V = g.row.V.Denot} rs c.args.place c.args.value) (within (loosened t));
      within = within;
    }
