use Rattle.std.proofs.Common.{refl, ap, arith}
use Rattle.policy.specs.View.{view}
use Rattle.cache_core.specs.View.{seen}
use Rattle.cache_core.specs.Tied.{TiedWithin}
use Rattle.cache_core.proofs.Exact.{loosened, exact}
use Rattle.cache_core.proofs.Cleared.{nothing_tied}
use Rattle.cache_core.proofs.inner.Inner.clear.Goals as goal

pub returns : goal.returns
returns g c =
    let mean = g.K.Key.meaning in
    let hashed = g.K.HashedKey.hashed in
    let x = c.args.self.now in
    let rs = x.records.now in
    let q = c.clear.new.self in
    let within : TiedWithin {K = g.row.K.Denot} {V = g.row.V.Denot} mean hashed x.policy.core.capacity rs (view x.policy.core) x.residents x.remembered → TiedWithin {K = g.row.K.Denot} {V = g.row.V.Denot} mean hashed q.core.capacity rs (view q.core) c.clear-2.new.self c.clear-3.new.self =
    λ t.
    nothing_tied {K = g.row.K.Denot} {V = g.row.V.Denot} mean hashed q.core.capacity rs (view q.core) c.clear-2.new.self c.clear-3.new.self (let z = t.sized in let e = c.clear.ensures.capacity in omega arith) c.clear.ensures.view c.clear-2.ensures c.clear-3.ensures in
    record {
      next = λ d. ap (seen {K = g.row.K.Denot} {V = g.row.V.Denot} mean d rs) c.clear.ensures.view;
      tied = λ t. exact t c.clear.ensures.capacity refl (within (loosened t));
      within = within;
      capacity = c.clear.ensures.capacity;
      kept = refl;
    }
