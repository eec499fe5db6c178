use Rattle.std.proofs.Common.{ℕ, eqb, length, sym, refl, ap, ◌∙◌, subst}
use Rattle.machine.specs.Replacement.{Parts}
use Rattle.policy.specs.View.{view}
use Rattle.cache_core.specs.View.{places, seen}
use Rattle.cache_core.specs.Tied.{TiedWithin}
use Rattle.cache_core.proofs.Exact.{loosened, exact}
use Rattle.cache_core.proofs.Standing.{orderly, place_within}
use Rattle.cache_core.proofs.Residing.{places_uses, uses_place, uses_tied}
use Rattle.cache_core.proofs.inner.Inner.touch.Goals as goal

pub returns : goal.returns
returns g c =
    let mean = g.K.Key.meaning in
    let hashed = g.K.HashedKey.hashed in
    let x = c.args.self.now in
    let rs = x.records.now in
    let s = view x.policy.core in
    let cap = x.policy.core.capacity in
    let place = c.args.place in
    let after = c.hit.ensures.view in
    let within : TiedWithin {K = g.row.K.Denot} {V = g.row.V.Denot} mean hashed cap rs s x.residents x.remembered → TiedWithin {K = g.row.K.Denot} {V = g.row.V.Denot} mean hashed c.hit.new.self.core.capacity rs (view c.hit.new.self.core) x.residents x.remembered =
    λ t.
    subst (λ (n : ℕ). TiedWithin {K = g.row.K.Denot} {V = g.row.V.Denot} mean hashed n rs (view c.hit.new.self.core) x.residents x.remembered) (sym c.hit.ensures.capacity)
    (subst (λ (p : Parts ℕ ℕ ℕ). TiedWithin {K = g.row.K.Denot} {V = g.row.V.Denot} mean hashed cap rs p x.residents x.remembered) (sym after)
    (uses_tied {K = g.row.K.Denot} {V = g.row.V.Denot} mean hashed cap rs s x.residents x.remembered (λ q. eqb q place) t)) in
    record {
      uses = λ d word t found.
          ap (seen {K = g.row.K.Denot} {V = g.row.V.Denot} mean d rs) after
          ∙ uses_place {K = g.row.K.Denot} {V = g.row.V.Denot} mean rs word hashed cap s x.residents x.remembered place t (orderly x.policy) (place_within x.policy (length rs) t.sized) found d;
      tied = λ t. exact t c.hit.ensures.capacity refl (within (loosened t));
      within = within;
      kept = refl;
      places = ap places after ∙ places_uses (λ q. eqb q place) s;
      capacity = c.hit.ensures.capacity;
    }
