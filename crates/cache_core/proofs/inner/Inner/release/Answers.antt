use Rattle.std.proofs.Common.{◌≡◌, ℕ, List, Some, ◌∷◌, length, sym, refl, ap, ◌∙◌, subst}
use Rattle.machine.specs.Replacement.{Parts}
use Rattle.policy.specs.View.{view}
use Rattle.handles.specs.Seek.{first_by}
use Rattle.index.specs.Filed.{bears}
use Rattle.index.proofs.Joined.{ties_alike}
use Rattle.records.specs.declared.column.Column.TheVariants.{Resident}
use Rattle.records.specs.Columns.{word_at}
use Rattle.cache_core.specs.View.{places, seen}
use Rattle.cache_core.specs.Tied.{TiedWithin}
use Rattle.cache_core.proofs.Exact.{loosened, exact}
use Rattle.cache_core.proofs.Standing.{orderly, place_within}
use Rattle.cache_core.proofs.Ghosts.{others}
use Rattle.cache_core.proofs.Residing.{resides_there, place_there, place_word, place_apart, drops_place, drops_tied}
use Rattle.cache_core.proofs.inner.Inner.release.Goals as goal

pub returns : goal.returns
returns g c =
    let mean = g.K.Key.meaning in
    let hashed = g.K.HashedKey.hashed in
    let x = c.args.self.now in
    let rs = x.records.now in
    let s = view x.policy.core in
    let cap = x.policy.core.capacity in
    let i = x.residents in
    let j = x.remembered in
    let place = c.args.place in
    let i' = c.unfile.new.self in
    let after = c.remove.ensures.view in
    let lying = word_at {K = g.row.K.Denot} {V = g.row.V.Denot} mean Resident rs in
    let within : (word : List ℕ) → TiedWithin {K = g.row.K.Denot} {V = g.row.V.Denot} mean hashed cap rs s i j → Some place ≡ first_by (bears lying word) (places s) → c.args.hash ≡ hashed word → TiedWithin {K = g.row.K.Denot} {V = g.row.V.Denot} mean hashed c.remove.new.self.core.capacity rs (view c.remove.new.self.core) i' j =
    λ word t found h.
    (let inside = place_within x.policy (length rs) t.sized in
    let o = orderly x.policy in
    let apart = place_apart {K = g.row.K.Denot} {V = g.row.V.Denot} mean rs word hashed cap s i j place t o inside found in
    let named = place_word {K = g.row.K.Denot} {V = g.row.V.Denot} mean rs word hashed cap s i j place t o inside found in
    let out = c.unfile.ensures.tied hashed lying (others place (places s)) word (ties_alike hashed lying (places s) (place ∷ others place (places s)) i apart t.residents) named h in
    subst (λ (n : ℕ). TiedWithin {K = g.row.K.Denot} {V = g.row.V.Denot} mean hashed n rs (view c.remove.new.self.core) i' j) (sym c.remove.ensures.capacity)
    (subst (λ (p : Parts ℕ ℕ ℕ). TiedWithin {K = g.row.K.Denot} {V = g.row.V.Denot} mean hashed cap rs p i' j) (sym after)
    (drops_tied {K = g.row.K.Denot} {V = g.row.V.Denot} mean rs word hashed cap s i j place t o inside found i' out.1))) in
    record {
      answer = λ word t found.
          c.remove.ensures.answer
          ∙ resides_there place s (place_there {K = g.row.K.Denot} {V = g.row.V.Denot} mean rs word hashed cap s i j place t (orderly x.policy) (place_within x.policy (length rs) t.sized) found);
      drops = λ d word t found.
          ap (seen {K = g.row.K.Denot} {V = g.row.V.Denot} mean d rs) after
          ∙ drops_place {K = g.row.K.Denot} {V = g.row.V.Denot} mean rs word hashed cap s i j place t (orderly x.policy) (place_within x.policy (length rs) t.sized) found d;
      tied = λ word t found h. exact t c.remove.ensures.capacity refl (within word (loosened t) found h);
      within = within;
      kept = refl;
      capacity = c.remove.ensures.capacity;
    }
