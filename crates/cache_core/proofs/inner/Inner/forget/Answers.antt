use Rattle.std.proofs.Common.{◌≡◌, ℕ, ◌∷◌, length, sym, refl, ap, ◌∙◌, subst}
use Rattle.machine.specs.Replacement.{Parts}
use Rattle.handle_laws.specs.Runs.{how_many}
use Rattle.handle_laws.proofs.Totals.{first_none}
use Rattle.index.specs.Filed.{bears}
use Rattle.index.proofs.Joined.{ties_alike}
use Rattle.policy.specs.View.{view}
use Rattle.records.specs.declared.column.Column.TheVariants.{Remembered}
use Rattle.records.specs.Columns.{word_at}
use Rattle.cache_core.specs.View.{places, seen}
use Rattle.cache_core.specs.Tied.{TiedWithin}
use Rattle.cache_core.proofs.Exact.{loosened, exact}
use Rattle.cache_core.proofs.Standing.{orderly, node_within}
use Rattle.cache_core.proofs.Ghosts.{others}
use Rattle.cache_core.proofs.Forgot.{holds_node_lem, forgets_none, node_there, node_word, node_apart, forgets_node, forgets_tied}
use Rattle.cache_core.proofs.inner.Inner.forget.Goals as goal

pub returns : goal.returns
returns g c =
    let mean = g.K.Key.meaning in
    let hashed = g.K.HashedKey.hashed in
    let x = c.args.self.now in
    let rs = x.records.now in
    let s = view x.policy.core in
    let word = mean c.args.key.now in
    let lying = word_at {K = g.row.K.Denot} {V = g.row.V.Denot} mean Remembered rs in
    let cap = x.policy.core.capacity in
    let i = x.residents in
    let j = x.remembered in
    let j' = c.unfile.new.self in
    let node = c.in-Some.node in
    let f = c.in-Some.ensures in
    let o = orderly x.policy in
    let after = c.discard.ensures.view in
    let within : TiedWithin {K = g.row.K.Denot} {V = g.row.V.Denot} mean hashed cap rs s i j → c.args.hash ≡ hashed word → TiedWithin {K = g.row.K.Denot} {V = g.row.V.Denot} mean hashed c.discard.new.self.core.capacity rs (view c.discard.new.self.core) i j' × (how_many (bears lying word) (view c.discard.new.self.core).remembered ≡ 0) =
    λ t h.
    (let inside = node_within x.policy (length rs) t.sized in
    let found = f.first t h in
    let apart = node_apart {K = g.row.K.Denot} {V = g.row.V.Denot} mean rs word hashed cap s i j node t o inside found in
    let named = node_word {K = g.row.K.Denot} {V = g.row.V.Denot} mean rs word hashed cap s i j node t o inside found in
    let out = c.unfile.ensures.tied hashed lying (others node s.remembered) word (ties_alike hashed lying s.remembered (node ∷ others node s.remembered) j apart t.remembered) named h in
    let all = forgets_tied {K = g.row.K.Denot} {V = g.row.V.Denot} mean rs word hashed cap s i j node t o inside found j' out.1 in (
      subst (λ (n : ℕ). TiedWithin {K = g.row.K.Denot} {V = g.row.V.Denot} mean hashed n rs (view c.discard.new.self.core) i j') (sym c.discard.ensures.capacity)
          (subst (λ (t' : Parts ℕ ℕ ℕ). TiedWithin {K = g.row.K.Denot} {V = g.row.V.Denot} mean hashed cap rs t' i j') (sym after) all.0),
      subst (λ (t' : Parts ℕ ℕ ℕ). how_many (bears lying word) t'.remembered ≡ 0) (sym after) all.1,
    )) in
    record {
      answer = λ t h.
          c.discard.ensures.answer
          ∙ (holds_node_lem node s.remembered (node_there {K = g.row.K.Denot} {V = g.row.V.Denot} mean rs word hashed cap s i j node t o (node_within x.policy (length rs) t.sized) (f.first t h)) ∙ f.has t h);
      forgets = λ d t h.
          ap (seen {K = g.row.K.Denot} {V = g.row.V.Denot} mean d rs) after
          ∙ forgets_node {K = g.row.K.Denot} {V = g.row.V.Denot} mean rs word hashed cap s i j node t o (node_within x.policy (length rs) t.sized) (f.first t h) d;
      tied = λ t h. let w = within (loosened t) h in (exact t c.discard.ensures.capacity refl w.0, w.1);
      within = within;
      kept = (refl, refl, c.discard.ensures.capacity, ap places after);
    }

pub returns-in_default : goal.returns-in_default
returns-in_default g c =
    let mean = g.K.Key.meaning in
    let x = c.args.self.now in
    let rs = x.records.now in
    let s = view x.policy.core in
    let word = mean c.args.key.now in
    let f = c.in_default.ensures in
    record {
      answer = λ t h. f.has t h;
      forgets = λ d t h. forgets_none {K = g.row.K.Denot} {V = g.row.V.Denot} mean rs word d s (sym (f.has t h));
      within = λ t h. (t, first_none (bears (word_at {K = g.row.K.Denot} {V = g.row.V.Denot} mean Remembered rs) word) s.remembered (sym (f.first t h)));
      tied = λ t h. (t, first_none (bears (word_at {K = g.row.K.Denot} {V = g.row.V.Denot} mean Remembered rs) word) s.remembered (sym (f.first (loosened t) h)));
      kept = (refl, refl, refl, refl);
    }
