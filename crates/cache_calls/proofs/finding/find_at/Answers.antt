use Rattle.std.proofs.Common.{◌≡◌, ℕ, ◌<◌, ◌≤◌, length, IfSome, None, Option, sym, ap, ◌∙◌, inl, inr, arith, rules}
use Rattle.std.specs.Option.{option_map}
use Rattle.std.proofs.lemmas.Bool.{cases_lt}
use Rattle.index.specs.Filed.{bears}
use Rattle.queues.specs.Held.{resides}
use Rattle.policy.specs.View.{view}
use Rattle.records.specs.declared.column.Column.TheVariants.{Resident}
use Rattle.records.specs.Columns.{word_at}
use Rattle.machine.specs.Machine.{in_place, look}
use Rattle.cache_core.specs.View.{state, item_at}
use Rattle.cache_core.specs.Tied.{Resides}
use Rattle.cache_core.proofs.Standing.{orderly, place_within}
use Rattle.cache_core.proofs.Looked.{bears_within}
use Rattle.cache_calls.proofs.Finds.{bears_first, stands_first, stands_looked, stands_not, none_past, by_test}
use Rattle.cache_calls.proofs.finding.find_at.Goals as goal

pub returns-in_err-narrow-clause-look : goal.returns-in_err-narrow-clause-look
returns-in_err-narrow-clause-look g c = λ d t.
    (let mean = g.K.Key.meaning in
    let hashed = g.K.HashedKey.hashed in
    let x = c.args.inner.now in
    let rs = x.records.now in
    let p = c.args.place in
    let o = orderly x.policy in
    let within = place_within x.policy (length rs) t.sized in
    let none : c.from_residual.result ≡ None = c.from_residual.ensures in
    let wide : p < 65536 → ⊥ = search rules in
    let past : x.policy.core.capacity ≤ p = (elim (cases_lt p 65536) [ inl l ↦ absurd (wide l) | inr h ↦ (let z = o.low in omega arith) ]) in
    ap (option_map (item_at {K = g.row.K.Denot} {V = g.row.V.Denot} mean d rs)) none
    ∙ stands_not {K = g.row.K.Denot} {V = g.row.V.Denot} mean hashed rs (mean c.args.key.now) x.policy.core.capacity (view x.policy.core) x.residents x.remembered t o within d p
    (none_past {K = g.row.K.Denot} {V = g.row.V.Denot} mean hashed rs (mean c.args.key.now) x.policy.core.capacity (view x.policy.core) x.residents x.remembered t o within p past))

pub returns-clause-within : goal.returns-clause-within
returns-clause-within g c =
    let mean = g.K.Key.meaning in
    let rs = c.args.inner.now.records.now in
    let word = mean c.args.key.now in
    let p = c.in_ok-narrow.narrow in
    by_test (λ (o : Option ℕ). IfSome o (λ q. q < length rs)) c.stands_in.result c.in_ok-narrow.narrow c.then_some.result c.then_some.ensures
    (λ t'. bears_within {K = g.row.K.Denot} {V = g.row.V.Denot} mean Resident rs word p (bears_first (bears (word_at {K = g.row.K.Denot} {V = g.row.V.Denot} mean Resident rs) word p) (resides p (view c.args.inner.now.policy.core)) (sym c.stands_in.ensures ∙ t')))
    (λ t'. tt)

pub returns-clause-resides : goal.returns-clause-resides
returns-clause-resides g c = λ t.
    (let mean = g.K.Key.meaning in
    let hashed = g.K.HashedKey.hashed in
    let x = c.args.inner.now in
    let rs = x.records.now in
    let word = mean c.args.key.now in
    by_test (λ (o : Option ℕ). IfSome o (λ q. Resides {K = g.row.K.Denot} {V = g.row.V.Denot} mean hashed word q x)) c.stands_in.result c.in_ok-narrow.narrow c.then_some.result c.then_some.ensures
    (λ t'. stands_first {K = g.row.K.Denot} {V = g.row.V.Denot} mean hashed rs word x.policy.core.capacity (view x.policy.core) x.residents x.remembered t (orderly x.policy) (place_within x.policy (length rs) t.sized) c.in_ok-narrow.narrow (sym c.stands_in.ensures ∙ t'))
    (λ t'. tt))

pub returns-clause-look : goal.returns-clause-look
returns-clause-look g c = λ d t.
    (let mean = g.K.Key.meaning in
    let hashed = g.K.HashedKey.hashed in
    let x = c.args.inner.now in
    let rs = x.records.now in
    let word = mean c.args.key.now in
    let cap = x.policy.core.capacity in
    let s = view x.policy.core in
    let p = c.in_ok-narrow.narrow in
    let here : p ≡ c.args.place = search rules in
    let same = ap (λ (n : ℕ). in_place n (look word (state {K = g.row.K.Denot} mean d x))) here in
    let o = orderly x.policy in
    let within = place_within x.policy (length rs) t.sized in
    by_test (λ (o : Option ℕ). option_map (item_at {K = g.row.K.Denot} {V = g.row.V.Denot} mean d rs) o ≡ in_place c.args.place (look word (state {K = g.row.K.Denot} mean d x))) c.stands_in.result c.in_ok-narrow.narrow c.then_some.result c.then_some.ensures
    (λ t'. stands_looked {K = g.row.K.Denot} {V = g.row.V.Denot} mean hashed rs word cap s x.residents x.remembered t o within d p (sym c.stands_in.ensures ∙ t') ∙ same)
    (λ t'. stands_not {K = g.row.K.Denot} {V = g.row.V.Denot} mean hashed rs word cap s x.residents x.remembered t o within d p (sym c.stands_in.ensures ∙ t') ∙ same))
