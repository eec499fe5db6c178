use Rattle.std.proofs.Common.{ℕ, ◌≡◌, ap, ◌∙◌, rules}
use Rattle.cache_core.specs.View.{bare, revalued}
use Rattle.cache_core.proofs.Bare.{bare_valued}
use Rattle.cache_calls.proofs.writing.write_at.Goals as goal

pub returns-clause-records : goal.returns-clause-records
returns-clause-records g c =
    let v = c.args.value in
    let rs = c.args.inner.now.records.now in
    let place : c.in_ok-here.here ≡ c.args.place = search rules in
    ap (bare {K = g.row.K.Denot} {V = g.row.V.Denot}) c.set_value.ensures.records
    ∙ (bare_valued {K = g.row.K.Denot} {V = g.row.V.Denot} rs c.in_ok-here.here v
    ∙ ap (λ (n : ℕ). revalued {K = g.row.K.Denot} {V = g.row.V.Denot} n v (bare rs)) place)
