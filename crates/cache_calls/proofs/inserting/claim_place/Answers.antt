use Rattle.std.proofs.Common.{ℕ, ◌<◌, cond, eqb, length, sym, ap, ◌∙◌, arith}
use Rattle.machine.specs.declared.report.Report.{Report}
use Rattle.policy.specs.declared.policy.Policy.{Policy}
use Rattle.policy.specs.View.{view}
use Rattle.cache_core.specs.View.{value_at, bare, revalued, places}
use Rattle.cache_core.proofs.Bare.{bare_valued}
use Rattle.cache_core.proofs.Standing.{place_within}
use Rattle.records.specs.declared.column.Column.TheVariants.{Resident}
use Rattle.cache_core.proofs.Only.{passes}
use Rattle.cache_calls.specs.Calls.{newcomer}
use Rattle.cache_core.proofs.Bare.{long_kept}
use Rattle.cache_calls.proofs.Lying.{value_kept, value_any}
use Rattle.cache_calls.proofs.inserting.claim_place.Goals as goal

pub returns : goal.returns
returns g c =
    let mean = g.K.Key.meaning in
    let key = c.args.key in
    let given = c.args.given in
    let place = c.in-Some.inserted.place in
    let x = c.args.inner.now in
    let rs = x.records.now in
    let y₁ = c.admit.new.self in
    let v = c.lying_in-value.result in
    let w = c.set_value.ensures in
    let told = c.into.ensures in
    let a = c.in-Some.ensures.within in (
      ap (λ (q : Policy). q.core.capacity) w.policy ∙ a.1.0,
      λ t h absent.
          (let e = a.1.1 t h absent in
          let long = long_kept {K = g.row.K.Denot} {V = g.row.V.Denot} rs y₁.records.now place key e.1 in
          let there = (passes {K = g.row.K.Denot} {V = g.row.V.Denot} mean Resident y₁.records.now (mean key) (places (view y₁.policy.core)) place e.0.resides).1 in
          let low = place_within y₁.policy (length y₁.records.now) e.0.within.sized place there in
          let within : place < length rs = omega arith in (
            record {
              next = λ d. w.lays d (mean key) e.0.within e.0.resides ∙ e.0.settles d v;
              told = λ d. told ∙ sym (e.0.report d);
              tied = w.within e.0.within;
              laid =
                  ap (bare {K = g.row.K.Denot} {V = g.row.V.Denot}) w.records
                  ∙ (bare_valued {K = g.row.K.Denot} {V = g.row.V.Denot} y₁.records.now place v
                  ∙ (ap (revalued {K = g.row.K.Denot} {V = g.row.V.Denot} place v) e.1
                  ∙ ap (λ (n : ℕ). newcomer {K = g.row.K.Denot} {V = g.row.V.Denot} n key v (bare rs)) (sym (ap (λ (r : Report). r.place) told))));
            },
            λ d.
                c.lying_in-value.ensures
                ∙ (ap (λ (u : g.row.V.Denot). cond (eqb place c.opened-opened.result) given u)
                (value_kept {K = g.row.K.Denot} {V = g.row.V.Denot} given rs y₁.records.now place key place e.1 ∙ value_any {K = g.row.K.Denot} {V = g.row.V.Denot} d given rs place within)
                ∙ (ap (λ (n : ℕ). cond (eqb place n) given (value_at {K = g.row.K.Denot} d rs place)) c.opened-opened.ensures
                ∙ sym (e.0.lies d given))),
          )),
    )
