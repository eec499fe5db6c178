use Rattle.std.proofs.Common.{ℕ, sym, ap, ◌∙◌}
use Rattle.machine.specs.declared.report.Report.{Report}
use Rattle.policy.specs.declared.policy.Policy.{Policy}
use Rattle.cache_core.specs.View.{bare, revalued}
use Rattle.cache_core.proofs.Bare.{bare_valued}
use Rattle.cache_calls.specs.Calls.{newcomer}
use Rattle.cache_calls.proofs.inserting.bring_in.Goals as goal

pub returns : goal.returns
returns g c =
    let key = c.args.key in
    let v = c.args.value in
    let place = c.in-Some.inserted.place in
    let x = c.args.inner.now in
    let w = c.set_value.ensures in
    let told = c.into.ensures in
    let a = c.in-Some.ensures.within in (
      ap (λ (q : Policy). q.core.capacity) w.policy ∙ a.1.0,
      λ t h absent.
          (let e = a.1.1 t h absent in
          record {
            next = λ d. w.lays d (g.K.Key.meaning key) e.0.within e.0.resides ∙ e.0.settles d v;
            told = λ d. told ∙ sym (e.0.report d);
            tied = w.within e.0.within;
            laid =
                ap (bare {K = g.row.K.Denot} {V = g.row.V.Denot}) w.records
                ∙ (bare_valued {K = g.row.K.Denot} {V = g.row.V.Denot} c.admit.new.self.records.now place v
                ∙ (ap (revalued {K = g.row.K.Denot} {V = g.row.V.Denot} place v) e.1
                ∙ ap (λ (n : ℕ). newcomer {K = g.row.K.Denot} {V = g.row.V.Denot} n key v (bare x.records.now)) (sym (ap (λ (r : Report). r.place) told))));
          }),
    )
