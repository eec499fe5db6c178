use Rattle.std.proofs.Common.{◌≡◌, refl, ap, ◌∙◌, arith}
use Rattle.policy.specs.declared.policy.Policy.{Policy}
use Rattle.cache_core.specs.declared.inner.Inner.{Inner}
use Rattle.cache_core.specs.Tied.{Within}
use Rattle.cache_core.specs.Admitting.{Absent, AdmittedWithin, LaidIn}
use Rattle.cache_core.proofs.Bare.{long_kept}
use Rattle.cache_core.proofs.Exact.{loosened, exact}
use Rattle.cache_core.proofs.Admits.{departs_policy, laid_in, admits}
use Rattle.cache_core.proofs.inner.Inner.admit.Goals as goal

pub returns : goal.returns
returns g c =
    let mean = g.K.Key.meaning in
    let hashed = g.K.HashedKey.hashed in
    let x = c.args.self.now in
    let x₁ = c.forget-known.new.self in
    let x₂ : Inner g.row.K.Denot g.row.V.Denot = record { records = x₁.records; policy = c.insert.new.self; residents = x₁.residents; remembered = x₁.remembered } in
    let x₃ = c.depart.new.self in
    let y = c.seat_key.new.self in
    let r = c.in-Some.inserted in
    let f = c.forget-known.ensures in
    let done = c.in-Some.ensures in
    let left = departs_policy {K = g.row.K.Denot} {V = g.row.V.Denot} mean hashed x₂ x₃ r.place r.vacancy.noted r.vacancy.left c.depart.ensures in
    let same_capacity = ap (λ (q : Policy). q.core.capacity) (c.seat_key.ensures.kept.0 ∙ left) ∙ (done.capacity ∙ f.kept.2) in
    let within : Within {K = g.row.K.Denot} {V = g.row.V.Denot} mean hashed x → c.args.hash ≡ hashed (mean c.args.key) → Absent {K = g.row.K.Denot} {V = g.row.V.Denot} mean hashed (mean c.args.key) x → AdmittedWithin {K = g.row.K.Denot} {V = g.row.V.Denot} mean hashed x (mean c.args.key) r y × LaidIn {K = g.row.K.Denot} {V = g.row.V.Denot} mean hashed x c.args.key r y =
    λ t h absent. (
      admits {K = g.row.K.Denot} {V = g.row.V.Denot} mean hashed x x₁ x₂ x₃ y c.args.hash c.args.key c.forget-known.result r
          (f.answer t h) (λ d. f.forgets d t h) (f.within t h) f.kept refl refl refl done.done.0 done.done.1 done.capacity c.depart.ensures c.seat_key.ensures.tied c.seat_key.ensures.kept h absent,
      laid_in {K = g.row.K.Denot} {V = g.row.V.Denot} mean hashed x x₁ x₂ x₃ y c.args.hash c.args.key c.forget-known.result r
          (f.answer t h) (λ d. f.forgets d t h) (f.within t h) f.kept refl refl refl done.done.0 done.done.1 done.capacity c.depart.ensures c.seat_key.ensures.tied c.seat_key.ensures.kept h absent,
    ) in
    record {
      admits = λ t h absent.
          (let w = within (loosened t) h absent in
          let long = long_kept {K = g.row.K.Denot} {V = g.row.V.Denot} x.records.now y.records.now r.place c.args.key w.1 in
          record { next = w.0.next; settles = w.0.settles; report = w.0.report; resides = w.0.resides; tied = exact t same_capacity long w.0.within });
      within = (let a = done.done.0 in let b = f.kept.2 in omega arith, (same_capacity, within));
    }
