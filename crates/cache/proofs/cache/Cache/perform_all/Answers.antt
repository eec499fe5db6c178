use Rattle.std.proofs.Common.{◌≡◌, ℕ, suc, List, sym, subst, add-one, arith}
use Rattle.machine.specs.declared.call.Answer.{Answer}
use Rattle.cache.proofs.Performing.{Midway, start, turn, end}
use Rattle.cache.proofs.cache.Cache.perform_all.Goals as goal

pub calls-init : goal.calls-init
calls-init g c = (
  c.min-count.ensures,
  start {K = g.row.K.Denot} {V = g.row.V.Denot} {R = g.row.R.Denot} g.K.Key.meaning g.K.HashedKey.hashed g.R.AskedKeepRule.keeps (g.L.Loader.given c.args.loader.now) c.args.self.now.inner c.args.calls.now c.args.answers.now c.min-count.result c.min-count.ensures,
)

pub calls-preserved : goal.calls-preserved
calls-preserved g c =
    let inv = c.calls.invariant in
    let p = c.perform-answer.ensures in (
      inv.0,
      rw add-one
          (subst (λ (l : List (Answer g.row.V.Denot)). Midway {K = g.row.K.Denot} {V = g.row.V.Denot} {R = g.row.R.Denot} g.K.Key.meaning g.K.HashedKey.hashed g.R.AskedKeepRule.keeps (g.L.Loader.given c.args.loader.now) c.args.self.now.inner c.args.calls.now c.args.answers.now c.min-count.result inv.0 (suc c.calls.i) l (g.L.Loader.given c.perform-answer.new.loader) c.perform-answer.new.self.inner) (sym c.lay_answer.ensures)
          (turn {K = g.row.K.Denot} {V = g.row.V.Denot} {R = g.row.R.Denot} g.K.Key.meaning g.K.HashedKey.hashed g.R.AskedKeepRule.keeps (g.L.Loader.given c.args.loader.now) c.args.self.now.inner c.args.calls.now c.args.answers.now c.min-count.result inv.0
          c.calls.i c.calls-test.true c.calls.answers (g.L.Loader.given c.calls.loader) (g.L.Loader.given c.perform-answer.new.loader) c.calls.self.inner c.perform-answer.new.self.inner c.index-calls-i.result c.perform-answer.result c.index-calls-i.is inv.1
          p.does p.records p.meaning p.capacity)),
    )

pub returns : goal.returns
returns g c =
    let inv = c.calls.invariant in
    let n = c.min-count.result in
    let all : c.calls.i ≡ n = (let l = c.calls-test.false in let k = c.calls.auto.i-end in omega arith) in
    let m = subst (λ (i : ℕ). Midway {K = g.row.K.Denot} {V = g.row.V.Denot} {R = g.row.R.Denot} g.K.Key.meaning g.K.HashedKey.hashed g.R.AskedKeepRule.keeps (g.L.Loader.given c.args.loader.now) c.args.self.now.inner c.args.calls.now c.args.answers.now n inv.0 i c.calls.answers (g.L.Loader.given c.calls.loader) c.calls.self.inner) all inv.1 in
    record {
      performed = end {K = g.row.K.Denot} {V = g.row.V.Denot} {R = g.row.R.Denot} g.K.Key.meaning g.K.HashedKey.hashed g.R.AskedKeepRule.keeps (g.L.Loader.given c.args.loader.now) c.args.self.now.inner c.args.calls.now c.args.answers.now n inv.0 c.calls.answers (g.L.Loader.given c.calls.loader) c.calls.self.inner m;
      meaning = m.meaning;
      capacity = m.capacity;
    }
