use Rattle.std.proofs.Common.{◌≤◌, sym, arith}
use Rattle.cache_core.specs.View.{state}
use Rattle.cache_calls.proofs.Finds.{nobody}
use Rattle.cache_calls.proofs.Steps.{fetch_loaded}
use Rattle.cache_calls.proofs.loading.fetch.Goals as goal

pub returns-clause-does : goal.returns-clause-does
returns-clause-does g c = λ t.
    (let mean = g.K.Key.meaning in
    let word = mean c.args.key in
    let x = c.args.inner.now in
    let cap = x.policy.core.capacity in
    let y = c.bring_in.new.inner in
    let h = c.hash-hash.ensures in
    let f = c.in_default.ensures in
    let pos : 1 ≤ cap = (let z = c.if-capacity-eq0.false in let e = c.capacity.ensures in omega arith) in
    let e = c.bring_in.ensures.1 t h (nobody {K = g.row.K.Denot} {V = g.row.V.Denot} mean g.K.HashedKey.hashed x word (f.first t h)) in (
      λ d.
          fetch_loaded cap pos (state {K = g.row.K.Denot} mean d x) (state {K = g.row.K.Denot} mean d y) word (g.L.Loader.given c.args.loader.now) c.in_ok-value.value c.bring_in.result (sym (f.look d t h)) (sym c.in_ok-value.ensures.answers) (e.next d) (e.told d),
      e.tied,
    ))

pub returns-clause-records : goal.returns-clause-records
returns-clause-records g c = λ t.
    (let x = c.args.inner.now in
    let h = c.hash-hash.ensures in
    (c.bring_in.ensures.1 t h (nobody {K = g.row.K.Denot} {V = g.row.V.Denot} g.K.Key.meaning g.K.HashedKey.hashed x (g.K.Key.meaning c.args.key) (c.in_default.ensures.first t h))).laid)
