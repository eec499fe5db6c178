use Rattle.std.proofs.Common.{◌≤◌, sym, arith}
use Rattle.cache_core.specs.View.{state}
use Rattle.cache_calls.proofs.Finds.{nobody}
use Rattle.cache_calls.proofs.Steps.{claim_none}
use Rattle.cache_calls.proofs.claiming.claim.Goals as goal

pub returns-in-None-clause-does : goal.returns-in-None-clause-does
returns-in-None-clause-does g c = λ t.
    (let mean = g.K.Key.meaning in
    let word = mean c.args.key in
    let x = c.args.inner.now in
    let cap = x.policy.core.capacity in
    let r = c.claim_place-value.result in
    let h = c.hash-hash.ensures in
    let f = c.in-None.ensures in
    let pos : 1 ≤ cap = (let z = c.if-capacity-eq0.false in let e = c.capacity.ensures in omega arith) in
    let e = c.claim_place-value.ensures.1 t h (nobody {K = g.row.K.Denot} {V = g.row.V.Denot} mean g.K.HashedKey.hashed x word (f.first t h)) in (
      λ d.
          claim_none cap pos (state {K = g.row.K.Denot} mean d x) (state {K = g.row.K.Denot} mean d c.claim_place-value.new.inner) word c.args.given r.0 r.1 (sym (f.look d t h)) (e.1 d) (e.0.next d) (e.0.told d),
      e.0.tied,
    ))

pub returns-in-None-clause-records : goal.returns-in-None-clause-records
returns-in-None-clause-records g c = λ t.
    (let h = c.hash-hash.ensures in
    (c.claim_place-value.ensures.1 t h (nobody {K = g.row.K.Denot} {V = g.row.V.Denot} g.K.Key.meaning g.K.HashedKey.hashed c.args.inner.now (g.K.Key.meaning c.args.key) (c.in-None.ensures.first t h))).0.laid)
