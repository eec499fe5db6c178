use Rattle.std.proofs.Common.{◌≤◌, List, Option, sym, ap, ◌∙◌, arith}
use Rattle.machine.specs.Machine.{Item}
use Rattle.records.specs.declared.record.Record.{Record}
use Rattle.cache_core.specs.View.{state, bare, revalued}
use Rattle.cache_core.proofs.Bare.{bare_valued}
use Rattle.cache_calls.specs.Calls.{given}
use Rattle.cache_calls.proofs.Finds.{nobody}
use Rattle.cache_calls.proofs.Steps.{put_none}
use Rattle.cache_calls.proofs.writing.put.Goals as goal

pub returns-in-Some-clause-records : goal.returns-in-Some-clause-records
returns-in-Some-clause-records g c = λ t d.
    (let v = c.args.value in
    let place = c.in-Some.place in
    let rs = c.args.inner.now.records.now in
    ap (bare {K = g.row.K.Denot} {V = g.row.V.Denot}) c.set_value.ensures.records
    ∙ (bare_valued {K = g.row.K.Denot} {V = g.row.V.Denot} c.use_value-old.new.inner.records.now place v
    ∙ (ap (λ (l : List (Record g.row.K.Denot g.row.V.Denot)). revalued place v (bare l)) c.use_value-old.ensures.records
    ∙ ap (λ (o : Option (Item g.row.V.Denot)). given {K = g.row.K.Denot} o v (bare rs)) (c.in-Some.ensures.look d t c.hash-hash.ensures))))

pub returns-in-None-clause-does : goal.returns-in-None-clause-does
returns-in-None-clause-does g c = λ t.
    (let mean = g.K.Key.meaning in
    let word = mean c.args.key in
    let x = c.args.inner.now in
    let cap = x.policy.core.capacity in
    let h = c.hash-hash.ensures in
    let f = c.in-None.ensures in
    let pos : 1 ≤ cap = (let z = c.if-capacity-eq0.false in let e = c.capacity.ensures in omega arith) in
    let e = c.bring_in.ensures.1 t h (nobody {K = g.row.K.Denot} {V = g.row.V.Denot} mean g.K.HashedKey.hashed x word (f.first t h)) in
    (λ d. put_none cap pos (state {K = g.row.K.Denot} mean d x) (state {K = g.row.K.Denot} mean d c.bring_in.new.inner) word c.args.value c.bring_in.result (sym (f.look d t h)) (e.next d) (e.told d), e.tied))

pub returns-in-None-clause-records : goal.returns-in-None-clause-records
returns-in-None-clause-records g c = λ t d.
    (let h = c.hash-hash.ensures in
    (c.bring_in.ensures.1 t h (nobody {K = g.row.K.Denot} {V = g.row.V.Denot} g.K.Key.meaning g.K.HashedKey.hashed c.args.inner.now (g.K.Key.meaning c.args.key) (c.in-None.ensures.first t h))).laid)
