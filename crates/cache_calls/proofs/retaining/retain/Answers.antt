use Rattle.std.proofs.Common.{◌≡◌, ℕ, ◌<◌, ◌≤◌, false, List, sym, ap, ◌∙◌, subst, add-one, arith}
use lib.ListN.{length-replicate}
use Rattle.machine.specs.Replacement.{Parts, drops, highest_first}
use Rattle.policy.specs.declared.policy.Policy.{Policy}
use Rattle.policy.specs.View.{view, flagged}
use Rattle.index.specs.declared.index.KeyIndex.{KeyIndex}
use Rattle.records.specs.declared.record.Record.{Record}
use Rattle.cache_core.specs.View.{seen}
use Rattle.cache_core.specs.Tied.{TiedWithin}
use Rattle.cache_core.proofs.Standing.{orderly}
use Rattle.cache_calls.proofs.Sifted.{asked_to, start, turn, none_up}
use Rattle.cache_calls.proofs.Retained.{retained_state, retained_tied, asked_once}
use Rattle.cache_calls.proofs.retaining.retain.Goals as goal

pub places-init : goal.places-init
places-init g c =
    start {K = g.row.K.Denot} {V = g.row.V.Denot} {R = g.row.R.Denot} g.K.Key.meaning g.K.HashedKey.hashed g.R.AskedKeepRule.keeps g.R.AskedKeepRule.after c.args.inner.now c.args.rule.now _ (length-replicate 512 false) (none_up 512)

pub sift-requires : goal.sift-requires
sift-requires g c =
    let o = orderly c.args.inner.now.policy in
    let a = o.opened in
    let b = o.low in
    let e = c.opened-opened.ensures in
    omega arith

pub places-preserved : goal.places-preserved
places-preserved g c =
    let mean = g.K.Key.meaning in
    let hashed = g.K.HashedKey.hashed in
    let keeps = g.R.AskedKeepRule.keeps in
    let after = g.R.AskedKeepRule.after in
    let n = c.places.place in
    let o = orderly c.args.inner.now.policy in
    let low : n < 512 = (let a = o.opened in let b = o.low in let e = c.opened-opened.ensures in omega arith) in
    rw add-one
    (turn {K = g.row.K.Denot} {V = g.row.V.Denot} {R = g.row.R.Denot} mean hashed keeps after c.args.inner.now c.args.rule.now n low c.places.inner c.sift.new.inner c.places.rule c.sift.new.rule c.places.flags c.sift.new.flags c.places.invariant c.sift.ensures)

pub returns : goal.returns
returns g c =
    let mean = g.K.Key.meaning in
    let hashed = g.K.HashedKey.hashed in
    let keeps = g.R.AskedKeepRule.keeps in
    let after = g.R.AskedKeepRule.after in
    let x = c.args.inner.now in
    let rule = c.args.rule.now in
    let rs = x.records.now in
    let s = view x.policy.core in
    let y = c.places.inner in
    let flags = c.places.flags in
    let n = c.places.place in
    let m = c.places.invariant in
    let q = c.remove_flagged.new.self in
    let all : s.opened ≤ n = (let e = c.opened-opened.ensures in let l = c.places-test.false in omega arith) in
    let end : n ≡ s.opened = (let e = c.opened-opened.ensures in let l = c.places-test.false in let k = c.places.auto.place-end in omega arith) in
    let parts : view q.core ≡ drops (highest_first (λ p. p)) (λ p. p) (flagged flags) s =
    c.remove_flagged.ensures.view ∙ ap (λ (z : Policy). drops (highest_first (λ p. p)) (λ p. p) (flagged flags) (view z.core)) m.kept.1.0 in
    let capacity : q.core.capacity ≡ x.policy.core.capacity = c.remove_flagged.ensures.capacity ∙ ap (λ (z : Policy). z.core.capacity) m.kept.1.0 in
    record {
      does = λ t. (
        λ d. λ k. (
          (retained_state {K = g.row.K.Denot} {V = g.row.V.Denot} {R = g.row.R.Denot} mean hashed keeps after x rule t n all y c.places.rule flags m d
              ∙ (ap (seen {K = g.row.K.Denot} {V = g.row.V.Denot} mean d rs) (sym parts)
              ∙ ap (λ (l : List (Record g.row.K.Denot g.row.V.Denot)). seen mean d l (view q.core)) (sym m.kept.0))) k,
          tt,
        ),
        subst (λ (i : ℕ). TiedWithin {K = g.row.K.Denot} {V = g.row.V.Denot} mean hashed i y.records.now (view q.core) y.residents y.remembered) (sym capacity)
            (subst (λ (l : List (Record g.row.K.Denot g.row.V.Denot)). TiedWithin mean hashed x.policy.core.capacity l (view q.core) y.residents y.remembered) (sym m.kept.0)
            (subst (λ (p : Parts ℕ ℕ ℕ). TiedWithin {K = g.row.K.Denot} {V = g.row.V.Denot} mean hashed x.policy.core.capacity rs p y.residents y.remembered) (sym parts)
            (subst (λ (j : KeyIndex). TiedWithin {K = g.row.K.Denot} {V = g.row.V.Denot} mean hashed x.policy.core.capacity rs (drops (highest_first (λ p. p)) (λ p. p) (flagged flags) s) y.residents j) (sym m.kept.1.1)
            (retained_tied {K = g.row.K.Denot} {V = g.row.V.Denot} {R = g.row.R.Denot} mean hashed keeps after x rule t n all y c.places.rule flags m)))),
      );
      asked = λ t d.
          m.asked
          ∙ (ap (asked_to {K = g.row.K.Denot} {V = g.row.V.Denot} {R = g.row.R.Denot} mean hashed keeps after x rule) end
          ∙ asked_once {K = g.row.K.Denot} {V = g.row.V.Denot} {R = g.row.R.Denot} mean hashed keeps after x rule t d);
      meaning = m.meaning;
      records = m.kept.0;
      capacity = capacity;
    }
