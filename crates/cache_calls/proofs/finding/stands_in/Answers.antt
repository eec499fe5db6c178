use Rattle.std.proofs.Common.{Bool, ◌&&◌, Option, sym, ap, ◌∙◌}
use Rattle.std.specs.Option.{option_map}
use Rattle.handles.proofs.Meaning.{alike_is}
use Rattle.index.specs.Filed.{is_key}
use Rattle.queues.specs.Held.{resides}
use Rattle.policy.specs.View.{view}
use Rattle.cache_calls.proofs.finding.stands_in.Goals as goal

pub returns-then-same : goal.returns-then-same
returns-then-same g c =
    let word = g.K.Key.meaning c.args.key.now in
    let test = alike_is c.same.result word (g.K.Key.meaning c.in-Some.held) c.same.ensures ∙ ap (λ (o : Option g.row.K.Denot). is_key word (option_map g.K.Key.meaning o)) c.in-Some.ensures in
    c.is_resident.ensures ∙ sym (ap (λ (b : Bool). b && resides c.args.place (view c.args.inner.now.policy.core)) (sym test ∙ c.if-same.true))

pub returns-else-same : goal.returns-else-same
returns-else-same g c =
    let word = g.K.Key.meaning c.args.key.now in
    let test = alike_is c.same.result word (g.K.Key.meaning c.in-Some.held) c.same.ensures ∙ ap (λ (o : Option g.row.K.Denot). is_key word (option_map g.K.Key.meaning o)) c.in-Some.ensures in
    c.if-same.false ∙ sym (ap (λ (b : Bool). b && resides c.args.place (view c.args.inner.now.policy.core)) (sym test ∙ c.if-same.false))
