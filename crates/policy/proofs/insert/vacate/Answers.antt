use Rattle.std.proofs.Common.{◌≡◌, false, length, arith}
use Rattle.std.proofs.lemmas.Bool.{lt-leb}
use Rattle.machine.specs.declared.report.Part.TheVariants as part
use Rattle.machine.specs.Limits.{main_limit}
use Rattle.machine.specs.Replacement.{main_full}
use Rattle.policy.specs.View.{view}
use Rattle.policy.proofs.insert.vacate.Goals as goal

pub returns-in-Small-clause-freed : goal.returns-in-Small-clause-freed
returns-in-Small-clause-freed c = rw (c.in-Small.is, c.if-has_vacancy.true) (c.vacant.ensures.freed part.Small)

pub returns-in-Main-2-clause-freed : goal.returns-in-Main-2-clause-freed
returns-in-Main-2-clause-freed c =
    let p = c.args.core.now in
    let n = c.requires.limited.2 in
    let o = c.main_len.ensures in
    let f : main_full p.capacity (view p) ≡ false = lt-leb (main_limit p.capacity) (length (view p).main) (omega arith) in
    rw (c.in-Main-2.is, f) (c.vacant-in-Main-2.ensures.freed part.Main)
