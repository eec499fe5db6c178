use Rattle.keys.proofs.Naming.{same_folded}
use Rattle.keys.proofs.named.NamedKeyKey.same.Goals as goal

pub returns : goal.returns
returns c = rw (c.spelling.ensures, c.spelling-2.ensures) at (same_folded c.eq_ignore_ascii_case.result _ _ c.eq_ignore_ascii_case.ensures.test)
