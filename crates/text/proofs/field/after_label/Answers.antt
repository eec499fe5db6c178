use Rattle.text.proofs.Fields.{stripped_from_begins}
use Rattle.text.proofs.field.after_label.Goals as goal

pub returns : goal.returns
returns c = stripped_from_begins c.args.label.now c.args.text.now c.strip_prefix.result c.strip_prefix.ensures.cases
