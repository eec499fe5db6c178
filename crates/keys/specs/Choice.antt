-- The texts that name a key kind.
use Rattle.std.specs.Prelude.{ℕ, cond, List, Some, None, codes, Option}
use Rattle.std.specs.Str.{bytes_eq}
use Rattle.keys.specs.declared.choice.KeyKind.{KeyKind}
use Rattle.keys.specs.declared.choice.KeyKind.TheVariants.{Number, Name}

abbrev pub kind_text : List ℕ → Option KeyKind
kind_text bs = cond (bytes_eq bs (codes "number")) (Some Number) (cond (bytes_eq bs (codes "name")) (Some Name) None)
