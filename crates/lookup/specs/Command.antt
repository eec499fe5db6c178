-- The words of the command.
use Rattle.std.specs.Prelude.{ℕ, List, Some, None, codes, Option}
use Rattle.text.specs.Field.{stripped}
use Rattle.lookup.specs.declared.command.Word.{Word}
use Rattle.lookup.specs.declared.command.Word.TheVariants.{Kind, Sheet, Key}

-- a word's part and its text
pub data Part : Type 0 where
  kind : List ℕ → Part
  sheet : List ℕ → Part
  key : List ℕ → Part

abbrev pub word_of : Word → Part
word_of (Kind t) = kind t.now
word_of (Sheet t) = sheet t.now
word_of (Key t) = key t.now

abbrev pub sheet_or : Option (List ℕ) → List ℕ → Part
sheet_or None bs = key bs
sheet_or (Some file) bs = sheet file

abbrev pub kind_or : Option (List ℕ) → List ℕ → Part
kind_or None bs = sheet_or (stripped (codes "sheet=") bs) bs
kind_or (Some name) bs = kind name

-- what a word is: by its label, and a key without one
abbrev pub word_text : List ℕ → Part
word_text bs = kind_or (stripped (codes "kind=") bs) bs
