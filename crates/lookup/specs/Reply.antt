-- What is told of a station that was asked for.
use Rattle.std.specs.Prelude.{ℕ, List, ◌++◌, Some, None, Ok, Err, codes, decimal, Option, Result}
use Rattle.keys.specs.Named.{named_form, named_text}
use Rattle.keys.specs.Numbered.{numbered_form, numbered_text}
use Rattle.keys.specs.declared.choice.KeyKind.{KeyKind}
use Rattle.keys.specs.declared.choice.KeyKind.TheVariants.{Number, Name}
use Rattle.loaders.specs.Fault.{cause_number, cause_text}
use Rattle.loaders.specs.Look.{look, sheet_entries}
use Rattle.loaders.specs.declared.fault.Fault.{Fault}
use Rattle.survey.specs.Station.{written}
use Rattle.survey.specs.declared.station.Station.{Station}
use Rattle.lookup.specs.declared.reply.Untold.{Untold}
use Rattle.lookup.specs.declared.reply.Untold.TheVariants.{Refused, Unread}
use Rattle.lookup.specs.declared.reply.Reply.{Reply}

-- a line for a key
abbrev pub keyed : List ℕ → List ℕ → List ℕ
keyed key told = codes "key=" ++ (key ++ (codes " " ++ told))

abbrev pub refusal : Fault → List ℕ
refusal f = codes "cause=" ++ (decimal (cause_number f.cause) ++ (codes ": " ++ cause_text f.cause))

abbrev pub advice : List ℕ → List ℕ
advice form = codes "unread: a key is " ++ form

abbrev pub untold_text : Untold → List ℕ
untold_text (Refused f) = refusal f
untold_text (Unread form) = advice form.now

abbrev pub finding_text : Result Station Untold → List ℕ
finding_text (Ok s) = written s
finding_text (Err why) = untold_text why

-- the line that a reply is printed as
abbrev pub reply_text : Reply → List ℕ
reply_text r = keyed r.key.now (finding_text r.finding)

abbrev pub answer_text : Result Station Fault → List ℕ
answer_text (Ok s) = written s
answer_text (Err f) = refusal f

abbrev pub meant_text : List ℕ → (List ℕ → Result Station Fault) → Option (List ℕ) → List ℕ
meant_text form given None = advice form
meant_text form given (Some word) = answer_text (given word)

-- the line for a text: what the loader gives for the key that it writes, or what a key looks like
abbrev pub reply_for : List ℕ → (List ℕ → Result Station Fault) → (List ℕ → Option (List ℕ)) → List ℕ → List ℕ
reply_for form given meant text = keyed text (meant_text form given (meant text))

-- the same over a sheet of one key kind
abbrev pub kind_reply : KeyKind → List ℕ → List ℕ → List ℕ
kind_reply Number sheet text = reply_for numbered_form (look 1 (sheet_entries numbered_text sheet)) numbered_text text
kind_reply Name sheet text = reply_for named_form (look 1 (sheet_entries named_text sheet)) named_text text
