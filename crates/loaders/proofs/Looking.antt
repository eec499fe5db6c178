-- What a list of entries gives, one entry after another.
use Rattle.std.proofs.Common.{◌≡◌, ℕ, ◌+◌, ◌<◌, Bool, cond, List, [], ◌∷◌, ◌++◌, map, length, get_or, drop, Some, None, Ok, Err, Decides, Option, Result, sym, refl, ap, ◌∙◌, subst}
use Rattle.std.proofs.lemmas.Slice.Eq.{bytes_eq-Decides}
use Rattle.std.proofs.lemmas.List.{at_drop_more}
use Rattle.std.proofs.lemmas.Bool.Decides.{same_from_decides}
use Rattle.std.specs.Str.{bytes_eq}
use Rattle.survey.specs.Entry.{line_text}
use Rattle.survey.specs.declared.entry.Entry.{Entry}
use Rattle.survey.specs.declared.station.Station.{Station}
use Rattle.text.proofs.Lines.{piece_broken, piece_line}
use Rattle.std.specs.Option.{ok_or}
use Rattle.std.specs.Result.{IsErrAnd}
use Rattle.std.specs.Str.Pattern.{EndsAtFirstMatch, FindsChar}
use Rattle.loaders.specs.declared.fault.Fault.{Fault}
use Rattle.loaders.specs.Fault.{fault}
use Rattle.loaders.specs.Look.{look, sheet_entries, whole}
use Rattle.loaders.specs.declared.fault.Cause.TheVariants.{BrokenLine}

-- the comparison that `look` makes is the key's own
same_tells : (r : Bool) (xs ys : List ℕ) → Decides r (xs ≡ ys) → bytes_eq xs ys ≡ r
same_tells r xs ys h = same_from_decides (bytes_eq xs ys) r (bytes_eq-Decides xs ys) h

module _ {K V : Type 0} (meaning : K → List ℕ) (rs : List (Entry K V)) (word : List ℕ) where
  pub roll_more : (n i : ℕ) (r : Entry K V) (alike : Bool) → i < length rs → r ≡ get_or rs i r → Decides alike (meaning r.key ≡ word) → look n (map (whole meaning) (drop i rs)) word ≡ cond alike (Ok r.value) (look (n + 1) (map (whole meaning) (drop (i + 1) rs)) word)
  roll_more n i r alike low is told =
      at_drop_more (λ es. look n (map (whole meaning) es) word) rs i r low ∙ ap (λ (e : Entry K V). cond (bytes_eq (meaning e.key) word) (Ok e.value) (look (n + 1) (map (whole meaning) (drop (i + 1) rs)) word)) (sym is) ∙ rw (same_tells alike (meaning r.key) word told) refl

-- a piece of a sheet, cut after each line feed, and what follows it
module _ (meant : List ℕ → Option (List ℕ)) (n feed : ℕ) (bs piece after word : List ℕ) (is : feed ≡ 10) (parts : bs ≡ piece ++ after) (first : EndsAtFirstMatch (FindsChar feed) bs piece) where
  first_feed : EndsAtFirstMatch (FindsChar 10) bs piece
  first_feed = subst (λ c. EndsAtFirstMatch (FindsChar c) bs piece) is first

  pub sheet_more : (line key : List ℕ) (s : Station) (alike : Bool) → piece ≡ line ++ (10 ∷ []) → line_text meant line ≡ Some (key, s) → Decides alike (key ≡ word) → look n (sheet_entries meant bs) word ≡ cond alike (Ok s) (look (n + 1) (sheet_entries meant after) word)
  sheet_more line key s alike ends read told = rw (piece_line bs piece after parts first_feed line ends, read, same_tells alike key word told) refl

  pub sheet_unread : (line : List ℕ) → piece ≡ line ++ (10 ∷ []) → line_text meant line ≡ None → look n (sheet_entries meant bs) word ≡ Err (fault (BrokenLine n))
  sheet_unread line ends read = rw (piece_line bs piece after parts first_feed line ends, read) refl

  pub sheet_unended : ((line : List ℕ) → piece ≡ line ++ (10 ∷ []) → ⊥) → look n (sheet_entries meant bs) word ≡ Err (fault (BrokenLine n))
  sheet_unended never = rw (piece_broken bs piece after parts first_feed never) refl

-- what `ok_or` and `?` answer of what is not there
pub given_up : {T V : Type 0} (o : Option T) (broken handed : Fault) (r : Result V Fault) → o ≡ None → Err handed ≡ ok_or o broken → IsErrAnd r (λ e. e ≡ handed) → r ≡ Err broken
given_up None broken handed (Err e) none same h = ap Err (h ∙ cc)
given_up None broken handed (Ok v) none same h = elim h [ ]
given_up (Some x) broken handed r none same h = cc
