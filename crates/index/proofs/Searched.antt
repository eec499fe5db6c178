-- What a search of the table answers of an index.
use Rattle.std.proofs.Common.{◌≡◌, ℕ, Bool, false, List, [], ◌∷◌, Some, None, Option, Decides, sym, refl, ap, ◌∙◌, subst, arith}
use Rattle.std.specs.Option.{MatchOption, IsSomeAnd, option_map}
use Rattle.handles.specs.Meaning.{alike}
use Rattle.handles.specs.Seek.{candidates, first_by}
use Rattle.handles.specs.Kinds.{place_meaning}
use Rattle.handles.specs.declared.kinds.Place.{Place}
use Rattle.handles.specs.declared.owned.OwnedTable.{OwnedTable}
use Rattle.handles.proofs.Meaning.{alike_decides, alike_is}
use Rattle.handle_laws.proofs.Totals.{first_none}
use Rattle.index.specs.Filed.{is_key, bears, Found}
use Rattle.index.proofs.Firsts.{fewer, first_passes}
use Rattle.index.proofs.Counted.{over, candidates_filed}

module _ (t : OwnedTable Place 1024) (lying : ℕ → Option (List ℕ)) (word : List ℕ) (hash : ℕ) where
  abbrev fits : Place → Bool
  fits x = bears lying word x.0

  pub search_none : None ≡ first_by fits (candidates t.slots hash) → Found (over t) lying word hash None
  search_none e = λ p t_bears.
      let none = first_none fits (candidates t.slots hash) (sym e) in
      let less = fewer fits (λ x. alike (place_meaning x) (p ∷ []))
      (λ x same.
      let is : x.0 ≡ p = (let q = (alike_decides (place_meaning x) (p ∷ [])).0 same in cc) in
      ap (bears lying word) is ∙ t_bears)
      (candidates t.slots hash) in
      let count = candidates_filed t hash p in
      omega arith

  pub search_some : (x : Place) → Some x ≡ first_by fits (candidates t.slots hash) → Found (over t) lying word hash (Some x.0)
  search_some x e =
      let f = first_passes fits (candidates t.slots hash) x (sym e) in
      let some = f.1 (λ y. alike (place_meaning y) (x.0 ∷ [])) ((alike_decides (place_meaning x) (x.0 ∷ [])).1 refl) in
      let count = candidates_filed t hash x.0 in
      (f.0, omega arith)

  -- what a search found, as the place's number
  pub search_found : (o : Option Place) (r : Option ℕ) (Q : Place → ℕ → Type 0) → ((x : Place) (p : ℕ) → Q x p → p ≡ x.0) → MatchOption o (r ≡ None) (λ x. IsSomeAnd r (Q x)) → o ≡ first_by fits (candidates t.slots hash) → Found (over t) lying word hash r
  search_found None r Q q m e = subst (Found (over t) lying word hash) (sym m) (search_none e)
  search_found (Some x) None Q q m e = absurd m
  search_found (Some x) (Some p) Q q m e = subst (λ (k : ℕ). Found (over t) lying word hash (Some k)) (sym (q x p m)) (search_some x e)

-- whether the key in a place is the one that is looked for
pub is_key_there : {K : Type 0} (mean : K → List ℕ) (word : List ℕ) (there : Option (List ℕ)) (o : Option K) (r : Bool) (Q : K → Type 0) → ((x : K) → Q x → Decides r (word ≡ mean x)) → MatchOption o (r ≡ false) Q → option_map mean o ≡ there → r ≡ is_key word there
is_key_there mean word there None r Q q m e = m ∙ ap (is_key word) e
is_key_there mean word there (Some x) r Q q m e = alike_is r word (mean x) (q x m) ∙ ap (is_key word) e
