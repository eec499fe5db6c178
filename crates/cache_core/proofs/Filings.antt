-- The steps of an insertion, from what the calls of index and records promise.
use Rattle.std.proofs.Common.{◌≡◌, ℕ, zero, suc, ◌<◌, Bool, true, false, cond, List, [], ◌∷◌, length, is_some, Some, None, Option, Result, sym, refl, ap, ◌∙◌, subst, inl, inr, le_of_suc-le-suc, arith}
use Rattle.std.specs.Option.{option_map}
use Rattle.std.proofs.lemmas.Bool.Decides.{leb_tells}
use Rattle.handles.specs.declared.refusal.TableRefusal.{TableRefusal}
use Rattle.index.specs.declared.index.KeyIndex.{KeyIndex}
use Rattle.handle_laws.specs.Runs.{how_many}
use Rattle.index.specs.Filed.{bears, size}
use Rattle.index.specs.Ties.{occurs, Ties, TiesOut}
use Rattle.index.proofs.Firsts.{not_both}
use Rattle.index.proofs.Joined.{ties_alike, alike_kept}
use Rattle.records.specs.declared.column.Column.{Column}
use Rattle.records.specs.declared.column.Column.TheVariants.{Resident, Remembered}
use Rattle.records.specs.declared.record.Record.{Record}
use Rattle.records.specs.Columns.{key_at_lem, word_at, keyed, Lays, TiedLay}
use Rattle.cache_core.specs.Filing.{Unfiled, Laid}
use Rattle.cache_core.proofs.Ghosts.{others, absent_kept, others_gone, others_none, others_short}

module _ {K : Type 0} (mean : K → List ℕ) (hashed : List ℕ → ℕ) where
  pub unfiled_some : (i j : KeyIndex) (key : K) (place hash : ℕ) (r : Bool) → hash ≡ hashed (mean key) → TiesOut i hash place r j → Unfiled mean hashed i (Some key) place j
  unfiled_some i j key place hash r h out = λ lying ps lies some t. (out hashed lying ps (mean key) t lies h).1

  pub unfiled_none : (i : KeyIndex) (place : ℕ) → Unfiled mean hashed i None place i
  unfiled_none i place = λ lying ps lies some t. absurd (not_both false some refl)

  module _ {V : Type 0} where
    some_key : (column : Column) (rs : List (Record K V)) (p : ℕ) → p < length rs → is_some (key_at_lem column rs p) ≡ true
    some_key column [] p h = absurd (omega arith)
    some_key column (r ∷ rs) zero h = refl
    some_key column (r ∷ rs) (suc p) h = some_key column rs p (le_of_suc-le-suc h)

    -- the key in a place taken out
    pub unfiled_key : (column : Column) (rs : List (Record K V)) (i j : KeyIndex) (key : Option K) (place : ℕ) (ps : List ℕ) → key ≡ key_at_lem column rs place → Unfiled mean hashed i key place j → place < length rs → Ties hashed (word_at mean column rs) (place ∷ ps) i → Ties hashed (word_at mean column rs) ps j
    unfiled_key column rs i j key place ps is u within t =
        u (word_at mean column rs) ps (ap (option_map mean) (sym is)) (ap is_some is ∙ some_key column rs place within) t

    -- a node with a former key, and one without
    pub frees_some : (column : Column) (rs : List (Record K V)) (i j : KeyIndex) (key : Option K) (node : ℕ) (forgot : Bool) (old : List ℕ) → forgot ≡ true → key ≡ key_at_lem column rs node → Unfiled mean hashed i key node j → node < length rs → occurs node old ≡ cond forgot 1 0 → Ties hashed (word_at mean column rs) old i → Ties hashed (word_at mean column rs) (others node old) j
    frees_some column rs i j key node forgot old did is u within told t =
        unfiled_key column rs i j key node (others node old) is u within
        (ties_alike hashed (word_at mean column rs) old (node ∷ others node old) i (alike_kept node old (told ∙ ap (λ z. cond z 1 0) did)) t)

    pub frees_none : (column : Column) (rs : List (Record K V)) (i : KeyIndex) (node : ℕ) (forgot : Bool) (old : List ℕ) → forgot ≡ false → occurs node old ≡ cond forgot 1 0 → Ties hashed (word_at mean column rs) old i → Ties hashed (word_at mean column rs) (others node old) i
    frees_none column rs i node forgot old spare told t =
        subst (λ (l : List ℕ). Ties hashed (word_at mean column rs) l i) (sym (absent_kept node old (told ∙ ap (λ z. cond z 1 0) spare))) t

    -- a key laid
    pub laid : (column : Column) (rs qs : List (Record K V)) (i j : KeyIndex) (place hash : ℕ) (key : K) (r : Result (Unit {0}) TableRefusal) → hash ≡ hashed (mean key) → Lays i rs column place hash key r j qs → TiedLay mean i rs column place hash (mean key) r j qs → Laid mean hashed column rs i place key qs j
    laid column rs qs i j place hash key r h l t = λ ps ti within gone none few.
        let d = t hashed ps ti h within gone none few in
        let w = ti.whole in
        (l.records ∙ elim (leb_tells (suc (size i)) 768) [ inl s ↦ ap (λ b. cond b (keyed column rs place key) rs) s.0 | inr s ↦ absurd (omega (arith, s.1)) ], d.1)

    -- a key laid at a node whose former key is out
    pub remembered_after :
        (rs rs' qs : List (Record K V)) (i j : KeyIndex) (place node : ℕ) (key : Option K) (old : List ℕ) (k : K) → rs' ≡ rs → key ≡ key_at_lem Resident rs' place →
        ((z : K) → key ≡ Some z → Laid mean hashed Remembered rs' i node z qs j) → key_at_lem Resident rs place ≡ Some k → Ties hashed (word_at mean Remembered rs) (others node old) i → node < length rs →
        how_many (bears (word_at mean Remembered rs) (mean k)) old ≡ 0 → length old < 768 →
        (qs ≡ keyed Remembered rs node k) × Ties hashed (word_at mean Remembered qs) (node ∷ others node old) j
    remembered_after rs rs' qs i j place node key old k e is lay named t within none few =
        subst
        (λ (z : List (Record K V)). key ≡ key_at_lem Resident z place → ((y : K) → key ≡ Some y → Laid mean hashed Remembered z i node y qs j) → (qs ≡ keyed Remembered rs node k) × Ties hashed (word_at mean Remembered qs) (node ∷ others node old) j)
        (sym e)
        (λ is_it lays. lays k (is_it ∙ named) (others node old) t within (others_gone node old) (others_none (bears (word_at mean Remembered rs) (mean k)) node old none) (others_short node 768 old few))
        is lay
