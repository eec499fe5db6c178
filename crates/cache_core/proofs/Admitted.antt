-- An insertion through policy, indexes and records is the machine's, and the indexes stay tied.
use Rattle.std.proofs.Common.{◌≡◌, ℕ, ◌<◌, ◌≤◌, Bool, true, false, cond, eqb, List, ◌∷◌, length, is_some, Some, None, Option, sym, refl, ap, ◌∙◌, subst, arith, eq-eqb}
use Rattle.std.specs.Option.{option_map}
use Rattle.machine.specs.declared.report.Part.{Part}
use Rattle.machine.specs.declared.report.Part.TheVariants.{Small, Main}
use Rattle.machine.specs.Replacement.{Parts, Vacated, vacated, seated}
use Rattle.machine.specs.Machine.{Item, Cell, same, lays, lying, settled, report_of, place_of}
use Rattle.handle_laws.specs.Runs.{how_many}
use Rattle.ghosts.specs.declared.noted.Noted.{Noted}
use Rattle.policy.specs.declared.plan.Inserted.{Inserted}
use Rattle.policy.specs.Insertion.{place_at, node_of, Told}
use Rattle.index.specs.declared.index.KeyIndex.{KeyIndex}
use Rattle.index.specs.Filed.{is_key, bears}
use Rattle.index.specs.Ties.{occurs, Ties}
use Rattle.handles.specs.Seek.{first_by}
use Rattle.handles.proofs.Meaning.{alike_decides}
use Rattle.index.proofs.Firsts.{counts_one, first_only, stands_counts}
use Rattle.index.proofs.Joined.{alike_length, same_count, ties_laid}
use Rattle.records.specs.declared.column.Column.TheVariants.{Resident as of_resident, Remembered as of_ghost}
use Rattle.records.specs.declared.record.Record.{Record}
use Rattle.records.specs.Columns.{key_at_lem, word_at, keyed}
use Rattle.records.proofs.Keyed.{keyed_length, key_here, key_elsewhere, remembered_stays}
use Rattle.cache_core.specs.declared.inner.Inner.{Inner}
use Rattle.cache_core.specs.View.{places, or_empty, value_at, bare, rekeyed, word_in, item_at, cell_at, seen}
use Rattle.cache_core.specs.Tied.{TiedWithin}
use Rattle.cache_core.specs.Filing.{Laid}
use Rattle.cache_core.specs.Departing.{Departs}
use Rattle.cache_core.proofs.Looked.{same_bears}
use Rattle.cache_core.proofs.Settled.{settles}
use Rattle.cache_core.proofs.Standing.{Orderly, same_occurs}
use Rattle.cache_core.proofs.Leaving.{leaves, from_small}
use Rattle.cache_core.proofs.Bare.{bare_keyed}
use Rattle.cache_core.proofs.Spots.{spotted, lies_at}
use Rattle.cache_core.proofs.Arrived.{meant, arrived, place_carried, value_keyed, word_laid, ghost_keyed}
use Rattle.cache_core.proofs.Tying.{places_seated, nobodys, count_left, tied_after}
use Rattle.cache_core.proofs.Readied.{half, Ready, ready_plain, plain_some, plain_none, ready_noted, node_within, key_there, unheard, short}

module _ {K V : Type 0} (mean : K → List ℕ) (hashed : List ℕ → ℕ) (c : ℕ) (known : Bool) (s : Parts ℕ ℕ ℕ) (place : ℕ) where
  -- halfway, from what the departure did
  pub readied :
      (x y : Inner K V) (noted : Option Noted) (left : Option Part) → TiedWithin mean hashed c x.records.now s x.residents x.remembered → Orderly c s → 1 ≤ c →
      place ≡ place_at (vacated (λ _. node_of noted) (λ q. q) c known s).spot → Orderly c (seated c (vacated (λ _. node_of noted) (λ q. q) c known s) place) → place < length x.records.now →
      left ≡ (vacated (λ _. node_of noted) (λ q. q) c known s).left → Told s.remembered left noted → Departs mean hashed x place noted left y →
      Ready mean hashed c (node_of noted) known s x.records.now place y.records.now y.residents y.remembered
  readied x y (Some n) (Some Small) t o pos at after within is told dep =
      let rs = x.records.now in
      let node = n.node in
      let e : from_small (vacated (λ _. node) (λ q. q) c known s).left ≡ true = ap from_small (sym is) in
      let once : occurs node s.remembered ≡ cond n.forgot 1 0 = sym (same_occurs node s.remembered) ∙ told in
      let k = key_there mean hashed c node known s rs place x.residents x.remembered t at o after within pos e n.forgot once in
      let low = node_within mean hashed c node known s rs place x.residents x.remembered t at o after within pos e n.forgot once in
      let new = unheard mean hashed c node known s rs place x.residents x.remembered t at o after within pos e n.forgot once in
      let few = short mean hashed c node known s rs place x.residents x.remembered t at o after within pos e n.forgot once in
      let laid = dep.1.0 s.remembered k.key low once k.is new few t.remembered in
      ready_noted mean hashed c node known s rs place x.residents x.remembered t at o after within pos e n.forgot once y.records.now y.residents y.remembered laid.0 laid.1 dep.1.1
  readied x y (Some n) (Some Main) t o pos at after within is told dep = absurd told
  readied x y (Some n) None t o pos at after within is told dep = absurd told
  readied x y None (Some Small) t o pos at after within is told dep = absurd told
  readied x y None (Some Main) t o pos at after within is told dep =
      let rs = x.records.now in
      let e : from_small (vacated (λ _. 0) (λ q. q) c known s).left ≡ false = ap from_small (sym is) in
      let some : is_some (vacated (λ _. 0) (λ q. q) c known s).left ≡ true = ap is_some (sym is) in
      let ti = dep.1 (places (vacated (λ _. 0) (λ q. q) c known s).parts) within (plain_some mean hashed c 0 known s rs place x.residents x.remembered t at some) in
      subst (λ (j : KeyIndex). Ready mean hashed c 0 known s rs place y.records.now y.residents j) (sym dep.0.1.1)
      (subst (λ (qs : List (Record K V)). Ready mean hashed c 0 known s rs place qs y.residents x.remembered) (sym dep.0.0)
      (ready_plain mean hashed c 0 known s rs place x.residents x.remembered t at y.residents e ti))
  readied x y None None t o pos at after within is told dep =
      let rs = x.records.now in
      let e : from_small (vacated (λ _. 0) (λ q. q) c known s).left ≡ false = ap from_small (sym is) in
      let none : is_some (vacated (λ _. 0) (λ q. q) c known s).left ≡ false = ap is_some (sym is) in
      let ti = plain_none mean hashed c 0 known s rs place x.residents x.remembered t at none in
      subst (λ (j : KeyIndex). Ready mean hashed c 0 known s rs place y.records.now y.residents j) (sym dep.0.1.1)
      (subst (λ (qs : List (Record K V)). Ready mean hashed c 0 known s rs place qs y.residents x.remembered) (sym dep.0.0)
      (subst (λ (i : KeyIndex). Ready mean hashed c 0 known s rs place rs i x.remembered) (sym dep.1)
      (ready_plain mean hashed c 0 known s rs place x.residents x.remembered t at x.residents e ti)))

  module _ (node : ℕ) (rs : List (Record K V)) (i j : KeyIndex) (key : K) (t : TiedWithin mean hashed c rs s i j) (at : place ≡ place_at (half mean hashed c node known s rs place).spot) (after : Orderly c (seated c (half mean hashed c node known s rs place) place)) (within : place < length rs)
      (no_resident : how_many (bears (word_at mean of_resident rs) (mean key)) (places s) ≡ 0) (no_ghost : how_many (bears (word_at mean of_ghost rs) (mean key)) s.remembered ≡ 0)
      (qs qs' : List (Record K V)) (i' j' i'' : KeyIndex) (ready : Ready mean hashed c node known s rs place qs i' j') (lay : Laid mean hashed of_resident qs i' place key qs' i'') where
    abbrev v : Vacated ℕ ℕ ℕ
    v = vacated (λ _. node) (λ q. q) c known s

    abbrev laid : List (Record K V)
    laid = keyed of_resident qs place key

    within_qs : place < length qs
    within_qs = let a = ready.long in omega arith

    nobody : occurs place (places v.parts) ≡ 0
    nobody = nobodys c c place v after

    apart : (q : ℕ) → 0 < occurs q (places v.parts) → q ≡ place → ⊥
    apart q some e = let a = ap (λ (k : ℕ). occurs k (places v.parts)) e in let b = nobody in omega arith

    new_word : how_many (bears (word_at mean of_resident qs) (mean key)) (places v.parts) ≡ 0
    new_word =
        let a = same_count (bears (word_at mean of_resident qs) (mean key)) (bears (word_at mean of_resident rs) (mean key)) (places v.parts) (λ q some. ap (λ z. is_key (mean key) (option_map mean z)) (ready.same q)) in
        let b = count_left c node s v (leaves c node s known) (bears (word_at mean of_resident rs) (mean key)) in
        omega arith

    few : length (places v.parts) < 768
    few =
        let a = alike_length (place ∷ places v.parts) (places (seated c v place)) (places_seated c place v) in
        let b = after.few in
        omega arith

    done : (qs' ≡ laid) × Ties hashed (word_at mean of_resident qs') (place ∷ places v.parts) i''
    done = lay (places v.parts) ready.residents within_qs nobody new_word few

    key_same : (q : ℕ) → 0 < occurs q (places v.parts) → key_at_lem of_resident laid q ≡ key_at_lem of_resident rs q
    key_same q some = key_elsewhere of_resident qs place key q (apart q some) ∙ ready.same q

    laid_tied : TiedWithin mean hashed c laid (seated c v place) i'' j'
    laid_tied =
        tied_after mean hashed c node place s v (leaves c node s known) at rs laid i j i'' j' (mean key) t
        (keyed_length of_resident qs place key ∙ ready.long) no_resident no_ghost
        (λ q some. ap (option_map mean) (key_same q some)) (ap (option_map mean) (key_here of_resident qs place key within_qs))
        (subst (λ (l : List (Record K V)). Ties hashed (word_at mean of_resident l) (place ∷ places v.parts) i'') done.0 done.1)
        (ties_laid hashed (word_at mean of_ghost qs) (word_at mean of_ghost laid) v.parts.remembered j' (λ q some. ap (option_map mean) (remembered_stays qs place key q)) ready.ghosts)
        (λ x.
        let a = same_count (bears (word_at mean of_ghost laid) x) (bears (word_at mean of_ghost qs) x) v.parts.remembered (λ q some. ap (λ z. is_key x (option_map mean z)) (remembered_stays qs place key q)) in
        let b = ready.counts x in
        omega arith)

    pub admitted_tied : TiedWithin mean hashed c qs' (seated c v place) i'' j'
    admitted_tied = subst (λ (l : List (Record K V)). TiedWithin mean hashed c l (seated c v place) i'' j') (sym done.0) laid_tied

    -- the newcomer is found in its place
    pub admitted_resides : Some place ≡ first_by (bears (word_at mean of_resident qs') (mean key)) (places (seated c v place))
    admitted_resides =
        let its : word_at mean of_resident qs' place ≡ Some (mean key) =
        ap (λ (l : List (Record K V)). word_at mean of_resident l place) done.0 ∙ ap (option_map mean) (key_here of_resident qs place key within_qs) in
        let b : bears (word_at mean of_resident qs') (mean key) place ≡ true = ap (is_key (mean key)) its ∙ (alike_decides (mean key) (mean key)).1 refl in
        let a = places_seated c place v place in
        let h = counts_one (eqb place place) (eq-eqb place place refl) in
        first_only (bears (word_at mean of_resident qs') (mean key)) (places (seated c v place)) place b (omega arith) (admitted_tied.residents.apart (mean key))

    pub admitted_state : (d : V) → seen mean d qs' (seated c v place) ≡ settled c (mean key) (value_at d rs place) (meant mean d c known s node rs)
    admitted_state d =
        ap (λ (l : List (Record K V)). seen mean d l (seated c v place)) done.0
        ∙ arrived mean d c known s node rs qs laid place (mean key) at (ready.first d)
        (λ q some. ap (λ z. or_empty (option_map mean z)) (key_same q some))
        (ghost_keyed mean qs place key)
        (λ q. value_keyed d of_resident qs place key q ∙ ready.values d q)
        (word_laid mean of_resident qs place key within_qs)

    pub admitted_bare : bare qs' ≡ rekeyed place key (bare rs)
    admitted_bare = ap bare done.0 ∙ (bare_keyed qs place key ∙ ap (rekeyed place key) ready.bared)

    -- what a claim finds in its place
    pub admitted_lies : Orderly c s → (d given : V) → lying given (meant mean d c known s node rs).spot ≡ cond (eqb place s.opened) given (value_at d rs place)
    admitted_lies o d given =
        ap (λ (a : Vacated (Item V) (List ℕ) (Cell V)). lying given a.spot) (ready.first d)
        ∙ lies_at (cell_at mean d rs) given s.opened place v.spot at (spotted c node s o known)

    -- no other resident has the newcomer's key
    differs : (q : ℕ) → 0 < occurs q (places v.parts) → same (mean key) (word_in mean of_resident rs q) ≡ false
    differs q some =
        let a = places_seated c place v q in
        let low = after.within q (omega arith) in
        let top = after.opened in
        let z = t.sized in
        same_bears mean of_resident rs (mean key) q (omega arith) ∙ lacks (bears (word_at mean of_resident rs) (mean key) q) refl
      where
        lacks : (b : Bool) → bears (word_at mean of_resident rs) (mean key) q ≡ b → b ≡ false
        lacks false h = refl
        lacks true h =
            absurd (let k = stands_counts (bears (word_at mean of_resident rs) (mean key)) (places v.parts) q h some in
            let b = count_left c node s v (leaves c node s known) (bears (word_at mean of_resident rs) (mean key)) in
            omega arith)

    -- and with a value laid in its place, it is seated with that value
    pub admitted_settles : (d x : V) → lays (mean key) x (seen mean d qs' (seated c v place)) ≡ settled c (mean key) x (meant mean d c known s node rs)
    admitted_settles d x =
        ap (lays (mean key) x) (admitted_state d)
        ∙ (ap (λ (a : Vacated (Item V) (List ℕ) (Cell V)). lays (mean key) x (settled c (mean key) (value_at d rs place) a)) (ready.first d)
        ∙ (settles (mean key) x (item_at mean d rs) (word_in mean of_ghost qs) (cell_at mean d rs) c (value_at d rs place) v differs
        ∙ ap (settled c (mean key) x) (sym (ready.first d))))

    -- what the report tells
    pub admitted_report : (d : V) (r : Inserted) → r.place ≡ place → r.joined ≡ v.joins → r.vacancy.left ≡ v.left → r.vacancy.chances ≡ v.chances → report_of (meant mean d c known s node rs) ≡ record { place = r.place; joined = r.joined; left = r.vacancy.left; chances = r.vacancy.chances }
    admitted_report d r at_place joins left chances =
        let f = ready.first d in
        let a : place_of (meant mean d c known s node rs).spot ≡ r.place =
        ap (λ (z : Vacated (Item V) (List ℕ) (Cell V)). place_of z.spot) f ∙ (place_carried mean d c known s node (cell_at mean d rs) (λ q. refl) v.spot ∙ (sym at ∙ sym at_place)) in
        let b : (meant mean d c known s node rs).joins ≡ r.joined = ap (λ (z : Vacated (Item V) (List ℕ) (Cell V)). z.joins) f ∙ sym joins in
        let e : (meant mean d c known s node rs).left ≡ r.vacancy.left = ap (λ (z : Vacated (Item V) (List ℕ) (Cell V)). z.left) f ∙ sym left in
        let h : (meant mean d c known s node rs).chances ≡ r.vacancy.chances = ap (λ (z : Vacated (Item V) (List ℕ) (Cell V)). z.chances) f ∙ sym chances in
        λ k. record { place = a k; joined = b k; left = e k; chances = h k }
