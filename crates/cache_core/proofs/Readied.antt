-- The records and indexes halfway through an insertion: who left is out of the residents' index, and with Ghost if it left Small.
use Rattle.std.proofs.Common.{◌≡◌, ℕ, zero, suc, ◌+◌, ◌<◌, ◌≤◌, Bool, true, false, cond, eqb, List, [], ◌∷◌, length, take, is_some, Some, None, Option, sym, refl, ap, ◌∙◌, subst, le_of_suc-le-suc, arith, eq-eqb}
use Rattle.std.specs.Option.{option_map}
use Rattle.machine.specs.declared.report.Part.{Part}
use Rattle.machine.specs.declared.report.Part.TheVariants.{Small, Main}
use Rattle.machine.specs.Limits.{ghost_limit}
use Rattle.machine.specs.Replacement.{Parts, Vacated, vacated, seated}
use Rattle.machine_laws.proofs.Carried.{carry_vacated}
use Rattle.handles.proofs.Meaning.{alike_decides}
use Rattle.handle_laws.specs.Runs.{how_many}
use Rattle.policy.specs.Insertion.{place_at}
use Rattle.index.specs.declared.index.KeyIndex.{KeyIndex}
use Rattle.index.specs.Filed.{is_key, bears}
use Rattle.index.specs.Ties.{occurs, Ties}
use Rattle.index.proofs.Firsts.{counts_one, not_both, stands_counts}
use Rattle.index.proofs.Joined.{Alike, alike_count, same_count, ties_alike, ties_laid}
use Rattle.records.specs.declared.column.Column.{Column}
use Rattle.records.specs.declared.column.Column.TheVariants.{Resident as of_resident, Remembered as of_ghost}
use Rattle.records.specs.declared.record.Record.{Record}
use Rattle.records.specs.Columns.{key_of, key_at_lem, word_at, keyed}
use Rattle.records.proofs.Keyed.{keyed_length, key_here, key_elsewhere, resident_stays}
use Rattle.cache_core.specs.View.{places, or_empty, value_at, bare, word_in, item_at, cell_at}
use Rattle.cache_core.specs.Tied.{TiedWithin}
use Rattle.cache_core.proofs.Standing.{Orderly}
use Rattle.cache_core.proofs.Leaving.{Leaves, leaves, noted_by, from_small}
use Rattle.cache_core.proofs.Bare.{bare_noted}
use Rattle.cache_core.proofs.Arrived.{meant, arrived_plain, arrived_noted, value_keyed}
use Rattle.cache_core.proofs.Tying.{ghost_seated, somebody_left, nobody_left}
use Rattle.cache_core.proofs.Ghosts.{others, noted_nodes, same_words, ghost_room, others_fewer, others_gone}

-- the key that lies in a record
pub record There {K V : Type 0} (column : Column) (rs : List (Record K V)) (p : ℕ) : Type 0 where
  pub key : K
  pub is : key_at_lem column rs p ≡ Some key

pub there : {K V : Type 0} (column : Column) (rs : List (Record K V)) (p : ℕ) → p < length rs → There column rs p
there column [] p h = absurd (omega arith)
there column (r ∷ rs) zero h = record { key = key_of column r; is = refl }
there column (r ∷ rs) (suc p) h = let t = there column rs p (le_of_suc-le-suc h) in record { key = t.key; is = t.is }

rem_same : (limit : ℕ) (left : Option Part) (node : ℕ) (old : List ℕ) → from_small left ≡ false → noted_by limit left node old ≡ old
rem_same limit None node old e = refl
rem_same limit (Some Main) node old e = refl
rem_same limit (Some Small) node old e = absurd (not_both true refl e)

rem_noted : (limit : ℕ) (left : Option Part) (node : ℕ) (old : List ℕ) → from_small left ≡ true → noted_by limit left node old ≡ take limit (node ∷ old)
rem_noted limit None node old e = absurd (not_both false e refl)
rem_noted limit (Some Main) node old e = absurd (not_both false e refl)
rem_noted limit (Some Small) node old e = refl

small_some : (left : Option Part) → from_small left ≡ true → is_some left ≡ true
small_some None e = absurd (not_both false e refl)
small_some (Some Main) e = refl
small_some (Some Small) e = refl

less_or_same : (n m : ℕ) → n ≤ m + n
less_or_same n m = omega arith

module _ {K V : Type 0} (mean : K → List ℕ) (hashed : List ℕ → ℕ) (c node : ℕ) (known : Bool) (s : Parts ℕ ℕ ℕ) (rs : List (Record K V)) (place : ℕ) where
  abbrev pub half : Vacated ℕ ℕ ℕ
  half = vacated (λ _. node) (λ q. q) c known s

  pub record Ready (qs : List (Record K V)) (i j : KeyIndex) : Type 0 where
    pub same : (q : ℕ) → key_at_lem of_resident qs q ≡ key_at_lem of_resident rs q
    pub long : length qs ≡ length rs
    pub values : (d : V) (q : ℕ) → value_at d qs q ≡ value_at d rs q
    pub bared : bare qs ≡ bare rs
    pub residents : Ties hashed (word_at mean of_resident qs) (places half.parts) i
    pub ghosts : Ties hashed (word_at mean of_ghost qs) half.parts.remembered j
    pub counts : (x : List ℕ) → how_many (bears (word_at mean of_ghost qs) x) half.parts.remembered ≤ cond (is_some half.left) (cond (bears (word_at mean of_resident rs) x place) 1 0) 0 + how_many (bears (word_at mean of_ghost rs) x) s.remembered
    pub first : (d : V) → meant mean d c known s node rs ≡ carry_vacated (item_at mean d rs) (word_in mean of_ghost qs) (cell_at mean d rs) half

  module _ (i j : KeyIndex) (t : TiedWithin mean hashed c rs s i j) (at : place ≡ place_at half.spot) where
    out : Leaves c node s half
    out = leaves c node s known

    left_places : is_some half.left ≡ true → Alike (places s) (place ∷ places half.parts)
    left_places e = subst (λ (p : ℕ). Alike (places s) (p ∷ places half.parts)) (sym at) (somebody_left c node s half out e)

    -- nobody left Small
    pub ready_plain : (i' : KeyIndex) → from_small half.left ≡ false → Ties hashed (word_at mean of_resident rs) (places half.parts) i' → Ready rs i' j
    ready_plain i' e ti =
        let old : half.parts.remembered ≡ s.remembered = out.noted ∙ rem_same (ghost_limit c) half.left node s.remembered e in
        record {
          same = λ q. refl;
          long = refl;
          values = λ d q. refl;
          bared = refl;
          residents = ti;
          ghosts = subst (λ (ns : List ℕ). Ties hashed (word_at mean of_ghost rs) ns j) (sym old) t.remembered;
          counts = λ x.
              (let a = ap (λ (ns : List ℕ). how_many (bears (word_at mean of_ghost rs) x) ns) old in
              let b = less_or_same (how_many (bears (word_at mean of_ghost rs) x) s.remembered) (cond (is_some half.left) (cond (bears (word_at mean of_resident rs) x place) 1 0) 0) in
              omega arith);
          first = λ d. arrived_plain mean d c known s node rs e;
        }

    pub plain_some : is_some half.left ≡ true → Ties hashed (word_at mean of_resident rs) (place ∷ places half.parts) i
    plain_some e = ties_alike hashed (word_at mean of_resident rs) (places s) (place ∷ places half.parts) i (left_places e) t.residents

    pub plain_none : is_some half.left ≡ false → Ties hashed (word_at mean of_resident rs) (places half.parts) i
    plain_none e = ties_alike hashed (word_at mean of_resident rs) (places s) (places half.parts) i (nobody_left c node s half out e) t.residents

    -- the tail of Small left, and is noted
    module _ (o : Orderly c s) (after : Orderly c (seated c half place)) (within : place < length rs) (pos : 1 ≤ c) (e : from_small half.left ≡ true) (forgot : Bool) (told : occurs node s.remembered ≡ cond forgot 1 0) where
      abbrev old : List ℕ
      old = s.remembered

      room : 1 ≤ ghost_limit c
      room = ghost_room c node known s pos e

      news : (seated c half place).remembered ≡ take (ghost_limit c) (node ∷ old)
      news = ghost_seated c place half ∙ (out.noted ∙ rem_noted (ghost_limit c) half.left node old e)

      new_once : (q : ℕ) → occurs q (take (ghost_limit c) (node ∷ old)) ≤ 1
      new_once q = let a = after.noted_once q in let b = ap (occurs q) news in omega arith

      new_low : (q : ℕ) → 0 < occurs q (take (ghost_limit c) (node ∷ old)) → q < ghost_limit c
      new_low q some = after.noted_within q (let b = ap (occurs q) news in omega arith)

      head_there : (limit : ℕ) → 1 ≤ limit → 0 < occurs node (take limit (node ∷ old))
      head_there zero h = absurd (omega arith)
      head_there (suc m) h = let a = counts_one (eqb node node) (eq-eqb node node refl) in omega arith

      half_size : (n : ℕ) → ghost_limit n ≤ n
      half_size n = omega arith

      pub node_within : node < length rs
      node_within =
          let a = new_low node (head_there (ghost_limit c) room) in
          let b = half_size c in
          let z = t.sized in
          omega arith

      pub key_there : There of_resident rs place
      key_there = there of_resident rs place within

      abbrev word : List ℕ
      word = mean key_there.key

      bears_it : bears (word_at mean of_resident rs) word place ≡ true
      bears_it = ap (λ z. is_key word (option_map mean z)) key_there.is ∙ (alike_decides word word).1 refl

      pub unheard : how_many (bears (word_at mean of_ghost rs) word) old ≡ 0
      unheard =
          let a = t.alone word in
          let b = left_places (small_some half.left e) place in
          let h = counts_one (eqb place place) (eq-eqb place place refl) in
          let k = stands_counts (bears (word_at mean of_resident rs) word) (places s) place bears_it (omega arith) in
          omega arith

      pub short : length old < 768
      short = let a = o.noted_few in let b = o.low in let z = half_size c in omega arith

      module _ (qs : List (Record K V)) (i' j' : KeyIndex) (is : qs ≡ keyed of_ghost rs node key_there.key) (tj : Ties hashed (word_at mean of_ghost qs) (node ∷ others node old) j')
          (loses : (ps : List ℕ) → place < length qs → Ties hashed (word_at mean of_resident qs) (place ∷ ps) i → Ties hashed (word_at mean of_resident qs) ps i') where
        keys_same : (q : ℕ) → key_at_lem of_resident qs q ≡ key_at_lem of_resident rs q
        keys_same q = ap (λ (l : List (Record K V)). key_at_lem of_resident l q) is ∙ resident_stays rs node key_there.key q

        long_same : length qs ≡ length rs
        long_same = ap length is ∙ keyed_length of_ghost rs node key_there.key

        nodes : Alike (node ∷ others node old) half.parts.remembered
        nodes =
            subst (λ (l : List ℕ). Alike (node ∷ others node old) l) (sym (out.noted ∙ rem_noted (ghost_limit c) half.left node old e))
            (noted_nodes (ghost_limit c) node old forgot room o.noted_few o.noted_once o.noted_within told new_once new_low)

        ghost_word : (q : ℕ) → (q ≡ node → ⊥) → word_at mean of_ghost qs q ≡ word_at mean of_ghost rs q
        ghost_word q ne = ap (λ (l : List (Record K V)). word_at mean of_ghost l q) is ∙ ap (option_map mean) (key_elsewhere of_ghost rs node key_there.key q ne)

        own_word : word_at mean of_ghost qs node ≡ word_at mean of_resident rs place
        own_word =
            ap (λ (l : List (Record K V)). word_at mean of_ghost l node) is
            ∙ (ap (option_map mean) (key_here of_ghost rs node key_there.key node_within) ∙ sym (ap (option_map mean) key_there.is))

        pub ready_noted : Ready qs i' j'
        ready_noted =
            record {
              same = keys_same;
              long = long_same;
              values = λ d q. ap (λ (l : List (Record K V)). value_at d l q) is ∙ value_keyed d of_ghost rs node key_there.key q;
              bared = ap bare is ∙ bare_noted rs node key_there.key;
              residents =
                  loses (places half.parts) (let z = long_same in omega arith)
                  (ties_laid hashed (word_at mean of_resident rs) (word_at mean of_resident qs) (place ∷ places half.parts) i (λ q some. ap (option_map mean) (keys_same q)) (plain_some (small_some half.left e)));
              ghosts = ties_alike hashed (word_at mean of_ghost qs) (node ∷ others node old) half.parts.remembered j' nodes tj;
              counts = λ x.
                  (let a = alike_count (bears (word_at mean of_ghost qs) x) (node ∷ others node old) half.parts.remembered nodes in
                  let b = same_count (bears (word_at mean of_ghost qs) x) (bears (word_at mean of_ghost rs) x) (others node old)
                  (λ q some. ap (is_key x) (ghost_word q (λ same_node. let z = ap (λ (k : ℕ). occurs k (others node old)) same_node in let g = others_gone node old in absurd (omega arith)))) in
                  let d = (others_fewer (bears (word_at mean of_ghost rs) x) node old).0 in
                  let f : ◌≡◌ {A = ℕ} (cond (bears (word_at mean of_ghost qs) x node) 1 0) (cond (bears (word_at mean of_resident rs) x place) 1 0) = ap (λ z. cond (is_key x z) 1 0) own_word in
                  let g : ◌≡◌ {A = ℕ} (cond (is_some half.left) (cond (bears (word_at mean of_resident rs) x place) 1 0) 0) (cond (bears (word_at mean of_resident rs) x place) 1 0) =
                  ap (λ z. cond z (cond (bears (word_at mean of_resident rs) x place) 1 0) 0) (small_some half.left e) in
                  omega arith);
              first = λ d.
                  arrived_noted mean d c known s node rs qs e (ap or_empty own_word ∙ ap (word_in mean of_resident rs) at)
                  (same_words (ghost_limit c) node old forgot room o.noted_few o.noted_once o.noted_within told new_once new_low (word_in mean of_ghost qs) (word_in mean of_ghost rs) (λ q ne. ap or_empty (ghost_word q ne)));
            }
