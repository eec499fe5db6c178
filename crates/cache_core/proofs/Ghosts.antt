-- The nodes of Ghost as the tail of Small is noted: the node's former key, if it had one, is the one that Ghost loses.
use Rattle.std.proofs.Common.{◌≡◌, ℕ, zero, suc, ◌+◌, ◌<◌, ◌≤◌, Bool, true, false, cond, not, ◌&&◌, ◌||◌, eqb, leb, List, [], ◌∷◌, map, length, take, drop, filter, sym, refl, ap, ◌∙◌, inl, inr, arith, eq-eqb}
use Rattle.std.proofs.lemmas.Bool.Decides.{eqb_tells}
use Rattle.machine.specs.Limits.{small_limit, ghost_limit}
use Rattle.machine.specs.Replacement.{Parts, Plan, grow, evict_main, promote_tail, evict_tail, plan, plan_of, to_main, vacancy, main_full, is_tail_used, carried_out, vacated, sweep, ended}
use Rattle.handle_laws.specs.Runs.{how_many}
use Rattle.index.specs.Ties.{occurs}
use Rattle.index.proofs.Firsts.{counts_one, not_both}
use Rattle.index.proofs.Joined.{Alike, alike_kept, counts_none}
use Rattle.cache_core.proofs.Leaving.{from_small, main_not, promoted_not, popped_none, ft}
use Rattle.cache_core.proofs.Tying.{pigeon}

-- what Ghost has of its former nodes once the node is taken out
abbrev pub others : ℕ → List ℕ → List ℕ
others node old = filter (λ q. not (eqb q node)) old

-- at most m of a list in front, and the rest
split_counts : (q m : ℕ) (xs : List ℕ) → occurs q xs ≡ occurs q (take m xs) + occurs q (drop m xs)
split_counts q zero xs = omega arith
split_counts q (suc m) [] = refl
split_counts q (suc m) (x ∷ xs) = let ih = split_counts q m xs in omega arith

take_all : (m : ℕ) (xs : List ℕ) → length xs ≤ m → take m xs ≡ xs
take_all zero [] h = refl
take_all zero (x ∷ xs) h = absurd (omega arith)
take_all (suc m) [] h = refl
take_all (suc m) (x ∷ xs) h = ap (λ (l : List ℕ). x ∷ l) (take_all m xs (omega arith))

-- of at most m and one, the one past the first m
last_one : (m : ℕ) (xs : List ℕ) (node : ℕ) → length xs ≤ suc m → 0 < occurs node (drop m xs) → drop m xs ≡ node ∷ []
last_one zero [] node h some = absurd (omega arith)
last_one zero (x ∷ []) node h some =
    elim (eqb_tells node x) [ inl e ↦ ap (λ (k : ℕ). k ∷ []) (sym e.1) | inr e ↦ absurd (let z = counts_none (eqb node x) e.0 in omega arith) ]
last_one zero (x ∷ y ∷ xs) node h some = absurd (omega arith)
last_one (suc m) [] node h some = absurd (omega arith)
last_one (suc m) (x ∷ xs) node h some = last_one m xs node (omega arith) some

pub absent_kept : (node : ℕ) (xs : List ℕ) → occurs node xs ≡ 0 → others node xs ≡ xs
absent_kept node [] none = refl
absent_kept node (x ∷ xs) none =
    elim (eqb_tells x node) [
      | inl e ↦ absurd (let a = counts_one (eqb node x) (eq-eqb node x (sym e.1)) in omega arith)
      | inr e ↦
          ap (λ b. cond (not b) (x ∷ others node xs) (others node xs)) e.0
          ∙ ap (λ (l : List ℕ). x ∷ l) (absent_kept node xs (omega arith))
    ]

-- what stays of Ghost's former nodes is what the limit lets stand
module _ (limit node : ℕ) (old : List ℕ) (forgot : Bool) (some : 1 ≤ limit) (few : length old ≤ limit) (once : (q : ℕ) → occurs q old ≤ 1) (low : (q : ℕ) → 0 < occurs q old → q < limit)
    (told : occurs node old ≡ cond forgot 1 0) (after : (q : ℕ) → occurs q (take limit (node ∷ old)) ≤ 1) (near : (q : ℕ) → 0 < occurs q (take limit (node ∷ old)) → q < limit) where
  pub stays : (m : ℕ) → limit ≡ suc m → (take limit (node ∷ old) ≡ node ∷ take m old) × (occurs node (take m old) ≡ 0)
  stays m e =
      let a : take limit (node ∷ old) ≡ node ∷ take m old = ap (λ (k : ℕ). take k (node ∷ old)) e in
      let b = ap (occurs node) a in
      let c = after node in
      let h = counts_one (eqb node node) (eq-eqb node node refl) in
      (a, omega arith)

  rest_is : (m : ℕ) → limit ≡ suc m → (b : Bool) → forgot ≡ b → Alike (others node old) (take m old)
  rest_is m e true f = λ q.
      let one : occurs node old ≡ 1 = told ∙ ap (λ z. cond z 1 0) f in
      let k = alike_kept node old one q in
      let gone = (stays m e).1 in
      let sn = split_counts node m old in
      let sq = split_counts q m old in
      let last = last_one m old node (omega arith) (omega arith) in
      let lq : occurs q (drop m old) ≡ occurs q (node ∷ []) = ap (occurs q) last in
      omega arith
  rest_is m e false f = λ q.
      let none : occurs node old ≡ 0 = told ∙ ap (λ z. cond z 1 0) f in
      let h = counts_one (eqb node node) (eq-eqb node node refl) in
      let st = stays m e in
      let head : 0 < occurs node (take limit (node ∷ old)) = (let b = ap (occurs node) st.0 in omega arith) in
      let below = near node head in
      let many = pigeon limit (node ∷ old)
      (λ p.
      elim (eqb_tells p node) [
        | inl i ↦ (let z = ap (λ (k : ℕ). occurs k old) i.1 in let o = counts_one (eqb p node) i.0 in omega arith)
        | inr i ↦ (let z = counts_none (eqb p node) i.0 in let o = once p in omega arith)
      ])
      (λ p there.
      elim (eqb_tells p node) [
        | inl i ↦ (let z = i.1 in omega arith)
        | inr i ↦ (let z = counts_none (eqb p node) i.0 in low p (omega arith))
      ]) in
      let whole = ap (occurs q) (take_all m old (omega arith)) in
      let kept = ap (occurs q) (absent_kept node old none) in
      omega arith

  -- the node and what is left of the former ones are Ghost's nodes after
  pub noted_nodes : Alike (node ∷ others node old) (take limit (node ∷ old))
  noted_nodes = go limit refl
    where
      go : (k : ℕ) → limit ≡ k → Alike (node ∷ others node old) (take limit (node ∷ old))
      go zero e = absurd (omega arith)
      go (suc m) e = λ q.
          (let a = rest_is m e forgot refl q in
          let b = ap (occurs q) (stays m e).0 in
          omega arith)

  -- words that differ at the node alone are alike in what stays
  pub same_words : {G : Type 0} (f g : ℕ → G) → ((q : ℕ) → (q ≡ node → ⊥) → f q ≡ g q) → (x : G) → take limit (x ∷ map f old) ≡ take limit (x ∷ map g old)
  same_words {G} f g same x = go limit refl
    where
      fronts : (m : ℕ) (xs : List ℕ) → occurs node (take m xs) ≡ 0 → take m (map f xs) ≡ take m (map g xs)
      fronts zero xs none = refl
      fronts (suc m) [] none = refl
      fronts (suc m) (y ∷ ys) none =
          let a : f y ≡ g y =
          same y (λ e. let o = counts_one (eqb node y) (eq-eqb node y (sym e)) in absurd (omega arith)) in
          let b = fronts m ys (omega arith) in
          cc

      go : (k : ℕ) → limit ≡ k → take limit (x ∷ map f old) ≡ take limit (x ∷ map g old)
      go zero e = absurd (omega arith)
      go (suc m) e =
          ap (λ (k : ℕ). take k (x ∷ map f old)) e
          ∙ (ap (λ (l : List G). x ∷ l) (fronts m old (stays m e).1)
          ∙ ap (λ (k : ℕ). take k (x ∷ map g old)) (sym e))

-- ## Small's tail leaves only where Ghost has room for a key

plan_small : (a b m t : Bool) → plan a b m t ≡ evict_tail → a ≡ false
plan_small true b true t e = absurd (let z : ◌≡◌ {A = ℕ} 0 1 = cc in omega arith)
plan_small true b false t e = absurd (let z : ◌≡◌ {A = ℕ} 0 1 = cc in omega arith)
plan_small false b m t e = refl

or_parts : (a b c : Bool) → (a || (b || c)) ≡ false → b ≡ false
or_parts true b c e = absurd (not_both true refl e)
or_parts false true c e = absurd (not_both true refl e)
or_parts false false c e = refl

way_small : (c : ℕ) (note : ℕ → ℕ) (s : Parts ℕ ℕ ℕ) (way : Plan) → from_small (carried_out note (λ q. q) c way s).left ≡ true → way ≡ evict_tail
way_small c note s (grow part) e = ft (sym (popped_none (λ (q : ℕ). q) c s part s.free) ∙ e)
way_small c note s evict_main e = ft (sym (main_not (λ q. q) c s note [] (sweep s.main)) ∙ e)
way_small c note s promote_tail e = ft (sym (promoted_not (λ q. q) c s note [] (ended s.small) (sweep s.main)) ∙ e)
way_small c note s evict_tail e = refl

some_small : (c : ℕ) → 1 ≤ c → eqb (small_limit c) 0 ≡ false → 1 ≤ ghost_limit c
some_small zero h e = absurd (omega arith)
some_small (suc zero) h e = absurd (not_both true refl e)
some_small (suc (suc c)) h e = omega arith

pub ghost_room : (c node : ℕ) (known : Bool) (s : Parts ℕ ℕ ℕ) → 1 ≤ c → from_small (vacated (λ _. node) (λ q. q) c known s).left ≡ true → 1 ≤ ghost_limit c
ghost_room c node known s h e =
    let way = way_small c (λ _. node) s (plan_of c known s) e in
    let to = plan_small (to_main c known s) (vacancy c s) (main_full c s) (is_tail_used (ended s.small)) way in
    some_small c h (or_parts known (eqb (small_limit c) 0) (vacancy c s && leb (small_limit c) (length s.small)) to)

-- ## What is left once a node is taken out

pub others_gone : (node : ℕ) (xs : List ℕ) → occurs node (others node xs) ≡ 0
others_gone node [] = refl
others_gone node (x ∷ xs) =
    elim (eqb_tells x node) [
      | inl e ↦ ap (λ b. occurs node (cond (not b) (x ∷ others node xs) (others node xs))) e.0 ∙ others_gone node xs
      | inr e ↦
          ap (λ b. occurs node (cond (not b) (x ∷ others node xs) (others node xs))) e.0
          ∙ (let ih = others_gone node xs in
          let z : eqb node x ≡ false = (elim (eqb_tells node x) [ inl f ↦ absurd (e.1 (sym f.1)) | inr f ↦ f.0 ]) in
          let n = counts_none (eqb node x) z in
          let all : occurs node (x ∷ others node xs) ≡ 0 = omega arith in
          all)
    ]

pub others_fewer : (f : ℕ → Bool) (node : ℕ) (xs : List ℕ) → (how_many f (others node xs) ≤ how_many f xs) × (length (others node xs) ≤ length xs)
others_fewer f node [] = (omega arith, omega arith)
others_fewer f node (x ∷ xs) =
    let ih = others_fewer f node xs in
    elim (eqb x node) as (λ b. (how_many f (cond (not b) (x ∷ others node xs) (others node xs)) ≤ how_many f (x ∷ xs)) × (length (cond (not b) (x ∷ others node xs) (others node xs)) ≤ length (x ∷ xs))) [
      | true ↦ (omega (arith, ih.0), omega (arith, ih.1))
      | false ↦ (omega (arith, ih.0), omega (arith, ih.1))
    ]

pub others_none : (f : ℕ → Bool) (node : ℕ) (xs : List ℕ) → how_many f xs ≡ 0 → how_many f (others node xs) ≡ 0
others_none f node xs none = let a = (others_fewer f node xs).0 in omega arith

pub others_short : (node n : ℕ) (xs : List ℕ) → length xs < n → length (others node xs) < n
others_short node n xs lt = let a = (others_fewer (λ _. true) node xs).1 in omega arith
