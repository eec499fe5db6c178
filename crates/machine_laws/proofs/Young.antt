-- Where Small has room for one, its resident is always young, so no use hits it late.
use Rattle.std.proofs.Common.{◌≡◌, ℕ, ◌/◌, ◌≤◌, max, Bool, true, false, cond, not, ◌||◌, eqb, leb, List, [], ◌∷◌, map, length, Some, None, Ok, Err, Option, Result, sym, refl, ap, ◌∙◌, subst, arith}
use Rattle.std.specs.List.{AllByRecursion}
use Rattle.std.proofs.ByRecursion.{All-map, All-weaker, all_kept_by}
use Rattle.std.proofs.lemmas.Bool.{leb-true, true≢false}
use Rattle.loaders.specs.declared.fault.Fault.{Fault}
use Rattle.machine.specs.declared.report.Part.TheVariants.{Small, Main}
use Rattle.machine.specs.declared.call.Call.TheVariants.{Contains, Peek, Get, GetAt, Put, Fetch, WriteAt, Remove, Retain, Clear}
use Rattle.machine.specs.Limits.{window}
use Rattle.machine.specs.Replacement.{Mark, young, Resident, Swept, Ended, Vacated, hit, hit_if, is_used, is_tail_used, sweep, ended, vacancy, to_main, main_full, forgets, popped, plan, carried_out, main_evicted, tail_promoted, tail_evicted}
use Rattle.machine.specs.Machine.{Word, Item, Cell, State, Order, Asked, same, has, is_at, look, in_place, relaid, cell_of, arrival, settled, got, written, removed, put_on, loaded_on, fetch_on, unless, step}
use Rattle.machine.specs.Run.{word_of, state_after, history}
use Rattle.machine_laws.specs.Words.{newcomers, since, enters_small, hit_late}
use Rattle.machine_laws.proofs.Keys.{same_true}
use Rattle.machine_laws.proofs.Residents.{words, all_both}
use Rattle.machine_laws.proofs.Leaves.{small_late}
use Rattle.machine_laws.proofs.Seats.{older}
use Rattle.machine_laws.proofs.Sound.{InSmall}
use Rattle.machine_laws.proofs.Steps.{sound_after, lawful_next}

one_in_small : (c : ℕ) (b : Bool) → leb c 1 ≡ b → 2 ≤ c → c ≤ 19 → cond b 0 (max (c / 10) 1) ≡ 1
one_in_small c true e two nineteen = let l = leb-true c 1 e in absurd (omega arith)
one_in_small c false e two nineteen = omega arith

hit_young : (b : Bool) (m : Mark) → m ≡ young 0 → hit_if b m ≡ young 0
hit_young true m e = subst (λ (n : Mark). hit_if true n ≡ young 0) (sym e) refl
hit_young false m e = e

module _ {V : Type 0} where
  abbrev Young : Resident (Item V) → Type 0
  Young r = r.mark ≡ young 0

  uses_young : (at : Item V → Bool) (xs : List (Resident (Item V))) → AllByRecursion Young xs → AllByRecursion Young (map (hit at) xs)
  uses_young at xs p = All-map Young (hit at) xs (All-weaker Young (λ r. Young (hit at r)) (λ r e. hit_young (at r.item) r.mark e) xs p)

  lays_young : (k : Word) (v : V) (xs : List (Resident (Item V))) → AllByRecursion Young xs → AllByRecursion Young (map (relaid k v) xs)
  lays_young k v xs p = All-map Young (relaid k v) xs p

  -- a newcomer that has Small for itself
  alone_young :
      (c : ℕ) (k : Word) (v : V) (place : ℕ) (xs : List (Resident (Item V))) →
      let new : Resident (Item V) = record { item = record { word = k; place = place; value = v }; mark = young 0 } in
      length (new ∷ map (older c) xs) ≤ 1 → AllByRecursion Young (new ∷ map (older c) xs)
  alone_young c k v place [] l = (refl, tt)
  alone_young c k v place (x ∷ xs) l = absurd (omega arith)

  module _ (c : ℕ) (k : Word) (v : V) (s : State V) (p : AllByRecursion Young s.small) where
    abbrev gone : State V
    gone = forgets (same k) s

    abbrev Seats : Vacated (Item V) Word (Cell V) → Type 0
    Seats va = length (settled c k v va).small ≤ 1 → AllByRecursion Young (settled c k v va).small

    popped_small : (fs : List (Cell V)) → Seats (popped Small gone fs)
    popped_small [] l = alone_young c k v s.opened s.small l
    popped_small (f ∷ fs) l = alone_young c k v f.place s.small l

    popped_main : (fs : List (Cell V)) → Seats (popped Main gone fs)
    popped_main [] l = p
    popped_main (f ∷ fs) l = p

    evicted_main : (o : Option (Swept (Item V))) → Seats (main_evicted (λ i. i.word) cell_of c gone o)
    evicted_main None l = popped_main s.free l
    evicted_main (Some w) l = p

    promoted : (o : Option (Ended (Resident (Item V)))) (w : Option (Swept (Item V))) → Seats (tail_promoted (λ i. i.word) cell_of c gone o w)
    promoted None w l = popped_small s.free l
    promoted (Some e) None l = popped_small s.free l
    promoted (Some e) (Some w) l = alone_young c k v w.victim.item.place e.front l

    evicted_tail : (o : Option (Ended (Resident (Item V)))) → Seats (tail_evicted (λ i. i.word) cell_of c gone o)
    evicted_tail None l = popped_small s.free l
    evicted_tail (Some e) l = alone_young c k v e.tail.item.place e.front l

    by_plan : (to room full hits : Bool) → Seats (carried_out (λ i. i.word) cell_of c (plan to room full hits) gone)
    by_plan true room true hits = evicted_main (sweep s.main)
    by_plan true room false hits = popped_main s.free
    by_plan false true full hits = popped_small s.free
    by_plan false false full true = promoted (ended s.small) (sweep s.main)
    by_plan false false full false = evicted_tail (ended s.small)

    settled_young : Seats (arrival c k s)
    settled_young = by_plan (to_main c (has k s.remembered) gone) (vacancy c s) (main_full c s) (is_tail_used (ended s.small))

  module _ (c : ℕ) (loader : Word → Result V Fault) (order : Order V) (s : State V) (p : AllByRecursion Young s.small) where
    got_young : (k : Word) (o : Option (Item V)) → AllByRecursion Young (got s k o).0.small
    got_young k None = p
    got_young k (Some i) = uses_young (is_at k) s.small p

    written_young : (q : ℕ) (k : Word) (v : V) (o : Option (Item V)) → AllByRecursion Young (written s q k v o).0.small
    written_young q k v None = p
    written_young q k v (Some i) = lays_young k v s.small p

    removed_young : (k : Word) (o : Option (Item V)) → AllByRecursion Young (removed s k o).0.small
    removed_young k None = p
    removed_young k (Some i) = all_kept_by (λ r. not (is_at k r.item)) Young s.small p

    put_young : (k : Word) (v : V) (b : Bool) (o : Option (Item V)) → length (unless b s (put_on c s k v o)).0.small ≤ 1 → AllByRecursion Young (unless b s (put_on c s k v o)).0.small
    put_young k v true o l = p
    put_young k v false None l = settled_young c k v s p l
    put_young k v false (Some i) l = lays_young k v (map (hit (is_at k)) s.small) (uses_young (is_at k) s.small p)

    loaded_young : (k : Word) (o : Result V Fault) → length (loaded_on c s k o).0.small ≤ 1 → AllByRecursion Young (loaded_on c s k o).0.small
    loaded_young k (Err f) l = p
    loaded_young k (Ok v) l = settled_young c k v s p l

    fetch_young : (k : Word) (b : Bool) (o : Option (Item V)) → length (unless b s (fetch_on c loader s k o)).0.small ≤ 1 → AllByRecursion Young (unless b s (fetch_on c loader s k o)).0.small
    fetch_young k true o l = p
    fetch_young k false None l = loaded_young k (loader k) l
    fetch_young k false (Some i) l = uses_young (is_at k) s.small p

    step_young : (x : Asked V) → length (step c loader order s x).0.small ≤ 1 → AllByRecursion Young (step c loader order s x).0.small
    step_young (Contains k) l = p
    step_young (Peek k) l = p
    step_young (Get k) l = got_young k (look k s)
    step_young (GetAt q k) l = got_young k (in_place q (look k s))
    step_young (Put k v) l = put_young k v (eqb c 0) (look k s) l
    step_young (Fetch k) l = fetch_young k (eqb c 0) (look k s) l
    step_young (WriteAt q k v) l = written_young q k v (in_place q (look k s))
    step_young (Remove k) l = removed_young k (look k s)
    step_young (Retain keeps) l = all_kept_by (λ r. not (not (keeps r.item.word r.item.value))) Young s.small p
    step_young Clear l = tt

  module _ (c : ℕ) (pos : 1 ≤ c) (two : 2 ≤ c) (nineteen : c ≤ 19) (loader : Word → Result V Fault) (order : Order V) where
    young_after : (calls : List (Asked V)) → AllByRecursion Young (state_after c loader order calls).small
    young_after [] = tt
    young_after (x ∷ past) =
        step_young c loader order (state_after c loader order past) (young_after past) x
        (let b = (sound_after c pos loader order (x ∷ past)).small_within in let q = one_in_small c (leb c 1) refl two nineteen in omega arith)

    -- no resident of Small was hit late
    none_late : (calls : List (Asked V)) (k : Word) (xs : List (Resident (Item V))) → AllByRecursion (λ r. InSmall c loader (history c loader order calls) r × Young r) xs → has k (words xs) ≡ true → hit_late (window c) k (history c loader order calls) ≡ false
    none_late calls k [] a e = absurd (true≢false (sym e))
    none_late calls k (r ∷ rs) a e = go (same k (word_of r)) refl e (none_late calls k rs a.1)
      where
        go :
            (b : Bool) → same k (word_of r) ≡ b → (b || has k (words rs)) ≡ true → (has k (words rs) ≡ true → hit_late (window c) k (history c loader order calls) ≡ false) →
            hit_late (window c) k (history c loader order calls) ≡ false
        go true q f ih =
            let w : word_of r ≡ k = sym (same_true k (word_of r) q) in
            subst (λ (j : Word). hit_late (window c) j (history c loader order calls) ≡ false) w
            (small_late (window c) r.mark (newcomers (since (enters_small (word_of r)) (history c loader order calls))) (hit_late (window c) (word_of r) (history c loader order calls)) a.0.0.0
            ∙ ap is_used a.0.1)
        go false q f ih = ih f

    pub never_promotes :
        (past : List (Asked V)) (x : Asked V) (k : Word) → has k (words (state_after c loader order past).small) ≡ true → has k (words (step c loader order (state_after c loader order past) x).0.main) ≡ false
    never_promotes past x k e = go (has k (words (step c loader order (state_after c loader order past) x).0.main)) refl
      where
        go : (b : Bool) → has k (words (step c loader order (state_after c loader order past) x).0.main) ≡ b → b ≡ false
        go true f =
            let s = state_after c loader order past in
            let late = (lawful_next c pos loader order past x).replacement.only_late k e f in
            let none =
            none_late past k s.small
            (all_both (InSmall c loader (history c loader order past)) Young s.small (sound_after c pos loader order past).smalls (young_after past)) e in
            absurd (true≢false (sym late ∙ none))
        go false f = refl
