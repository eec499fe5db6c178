-- An insertion lands: whatever its plan, the invariant and the law of arrivals hold after it.
use Rattle.std.proofs.Common.{◌≡◌, ℕ, ◌+◌, ◌≤◌, Bool, true, false, cond, not, ◌&&◌, ◌||◌, List, [], ◌∷◌, ◌++◌, map, length, Some, None, Option, Result, sym, refl, ap, ◌∙◌, subst, arith}
use Rattle.std.proofs.lemmas.Bool.{or_right, or_parts, leb-true, true≢false}
use Rattle.loaders.specs.declared.fault.Fault.{Fault}
use Rattle.machine.specs.declared.report.Part.TheVariants.{Small, Main}
use Rattle.machine.specs.declared.call.Answer.{Answer}
use Rattle.machine.specs.Limits.{main_limit, window}
use Rattle.machine.specs.Replacement.{plain, Resident, Swept, Ended, Vacated, marked, is_used, is_tail_used, sweep, ended, vacancy, to_main, main_full, forgets, popped, plan, carried_out, main_evicted, tail_promoted, tail_evicted}
use Rattle.machine.specs.Machine.{Word, Item, Cell, State, Asked, same, has, cell_of, arrival, settled, report_of}
use Rattle.machine.specs.Run.{Event, word_of, queues, event_of}
use Rattle.machine_laws.specs.Words.{once, occurs, resident, hit_late, newcomers, since, enters_small, names, is_use_of, laid_by, is_refused, report_in, joined_small, chances_told, is_small, chances, newcomer}
use Rattle.machine_laws.specs.Laws.{IsLast, Arrival}
use Rattle.machine_laws.proofs.Keys.{same_self, occurs_append}
use Rattle.machine_laws.proofs.Residents.{words, words_append, words_length, words_map, all_right, ended_some, ended_none}
use Rattle.machine_laws.proofs.Sweeps.{sweeps, sweep_none}
use Rattle.machine_laws.proofs.Limits.{main_some}
use Rattle.std.specs.List.{AllByRecursion}
use Rattle.machine_laws.proofs.Sound.{InSmall, Sound}
use Rattle.machine_laws.proofs.Leaves.{small_late}
use Rattle.machine_laws.proofs.Events.{moved_late}
use Rattle.machine_laws.proofs.Arrivals.{Brings, swept_counts, swept_length}
use Rattle.machine_laws.proofs.Seats.{older}
use Rattle.machine_laws.proofs.Plans.{last_has, small_room, no_room, grow_small, grow_main, evict_main_lem}
use Rattle.machine_laws.proofs.Tails.{evict_tail_lem, promote_tail_lem}

module _ {V : Type 0} (c : ℕ) (pos : 1 ≤ c) (loader : Word → Result V Fault) (h : List (Event V)) (s : State V) (good : Sound c loader h s) (k : Word) (v : V) (absent : resident k (queues s) ≡ false) where
  -- the call and answer are those of an insertion of k with the value v
  pub record Inserts (x : Asked V) (a : Answer V) : Type 0 where
    pub no_hit : (j : Word) → (names j x && is_use_of x a (queues s)) ≡ false
    pub lays_other : (j : Word) → same k j ≡ false → cond (names j x && not (is_refused a)) (laid_by x) None ≡ None
    pub new_value : IsLast (cond (names k x && not (is_refused a)) (laid_by x) None) (loader k) v

  -- what holds once the newcomer is seated in what was vacated
  pub record Lands (va : Vacated (Item V) Word (Cell V)) (x : Asked V) (a : Answer V) : Type 0 where
    pub sound : Sound c loader (event_of s x (settled c k v va, a) ∷ h) (settled c k v va)
    pub law : Arrival c h (event_of s x (settled c k v va, a)) k
    pub few : chances (event_of s x (settled c k v va, a)) ≤ length (words s.main)
    pub only : (j : Word) → occurs j (words (settled c k v va).small) + occurs j (words (settled c k v va).main) ≤ once j k + (occurs j (words s.small) + occurs j (words s.main))
    pub late : (j : Word) → has j (words s.small) ≡ true → has j (words (settled c k v va).main) ≡ true → hit_late (window c) j h ≡ true
    pub seated_in_lem : resident k (queues (settled c k v va)) ≡ true

  abbrev gone : State V
  gone = forgets (same k) s

  -- a state to be reached from what was vacated, with everything told
  abbrev Landing : Vacated (Item V) Word (Cell V) → Type 0
  Landing va = (x : Asked V) (a : Answer V) → Inserts x a → report_in a ≡ Some (report_of va) → Lands va x a

  brings : (va : Vacated (Item V) Word (Cell V)) (x : Asked V) (a : Answer V) → Inserts x a → report_in a ≡ Some (report_of va) → Brings c loader h s (settled c k v va) x a k v va.chances
  brings va x a i r = record { absent = absent; told = ap chances_told r; no_hit = i.no_hit; lays_other = i.lays_other; new_value = i.new_value }

  joins : (va : Vacated (Item V) Word (Cell V)) (x : Asked V) (a : Answer V) → report_in a ≡ Some (report_of va) → newcomer (event_of s x (settled c k v va, a)) ≡ is_small va.joins
  joins va x a r = ap joined_small r

  -- the keys of a newcomer and of those that it finds
  small_seats : (j : Word) (xs : List (Resident (Item V))) → once j k + occurs j (words (map (older c) xs)) ≡ once j k + occurs j (words xs)
  small_seats j xs = ap (λ (l : List Word). once j k + occurs j l) (words_map (older c) (λ r. refl) xs)

  main_seats : (j : Word) (xs : List (Resident (Item V))) (r : Resident (Item V)) → occurs j (words (xs ++ r ∷ [])) ≡ occurs j (words xs) + once j (word_of r)
  main_seats j xs r = let q = ap (occurs j) (words_append xs (r ∷ [])) ∙ occurs_append j (words xs) (word_of r ∷ []) in omega arith

  first_in : (xs : List Word) (b : Bool) → (has k (k ∷ xs) || b) ≡ true
  first_in xs b = rw (same_self k) refl

  last_in : (b : Bool) (xs : List (Resident (Item V))) (r : Resident (Item V)) → word_of r ≡ k → (b || has k (words (xs ++ r ∷ []))) ≡ true
  last_in b xs r e =
      or_right b (has k (words (xs ++ r ∷ [])))
      (ap (has k) (words_append xs (r ∷ [])) ∙ subst (λ (j : Word). has k (words xs ++ j ∷ []) ≡ true) (sym e) (last_has (words xs) k))

  abbrev known : Bool
  known = has k s.remembered

  -- only the newcomer itself may be new in Main
  new_late : (t : State V) (x : Asked V) (a : Answer V) → ((j : Word) → occurs j (words t.main) ≤ occurs j (words s.main) + once j k) → (j : Word) → has j (words s.small) ≡ true → has j (words t.main) ≡ true → hit_late (window c) j h ≡ true
  new_late t x a f = moved_late c loader h s t x a good k f (λ q. absurd (true≢false (sym q ∙ (or_parts (has k (words s.small)) (has k (words s.main)) absent).0)))

  grows_small : to_main c known gone ≡ false → vacancy c s ≡ true → (fs : List (Cell V)) → Landing (popped Small gone fs)
  grows_small to room [] x a i r =
      let va = popped Small gone [] in
      let both = grow_small c pos loader h s (settled c k v va) x a k v good 0 (brings va x a i r) s.opened refl (joins va x a r) to room refl refl refl in
      record {
        sound = both.0;
        law = both.1;
        few = let q = ap chances_told r in omega arith;
        only = λ j. let q = small_seats j s.small in omega arith;
        late = new_late (settled c k v va) x a (λ j. omega arith);
        seated_in_lem = first_in (words (map (older c) s.small)) (has k (words s.main));
      }
  grows_small to room (f ∷ fs) x a i r =
      let va = popped Small gone (f ∷ fs) in
      let both = grow_small c pos loader h s (settled c k v va) x a k v good 0 (brings va x a i r) f.place refl (joins va x a r) to room refl refl refl in
      record {
        sound = both.0;
        law = both.1;
        few = let q = ap chances_told r in omega arith;
        only = λ j. let q = small_seats j s.small in omega arith;
        late = new_late (settled c k v va) x a (λ j. omega arith);
        seated_in_lem = first_in (words (map (older c) s.small)) (has k (words s.main));
      }

  abbrev new_main : ℕ → Resident (Item V)
  new_main place = record { item = record { word = k; place = place; value = v }; mark = plain }

  grows_main : to_main c known gone ≡ true → main_full c s ≡ false → (fs : List (Cell V)) → Landing (popped Main gone fs)
  grows_main to room [] x a i r =
      let va = popped Main gone [] in
      let both = grow_main c pos loader h s (settled c k v va) x a k v good 0 (brings va x a i r) s.opened refl (joins va x a r) to room refl refl refl in
      record {
        sound = both.0;
        law = both.1;
        few = let q = ap chances_told r in omega arith;
        only = λ j. let q = main_seats j s.main (new_main s.opened) in omega arith;
        late = new_late (settled c k v va) x a (λ j. let q = main_seats j s.main (new_main s.opened) in omega arith);
        seated_in_lem = last_in (has k (words s.small)) s.main (new_main s.opened) refl;
      }
  grows_main to room (f ∷ fs) x a i r =
      let va = popped Main gone (f ∷ fs) in
      let both = grow_main c pos loader h s (settled c k v va) x a k v good 0 (brings va x a i r) f.place refl (joins va x a r) to room refl refl refl in
      record {
        sound = both.0;
        law = both.1;
        few = let q = ap chances_told r in omega arith;
        only = λ j. let q = main_seats j s.main (new_main f.place) in omega arith;
        late = new_late (settled c k v va) x a (λ j. let q = main_seats j s.main (new_main f.place) in omega arith);
        seated_in_lem = last_in (has k (words s.small)) s.main (new_main f.place) refl;
      }

  -- Main is never without a victim when it holds its limit
  main_not_empty : {A : Type 0} → main_limit c ≤ length s.main → sweep s.main ≡ None → A
  main_not_empty l e = let q = ap length (sweep_none s.main e) in let p = main_some c pos in absurd (omega arith)

  evicts_main : to_main c known gone ≡ true → main_full c s ≡ true → (o : Option (Swept (Item V))) → sweep s.main ≡ o → Landing (main_evicted (λ j. j.word) cell_of c gone o)
  evicts_main to full None e x a i r = main_not_empty (leb-true (main_limit c) (length s.main) full) e
  evicts_main to full (Some w) e x a i r =
      let va = main_evicted (λ j. j.word) cell_of c gone (Some w) in
      let place = w.victim.item.place in
      let both = evict_main_lem c pos loader h s (settled c k v va) x a k v good w.chances (brings va x a i r) place w e refl (joins va x a r) to full refl refl refl in
      record {
        sound = both.0;
        law = both.1;
        few = let q = ap chances_told r in let l = (swept_length s.main w (sweeps s.main w e)).1 in let n = words_length s.main in omega arith;
        only = λ j. let q = main_seats j w.rest (new_main place) in let n = swept_counts s.main w (sweeps s.main w e) j in omega arith;
        late = new_late (settled c k v va) x a (λ j. let q = main_seats j w.rest (new_main place) in let n = swept_counts s.main w (sweeps s.main w e) j in omega arith);
        seated_in_lem = last_in (has k (words s.small)) w.rest (new_main place) refl;
      }

  -- in a full cache Small is not empty
  small_not_empty : {A : Type 0} → (x₀ : Asked V) (a₀ : Answer V) → to_main c known gone ≡ false → vacancy c s ≡ false → ended s.small ≡ None → A
  small_not_empty x₀ a₀ to full e =
      let q = ap length (ended_none s.small e) in
      let p = small_room c pos loader h s s x₀ a₀ k v good to in
      let l = (no_room c pos loader h s s x₀ a₀ k v good full).0 in
      absurd (omega arith)

  small_counts : (e : Ended (Resident (Item V))) → ended s.small ≡ Some e → (j : Word) → occurs j (words s.small) ≡ occurs j (words e.front) + once j (word_of e.tail)
  small_counts e q j = ap (λ (l : List (Resident (Item V))). occurs j (words l)) (ended_some s.small e q) ∙ main_seats j e.front e.tail

  -- a used tail was hit late
  tail_hit_late : (e : Ended (Resident (Item V))) → ended s.small ≡ Some e → is_used e.tail.mark ≡ true → hit_late (window c) (word_of e.tail) h ≡ true
  tail_hit_late e q u =
      let all = subst (λ (l : List (Resident (Item V))). AllByRecursion (InSmall c loader h) l) (ended_some s.small e q) good.smalls in
      let says = (all_right (InSmall c loader h) e.front (e.tail ∷ []) all).0.0 in
      small_late (window c) e.tail.mark (newcomers (since (enters_small (word_of e.tail)) h)) (hit_late (window c) (word_of e.tail) h) says ∙ u

  evicts_tail : to_main c known gone ≡ false → vacancy c s ≡ false → (o : Option (Ended (Resident (Item V)))) → ended s.small ≡ o → is_tail_used o ≡ false → Landing (tail_evicted (λ j. j.word) cell_of c gone o)
  evicts_tail to full None e idle x a i r = small_not_empty x a to full e
  evicts_tail to full (Some d) e idle x a i r =
      let va = tail_evicted (λ j. j.word) cell_of c gone (Some d) in
      let place = d.tail.item.place in
      let both = evict_tail_lem c pos loader h s (settled c k v va) x a k v good 0 (brings va x a i r) place (joins va x a r) to full d e refl idle refl refl refl in
      record {
        sound = both.0;
        law = both.1;
        few = let q = ap chances_told r in omega arith;
        only = λ j. let q = small_seats j d.front in let n = small_counts d e j in omega arith;
        late = new_late (settled c k v va) x a (λ j. omega arith);
        seated_in_lem = first_in (words (map (older c) d.front)) (has k (words s.main));
      }

  promotes_tail :
      to_main c known gone ≡ false → vacancy c s ≡ false → (o : Option (Ended (Resident (Item V)))) → ended s.small ≡ o → is_tail_used o ≡ true → (p : Option (Swept (Item V))) → sweep s.main ≡ p →
      Landing (tail_promoted (λ j. j.word) cell_of c gone o p)
  promotes_tail to full None e hit p f x a i r = small_not_empty x a to full e
  promotes_tail to full (Some d) e hit None f x a i r = main_not_empty (let l = (no_room c pos loader h s s x a k v good full).1 in omega arith) f
  promotes_tail to full (Some d) e hit (Some w) f x a i r =
      let va = tail_promoted (λ j. j.word) cell_of c gone (Some d) (Some w) in
      let place = w.victim.item.place in
      let both = promote_tail_lem c pos loader h s (settled c k v va) x a k v good w.chances (brings va x a i r) place (joins va x a r) to full d e w f refl hit refl refl refl in
      record {
        sound = both.0;
        law = both.1;
        few = let q = ap chances_told r in let l = (swept_length s.main w (sweeps s.main w f)).1 in let n = words_length s.main in omega arith;
        only =
            λ j.
            let q = small_seats j d.front in
            let n = small_counts d e j in
            let m = main_seats j w.rest (marked plain d.tail) in
            let l = swept_counts s.main w (sweeps s.main w f) j in
            omega arith;
        late =
            moved_late c loader h s (settled c k v va) x a good (word_of d.tail)
            (λ j. let m = main_seats j w.rest (marked plain d.tail) in let l = swept_counts s.main w (sweeps s.main w f) j in omega arith) (λ _. tail_hit_late d e hit);
        seated_in_lem = first_in (words (map (older c) d.front)) (has k (words (w.rest ++ marked plain d.tail ∷ [])));
      }

  by_plan :
      (to room full hit : Bool) → to_main c known gone ≡ to → vacancy c s ≡ room → main_full c s ≡ full → is_tail_used (ended s.small) ≡ hit →
      Landing (carried_out (λ j. j.word) cell_of c (plan to room full hit) gone)
  by_plan true room true hit to va mf tu = evicts_main to mf (sweep s.main) refl
  by_plan true room false hit to va mf tu = grows_main to mf s.free
  by_plan false true full hit to va mf tu = grows_small to va s.free
  by_plan false false full true to va mf tu = promotes_tail to va (ended s.small) refl tu (sweep s.main) refl
  by_plan false false full false to va mf tu = evicts_tail to va (ended s.small) refl tu

  pub lands : (x : Asked V) (a : Answer V) → Inserts x a → report_in a ≡ Some (report_of (arrival c k s)) → Lands (arrival c k s) x a
  lands = by_plan (to_main c known gone) (vacancy c s) (main_full c s) (is_tail_used (ended s.small)) refl refl refl refl
