-- The two plans for a newcomer of Small in a full cache: the tail moves to Main, or it goes to Ghost.
use Rattle.std.proofs.Common.{◌≡◌, ℕ, zero, suc, ◌+◌, ◌≤◌, true, false, cond, not, leb, List, [], ◌∷◌, ◌++◌, map, length, take, Some, Result, sym, refl, ap, ◌∙◌, subst, arith, length-append}
use Rattle.std.specs.List.{AllByRecursion}
use Rattle.std.proofs.ByRecursion.{All-push}
use Rattle.std.proofs.lemmas.Bool.{and_from, le-leb}
use Rattle.loaders.specs.declared.fault.Fault.{Fault}
use Rattle.machine.specs.declared.call.Answer.{Answer}
use Rattle.machine.specs.Limits.{main_limit, ghost_limit, window}
use Rattle.machine.specs.Replacement.{plain, Resident, Swept, Ended, marked, is_used, sweep, ended, vacancy}
use Rattle.machine.specs.Machine.{Word, Item, State, Asked, has}
use Rattle.machine.specs.Run.{Event, word_of, event_of}
use Rattle.machine_laws.specs.Words.{once, occurs, newcomer, newcomers, since, enters_small, hit_late}
use Rattle.machine_laws.specs.Laws.{Arrival, gives_up, someone_joins}
use Rattle.machine_laws.proofs.Keys.{same_self, some_occurs, occurs_none, occurs_append, occurs_take}
use Rattle.machine_laws.proofs.Residents.{words, words_append, words_map, all_left, all_right, used_in, used_append, ended_some}
use Rattle.machine_laws.proofs.Sweeps.{sweeps}
use Rattle.machine_laws.proofs.Limits.{window_some, ghost_some}
use Rattle.machine_laws.proofs.Sound.{InMain, Sound}
use Rattle.machine_laws.proofs.Arrivals.{Brings, StoodSmall, stood_smalls, stood_mains, mains_stay, mains_swept, tail_joins, swept_counts, swept_length, swept_used}
use Rattle.machine_laws.proofs.Seats.{older, Vacates, seat_small}
use Rattle.machine_laws.proofs.Leaves.{one_joins, small_late, first_found}
use Rattle.machine_laws.proofs.Plans.{last_has, ghost_left, parts, heads, heads_is, full_is, small_room, no_room, new_small, not_there, main_same, main_same_keeps, same_part, victim_once, victim_leaves}

take_first : (g : ℕ) (j : Word) (xs : List Word) → 1 ≤ g → has j (take g (j ∷ xs)) ≡ true
take_first zero j xs p = absurd (omega arith)
take_first (suc g) j xs p = rw (same_self j) refl

module _ {V : Type 0} (c : ℕ) (pos : 1 ≤ c) (loader : Word → Result V Fault) (h : List (Event V)) (s t : State V) (x : Asked V) (a : Answer V) (k : Word) (v : V) (good : Sound c loader h s)
    (n : ℕ) (b : Brings c loader h s t x a k v n) (place : ℕ) (new : newcomer (event_of s x (t, a)) ≡ true)
    (to : heads c pos loader h s t x a k v good ≡ false) (full : vacancy c s ≡ false) (e : Ended (Resident (Item V))) (ends : ended s.small ≡ Some e) where
  abbrev event : Event V
  event = event_of s x (t, a)

  abbrev tail_word : Word
  tail_word = word_of e.tail

  stood : s.small ≡ e.front ++ e.tail ∷ []
  stood = ended_some s.small e ends

  words_stood : words s.small ≡ words e.front ++ tail_word ∷ []
  words_stood = ap words stood ∙ words_append e.front (e.tail ∷ [])

  small_counts : (j : Word) → occurs j (words s.small) ≡ occurs j (words e.front) + once j tail_word
  small_counts j = let q = ap (occurs j) words_stood ∙ occurs_append j (words e.front) (tail_word ∷ []) in omega arith

  small_length : length s.small ≡ suc (length e.front)
  small_length = let q = ap length stood ∙ length-append e.front (e.tail ∷ []) in omega arith

  small_used : used_in s.small ≡ used_in e.front + cond (is_used e.tail.mark) 1 0
  small_used = let q = ap used_in stood ∙ used_append e.front (e.tail ∷ []) in omega arith

  all_stood : AllByRecursion (StoodSmall c loader h s t x a k v n b) (e.front ++ e.tail ∷ [])
  all_stood = subst (λ (l : List (Resident (Item V))). AllByRecursion (StoodSmall c loader h s t x a k v n b) l) stood (stood_smalls c loader h s t x a k v n b good)

  front_stood : AllByRecursion (StoodSmall c loader h s t x a k v n b) e.front
  front_stood = all_left (StoodSmall c loader h s t x a k v n b) e.front (e.tail ∷ []) all_stood

  tail_stood : StoodSmall c loader h s t x a k v n b e.tail
  tail_stood = (all_right (StoodSmall c loader h s t x a k v n b) e.front (e.tail ∷ []) all_stood).0

  -- a use hit the tail late exactly if its mark is used
  tail_late : hit_late (window c) tail_word h ≡ is_used e.tail.mark
  tail_late = small_late (window c) e.tail.mark (newcomers (since (enters_small tail_word) h)) (hit_late (window c) tail_word h) tail_stood.0.0.0

  tail_not_main : has tail_word (words s.main) ≡ false
  tail_not_main =
      let q = some_occurs tail_word (words s.small) tail_stood.0.1 in
      let g = good.alone tail_word in
      occurs_none tail_word (words s.main) (omega arith)

  newest_is : t.small ≡ new_small c pos loader h s t x a k v good n b place ∷ map (older c) e.front → words t.small ≡ k ∷ words e.front
  newest_is es = ap words es ∙ ap (λ (l : List Word). k ∷ l) (words_map (older c) (λ r. refl) e.front)

  -- ## The tail goes to Ghost

  pub evict_tail_lem :
      n ≡ 0 → is_used e.tail.mark ≡ false → t.small ≡ new_small c pos loader h s t x a k v good n b place ∷ map (older c) e.front → t.main ≡ s.main →
      t.remembered ≡ take (ghost_limit c) (tail_word ∷ ghost_left c pos loader h s t x a k v good) → Sound c loader (event ∷ h) t × Arrival c h event k
  evict_tail_lem z idle es em eg =
      let room = no_room c pos loader h s t x a k v good full in (
        seat_small c loader h s t x a k v n b good (parts c pos loader h s t x a k v good e.front s.main (take (ghost_limit c) (tail_word ∷ ghost_left c pos loader h s t x a k v good)))
            (record {
              smalls = front_stood;
              mains = mains_stay c loader h s t x a k v n b z s.main (stood_mains c loader h s t x a k v n b good);
              counts =
                  λ j.
                  let q = small_counts j in
                  let p = occurs_take j (ghost_limit c) (tail_word ∷ ghost_left c pos loader h s t x a k v good) in
                  omega arith;
              earned = let u = small_used in omega arith;
            })
            place new (window_some c (small_room c pos loader h s t x a k v good to)) (let l = small_length in let r = room.0 in omega arith) good.main_within es em eg,
        record {
          part = same_part c pos loader h s t x a k v good n b place to em;
          told = new ∙ sym (ap not (same_part c pos loader h s t x a k v good n b place to em ∙ (heads_is c pos loader h s t x a k v good ∙ to)));
          tail_goes =
              λ two q g.
              record {
                front = words e.front;
                tail = tail_word;
                stood = words_stood;
                newest = newest_is es;
                moves = ap (λ (l : List (Resident (Item V))). has tail_word (words l)) em ∙ (tail_not_main ∙ (sym idle ∙ sym tail_late));
                sinks =
                    ap (has tail_word) eg ∙ (take_first (ghost_limit c) tail_word (ghost_left c pos loader h s t x a k v good) (ghost_some c two) ∙ sym (ap not (tail_late ∙ idle)));
              };
          exactly = main_same c pos loader h s t x a k v good n b place em;
          first = main_same_keeps c pos loader h s t x a k v good n b place em;
        },
      )

  -- ## The tail moves to Main

  module _ (w : Swept (Item V)) (swept : sweep s.main ≡ Some w) (tells : n ≡ w.chances) (hit : is_used e.tail.mark ≡ true)
      (es : t.small ≡ new_small c pos loader h s t x a k v good n b place ∷ map (older c) e.front) (em : t.main ≡ w.rest ++ marked plain e.tail ∷ [])
      (eg : t.remembered ≡ ghost_left c pos loader h s t x a k v good) where
    words_moved : words t.main ≡ words w.rest ++ tail_word ∷ []
    words_moved = ap words em ∙ words_append w.rest (marked plain e.tail ∷ [])

    tail_in_main : has tail_word (words t.main) ≡ true
    tail_in_main = ap (has tail_word) words_moved ∙ last_has (words w.rest) tail_word

    promote_vacates : Vacates c loader h s t x a k v n b (parts c pos loader h s t x a k v good e.front (w.rest ++ marked plain e.tail ∷ []) (ghost_left c pos loader h s t x a k v good))
    promote_vacates =
        record {
          smalls = front_stood;
          mains =
              All-push (InMain c loader (event ∷ h)) w.rest (marked plain e.tail) (mains_swept c loader h s t x a k v n b good w tells swept)
              (tail_joins c loader h s t x a k v n b e.tail tail_stood tail_not_main tail_in_main);
          counts =
              λ j.
              let q = small_counts j in
              let r = swept_counts s.main w (sweeps s.main w swept) j in
              let m = ap (occurs j) (words_append w.rest (marked plain e.tail ∷ [])) ∙ occurs_append j (words w.rest) (tail_word ∷ []) in
              omega arith;
          earned =
              let u = small_used in
              let m = used_append w.rest (marked plain e.tail ∷ []) in
              let r = swept_used s.main w (sweeps s.main w swept) in
              omega arith;
        }

    promoted_sound : Sound c loader (event ∷ h) t
    promoted_sound =
        let room = no_room c pos loader h s t x a k v good full in
        let l = (swept_length s.main w (sweeps s.main w swept)).0 in
        seat_small c loader h s t x a k v n b good (parts c pos loader h s t x a k v good e.front (w.rest ++ marked plain e.tail ∷ []) (ghost_left c pos loader h s t x a k v good)) promote_vacates place new
        (window_some c (small_room c pos loader h s t x a k v good to)) (let f = small_length in let r = room.0 in omega arith)
        (let f = length-append w.rest (marked plain e.tail ∷ []) in let r = room.1 in omega arith) es em eg

    victim_gone : gives_up c h event ≡ true
    victim_gone =
        victim_leaves c pos loader h s t x a k v good n b place w swept tells
        (let once_gone = victim_once c pos loader h s t x a k v good n b place w swept tells in
        let q = small_counts (word_of w.victim) in
        let y = ap (occurs (word_of w.victim)) (newest_is es) in
        let f = ap (occurs (word_of w.victim)) words_moved ∙ occurs_append (word_of w.victim) (words w.rest) (tail_word ∷ []) in
        omega arith)

    not_in_main : has k (words t.main) ≡ false
    not_in_main =
        not_there c pos loader h s t x a k v good n b place t.main
        (λ j. let q = promote_vacates.counts j in let m = ap (λ (l : List (Resident (Item V))). occurs j (words l)) em in omega arith)

    pub promote_tail_lem : Sound c loader (event ∷ h) t × Arrival c h event k
    promote_tail_lem = (
      promoted_sound,
      record {
        part = not_in_main ∙ (sym to ∙ sym (heads_is c pos loader h s t x a k v good));
        told = new ∙ sym (ap not not_in_main);
        tail_goes =
            λ two q g.
            record {
              front = words e.front;
              tail = tail_word;
              stood = words_stood;
              newest = newest_is es;
              moves = tail_in_main ∙ sym (tail_late ∙ hit);
              sinks =
                  occurs_none tail_word t.remembered (let l = some_occurs tail_word (words t.main) tail_in_main in let o = promoted_sound.alone tail_word in omega arith)
                  ∙ sym (ap not (tail_late ∙ hit));
            };
        exactly =
            let room = no_room c pos loader h s t x a k v good full in
            victim_gone
            ∙ sym
            (and_from (leb (main_limit c) (length (words s.main))) (someone_joins c h event)
            (full_is c pos loader h s t x a k v good ∙ le-leb (main_limit c) (length s.main) (let r = room.1 in omega arith)) (one_joins c h event tail_word tail_in_main tail_not_main));
        first = λ q. (tail_word, first_found c loader h s event good refl w (b.told ∙ tells) tail_word words_moved swept);
      },
    )
