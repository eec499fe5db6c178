-- The ten calls, one by one, and then every run.
use Rattle.std.proofs.Common.{◌≡◌, ℕ, ◌≤◌, Bool, true, false, cond, not, ◌&&◌, eqb, List, [], ◌∷◌, map, is_some, Some, None, Ok, Err, Option, Result, unwrap_or, sym, refl, ap, ◌∙◌, subst, arith}
use mathlib.Core.Bool.{and-true}
use Rattle.std.specs.Option.{option_map}
use Rattle.std.specs.List.{AllZip}
use Rattle.std.proofs.lemmas.Bool.{and_right, ne_eqb, true≢false}
use Rattle.loaders.specs.declared.fault.Fault.{Fault}
use Rattle.machine.specs.declared.refusal.Refusal.TheVariants.{NotInPlace, NotLoaded}
use Rattle.machine.specs.declared.call.Call.TheVariants.{Contains, Peek, Get, GetAt, Put, Fetch, WriteAt, Remove, Retain, Clear}
use Rattle.machine.specs.declared.call.Answer.TheVariants.{Yes, No, Held, Absent, Old, New, Loaded, Done, Refused}
use Rattle.machine.specs.Replacement.{Resident, nothing, hit_if, hit, uses, forgets}
use Rattle.machine.specs.Machine.{Word, Item, State, Order, Asked, same, is_at, look, in_place, relaid, arrival, settled, report_of, got, written, removed, put_on, loaded_on, fetch_on, unless, says_if_lem, says_found_lem, says_placed_lem, says_fetched_lem, says_done_lem, saying, step}
use Rattle.machine.specs.Machine as machine
use Rattle.machine.specs.Run.{Event, word_of, queues, event_of, state_after, history}
use Rattle.machine_laws.specs.Words.{resident, comes_in, last_laid, since_with}
use Rattle.machine_laws.specs.Laws.{IsLast, LawfulEvent, Lawful}
use Rattle.machine_laws.proofs.Keys.{same_self, occurs_kept}
use Rattle.machine_laws.proofs.Residents.{each_map}
use Rattle.machine_laws.proofs.Sound.{Sound, Follow, sound_start}
use Rattle.machine_laws.proofs.Events.{cond_none, look_absent, look_resident, no_gain, chances_hold, no_value, one_value, held, keyed}
use Rattle.machine_laws.proofs.Calls.{Goes, calm_goes, quiet_goes, still_goes, hit_goes, drop_goes, insert_goes}

pub each_map_map : {X : Type 0} (R : X → X → Type 0) (f g : X → X) → ((x : X) → R x (g (f x))) → (xs : List X) → AllZip R xs (map g (map f xs))
each_map_map R f g r [] = tt
each_map_map R f g r (x ∷ xs) = (r x, each_map_map R f g r xs)

in_place_lem : {V : Type 0} (p : ℕ) (o : Option (Item V)) (i : Item V) → in_place p o ≡ Some i → o ≡ Some i
in_place_lem p None i e = e
in_place_lem p (Some d) i e = go (eqb p d.place) e
  where
    go : (b : Bool) → cond b (Some d) None ≡ Some i → Some d ≡ Some i
    go true f = f
    go false f = let z : ◌≡◌ {A = ℕ} 0 1 = cc in absurd (omega arith)

value_if : {V : Type 0} (b : Bool) (v u : V) → cond b v u ≡ unwrap_or (cond b (Some v) None) u
value_if true v u = refl
value_if false v u = refl

module _ {V : Type 0} (c : ℕ) (pos : 1 ≤ c) (loader : Word → Result V Fault) (h : List (Event V)) (s : State V) (good : Sound c loader h s) where
  goes_contains : (k : Word) (b : Bool) → Goes c pos loader h s good (Contains k) (s, says_if_lem b)
  goes_contains k true =
      still_goes c pos loader h s good k (Contains k) Yes (λ j. refl) refl refl (λ j. cond_none (same k j && true)) (no_value c loader h s s (Contains k) Yes refl) (λ j f e. let z : ◌≡◌ {A = ℕ} 0 1 = cc in absurd (omega arith))
  goes_contains k false =
      still_goes c pos loader h s good k (Contains k) No (λ j. refl) refl refl (λ j. cond_none (same k j && true)) (no_value c loader h s s (Contains k) No refl) (λ j f e. let z : ◌≡◌ {A = ℕ} 0 1 = cc in absurd (omega arith))

  goes_peek : (k : Word) (o : Option (Item V)) → look k s ≡ o → Goes c pos loader h s good (Peek k) (s, says_found_lem (option_map (λ i. i.value) o))
  goes_peek k None e =
      still_goes c pos loader h s good k (Peek k) Absent (λ j. refl) refl refl (λ j. cond_none (same k j && true)) (no_value c loader h s s (Peek k) Absent refl) (λ j f q. let z : ◌≡◌ {A = ℕ} 0 1 = cc in absurd (omega arith))
  goes_peek k (Some i) e =
      still_goes c pos loader h s good k (Peek k) (Held i.value) (λ j. refl) refl refl (λ j. cond_none (same k j && true))
      (one_value c loader h s s (Peek k) (Held i.value) k i.value (λ j. refl) refl (held c loader h s s (Peek k) (Held i.value) good k i e))
      (λ j f q. let z : ◌≡◌ {A = ℕ} 0 1 = cc in absurd (omega arith))

  goes_get : (k : Word) (o : Option (Item V)) → look k s ≡ o → Goes c pos loader h s good (Get k) (saying says_found_lem (got s k o))
  goes_get k None e =
      still_goes c pos loader h s good k (Get k) Absent (λ j. refl) refl (look_absent k s e) (λ j. cond_none (same k j && true)) (no_value c loader h s s (Get k) Absent refl)
      (λ j f q. let z : ◌≡◌ {A = ℕ} 0 1 = cc in absurd (omega arith))
  goes_get k (Some i) e =
      hit_goes c pos loader h s good k i (Get k) (Held i.value) e (λ j. refl) refl (look_resident k s i e) refl refl (λ j f q. let z : ◌≡◌ {A = ℕ} 0 1 = cc in absurd (omega arith))

  goes_get_at : (p : ℕ) (k : Word) (o : Option (Item V)) → in_place p (look k s) ≡ o → Goes c pos loader h s good (GetAt p k) (saying says_found_lem (got s k o))
  goes_get_at p k None e =
      still_goes c pos loader h s good k (GetAt p k) Absent (λ j. refl) refl refl (λ j. cond_none (same k j && true)) (no_value c loader h s s (GetAt p k) Absent refl)
      (λ j f q. let z : ◌≡◌ {A = ℕ} 0 1 = cc in absurd (omega arith))
  goes_get_at p k (Some i) e =
      hit_goes c pos loader h s good k i (GetAt p k) (Held i.value) (in_place_lem p (look k s) i e) (λ j. refl) refl refl refl refl (λ j f q. let z : ◌≡◌ {A = ℕ} 0 1 = cc in absurd (omega arith))

  goes_write_at : (p : ℕ) (k : Word) (v : V) (o : Option (Item V)) → in_place p (look k s) ≡ o → Goes c pos loader h s good (WriteAt p k v) (saying says_done_lem (written s p k v o))
  goes_write_at p k v None e =
      still_goes c pos loader h s good k (WriteAt p k v) (Refused (NotInPlace p)) (λ j. refl) refl refl (λ j. ap (λ (b : Bool). cond b (Some v) None) (and_right (same k j) false refl))
      (no_value c loader h s s (WriteAt p k v) (Refused (NotInPlace p)) refl) (λ j f q. let z : ◌≡◌ {A = ℕ} 0 1 = cc in absurd (omega arith))
  goes_write_at p k v (Some i) e =
      let t = machine.lays k v s in
      let x = WriteAt p k v in
      let f : (r : Resident (Item V)) → Follow (event_of s x (t, Done)) r (relaid k v r) =
      λ r. (
        refl,
        ap (λ (b : Bool). hit_if b r.mark) (sym (and_right (same k (word_of r)) false refl)),
        value_if (same k (word_of r)) v r.item.value ∙ ap (λ (b : Bool). unwrap_or (cond b (Some v) None) r.item.value) (sym (and-true (same k (word_of r)))),
      ) in
      calm_goes c pos loader h s good x Done t
      (keyed c loader h s t x Done good k (λ j. refl) refl (each_map (Follow (event_of s x (t, Done))) (relaid k v) f s.small) (each_map (Follow (event_of s x (t, Done))) (relaid k v) f s.main) (λ j. omega arith)) (λ _. refl)
      (no_value c loader h s t x Done refl) (λ j g q. let z : ◌≡◌ {A = ℕ} 0 1 = cc in absurd (omega arith))

  goes_remove : (k : Word) (o : Option (Item V)) → look k s ≡ o → Goes c pos loader h s good (Remove k) (saying says_if_lem (removed s k o))
  goes_remove k None e =
      quiet_goes c pos loader h s good k (Remove k) No (forgets (same k) s).remembered (λ j. refl) refl refl (λ j. cond_none (same k j && true)) (λ j. occurs_kept j (λ g. not (same k g)) s.remembered) (λ e. absurd (true≢false e))
      (no_value c loader h s (forgets (same k) s) (Remove k) No refl) (λ j f q. let z : ◌≡◌ {A = ℕ} 0 1 = cc in absurd (omega arith))
  goes_remove k (Some i) e =
      drop_goes c pos loader h s good (Remove k) Yes (λ _ cells. cells) (is_at k) refl refl (λ j. and_right (same k j) false refl) (λ j. cond_none (same k j && true)) refl
      (λ j f q. let z : ◌≡◌ {A = ℕ} 0 1 = cc in absurd (omega arith))

  goes_put : (k : Word) (v : V) (o : Option (Item V)) → look k s ≡ o → Goes c pos loader h s good (Put k v) (saying says_placed_lem (put_on c s k v o))
  goes_put k v None e =
      insert_goes c pos loader h s good k v (Put k v) (New (report_of (arrival c k s))) (look_absent k s e)
      (record {
        no_hit = λ j. and_right (same k j) (resident k (queues s)) (look_absent k s e);
        lays_other = λ j q. ap (λ (b : Bool). cond (b && true) (Some v) None) q;
        new_value = subst (λ (b : Bool). IsLast (cond (b && true) (Some v) None) (loader k) v) (sym (same_self k)) refl;
      })
      refl (λ _. no_value c loader h s (settled c k v (arrival c k s)) (Put k v) (New (report_of (arrival c k s))) refl) (λ j f q. let z : ◌≡◌ {A = ℕ} 0 1 = cc in absurd (omega arith))
  goes_put k v (Some i) e =
      let t = machine.lays k v (uses (is_at k) s) in
      let x = Put k v in
      let a = Old i.value in
      let f : (r : Resident (Item V)) → Follow (event_of s x (t, a)) r (relaid k v (hit (is_at k) r)) =
      λ r. (
        refl,
        ap (λ (b : Bool). hit_if b r.mark) (sym (ap (λ (u : Bool). same k (word_of r) && u) (look_resident k s i e) ∙ and-true (same k (word_of r)))),
        value_if (same k (word_of r)) v r.item.value ∙ ap (λ (b : Bool). unwrap_or (cond b (Some v) None) r.item.value) (sym (and-true (same k (word_of r)))),
      ) in
      calm_goes c pos loader h s good x a t
      (keyed c loader h s t x a good k (λ j. refl) refl (each_map_map (Follow (event_of s x (t, a))) (hit (is_at k)) (relaid k v) f s.small)
      (each_map_map (Follow (event_of s x (t, a))) (hit (is_at k)) (relaid k v) f s.main) (λ j. omega arith)) (λ _. refl)
      (one_value c loader h s t x a k i.value (λ j. refl) refl (held c loader h s t x a good k i e)) (λ j g q. let z : ◌≡◌ {A = ℕ} 0 1 = cc in absurd (omega arith))

  goes_load : (k : Word) → look k s ≡ None → (o : Result V Fault) → loader k ≡ o → Goes c pos loader h s good (Fetch k) (saying says_fetched_lem (loaded_on c s k o))
  goes_load k e (Err fault) l =
      still_goes c pos loader h s good k (Fetch k) (Refused (NotLoaded fault)) (λ j. refl) refl (look_absent k s e) (λ j. cond_none (same k j && false))
      (no_value c loader h s s (Fetch k) (Refused (NotLoaded fault)) refl)
      (λ j f q.
      let w : k ≡ j = cc in (
        λ r. let d : fault ≡ f = cc in (subst (λ (i : Word). resident i (queues s) ≡ false) w (look_absent k s e), subst (λ (i : Word). loader i ≡ Err f) w (l ∙ ap Err d)),
        λ r. let m : loader j ≡ Err fault = subst (λ (i : Word). loader i ≡ Err fault) w l in let d : fault ≡ f = faults_equal fault f (sym m ∙ r.1) in ap (λ (y : Fault). Refused (NotLoaded y)) d,
      ))
    where
      faults_equal : (f g : Fault) → ◌≡◌ {A = Result V Fault} (Err f) (Err g) → f ≡ g
      faults_equal f g q = cc
  goes_load k e (Ok v) l =
      insert_goes c pos loader h s good k v (Fetch k) (Loaded v (report_of (arrival c k s))) (look_absent k s e)
      (record {
        no_hit = λ j. and_right (same k j) (resident k (queues s)) (look_absent k s e);
        lays_other = λ j q. cond_none (same k j && true);
        new_value = subst (λ (o : Option V). IsLast o (loader k) v) (sym (cond_none (same k k && true))) l;
      })
      refl
      (λ comes.
      one_value c loader h s (settled c k v (arrival c k s)) (Fetch k) (Loaded v (report_of (arrival c k s))) k v (λ j. refl) refl
      (subst (λ (b : Bool). IsLast (last_laid k (cond b [] (since_with (comes_in k) h))) (loader k) v) (sym comes) l))
      (λ j f q.
      let w : k ≡ j = cc in (
        λ r. let z : ◌≡◌ {A = ℕ} 0 1 = cc in absurd (omega arith),
        λ r. let m : loader j ≡ Ok v = subst (λ (i : Word). loader i ≡ Ok v) w l in let n : ◌≡◌ {A = Result V Fault} (Ok v) (Err f) = sym m ∙ r.1 in let z : ◌≡◌ {A = ℕ} 0 1 = cc in absurd (omega arith),
      ))

  goes_fetch : (k : Word) (o : Option (Item V)) → look k s ≡ o → Goes c pos loader h s good (Fetch k) (saying says_fetched_lem (fetch_on c loader s k o))
  goes_fetch k None e = goes_load k e (loader k) refl
  goes_fetch k (Some i) e =
      hit_goes c pos loader h s good k i (Fetch k) (Held i.value) e (λ j. refl) refl (look_resident k s i e) refl refl
      (λ j f q.
      let w : k ≡ j = cc in (
        λ r. let z : ◌≡◌ {A = ℕ} 0 1 = cc in absurd (omega arith),
        λ r. absurd (true≢false (sym (look_resident k s i e) ∙ subst (λ (y : Word). resident y (queues s) ≡ false) (sym w) r.0)),
      ))

  goes_clear : Goes c pos loader h s good Clear (nothing, Done)
  goes_clear =
      let sound : Sound c loader (event_of s Clear (nothing, Done) ∷ h) nothing =
      record { small_within = omega arith; main_within = omega arith; alone = λ k. omega arith; smalls = tt; mains = tt; earned = let e = good.earned in omega arith } in (
        sound,
        record {
          values = record { last = no_value c loader h s nothing Clear Done refl; faults = λ j f q. let z : ◌≡◌ {A = ℕ} 0 1 = cc in absurd (omega arith) };
          replacement = no_gain c loader h s nothing Clear Done good (λ j. omega arith) (λ j. omega arith) (λ e. absurd (true≢false e));
          told = chances_hold c loader h s nothing Clear Done sound (omega arith);
        },
      )

  -- at a capacity of at least one nothing is refused for want of capacity
  open_for : eqb c 0 ≡ false
  open_for = ne_eqb c 0 (λ e. omega arith)

  pub goes : (order : Order V) (x : Asked V) → Goes c pos loader h s good x (step c loader order s x)
  goes order (Contains k) = goes_contains k (is_some (look k s))
  goes order (Peek k) = goes_peek k (look k s) refl
  goes order (Get k) = goes_get k (look k s) refl
  goes order (GetAt p k) = goes_get_at p k (in_place p (look k s)) refl
  goes order (Put k v) =
      subst (λ (b : Bool). Goes c pos loader h s good (Put k v) (saying says_placed_lem (unless b s (put_on c s k v (look k s))))) (sym open_for) (goes_put k v (look k s) refl)
  goes order (Fetch k) =
      subst (λ (b : Bool). Goes c pos loader h s good (Fetch k) (saying says_fetched_lem (unless b s (fetch_on c loader s k (look k s))))) (sym open_for) (goes_fetch k (look k s) refl)
  goes order (WriteAt p k v) = goes_write_at p k v (in_place p (look k s)) refl
  goes order (Remove k) = goes_remove k (look k s) refl
  goes order (Retain keeps) =
      drop_goes c pos loader h s good (Retain keeps) Done order (λ i. not (keeps i.word i.value)) refl refl (λ j. refl) (λ j. refl) refl (λ j f q. let z : ◌≡◌ {A = ℕ} 0 1 = cc in absurd (omega arith))
  goes order Clear = goes_clear

module _ {V : Type 0} (c : ℕ) (pos : 1 ≤ c) (loader : Word → Result V Fault) (order : Order V) where
  -- the invariant holds after every run
  pub sound_after : (calls : List (Asked V)) → Sound c loader (history c loader order calls) (state_after c loader order calls)
  sound_after [] = sound_start c loader
  sound_after (x ∷ past) = (goes c pos loader (history c loader order past) (state_after c loader order past) (sound_after past) order x).0

  -- each event is lawful after its past
  pub lawful_next : (past : List (Asked V)) (x : Asked V) → LawfulEvent c loader (history c loader order past) (event_of (state_after c loader order past) x (step c loader order (state_after c loader order past) x))
  lawful_next past x = (goes c pos loader (history c loader order past) (state_after c loader order past) (sound_after past) order x).1

  pub lawful : (calls : List (Asked V)) → Lawful c loader (history c loader order calls)
  lawful [] = tt
  lawful (x ∷ past) = (lawful_next past x, lawful past)
