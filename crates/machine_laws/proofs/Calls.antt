-- Every call of a run keeps the invariant and obeys the laws.
use Rattle.std.proofs.Common.{◌≡◌, ℕ, ◌+◌, ◌≤◌, Bool, true, false, cond, not, ◌&&◌, ◌↔◌, List, ◌∷◌, Some, None, Err, Option, Result, unwrap_or, sym, refl, ap, ◌∙◌, subst, arith}
use mathlib.Core.Bool.{and-true}
use Rattle.std.proofs.lemmas.Bool.{and_right, and_parts, or_parts, or_from, not-true, true≢false}
use Rattle.loaders.specs.declared.fault.Fault.{Fault}
use Rattle.machine.specs.declared.refusal.Refusal.TheVariants.{NotLoaded}
use Rattle.machine.specs.declared.call.Call.TheVariants.{Fetch}
use Rattle.machine.specs.declared.call.Answer.{Answer}
use Rattle.machine.specs.declared.call.Answer.TheVariants.{Refused}
use Rattle.machine.specs.Replacement.{Resident, hit_if, hit, uses, drops}
use Rattle.machine.specs.Machine.{Word, Item, State, Order, Asked, same, has, is_at, look, cell_of, arrival, settled, report_of}
use Rattle.machine.specs.Run.{Event, word_of, queues, event_of}
use Rattle.machine_laws.specs.Words.{once, occurs, resident, takes_out, names, is_use_of, lays, laid_by, is_refused, value_in, report_in, chances_told, answered, comes_in, last_laid, stay}
use Rattle.machine_laws.specs.Laws.{IsLast, Arrival, LawfulEvent}
use Rattle.machine_laws.proofs.Keys.{same_true, none_occurs, occurs_none}
use Rattle.machine_laws.proofs.Residents.{words, each_self, each_map, occurs_kept_words}
use Rattle.machine_laws.proofs.Sound.{Sound, Follow, Calm, calm_sound, dropped_sound}
use Rattle.machine_laws.proofs.Landing.{Inserts, lands}
use Rattle.machine_laws.proofs.Events.{cond_none, no_gain, chances_hold, no_value, one_value, held, keyed, calm_arrives}

module _ {V : Type 0} (c : ℕ) (pos : 1 ≤ c) (loader : Word → Result V Fault) (h : List (Event V)) (s : State V) (good : Sound c loader h s) where
  -- the call, with what it did, keeps the invariant and is lawful
  abbrev pub Goes : Asked V → State V × Answer V → Type 0
  Goes x d = Sound c loader (event_of s x d ∷ h) d.0 × LawfulEvent c loader h (event_of s x d)

  abbrev pub Faults : Asked V → Answer V → Type 0
  Faults x a = (k : Word) (fault : Fault) → x ≡ Fetch k → (a ≡ Refused (NotLoaded fault)) ↔ ((resident k (queues s) ≡ false) × (loader k ≡ Err fault))

  abbrev pub Last : Asked V → State V × Answer V → Type 0
  Last x d = (j : Word) (v : V) → answered j (event_of s x d) ≡ Some v → IsLast (last_laid j (stay j h (event_of s x d))) (loader j) v

  -- a call about the key k, by what it names
  abbrev pub About : Word → Asked V → Type 0
  About k x = (j : Word) → names j x ≡ same k j

  pub calm_goes : (x : Asked V) (a : Answer V) (t : State V) → Calm s t (event_of s x (t, a)) → (takes_out x ≡ false → t.remembered ≡ s.remembered) → Last x (t, a) → Faults x a → Goes x (t, a)
  calm_goes x a t calm still last faults =
      let sound = calm_sound c loader h s t x a calm good in (
        sound,
        record {
          values = record { last = last; faults = faults };
          replacement = calm_arrives c loader h s t x a good calm still;
          told = chances_hold c loader h s t x a sound (let q = ap chances_told calm.silent in omega arith);
        },
      )

  -- ## Calls that leave every resident as it is

  follow_self : (x : Asked V) (a : Answer V) (t : State V) → is_use_of x a (queues s) ≡ false → ((j : Word) → lays j (event_of s x (t, a)) ≡ None) → (r : Resident (Item V)) → Follow (event_of s x (t, a)) r r
  follow_self x a t is_hit lay r = (
    refl,
    ap (λ (b : Bool). hit_if b r.mark) (sym (and_right (names (word_of r) x) (is_use_of x a (queues s)) is_hit)),
    subst (λ (o : Option V). r.item.value ≡ unwrap_or o r.item.value) (sym (lay (word_of r))) refl,
  )

  pub quiet_goes :
      (k : Word) (x : Asked V) (a : Answer V) (remembered : List Word) → About k x → report_in a ≡ None → is_use_of x a (queues s) ≡ false →
      ((j : Word) → cond (names j x && not (is_refused a)) (laid_by x) None ≡ None) → ((j : Word) → occurs j remembered ≤ occurs j s.remembered) → (takes_out x ≡ false → remembered ≡ s.remembered) →
      let t : State V = record { small = s.small; main = s.main; remembered = remembered; free = s.free; opened = s.opened } in
      Last x (t, a) → Faults x a → Goes x (t, a)
  quiet_goes k x a remembered about silent is_hit lay fewer still last faults =
      let t : State V = record { small = s.small; main = s.main; remembered = remembered; free = s.free; opened = s.opened } in
      let f = follow_self x a t is_hit lay in
      calm_goes x a t (keyed c loader h s t x a good k about silent (each_self (Follow (event_of s x (t, a))) f s.small) (each_self (Follow (event_of s x (t, a))) f s.main) fewer) still last faults

  pub still_goes :
      (k : Word) (x : Asked V) (a : Answer V) → About k x → report_in a ≡ None → is_use_of x a (queues s) ≡ false → ((j : Word) → cond (names j x && not (is_refused a)) (laid_by x) None ≡ None) →
      Last x (s, a) → Faults x a → Goes x (s, a)
  still_goes k x a about silent is_hit lay last faults = quiet_goes k x a s.remembered about silent is_hit lay (λ j. omega arith) (λ _. refl) last faults

  -- ## Calls that hit their key

  pub hit_goes :
      (k : Word) (i : Item V) (x : Asked V) (a : Answer V) → look k s ≡ Some i → About k x → report_in a ≡ None → is_use_of x a (queues s) ≡ true → laid_by x ≡ None → value_in a ≡ Some i.value →
      Faults x a → Goes x (uses (is_at k) s, a)
  hit_goes k i x a found about silent is_hit lay value faults =
      let t = uses (is_at k) s in
      let e = event_of s x (t, a) in
      let f : (r : Resident (Item V)) → Follow e r (hit (is_at k) r) =
      λ r. (
        refl,
        ap (λ (b : Bool). hit_if b r.mark) (sym (ap (λ (u : Bool). names (word_of r) x && u) is_hit ∙ (and-true (names (word_of r) x) ∙ about (word_of r)))),
        subst (λ (o : Option V). r.item.value ≡ unwrap_or o r.item.value)
            (sym (ap (λ (o : Option V). cond (names (word_of r) x && not (is_refused a)) o None) lay ∙ cond_none (names (word_of r) x && not (is_refused a)))) refl,
      ) in
      calm_goes x a t
      (keyed c loader h s t x a good k about silent (each_map (Follow e) (hit (is_at k)) f s.small) (each_map (Follow e) (hit (is_at k)) f s.main) (λ j. omega arith)) (λ _. refl)
      (one_value c loader h s t x a k i.value about value (held c loader h s t x a good k i found)) faults

  -- ## Calls that drop residents

  pub drop_goes :
      (x : Asked V) (a : Answer V) (order : Order V) (at : Item V → Bool) → report_in a ≡ None → value_in a ≡ None → ((j : Word) → (names j x && is_use_of x a (queues s)) ≡ false) →
      ((j : Word) → cond (names j x && not (is_refused a)) (laid_by x) None ≡ None) → takes_out x ≡ true → Faults x a → Goes x (drops order cell_of at s, a)
  drop_goes x a order at silent value hit lay out faults =
      let t = drops order cell_of at s in
      let stays : Resident (Item V) → Bool = λ r. not (at r.item) in
      let sound =
      dropped_sound c loader h s t x a stays (record { silent = silent; no_hit = hit; no_lay = lay; small_kept = refl; main_kept = refl; ghost_kept = refl }) good in (
        sound,
        record {
          values = record { last = no_value c loader h s t x a value; faults = faults };
          replacement = no_gain c loader h s t x a good (λ j. occurs_kept_words j stays s.small) (λ j. occurs_kept_words j stays s.main) (λ e. absurd (true≢false (sym out ∙ e)));
          told = chances_hold c loader h s t x a sound (let q = ap chances_told silent in omega arith);
        },
      )

  -- ## Calls that bring their key in

  pub insert_goes :
      (k : Word) (v : V) (x : Asked V) (a : Answer V) (absent : resident k (queues s) ≡ false) → Inserts c pos loader h s good k v absent x a → report_in a ≡ Some (report_of (arrival c k s)) →
      ((comes_in k (event_of s x (settled c k v (arrival c k s), a)) ≡ true) → Last x (settled c k v (arrival c k s), a)) → Faults x a → Goes x (settled c k v (arrival c k s), a)
  insert_goes k v x a absent ins report last faults =
      let t = settled c k v (arrival c k s) in
      let e = event_of s x (t, a) in
      let l = lands c pos loader h s good k v absent x a ins report in
      let comes : comes_in k e ≡ true = rw (absent, l.seated_in_lem) refl in (
        l.sound,
        record {
          values = record { last = last comes; faults = faults };
          replacement =
              record {
                arrives = λ j q. subst (λ (i : Word). Arrival c h e i) (sym (only j q (l.only j))) l.law;
                only_late = l.late;
                still = λ f _. absurd (true≢false (sym comes ∙ f k));
              };
          told = chances_hold c loader h s t x a l.sound l.few;
        },
      )
    where
      only :
          (j : Word) → comes_in j (event_of s x (settled c k v (arrival c k s), a)) ≡ true →
          occurs j (words (settled c k v (arrival c k s)).small) + occurs j (words (settled c k v (arrival c k s)).main) ≤ once j k + (occurs j (words s.small) + occurs j (words s.main)) → j ≡ k
      only j q n = go (same j k) refl n
        where
          go :
              (b : Bool) → same j k ≡ b →
              occurs j (words (settled c k v (arrival c k s)).small) + occurs j (words (settled c k v (arrival c k s)).main) ≤ cond b 1 0 + (occurs j (words s.small) + occurs j (words s.main)) → j ≡ k
          go true f m = same_true j k f
          go false f m =
              let t = settled c k v (arrival c k s) in
              let p = and_parts (not (resident j (queues s))) (resident j (queues t)) q in
              let o = or_parts (has j (words s.small)) (has j (words s.main)) (not-true (resident j (queues s)) p.0) in
              let u = none_occurs j (words s.small) o.0 in
              let w = none_occurs j (words s.main) o.1 in
              let z = or_from (has j (words t.small)) (has j (words t.main)) (occurs_none j (words t.small) (omega arith)) (occurs_none j (words t.main) (omega arith)) in
              absurd (true≢false (sym p.1 ∙ z))
