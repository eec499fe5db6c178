-- A list of calls from the opening on answers what the run of these calls answers, and its events are lawful.
use Rattle.std.proofs.Common.{◌≡◌, ℕ, ◌≤◌, Bool, true, false, cond, nat_eq, nat_le, List, [], ◌∷◌, ◌++◌, map, reverse, length, take, Ok, Err, Result, sym, refl, ap, ◌∙◌, append_assoc, arith}
use Rattle.std.proofs.lemmas.List.{append-nil, reverse-append}
use Rattle.loaders.specs.declared.fault.Fault.{Fault}
use Rattle.machine.specs.declared.call.Call.{Call}
use Rattle.machine.specs.declared.call.Answer.{Answer}
use Rattle.machine.specs.declared.refusal.Refusal.{Refusal}
use Rattle.machine.specs.declared.refusal.Refusal.TheVariants.{NoRecords, TooManyRecords}
use Rattle.machine.specs.Measure.{measured, or_none, opened_with}
use Rattle.machine.specs.Replacement.{nothing}
use Rattle.machine.specs.Machine.{Word, State, step}
use Rattle.machine.specs.Run.{state_after, history, meant}
use Rattle.machine_laws.proofs.Steps.{lawful}
use Rattle.records.specs.declared.record.Record.{Record}
use Rattle.cache_core.specs.declared.inner.Inner.{Inner}
use Rattle.cache_core.specs.View.{state}
use Rattle.cache_core.specs.Tied.{Within}
use Rattle.cache_calls.specs.Retain.{rising}
use Rattle.cache.specs.Run.{answers_from, run_of, Performed, Played}

-- what measuring takes
pub record Fits (n : ℕ) : Type 0 where
  pub some : 1 ≤ n
  pub few : n ≤ 512
  pub opened : opened_with n ≡ n

pub fits : (n m : ℕ) → measured n ≡ Ok m → Fits n
fits n m e =
    (elim (nat_eq n 0) as (λ a. nat_eq n 0 ≡ a → cond a (Err NoRecords) (cond (nat_le n 512) (Ok n) (Err (TooManyRecords n))) ≡ Ok m → Fits n) [
      | true ↦ λ t f. absurd (let z : ◌≡◌ {A = Result ℕ Refusal} (Err NoRecords) (Ok m) = f in cc)
      | false ↦ λ t f.
          (elim (nat_le n 512) as (λ b. nat_le n 512 ≡ b → cond b (Ok n) (Err (TooManyRecords n)) ≡ Ok m → Fits n) [
            | true ↦ λ u g. record { some = grind arith; few = grind arith; opened = ap or_none e ∙ (let z : ◌≡◌ {A = Result ℕ Refusal} (Ok n) (Ok m) = g in cc) }
            | false ↦ λ u g. absurd cc
          ]) refl f
    ]) refl e

module _ {K V R : Type 0} (mean : K → Word) (keeps : R → Word → V → Bool) (c : ℕ) (loader : Word → Result V Fault) where
  -- what these calls, the newest first, answered, the oldest first
  abbrev pub told : List (Call K V R) → List (Answer V)
  told past = reverse (map (λ e. e.answer) (history c loader rising (map (meant mean keeps) past)))

  abbrev at : List (Call K V R) → State V
  at past = state_after c loader rising (map (meant mean keeps) past)

  told_more : (past : List (Call K V R)) (x : Call K V R) → told (x ∷ past) ≡ told past ++ (step c loader rising (at past) (meant mean keeps x)).1 ∷ []
  told_more past x =
      reverse-append ((step c loader rising (at past) (meant mean keeps x)).1 ∷ []) (map (λ e. e.answer) (history c loader rising (map (meant mean keeps) past)))

  newer : (past xs : List (Call K V R)) (x : Call K V R) → reverse (x ∷ xs) ++ past ≡ reverse xs ++ x ∷ past
  newer past xs x = ap (λ (l : List (Call K V R)). l ++ past) (reverse-append (x ∷ []) xs) ∙ append_assoc (reverse xs) (x ∷ []) past

  goes_on : (past xs : List (Call K V R)) → told (reverse xs ++ past) ≡ told past ++ answers_from mean keeps c loader (at past) xs
  goes_on past [] = sym (append-nil (told past))
  goes_on past (x ∷ xs) =
      ap told (newer past xs x)
      ∙ (goes_on (x ∷ past) xs
      ∙ (ap (λ (l : List (Answer V)). l ++ answers_from mean keeps c loader (at (x ∷ past)) xs) (told_more past x)
      ∙ append_assoc (told past) ((step c loader rising (at past) (meant mean keeps x)).1 ∷ []) (answers_from mean keeps c loader (at (x ∷ past)) xs)))

  pub from_opening : (xs : List (Call K V R)) → answers_from mean keeps c loader nothing xs ≡ told (reverse xs)
  from_opening xs = sym (goes_on [] xs) ∙ ap told (append-nil (reverse xs))

-- the list performed on an opened cache is played, over a table of at least one record
module _ {K V R : Type 0} (mean : K → Word) (hashed : Word → ℕ) (keeps : R → Word → V → Bool) (loader : Word → Result V Fault) (rs : List (Record K V)) (x y : Inner K V) (calls : List (Call K V R)) (before after : List (Answer V)) (n : ℕ) (m : ℕ) where
  pub played :
      measured (length rs) ≡ Ok m → x.policy.core.capacity ≡ opened_with (length rs) → ((d : V) → state mean d x ≡ nothing) → Within mean hashed x →
      Performed mean hashed keeps loader x calls before after n y → Played mean keeps (length rs) loader calls before after n
  played measures capacity empty right p =
      let f = fits (length rs) m measures in
      record {
        some = f.some;
        few = f.few;
        count = p.count;
        answers = answers_of rs f.some (λ d. (p.does right d).answers ∙ (ap (λ (s : State V). answers_from mean keeps x.policy.core.capacity loader s (take n calls)) (empty d)
            ∙ ap (λ (c : ℕ). answers_from mean keeps c loader nothing (take n calls)) (capacity ∙ f.opened)
            ∙ from_opening mean keeps (length rs) loader (take n calls)));
        rest = p.rest;
        lawful = lawful (length rs) f.some loader rising (run_of mean keeps (length rs) loader (take n calls));
      }
    where
      -- any record has a value to begin with
      answers_of : {P : Type 0} (qs : List (Record K V)) → 1 ≤ length qs → (V → P) → P
      answers_of [] some from = absurd (omega arith)
      answers_of (q ∷ qs) some from = from q.value
