-- The steps of an insertion put together.
use Rattle.std.proofs.Common.{◌≡◌, ℕ, ◌<◌, ◌≤◌, Bool, cond, eqb, List, length, Some, None, Option, sym, refl, ap, ◌∙◌, subst, arith, eq-eqb}
use Rattle.machine.specs.declared.report.Part.{Part}
use Rattle.machine.specs.Replacement.{Parts, Vacated, vacated, seated, forgets}
use Rattle.machine.specs.Machine.{Item, Cell, State, same, has, cell_of, lays, lying, arrival, settled, report_of}
use Rattle.handles.specs.Seek.{first_by}
use Rattle.handle_laws.specs.Runs.{how_many}
use Rattle.ghosts.specs.declared.noted.Noted.{Noted}
use Rattle.policy.specs.declared.policy.Policy.{Policy}
use Rattle.policy.specs.declared.plan.Inserted.{Inserted}
use Rattle.policy.specs.View.{view}
use Rattle.policy.specs.Insertion.{node_of, Done}
use Rattle.index.specs.declared.index.KeyIndex.{KeyIndex}
use Rattle.index.specs.Filed.{bears}
use Rattle.index.proofs.Firsts.{counts_one}
use Rattle.records.specs.declared.column.Column.TheVariants.{Resident, Remembered as of_ghost}
use Rattle.records.specs.declared.record.Record.{Record}
use Rattle.records.specs.Columns.{word_at}
use Rattle.cache_core.specs.declared.inner.Inner.{Inner}
use Rattle.cache_core.specs.View.{places, value_at, bare, rekeyed, seen, state, ghost_words}
use Rattle.cache_core.specs.Tied.{TiedWithin, ForgottenWithin, OnlyGhost}
use Rattle.cache_core.specs.Filing.{LaysSeated, SameButResidents}
use Rattle.cache_core.specs.Departing.{Departs}
use Rattle.cache_core.specs.Admitting.{Absent, AdmittedWithin, LaidIn}
use Rattle.cache_core.proofs.Standing.{Orderly, orderly}
use Rattle.cache_core.proofs.Tying.{places_seated}
use Rattle.cache_core.proofs.Readied.{Ready}
use Rattle.cache_core.proofs.Admitted.{readied, admitted_bare, admitted_lies, admitted_tied, admitted_resides, admitted_settles, admitted_state, admitted_report}

module _ {K V : Type 0} (mean : K → List ℕ) (hashed : List ℕ → ℕ) where
  pub departs_policy : (x y : Inner K V) (place : ℕ) (noted : Option Noted) (left : Option Part) → Departs mean hashed x place noted left y → y.policy ≡ x.policy
  departs_policy x y place (Some n) left d = d.0
  departs_policy x y place None (Some part) d = d.0.1.0
  departs_policy x y place None None d = d.0.1.0

  module _ (x x₁ x₂ x₃ y : Inner K V) (hash : ℕ) (key : K) (known : Bool) (r : Inserted)
      (answer : known ≡ has (mean key) (ghost_words mean x)) (forgot : (d : V) → state mean d x₁ ≡ forgets (same (mean key)) (state mean d x)) (clean : ForgottenWithin mean hashed (mean key) x₁) (kept : OnlyGhost x x₁)
      (same_records : x₂.records.now ≡ x₁.records.now) (same_residents : x₂.residents ≡ x₁.residents) (same_remembered : x₂.remembered ≡ x₁.remembered)
      (pos : 1 ≤ x₁.policy.core.capacity) (done : Done x₁.policy.core.capacity known (view x₁.policy.core) (view x₂.policy.core) r) (sized : x₂.policy.core.capacity ≡ x₁.policy.core.capacity)
      (departs : Departs mean hashed x₂ r.place r.vacancy.noted r.vacancy.left x₃) (seats : LaysSeated mean hashed x₃ r.place hash key y) (rest : SameButResidents x₃ y)
      (h : hash ≡ hashed (mean key)) (absent : Absent mean hashed (mean key) x) where
    abbrev c : ℕ
    c = x₁.policy.core.capacity

    abbrev s : Parts ℕ ℕ ℕ
    s = view x₁.policy.core

    abbrev rs : List (Record K V)
    rs = x₂.records.now

    abbrev node : ℕ
    node = node_of r.vacancy.noted

    abbrev v : Vacated ℕ ℕ ℕ
    v = vacated (λ _. node) (λ q. q) c known s

    tied : TiedWithin mean hashed c rs s x₂.residents x₂.remembered
    tied =
        subst (λ (l : List (Record K V)). TiedWithin mean hashed c l s x₂.residents x₂.remembered) (sym same_records)
        (subst (λ (i : KeyIndex). TiedWithin mean hashed c x₁.records.now s i x₂.remembered) (sym same_residents)
        (subst (λ (j : KeyIndex). TiedWithin mean hashed c x₁.records.now s x₁.residents j) (sym same_remembered) clean.0))

    after : Orderly c (seated c v r.place)
    after = subst (Orderly c) done.parts (subst (λ (n : ℕ). Orderly n (view x₂.policy.core)) sized (orderly x₂.policy))

    within : r.place < length rs
    within =
        let a = places_seated c r.place v r.place in
        let b = counts_one (eqb r.place r.place) (eq-eqb r.place r.place refl) in
        let e = after.within r.place (omega arith) in
        let f = after.opened in
        let z = tied.sized in
        omega arith

    no_resident : how_many (bears (word_at mean Resident rs) (mean key)) (places s) ≡ 0
    no_resident =
        ap (λ (l : List (Record K V)). how_many (bears (word_at mean Resident l) (mean key)) (places s)) (same_records ∙ kept.0)
        ∙ (ap (how_many (bears (word_at mean Resident x.records.now) (mean key))) kept.3 ∙ absent)

    no_ghost : how_many (bears (word_at mean of_ghost rs) (mean key)) s.remembered ≡ 0
    no_ghost = ap (λ (l : List (Record K V)). how_many (bears (word_at mean of_ghost l) (mean key)) s.remembered) same_records ∙ clean.1

    ready : Ready mean hashed c node known s rs r.place x₃.records.now x₃.residents x₃.remembered
    ready = readied mean hashed c known s r.place x₂ x₃ r.vacancy.noted r.vacancy.left tied (orderly x₁.policy) pos done.place after within done.left done.told departs

    policy_same : y.policy ≡ x₂.policy
    policy_same = rest.0 ∙ departs_policy x₂ x₃ r.place r.vacancy.noted r.vacancy.left departs

    parts_same : view y.policy.core ≡ seated c v r.place
    parts_same = ap (λ (q : Policy). view q.core) policy_same ∙ done.parts

    arrives : (d : V) → vacated (λ i. i.word) cell_of c known (seen mean d rs s) ≡ arrival x.policy.core.capacity (mean key) (state mean d x)
    arrives d =
        ap (λ (l : List (Record K V)). vacated (λ i. i.word) cell_of c known (seen mean d l s)) same_records
        ∙ (ap (vacated (λ i. i.word) cell_of c known) (forgot d)
        ∙ (ap (λ (b : Bool). vacated (λ i. i.word) cell_of c b (forgets (same (mean key)) (state mean d x))) answer
        ∙ ap (λ (n : ℕ). vacated (λ i. i.word) cell_of n (has (mean key) (ghost_words mean x)) (forgets (same (mean key)) (state mean d x))) kept.2))

    pub laid_in : LaidIn mean hashed x key r y
    laid_in =
        admitted_bare mean hashed c known s r.place node rs x₂.residents x₂.remembered key tied done.place after within no_resident no_ghost x₃.records.now y.records.now x₃.residents x₃.remembered y.residents ready (seats h)
        ∙ ap (λ (l : List (Record K V)). rekeyed r.place key (bare l)) (same_records ∙ kept.0)

    pub admits : AdmittedWithin mean hashed x (mean key) r y
    admits =
        record {
          next = λ d.
              ap (seen mean d y.records.now) parts_same
              ∙ (admitted_state mean hashed c known s r.place node rs x₂.residents x₂.remembered key tied done.place after within no_resident no_ghost x₃.records.now y.records.now x₃.residents x₃.remembered y.residents ready (seats h) d
              ∙ (ap (settled c (mean key) (value_at d rs r.place)) (arrives d)
              ∙ (ap (λ (l : List (Record K V)). settled c (mean key) (value_at d l r.place) (arrival x.policy.core.capacity (mean key) (state mean d x))) (same_records ∙ kept.0)
              ∙ ap (λ (n : ℕ). settled n (mean key) (value_at d x.records.now r.place) (arrival x.policy.core.capacity (mean key) (state mean d x))) kept.2)));
          report = λ d.
              sym (ap report_of (arrives d))
              ∙ admitted_report mean hashed c known s r.place node rs x₂.residents x₂.remembered key tied done.place after within no_resident no_ghost x₃.records.now y.records.now x₃.residents x₃.remembered y.residents ready (seats h) d r refl done.joined done.left done.chances;
          settles = λ d v'.
              ap (λ (p : Parts ℕ ℕ ℕ). lays (mean key) v' (seen mean d y.records.now p)) parts_same
              ∙ (admitted_settles mean hashed c known s r.place node rs x₂.residents x₂.remembered key tied done.place after within no_resident no_ghost x₃.records.now y.records.now x₃.residents x₃.remembered y.residents ready (seats h) d v'
              ∙ (ap (settled c (mean key) v') (arrives d)
              ∙ ap (λ (n : ℕ). settled n (mean key) v' (arrival x.policy.core.capacity (mean key) (state mean d x))) kept.2));
          lies = λ d given.
              ap (λ (a : Vacated (Item V) (List ℕ) (Cell V)). lying given a.spot) (sym (arrives d))
              ∙ (admitted_lies mean hashed c known s r.place node rs x₂.residents x₂.remembered key tied done.place after within no_resident no_ghost x₃.records.now y.records.now x₃.residents x₃.remembered y.residents ready (seats h) (orderly x₁.policy) d given
              ∙ (ap (λ (n : ℕ). cond (eqb r.place n) given (value_at d rs r.place)) (ap (λ (z : State V). z.opened) (forgot d))
              ∙ ap (λ (l : List (Record K V)). cond (eqb r.place (view x.policy.core).opened) given (value_at d l r.place)) (same_records ∙ kept.0)));
          resides =
              subst (λ (t : Parts ℕ ℕ ℕ). Some r.place ≡ first_by (bears (word_at mean Resident y.records.now) (mean key)) (places t)) (sym parts_same)
              (admitted_resides mean hashed c known s r.place node rs x₂.residents x₂.remembered key tied done.place after within no_resident no_ghost x₃.records.now y.records.now x₃.residents x₃.remembered y.residents ready (seats h));
          within =
              subst (λ (n : ℕ). TiedWithin mean hashed n y.records.now (view y.policy.core) y.residents y.remembered) (sym (ap (λ (q : Policy). q.core.capacity) policy_same ∙ sized))
              (subst (λ (t : Parts ℕ ℕ ℕ). TiedWithin mean hashed c y.records.now t y.residents y.remembered) (sym parts_same)
              (subst (λ (j : KeyIndex). TiedWithin mean hashed c y.records.now (seated c v r.place) y.residents j) (sym rest.1)
              (admitted_tied mean hashed c known s r.place node rs x₂.residents x₂.remembered key tied done.place after within no_resident no_ghost x₃.records.now y.records.now x₃.residents x₃.remembered y.residents ready (seats h))));
        }
