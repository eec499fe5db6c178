-- The calls of the machine that may insert, by what their lookup finds.
use Rattle.std.proofs.Common.{◌≡◌, ℕ, ◌≤◌, Bool, true, false, eqb, Some, None, Ok, Err, Result, sym, ap, ◌∙◌, inl, inr, arith}
use Rattle.std.proofs.lemmas.Bool.Decides.{eqb_tells}
use Rattle.loaders.specs.declared.fault.Fault.{Fault}
use Rattle.machine.specs.declared.report.Report.{Report}
use Rattle.machine.specs.declared.refusal.Refusal.{Refusal}
use Rattle.machine.specs.declared.refusal.Refusal.TheVariants.{NoCapacity, NotLoaded}
use Rattle.machine.specs.declared.call.Placed.TheVariants as placed
use Rattle.machine.specs.declared.call.Fetched.TheVariants as fetched
use Rattle.machine.specs.declared.call.Claimed.TheVariants as claimed
use Rattle.machine.specs.Replacement.{uses}
use Rattle.machine.specs.Machine.{Word, Item, State, is_at, look, lays, lying, arrival, settled, report_of, unless, put, put_on, fetch, fetch_on, loaded_on, claim, claim_on}

some_capacity : (c : ℕ) → 1 ≤ c → eqb c 0 ≡ false
some_capacity c pos = elim (eqb_tells c 0) [ inl e ↦ absurd (let z = e.1 in omega arith) | inr e ↦ e.0 ]

no_capacity : (c : ℕ) → c ≡ 0 → eqb c 0 ≡ true
no_capacity c e = ap (λ (n : ℕ). eqb n 0) e

module _ {V : Type 0} where
  -- at capacity 0 nothing is done
  pub refused : {A : Type 0} (c : ℕ) (s : State V) (go : State V × Result A Refusal) → c ≡ 0 → unless (eqb c 0) s go ≡ (s, Err NoCapacity)
  refused c s go e = ap (λ (b : Bool). unless b s go) (no_capacity c e)

  pub allowed : {A : Type 0} (c : ℕ) (s : State V) (go : State V × Result A Refusal) → 1 ≤ c → unless (eqb c 0) s go ≡ go
  allowed c s go pos = ap (λ (b : Bool). unless b s go) (some_capacity c pos)

  module _ (c : ℕ) (pos : 1 ≤ c) (s t : State V) (k : Word) where
    pub put_some : (v : V) (i : Item V) (old : V) → look k s ≡ Some i → t ≡ lays k v (uses (is_at k) s) → old ≡ i.value → put c s k v ≡ (t, Ok (placed.Old old))
    put_some v i old e next val = allowed c s (put_on c s k v (look k s)) pos ∙ (ap (put_on c s k v) e ∙ λ j. (sym next j, Ok (placed.Old (sym val j))))

    pub put_none : (v : V) (report : Report) → look k s ≡ None → t ≡ settled c k v (arrival c k s) → report ≡ report_of (arrival c k s) → put c s k v ≡ (t, Ok (placed.New report))
    put_none v report e next told = allowed c s (put_on c s k v (look k s)) pos ∙ (ap (put_on c s k v) e ∙ λ j. (sym next j, Ok (placed.New (sym told j))))

    module _ (loader : Word → Result V Fault) where
      pub fetch_some : (i : Item V) (v : V) → look k s ≡ Some i → t ≡ uses (is_at k) s → v ≡ i.value → fetch c loader s k ≡ (t, Ok (fetched.Held v))
      fetch_some i v e next val = allowed c s (fetch_on c loader s k (look k s)) pos ∙ (ap (fetch_on c loader s k) e ∙ λ j. (sym next j, Ok (fetched.Held (sym val j))))

      pub fetch_loaded : (v : V) (report : Report) → look k s ≡ None → loader k ≡ Ok v → t ≡ settled c k v (arrival c k s) → report ≡ report_of (arrival c k s) → fetch c loader s k ≡ (t, Ok (fetched.New v report))
      fetch_loaded v report e ok next told =
          allowed c s (fetch_on c loader s k (look k s)) pos
          ∙ (ap (fetch_on c loader s k) e ∙ (ap (loaded_on c s k) ok ∙ λ j. (sym next j, Ok (fetched.New v (sym told j)))))

      pub fetch_fault : (fault : Fault) → look k s ≡ None → loader k ≡ Err fault → t ≡ s → fetch c loader s k ≡ (t, Err (NotLoaded fault))
      fetch_fault fault e err next =
          allowed c s (fetch_on c loader s k (look k s)) pos ∙ (ap (fetch_on c loader s k) e ∙ (ap (loaded_on c s k) err ∙ λ j. (sym next j, Err (NotLoaded fault))))

    pub claim_some : (given : V) (i : Item V) (place : ℕ) (v : V) → look k s ≡ Some i → t ≡ uses (is_at k) s → place ≡ i.place → v ≡ i.value → claim c s k given ≡ (t, Ok (claimed.Held (place, v)))
    claim_some given i place v e next at val =
        allowed c s (claim_on c s k given (look k s)) pos ∙ (ap (claim_on c s k given) e ∙ λ j. (sym next j, Ok (claimed.Held (sym at j, sym val j))))

    pub claim_none : (given v : V) (report : Report) → look k s ≡ None → v ≡ lying given (arrival c k s).spot → t ≡ settled c k v (arrival c k s) → report ≡ report_of (arrival c k s) → claim c s k given ≡ (t, Ok (claimed.New (report.place, v) report))
    claim_none given v report e val next told =
        allowed c s (claim_on c s k given (look k s)) pos
        ∙ (ap (claim_on c s k given) e
        ∙ λ j.
        (sym (next ∙ ap (λ (u : V). settled c k u (arrival c k s)) val) j, Ok (claimed.New (sym (ap (λ (r : Report). r.place) told) j, sym val j) (sym told j))))
