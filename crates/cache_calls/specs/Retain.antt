-- What a retain asks and drops.
use Rattle.std.specs.Prelude.{◌≡◌, ℕ, zero, suc, Bool, true, false, cond, not, ◌&&◌, List, [], ◌∷◌, ◌++◌, map, filter, nat_eq, slice_set}
use Rattle.machine.specs.Replacement.{Resident, highest_first}
use Rattle.machine.specs.Machine.{Word, Item, State, Order, retain}
use Rattle.queues.specs.Held.{resides}
use Rattle.policy.specs.View.{view}
use Rattle.records.specs.declared.record.Record.{Record}
use Rattle.cache_core.specs.declared.inner.Inner.{Inner}
use Rattle.cache_core.specs.Filing.{Unseats, OnlyResidents}

-- ## In the machine's terms

-- the order in which a retain stacks places: rising, so that the highest is reused first
abbrev pub rising : {V : Type 0} → Order V
rising = highest_first (λ cell. cell.place)

-- the residents of places below n, by rising place
abbrev pub residents_below : {V : Type 0} → ℕ → List (Resident (Item V)) → List (Item V)
residents_below zero rs = []
residents_below (suc n) rs = residents_below n rs ++ map (λ r. r.item) (filter (λ r. nat_eq r.item.place n) rs)

-- a rule that was asked of these, one after the other
abbrev pub asked_all : {V R : Type 0} → (R → Word → V → R) → R → List (Item V) → R
asked_all after rule [] = rule
asked_all after rule (i ∷ items) = asked_all after (after rule i.word i.value) items

-- a rule that was asked of every resident once, by rising place
abbrev pub asked_each : {V R : Type 0} → (R → Word → V → R) → R → State V → R
asked_each after rule s = asked_all after rule (residents_below s.opened (s.small ++ s.main))

abbrev pub retained : {V : Type 0} → (Word → V → Bool) → State V → State V × Unit {0}
retained keeps s = (retain rising keeps s, tt)

-- ## At one place

module _ {K V : Type 0} (mean : K → List ℕ) where
  -- whether the record of a place is refused
  abbrev pub refused : (List ℕ → V → Bool) → List (Record K V) → ℕ → Bool
  refused keeps [] p = false
  refused keeps (r ∷ rs) zero = not (keeps (mean r.key) r.value)
  refused keeps (r ∷ rs) (suc p) = refused keeps rs p

  -- the rule once it was asked of the record of a place
  abbrev pub asked_of : {R : Type 0} → (R → List ℕ → V → R) → List (Record K V) → ℕ → R → R
  asked_of after [] p rule = rule
  asked_of after (r ∷ rs) zero rule = after rule (mean r.key) r.value
  asked_of after (r ∷ rs) (suc p) rule = asked_of after rs p rule

  -- a resident that is refused
  abbrev pub dropped : (List ℕ → V → Bool) → Inner K V → ℕ → Bool
  dropped keeps x p = resides p (view x.policy.core) && refused keeps x.records.now p

  -- the rule once it was asked of the resident of a place, if there is one
  abbrev pub asked_at : {R : Type 0} → (R → List ℕ → V → R) → Inner K V → ℕ → R → R
  asked_at after x p rule = cond (resides p (view x.policy.core)) (asked_of after x.records.now p rule) rule

  module _ (hashed : List ℕ → ℕ) {R : Type 0} (keeps : R → List ℕ → V → Bool) (after : R → List ℕ → V → R) where
    -- the resident of a place is asked about, and if it is refused, flagged and unfiled
    pub record Sifts (x : Inner K V) (rule : R) (flags : List Bool) (p : ℕ) (y : Inner K V) (rule' : R) (flags' : List Bool) : Type 0 where
      pub flagged : flags' ≡ cond (dropped (keeps rule) x p) (slice_set flags p true) flags
      pub asked : rule' ≡ asked_at after x p rule
      pub meaning : keeps rule' ≡ keeps rule
      pub kept : OnlyResidents x y
      pub unseats : dropped (keeps rule) x p ≡ true → Unseats mean hashed x p y
      pub stays : dropped (keeps rule) x p ≡ false → y.residents ≡ x.residents
