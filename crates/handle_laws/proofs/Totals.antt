-- Weighing what is in by the calls: one entry put in, one taken out, all under new hashes.
use Rattle.std.proofs.Common.{◌≡◌, ℕ, suc, ◌+◌, ◌%◌, ◌<◌, Bool, true, false, cond, ◌&&◌, eqb, List, [], ◌∷◌, map, length, Some, None, refl, ap, ◌∙◌, arith}
use Rattle.handles.specs.Meaning.{alike}
use Rattle.handles.specs.Slots.{fingerprint}
use Rattle.handles.specs.Seek.{first_by}
use Rattle.handles.proofs.Meaning.{alike_decides}
use Rattle.handles.proofs.Calling.{and_left, and_right}
use Rattle.std.proofs.lemmas.Bool.{eqb-true}
use Rattle.handle_laws.specs.Runs.{Entry, fits_entry, same_spot, drop_first, how_many}
use Rattle.handle_laws.proofs.Counting.{one}

-- the weight 1 of a home, a fingerprint and a meaning
abbrev pub spot_of : ℕ → ℕ → List ℕ → ℕ → ℕ → List ℕ → ℕ
spot_of home print m b p k = one (eqb b home && (eqb p print && alike k m))

pub and_assoc : (a b c : Bool) → one ((a && b) && c) ≡ one (a && (b && c))
and_assoc true b c = refl
and_assoc false b c = refl

pub first_none : {A : Type 0} (ok : A → Bool) (xs : List A) → first_by ok xs ≡ None → how_many ok xs ≡ 0
first_none ok [] e = refl
first_none ok (x ∷ xs) e =
    (elim (ok x) as (λ b. cond b (Some x) (first_by ok xs) ≡ None → cond b 1 0 + how_many ok xs ≡ 0) [
      | true ↦ λ q. absurd (cc)
      | false ↦ λ q. (let ih = first_none ok xs q in omega arith)
    ]) e

pub first_some : {A : Type 0} (ok : A → Bool) (xs : List A) (y : A) → first_by ok xs ≡ Some y → 0 < how_many ok xs
first_some ok [] y e = absurd (cc)
first_some ok (x ∷ xs) y e =
    (elim (ok x) as (λ b. cond b (Some x) (first_by ok xs) ≡ Some y → 0 < cond b 1 0 + how_many ok xs) [
      | true ↦ λ q. omega arith
      | false ↦ λ q. (let ih = first_some ok xs y q in omega arith)
    ]) e

pub drop_none : {A : Type 0} (ok : A → Bool) (xs : List A) → how_many ok xs ≡ 0 → drop_first ok xs ≡ xs
drop_none ok [] e = refl
drop_none ok (x ∷ xs) e =
    (elim (ok x) as (λ b. cond b 1 0 + how_many ok xs ≡ 0 → cond b xs (x ∷ drop_first ok xs) ≡ x ∷ xs) [
      | true ↦ λ q. absurd (omega arith)
      | false ↦ λ q. ap (λ zs. x ∷ zs) (drop_none ok xs (omega arith))
    ]) e

pub drop_length : {A : Type 0} (ok : A → Bool) (xs : List A) → 0 < how_many ok xs → length (drop_first ok xs) + 1 ≡ length xs
drop_length ok [] e = absurd (omega arith)
drop_length ok (x ∷ xs) e =
    (elim (ok x) as (λ b. 0 < cond b 1 0 + how_many ok xs → length (cond b xs (x ∷ drop_first ok xs)) + 1 ≡ suc (length xs)) [
      | true ↦ λ q. omega arith
      | false ↦ λ q. (let ih = drop_length ok xs (omega arith) in omega arith)
    ]) e

module _ {X : Type 0} (meaning : X → List ℕ) where
  abbrev pub weight_of : ℕ → (ℕ → ℕ → List ℕ → ℕ) → Entry X → ℕ
  weight_of n w e = w (e.hash % n) (fingerprint e.hash) (meaning e.handle)

  abbrev pub total : ℕ → (ℕ → ℕ → List ℕ → ℕ) → List (Entry X) → ℕ
  total n w [] = 0
  total n w (e ∷ es) = weight_of n w e + total n w es

  pub total_times : (n hash : ℕ) (m : List ℕ) (es : List (Entry X)) → total n (spot_of (hash % n) (fingerprint hash) m) es ≡ how_many (fits_entry meaning n hash m) es
  total_times n hash m [] = refl
  total_times n hash m (e ∷ es) =
      let ih = total_times n hash m es in
      let a = and_assoc (eqb (e.hash % n) (hash % n)) (eqb (fingerprint e.hash) (fingerprint hash)) (alike (meaning e.handle) m) in
      omega arith

  fits_weight : (n hash : ℕ) (m : List ℕ) (w : ℕ → ℕ → List ℕ → ℕ) (e : Entry X) → fits_entry meaning n hash m e ≡ true → weight_of n w e ≡ w (hash % n) (fingerprint hash) m
  fits_weight n hash m w e t =
      let spots = and_left (same_spot n e.hash hash) (alike (meaning e.handle) m) t in
      let means = and_right (same_spot n e.hash hash) (alike (meaning e.handle) m) t in
      let h = eqb-true (e.hash % n) (hash % n) (and_left (eqb (e.hash % n) (hash % n)) (eqb (fingerprint e.hash) (fingerprint hash)) spots) in
      let p = eqb-true (fingerprint e.hash) (fingerprint hash) (and_right (eqb (e.hash % n) (hash % n)) (eqb (fingerprint e.hash) (fingerprint hash)) spots) in
      let k = (alike_decides (meaning e.handle) m).0 means in
      ap (λ (z : ℕ). w z (fingerprint e.hash) (meaning e.handle)) h
      ∙ ap (λ (z : ℕ). w (hash % n) z (meaning e.handle)) p
      ∙ ap (λ (z : List ℕ). w (hash % n) (fingerprint hash) z) k

  pub total_drop : (n hash : ℕ) (m : List ℕ) (w : ℕ → ℕ → List ℕ → ℕ) (es : List (Entry X)) → 0 < how_many (fits_entry meaning n hash m) es → total n w (drop_first (fits_entry meaning n hash m) es) + w (hash % n) (fingerprint hash) m ≡ total n w es
  total_drop n hash m w [] some = absurd (omega arith)
  total_drop n hash m w (e ∷ es) some =
      (elim (fits_entry meaning n hash m e) as (λ b. fits_entry meaning n hash m e ≡ b → 0 < cond b 1 0 + how_many (fits_entry meaning n hash m) es → total n w (cond b es (e ∷ drop_first (fits_entry meaning n hash m) es)) + w (hash % n) (fingerprint hash) m ≡ weight_of n w e + total n w es) [
        | true ↦ λ t q. (let f = fits_weight n hash m w e t in omega arith)
        | false ↦ λ t q. (let ih = total_drop n hash m w es (omega arith) in omega arith)
      ]) refl some

  -- every entry under a rule's hash
  abbrev pub moved : (List ℕ → ℕ) → Entry X → Entry X
  moved rule e = record { hash = rule (meaning e.handle); handle = e.handle }

  pub total_moved : (n k : ℕ) (rule : List ℕ → ℕ) (w : ℕ → ℕ → List ℕ → ℕ) (es : List (Entry X)) → total k w (map (moved rule) es) ≡ total n (λ _ _ m. w (rule m % k) (fingerprint (rule m)) m) es
  total_moved n k rule w [] = refl
  total_moved n k rule w (e ∷ es) = let ih = total_moved n k rule w es in omega arith
