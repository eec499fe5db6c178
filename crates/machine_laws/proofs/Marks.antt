-- What a mark and a value say of the history, and how that stands from one event to the next.
use Rattle.std.proofs.Common.{◌≡◌, ℕ, suc, ◌+◌, ◌<◌, ◌≤◌, Bool, true, false, cond, ◌&&◌, ◌||◌, leb, List, [], ◌∷◌, Some, None, Option, Result, unwrap_or, sym, refl, subst, arith}
use Rattle.std.specs.Option.{option_or}
use Rattle.std.proofs.lemmas.Bool.{le-leb, lt-leb, leb-true, leb-false, or_right}
use Rattle.loaders.specs.declared.fault.Fault.{Fault}
use Rattle.machine.specs.Replacement.{Mark, young, plain, used, hit_if, aged}
use Rattle.machine.specs.Machine.{Word}
use Rattle.machine.specs.Run.{Event}
use Rattle.machine_laws.specs.Words.{any, since, since_with, hits, lays, comes_in, enters_small, newcomer, renews, newcomers, hit_after, hit_late, hit_since, last_laid}
use Rattle.machine_laws.specs.Laws.{IsLast}

-- a mark in Small, with the newcomers since it entered, and whether a use hit it late
abbrev pub SmallMark : ℕ → Mark → ℕ → Bool → Type 0
SmallMark w (young d) n late = (n ≡ d) × (d < w) × (late ≡ false)
SmallMark w plain n late = (w ≤ n) × (late ≡ false)
SmallMark w used n late = (w ≤ n) × (late ≡ true)

-- a mark in Main, with whether a use hit it since it was renewed
abbrev pub MainMark : Mark → Bool → Type 0
MainMark (young d) hit = ⊥
MainMark plain hit = hit ≡ false
MainMark used hit = hit ≡ true

small_hit : (w n : ℕ) (m : Mark) (late t : Bool) → SmallMark w m n late → SmallMark w (hit_if t m) (0 + n) ((t && leb w n) || late)
small_hit w n (young d) late true p =
    let l : leb w n ≡ false = lt-leb w n (let q = p.0 in let r = p.1 in omega arith) in
    (let q = p.0 in omega arith, p.1, rw l p.2)
small_hit w n (young d) late false p = (let q = p.0 in omega arith, p.1, p.2)
small_hit w n plain late true p = let l : leb w n ≡ true = le-leb w n p.0 in (let q = p.0 in omega arith, rw l refl)
small_hit w n plain late false p = (let q = p.0 in omega arith, p.1)
small_hit w n used late true p = (let q = p.0 in omega arith, or_right (leb w n) late p.1)
small_hit w n used late false p = (let q = p.0 in omega arith, p.1)

small_older : (w n : ℕ) (m : Mark) (late : Bool) → SmallMark w m n late → SmallMark w (aged w m) (1 + n) late
small_older w n (young d) late p = go (leb w (suc d)) refl
  where
    go : (b : Bool) → leb w (suc d) ≡ b → SmallMark w (cond b plain (young (suc d))) (1 + n) late
    go true e = (let l = leb-true w (suc d) e in let q = p.0 in omega arith, p.2)
    go false e = (let q = p.0 in omega arith, leb-false w (suc d) e, p.2)
small_older w n plain late p = (let q = p.0 in omega arith, p.1)
small_older w n used late p = (let q = p.0 in omega arith, p.1)

main_hit : (m : Mark) (hit t : Bool) → MainMark m hit → MainMark (hit_if t m) (t || hit)
main_hit (young d) hit true p = p
main_hit (young d) hit false p = p
main_hit plain hit true p = refl
main_hit plain hit false p = p
main_hit used hit true p = refl
main_hit used hit false p = p

module _ {V : Type 0} where
  since_goes_on : (p : Event V → Bool) (e : Event V) (h : List (Event V)) → p e ≡ false → since p (e ∷ h) ≡ e ∷ since p h
  since_goes_on p e h q = rw q refl

  since_ends : (p : Event V → Bool) (e : Event V) (h : List (Event V)) → p e ≡ true → since p (e ∷ h) ≡ []
  since_ends p e h q = rw q refl

  -- what a mark in Small says of the history
  abbrev pub SmallSays : ℕ → Word → Mark → List (Event V) → Type 0
  SmallSays w k m h = SmallMark w m (newcomers (since (enters_small k) h)) (hit_late w k h)

  abbrev pub MainSays : Word → Mark → List (Event V) → Type 0
  MainSays k m h = MainMark m (hit_since k h)

  -- in an event without a newcomer a Small mark follows the hits
  pub small_calm : (w : ℕ) (k : Word) (m : Mark) (h : List (Event V)) (e : Event V) → enters_small k e ≡ false → newcomer e ≡ false → SmallSays w k m h → SmallSays w k (hit_if (hits k e) m) (e ∷ h)
  small_calm w k m h e q f p =
      subst (λ (l : List (Event V)). SmallMark w (hit_if (hits k e) m) (newcomers l) (hit_after w k l)) (sym (since_goes_on (enters_small k) e h q))
      (subst (λ (b : Bool). SmallMark w (hit_if (hits k e) m) (cond b 1 0 + newcomers (since (enters_small k) h)) ((hits k e && leb w (newcomers (since (enters_small k) h))) || hit_late w k h)) (sym f)
      (small_hit w (newcomers (since (enters_small k) h)) m (hit_late w k h) (hits k e) p))

  -- in an event with a newcomer, which hits nothing, it ages
  pub small_aged : (w : ℕ) (k : Word) (m : Mark) (h : List (Event V)) (e : Event V) → enters_small k e ≡ false → newcomer e ≡ true → hits k e ≡ false → SmallSays w k m h → SmallSays w k (aged w m) (e ∷ h)
  small_aged w k m h e q f t p =
      subst (λ (l : List (Event V)). SmallMark w (aged w m) (newcomers l) (hit_after w k l)) (sym (since_goes_on (enters_small k) e h q))
      (subst (λ (b : Bool). SmallMark w (aged w m) (cond b 1 0 + newcomers (since (enters_small k) h)) ((hits k e && leb w (newcomers (since (enters_small k) h))) || hit_late w k h)) (sym f)
      (subst (λ (b : Bool). SmallMark w (aged w m) (1 + newcomers (since (enters_small k) h)) ((b && leb w (newcomers (since (enters_small k) h))) || hit_late w k h)) (sym t)
      (small_older w (newcomers (since (enters_small k) h)) m (hit_late w k h) p)))

  -- the newcomer itself is young
  pub small_new : (w : ℕ) (k : Word) (h : List (Event V)) (e : Event V) → 0 < w → enters_small k e ≡ true → SmallSays w k (young 0) (e ∷ h)
  small_new w k h e pos q =
      subst (λ (l : List (Event V)). SmallMark w (young 0) (newcomers l) (hit_after w k l)) (sym (since_ends (enters_small k) e h q)) (refl, pos, refl)

  -- a Main mark follows the hits until it is renewed
  pub main_calm : (k : Word) (m : Mark) (h : List (Event V)) (e : Event V) → renews k e ≡ false → MainSays k m h → MainSays k (hit_if (hits k e) m) (e ∷ h)
  main_calm k m h e q p =
      subst (λ (l : List (Event V)). MainMark (hit_if (hits k e) m) (any (hits k) l)) (sym (since_goes_on (renews k) e h q)) (main_hit m (hit_since k h) (hits k e) p)

  pub main_renewed : (k : Word) (h : List (Event V)) (e : Event V) → renews k e ≡ true → MainSays k plain (e ∷ h)
  main_renewed k h e q = subst (λ (l : List (Event V)). any (hits k) l ≡ false) (sym (since_ends (renews k) e h q)) refl

  -- what a resident's value is
  abbrev pub ValueSays : (Word → Result V Fault) → Word → V → List (Event V) → Type 0
  ValueSays loader k v h = IsLast (last_laid k (since_with (comes_in k) h)) (loader k) v

  -- it stands until a put or a write lays another
  pub value_stays : (loader : Word → Result V Fault) (k : Word) (v u : V) (h : List (Event V)) (e : Event V) → comes_in k e ≡ false → u ≡ unwrap_or (lays k e) v → ValueSays loader k v h → ValueSays loader k u (e ∷ h)
  value_stays loader k v u h e q f p =
      subst (λ (b : Bool). IsLast (last_laid k (cond b (e ∷ []) (e ∷ since_with (comes_in k) h))) (loader k) u) (sym q) (go (lays k e) f p)
    where
      go : (o : Option V) → u ≡ unwrap_or o v → IsLast (last_laid k (since_with (comes_in k) h)) (loader k) v → IsLast (option_or o (last_laid k (since_with (comes_in k) h))) (loader k) u
      go None g l = subst (λ (x : V). IsLast (last_laid k (since_with (comes_in k) h)) (loader k) x) (sym g) l
      go (Some x) g l = sym g

  -- a newcomer has the value that its put lays, or the loader's
  pub value_new : (loader : Word → Result V Fault) (k : Word) (v : V) (h : List (Event V)) (e : Event V) → comes_in k e ≡ true → IsLast (lays k e) (loader k) v → ValueSays loader k v (e ∷ h)
  value_new loader k v h e q p =
      subst (λ (b : Bool). IsLast (last_laid k (cond b (e ∷ []) (e ∷ since_with (comes_in k) h))) (loader k) v) (sym q) (go (lays k e) p)
    where
      go : (o : Option V) → IsLast o (loader k) v → IsLast (option_or o None) (loader k) v
      go None l = l
      go (Some x) l = l
