-- What an index holds, counted, and what each call answers and makes of it.
use Rattle.std.specs.Prelude.{◌≡◌, ℕ, ◌+◌, ◌%◌, ◌<◌, ◌≤◌, Bool, true, false, cond, ◌&&◌, List, [], ◌∷◌, Some, None, Ok, Err, Option, Result, ◌==◌, nat_lt}
use Rattle.handles.specs.Meaning.{alike}
use Rattle.handles.specs.Slots.{occupied, weigh, fingerprint}
use Rattle.handles.specs.Kinds.{place_meaning}
use Rattle.handles.specs.declared.refusal.TableRefusal.{TableRefusal}
use Rattle.handles.specs.declared.refusal.TableRefusal.TheVariants.{Full}
use Rattle.handle_laws.specs.Runs.{same_spot}
use Rattle.index.specs.declared.index.KeyIndex.{KeyIndex}

-- whether a key, by its meaning, lies in a place
abbrev pub is_key : List ℕ → Option (List ℕ) → Bool
is_key word None = false
is_key word (Some other) = alike word other

abbrev pub bears : (ℕ → Option (List ℕ)) → List ℕ → ℕ → Bool
bears lying word place = is_key word (lying place)

-- 1 for an entry of this place with the home and the fingerprint of this hash
abbrev pub entry : ℕ → ℕ → ℕ → ℕ → List ℕ → ℕ
entry hash place home print m = cond (home == hash % 1024 && (print == fingerprint hash && alike m (place ∷ []))) 1 0

-- how often a place is filed under a hash; hashes with the same home and fingerprint are filed alike
abbrev pub filed : KeyIndex → ℕ → ℕ → ℕ
filed i hash place = weigh (λ home print x. entry hash place home print (place_meaning x)) i.table.slots

-- how many entries there are
abbrev pub size : KeyIndex → ℕ
size i = occupied i.table.slots

-- what one entry of a place under a hash adds to the count of a place under a hash
abbrev pub once : ℕ → ℕ → ℕ → ℕ → ℕ
once hash place h p = cond (same_spot 1024 hash h && place == p) 1 0

-- j is i with one entry more, of a place under a hash
pub record Gains (i j : KeyIndex) (hash place : ℕ) : Type 0 where
  pub larger : size j ≡ size i + 1
  pub counts : (h p : ℕ) → filed j h p ≡ filed i h p + once hash place h p

-- what filing answers and makes of the index: one entry more, or nothing where it is full
pub record Files (i : KeyIndex) (hash place : ℕ) (r : Result (Unit {0}) TableRefusal) (j : KeyIndex) : Type 0 where
  pub answer : r ≡ cond (nat_lt (size i) 768) (Ok tt) (Err (Full 768))
  pub gains : size i < 768 → Gains i j hash place
  pub full : 768 ≤ size i → j.table.slots ≡ i.table.slots

-- what unfiling answers and makes of the index: one entry less, or nothing where there was none
pub record Unfiles (i : KeyIndex) (hash place : ℕ) (r : Bool) (j : KeyIndex) : Type 0 where
  pub answer : r ≡ nat_lt 0 (filed i hash place)
  pub loses : r ≡ true → Gains j i hash place
  pub absent : r ≡ false → j.table.slots ≡ i.table.slots

-- what a search answers: a place filed under the hash that bears the key, and none only where there is no such place
abbrev pub Found : KeyIndex → (ℕ → Option (List ℕ)) → List ℕ → ℕ → Option ℕ → Type 0
Found i lying word hash None = (p : ℕ) → bears lying word p ≡ true → filed i hash p ≡ 0
Found i lying word hash (Some p) = (bears lying word p ≡ true) × (0 < filed i hash p)
