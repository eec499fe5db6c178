-- When an index is right: it is tied to the places where keys lie.
use Rattle.std.specs.Prelude.{◌≡◌, ℕ, ◌<◌, ◌≤◌, Bool, true, false, cond, List, [], ◌∷◌, length, Some, None, Ok, Option, Result, nat_eq}
use Rattle.handles.specs.declared.refusal.TableRefusal.{TableRefusal}
use Rattle.handle_laws.specs.Runs.{how_many, same_spot}
use Rattle.index.specs.declared.index.KeyIndex.{KeyIndex}
use Rattle.index.specs.Filed.{bears, filed, size}

-- how often a place stands in a list
abbrev pub occurs : ℕ → List ℕ → ℕ
occurs p ps = how_many (nat_eq p) ps

-- whether the key in a place is filed under this hash
abbrev pub under : (List ℕ → ℕ) → Option (List ℕ) → ℕ → Bool
under hashed None hash = false
under hashed (Some word) hash = same_spot 1024 (hashed word) hash

-- the index has just the places `ps`, each under the hash of the key that lies in it, and no two of them bear one key
pub record Ties (hashed : List ℕ → ℕ) (lying : ℕ → Option (List ℕ)) (ps : List ℕ) (i : KeyIndex) : Type 0 where
  pub whole : size i ≡ length ps
  pub counts : (hash p : ℕ) → filed i hash p ≡ cond (under hashed (lying p) hash) (occurs p ps) 0
  pub apart : (word : List ℕ) → how_many (bears lying word) ps ≤ 1

-- the index has nothing filed
abbrev pub TiesNone : KeyIndex → Type 0
TiesNone i = (hashed : List ℕ → ℕ) (lying : ℕ → Option (List ℕ)) → Ties hashed lying [] i

-- filing a place under the hash of its key ties the index to one place more, unless another bears the key
abbrev pub TiesIn : KeyIndex → ℕ → ℕ → Result (Unit {0}) TableRefusal → KeyIndex → Type 0
TiesIn i hash place r j =
    (hashed : List ℕ → ℕ) (lying : ℕ → Option (List ℕ)) (ps : List ℕ) (word : List ℕ) →
    Ties hashed lying ps i → lying place ≡ Some word → hash ≡ hashed word → how_many (bears lying word) ps ≡ 0 → length ps < 768 →
    (r ≡ Ok tt) × Ties hashed lying (place ∷ ps) j

-- unfiling a place under the hash of its key ties the index to one place less
abbrev pub TiesOut : KeyIndex → ℕ → ℕ → Bool → KeyIndex → Type 0
TiesOut i hash place r j =
    (hashed : List ℕ → ℕ) (lying : ℕ → Option (List ℕ)) (ps : List ℕ) (word : List ℕ) →
    Ties hashed lying (place ∷ ps) i → lying place ≡ Some word → hash ≡ hashed word →
    (r ≡ true) × Ties hashed lying ps j
