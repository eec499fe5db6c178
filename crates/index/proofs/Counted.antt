-- What the table's calls do to the counts of an index.
use Rattle.std.proofs.Common.{◌≡◌, ℕ, ◌+◌, ◌%◌, Bool, true, false, cond, ◌&&◌, eqb, ltb, List, [], ◌∷◌, length, is_some, Some, None, Ok, Err, Option, Result, sym, refl, ap, ◌∙◌, mod-lt, arith}
use Rattle.handles.specs.Meaning.{alike}
use Rattle.handles.specs.Slots.{allowed, room, occupied, weigh, fingerprint}
use Rattle.handles.specs.Seek.{candidates}
use Rattle.handles.specs.Kinds.{place_meaning}
use Rattle.handles.specs.Shift.{inserted, cleared}
use Rattle.handles.specs.Calls.{Inserts, Removes, sought, taken_out}
use Rattle.handles.specs.declared.slot.Slot.{Slot}
use Rattle.handles.specs.declared.kinds.Place.{Place}
use Rattle.handles.specs.declared.owned.OwnedTable.{OwnedTable}
use Rattle.handles.specs.declared.refusal.TableRefusal.{TableRefusal}
use Rattle.handles.specs.declared.refusal.TableRefusal.TheVariants.{Full}
use Rattle.handles.proofs.Pushing.{Ring, ring_pos}
use Rattle.handles.proofs.Placing.{print_below, sound_ring, occupied_weigh, cleared_occupied, cleared_weighs}
use Rattle.handles.proofs.Candidates.{first_is, handle_at}
use Rattle.handles.proofs.Calling.{roomy_true, roomy_false}
use Rattle.handle_laws.specs.Runs.{times_read}
use Rattle.handle_laws.proofs.Counting.{count_all}
use Rattle.handle_laws.proofs.Laws.{some_first}
use Rattle.index.specs.declared.index.KeyIndex.{KeyIndex}
use Rattle.index.specs.Filed.{entry, filed, size, once, Files, Unfiles}

-- an index over a table
abbrev pub over : OwnedTable Place 1024 → KeyIndex
over t = record { table = t }

pub table_room : (t : OwnedTable Place 1024) → room (length t.slots) ≡ 768
table_room t = ap room t.sized

pub table_ring : (t : OwnedTable Place 1024) → Ring (length t.slots) t.slots
table_ring t =
    let e = t.sized in
    sound_ring t.slots t.len t.sound (ap allowed e) (omega arith)

-- a slot that is read nowhere
abbrev nowhere : Slot Place
nowhere = record { meta = 0; handle = record { 0 = 0 } }

-- the candidates of a hash have a place as often as it is filed under the hash
pub candidates_filed : (t : OwnedTable Place 1024) (hash place : ℕ) → times_read place_meaning (candidates t.slots hash) (place ∷ []) ≡ filed (over t) hash place
candidates_filed t hash place =
    let xs = t.slots in
    let r = table_ring t in
    count_all place_meaning (length xs) xs (hash % length xs) (fingerprint hash) (place ∷ []) r (mod-lt hash (ring_pos (length xs) xs r)) (print_below hash) nowhere
    ∙ ap (λ (n : ℕ). weigh (λ home print x. cond (eqb home (hash % n) && (eqb print (fingerprint hash) && alike (place_meaning x) (place ∷ []))) 1 0) xs) t.sized

tests : (a b c : Bool) → ◌≡◌ {A = ℕ} (cond (a && (b && (c && true))) 1 0) (cond ((a && b) && c) 1 0)
tests true true true = refl
tests true true false = refl
tests true false c = refl
tests false b c = refl

-- what an entry of a place under a hash weighs
entry_once : (n hash place h p : ℕ) → n ≡ 1024 → entry h p (hash % n) (fingerprint hash) (place ∷ []) ≡ once hash place h p
entry_once n hash place h p e =
    ap (λ (k : ℕ). entry h p (hash % k) (fingerprint hash) (place ∷ [])) e
    ∙ tests (eqb (hash % 1024) (h % 1024)) (eqb (fingerprint hash) (fingerprint h)) (eqb place p)

pub table_files : (t u : OwnedTable Place 1024) (hash place : ℕ) (r : Result (Unit {0}) TableRefusal) → Inserts t.slots hash (record { 0 = place }) r u.slots → Files (over t) hash place r (over u)
table_files t u hash place r i =
    let xs = t.slots in
    let ys = u.slots in
    let top = table_room t in
    record {
      answer = i.answer ∙ ap (λ (k : ℕ). cond (ltb (occupied xs) k) (Ok tt) (Err (Full k))) top;
      gains = λ free.
          (let open_to = roomy_true xs (occupied xs) refl (omega arith) in
          record {
            larger = (let a = occupied_weigh (length ys) 0 ys in let b = occupied_weigh (length xs) 0 xs in let c = i.weighs (λ _ _ _. 1) open_to in omega arith);
            counts = λ h p.
                i.weighs (λ home print x. entry h p home print (place_meaning x)) open_to
                ∙ ap (λ (k : ℕ). filed (over t) h p + k) (entry_once (length xs) hash place h p t.sized);
          });
      full = λ many. i.slots ∙ ap (λ b. cond b (inserted xs hash (record { 0 = place })) xs) (roomy_false xs (occupied xs) refl (omega arith));
    }

is_some_at : (n : ℕ) (xs : List (Slot Place)) (home print : ℕ) (s : Slot Place) (o : Option ℕ) → is_some (handle_at n xs home print s o) ≡ is_some o
is_some_at n xs home print s None = refl
is_some_at n xs home print s (Some e) = refl

-- a search by place succeeds exactly where the place is filed under the hash
sought_filed : (t : OwnedTable Place 1024) (hash place : ℕ) → is_some (sought place_meaning t.slots hash (record { 0 = place })) ≡ ltb 0 (filed (over t) hash place)
sought_filed t hash place =
    let xs = t.slots in
    let n = length xs in
    let ok = λ (y : Place). alike (place_meaning y) (place ∷ []) in
    let o = sought place_meaning xs hash (record { 0 = place }) in
    sym (is_some_at n xs (hash % n) (fingerprint hash) nowhere o)
    ∙ ap is_some (sym (first_is n xs (hash % n) (fingerprint hash) refl (ring_pos n xs (table_ring t)) nowhere ok n 0))
    ∙ some_first ok (candidates xs hash)
    ∙ ap (ltb 0) (candidates_filed t hash place)

none_taken : (xs ys : List (Slot Place)) (hash : ℕ) (x : Place) (o : Option ℕ) → ys ≡ taken_out xs hash x o → is_some o ≡ false → ys ≡ xs
none_taken xs ys hash x None e f = e
none_taken xs ys hash x (Some d) e f = absurd (cc)

pub table_unfiles : (t u : OwnedTable Place 1024) (hash place : ℕ) (r : Bool) → Removes place_meaning t.slots hash (record { 0 = place }) r u.slots → Unfiles (over t) hash place r (over u)
table_unfiles t u hash place r m =
    let xs = t.slots in
    let ys = u.slots in
    record {
      answer = m.answer ∙ sought_filed t hash place;
      loses = λ yes.
          record {
            larger = (let a = occupied_weigh (length ys) 0 ys in let b = occupied_weigh (length xs) 0 xs in let c = m.weighs (λ _ _ _. 1) yes in omega arith);
            counts = λ h p.
                sym (ap (λ (k : ℕ). filed (over u) h p + k) (sym (entry_once (length xs) hash place h p t.sized))
                ∙ m.weighs (entry h p) yes);
          };
      absent = λ no. none_taken xs ys hash (record { 0 = place }) (sought place_meaning xs hash (record { 0 = place })) m.slots (sym m.answer ∙ no);
    }

pub table_clears : (t u : OwnedTable Place 1024) → u.slots ≡ cleared t.slots → (size (over u) ≡ 0) × ((hash place : ℕ) → filed (over u) hash place ≡ 0)
table_clears t u e = (
  ap occupied e ∙ cleared_occupied t.slots,
  λ hash place.
      (let w = λ (home print : ℕ) (x : Place). entry hash place home print (place_meaning x) in
      ap (weigh w) e ∙ cleared_weighs w (length (cleared t.slots)) 0 t.slots),
)
