-- What leaves by a step of the insertion, and what stays.
use Rattle.std.proofs.Common.{◌≡◌, ℕ, ◌⊎◌, List, [], ◌∷◌, Some, None, Option, refl, ap, ◌∙◌, inr, arith, MatchOption}
use Rattle.links.specs.Rows.{first_of}
use Rattle.machine.specs.Replacement.{Resident, Parts, Swept, Ended, ended}
use Rattle.queues.specs.declared.residents.Residents.{Residents}
use Rattle.queues.specs.declared.selected.Selected.{Selected}
use Rattle.queues.specs.Held.{held}
use Rattle.queues.specs.Steps.{released, turned, told, place_of}
use Rattle.queues.proofs.Alone.{first_released, tail_released}
use Rattle.policy.specs.View.{noting}
use Rattle.ghosts.specs.declared.noted.Noted.{Noted}
use Rattle.ghosts.specs.Remembered.{Pushed}
use Rattle.policy.specs.Insertion.{main_out, tail_out, topped, TailEvicted}

-- after a sweep and the release of its victim
pub victim_out : (q1 q2 : Residents) (h : Parts ℕ ℕ ℕ) (w : Option (Swept ℕ)) (sel : Selected) → h.remembered ≡ [] → Some sel ≡ told w → held q1 ≡ turned w h → held q2 ≡ released sel.victim (held q1) → held q2 ≡ main_out w h
victim_out q1 q2 h None sel n e t r = let z : ◌≡◌ {A = ℕ} 0 1 = cc in absurd (omega arith)
victim_out q1 q2 h (Some w) sel n e t r =
    let i : sel ≡ record { victim = w.victim.item; chances = w.chances } = cc in
    let v : sel.victim ≡ w.victim.item = ap (λ (x : Selected). x.victim) i in
    let m : (held q1).main ≡ w.victim ∷ w.rest = ap (λ (x : Parts ℕ ℕ ℕ). x.main) t in
    let a : (held q1).small ≡ h.small = ap (λ (x : Parts ℕ ℕ ℕ). x.small) t in
    let b : (held q1).free ≡ h.free = ap (λ (x : Parts ℕ ℕ ℕ). x.free) t in
    let c : (held q1).opened ≡ h.opened = ap (λ (x : Parts ℕ ℕ ℕ). x.opened) t in
    let f = first_released q1 w.victim w.rest m in
    let j : held q2 ≡ released w.victim.item (held q1) = r ∙ ap (λ (p : ℕ). released p (held q1)) v in
    (j ∙ f) ∙ fields (held q1).small h.small (held q1).free h.free (held q1).opened h.opened h.remembered w.rest w.victim.item a b c n
  where
    fields : (a a' : List (Resident ℕ)) (b b' : List ℕ) (c c' : ℕ) (d : List ℕ) (m : List (Resident ℕ)) (p : ℕ) → a ≡ a' → b ≡ b' → c ≡ c' → d ≡ [] → ◌≡◌ {A = Parts ℕ ℕ ℕ} (record { small = a; main = m; remembered = []; free = p ∷ b; opened = c }) (record { small = a'; main = m; remembered = d; free = p ∷ b'; opened = c' })
    fields a a' b b' c c' d m p ea eb ec ed = rw (ea, eb, ec, ed)

-- no victim: nothing turned
pub no_victim : (h1 h : Parts ℕ ℕ ℕ) (w : Option (Swept ℕ)) → None ≡ told w → h1 ≡ turned w h → h1 ≡ main_out w h
no_victim h1 h None e t = t
no_victim h1 h (Some w) e t = let z : ◌≡◌ {A = ℕ} 0 1 = cc in absurd (omega arith)

-- after the release of Small's tail
pub tail_out_lem : (q1 q2 : Residents) (o : Option (Ended (Resident ℕ))) (p : ℕ) (limit node : ℕ) (old new : List ℕ) → ended (held q1).small ≡ o → Some p ≡ place_of o → held q2 ≡ released p (held q1) → (new ≡ (tail_out limit node o (noting old (held q1))).remembered) → noting new (held q2) ≡ tail_out limit node o (noting old (held q1))
tail_out_lem q1 q2 None p limit node old new h e r g = let z : ◌≡◌ {A = ℕ} 0 1 = cc in absurd (omega arith)
tail_out_lem q1 q2 (Some x) p limit node old new h e r g =
    let i : p ≡ x.tail.item = cc in
    let f = tail_released q1 x h in
    let j = (r ∙ ap (λ (y : ℕ). released y (held q1)) i) ∙ f in
    ap (λ (y : Parts ℕ ℕ ℕ). noting new y) j ∙ ap (λ (y : List ℕ). noting y (record { small = x.front; main = (held q1).main; remembered = []; free = x.tail.item ∷ (held q1).free; opened = (held q1).opened })) g

pub no_tail : (o : Option (Ended (Resident ℕ))) → None ≡ place_of o → o ≡ None
no_tail None e = refl
no_tail (Some x) e = let z : ◌≡◌ {A = ℕ} 0 1 = cc in absurd (omega arith)

pub top_some : (p : ℕ) (xs : List ℕ) (s : Parts ℕ ℕ ℕ) → Some p ≡ first_of xs → s ≡ topped xs s
top_some p [] s e = let z : ◌≡◌ {A = ℕ} 0 1 = cc in absurd (omega arith)
top_some p (x ∷ xs) s e = refl

-- Ghost keeps what it remembers meanwhile
pub noted_out : (g : List ℕ) (h : Parts ℕ ℕ ℕ) (w : Option (Swept ℕ)) → noting g (main_out w h) ≡ main_out w (noting g h)
noted_out g h None = refl
noted_out g h (Some w) = refl

-- the tail is out, and Ghost has its newest
pub tail_evicted_lem : (q1 q2 : Residents) (p limit : ℕ) (old new : List ℕ) (r : Option Noted) → Some p ≡ place_of (ended (held q1).small) → held q2 ≡ released p (held q1) → MatchOption r (limit ≡ 0) (λ n. Pushed limit old new n) → MatchOption r ((ended (held q1).small ≡ None) ⊎ (limit ≡ 0)) (λ n. TailEvicted limit (noting old (held q1)) (noting new (held q2)) n)
tail_evicted_lem q1 q2 p limit old new None e h c = inr c
tail_evicted_lem q1 q2 p limit old new (Some n) e h c =
    record { parts = tail_out_lem q1 q2 (ended (held q1).small) p limit n.node old new refl e h (newest (ended (held q1).small) e); node = c.reused }
  where
    newest : (o : Option (Ended (Resident ℕ))) → Some p ≡ place_of o → new ≡ (tail_out limit n.node o (noting old (held q1))).remembered
    newest None i = let z : ◌≡◌ {A = ℕ} 0 1 = cc in absurd (omega arith)
    newest (Some x) i = c.newest
