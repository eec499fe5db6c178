-- A text is read to a number exactly where it is that number's numeral.
use Rattle.std.proofs.Common.{◌≡◌, ℕ, zero, suc, ◌+◌, ◌^◌, ◌<◌, ◌≤◌, Bool, true, false, cond, ◌&&◌, ◌||◌, ltb, List, [], ◌∷◌, length, get_or, drop, ℤ, pos, negsuc, neg_ℤ, Some, None, Ok, Err, decimal, Decides, Option, Result, sym, refl, ap, ◌∙◌, inl, inr, arith, w32, SFits, MatchOption}
use Rattle.std.proofs.lemmas.Fmt.{digits_decimal, digits_value-decimal, decimal_nonempty, first_decimal, decimal_digit, decimal-digits_value}
use Rattle.std.proofs.lemmas.Str.Parse.{IsNumeralModel, numerals_by_value, tells_all_ascii_digits, not_in_digits, parse_plain, parse_signed_plain, parse_signed_minus}
use Rattle.std.proofs.lemmas.Option.{cond_some}
use Rattle.std.proofs.lemmas.Bool.{and_parts, ltb-true, lt-ltb, cases_lt, or_cases}
use Rattle.std.proofs.lemmas.Bool.Decides.{nat_tests}
use Rattle.std.specs.Result.{OkIff, result_ok}
use Rattle.std.specs.Option.{option_map}
use Rattle.std.specs.Str.Parse.{digits_value, ParsesUnsigned, ParsesSigned}
use Rattle.std.specs.Int.{IsInRange}
use Rattle.std.specs.Fmt.{signed_decimal}
use Rattle.std.specs.Str.{all_ascii_digits}
use Rattle.text.proofs.Fields.{Lacks, lacks_more}
use Rattle.text.specs.Number.{plain, negative, unsigned_text, signed_text}

pub own : IsNumeralModel (λ ds. all_ascii_digits ds ≡ true) (digits_value 10)
own = numerals_by_value _ tells_all_ascii_digits

-- what `parse` converts, as the test that decides it
pub converted_cond : {X E : Type 0} {P : Type 0} (r : Result X E) (v : X) (t : Bool) → OkIff r P v → Decides t P → result_ok r ≡ cond t (Some v) None
converted_cond (Ok x) v t (p, e) d = rw (d.1 p) (ap Some e)
converted_cond (Err e) v true never d = absurd (never (d.0 refl))
converted_cond (Err e) v false never d = refl

pub plain_some : (bs : List ℕ) → plain bs ≡ true → 0 < length bs
plain_some [] e = cc
plain_some (c ∷ cs) e = omega arith

pub plain_zero : (bs : List ℕ) → plain bs ≡ true → get_or bs 0 0 ≡ 48 → length bs ≡ 1
plain_zero [] e z = omega arith
plain_zero (c ∷ []) e z = refl
plain_zero (c ∷ (d ∷ ds)) e z = absurd (grind (arith, nat_tests))

-- a text that begins plainly begins with a digit
pub plain_not : (c : ℕ) (bs : List ℕ) → plain bs ≡ true → c < 48 → get_or bs 0 0 ≡ c → ⊥
plain_not c [] e low is = cc
plain_not c (d ∷ []) e low is = grind (arith, nat_tests)
plain_not c (d ∷ (f ∷ ds)) e low is = grind (arith, nat_tests)

pub plain_from : (bs : List ℕ) → all_ascii_digits bs ≡ true → 0 < length bs → (get_or bs 0 0 ≡ 48 → length bs ≡ 1) → plain bs ≡ true
plain_from [] a some lone = absurd (omega arith)
plain_from (c ∷ []) a some lone = grind (arith, nat_tests)
plain_from (c ∷ (d ∷ ds)) a some lone = let n : c ≡ 48 → ⊥ = λ e. let two = lone e in omega arith in grind (arith, nat_tests)

digit_low : (ds : List ℕ) → all_ascii_digits ds ≡ true → get_or ds 0 0 < 58
digit_low [] a = omega arith
digit_low (c ∷ cs) a = grind (arith, nat_tests)

pub plain_decimal : (n : ℕ) → n < 2 ^ 64 → plain (decimal n) ≡ true
plain_decimal n fits =
    let first : get_or (decimal n) 0 0 ≡ 48 → length (decimal n) ≡ 1 =
    λ e. elim (cases_lt 0 n) [ inl h ↦ absurd (omega (arith, first_decimal n h fits)) | inr h ↦ ap length (decimal_digit n (omega arith)) ] in
    plain_from (decimal n) (digits_decimal own n fits) (decimal_nonempty n fits) first

-- a numeral is read to its number
pub unsigned_back : (limit n : ℕ) → n < limit → n < 2 ^ 64 → unsigned_text limit (decimal n) ≡ Some n
unsigned_back limit n low fits =
    rw (plain_decimal n fits, digits_decimal own n fits, digits_value-decimal own n fits, lt-ltb n limit low) refl

-- a text that is read is the numeral of its number
pub unsigned_is : (limit : ℕ) (bs : List ℕ) (n : ℕ) → limit ≤ 2 ^ 64 → unsigned_text limit bs ≡ Some n → (bs ≡ decimal n) × (n < limit)
unsigned_is limit bs n big e =
    let found = cond_some (plain bs && (all_ascii_digits bs && ltb (digits_value 10 bs) limit)) (digits_value 10 bs) n e in
    let a = and_parts (plain bs) (all_ascii_digits bs && ltb (digits_value 10 bs) limit) found.0 in
    let b = and_parts (all_ascii_digits bs) (ltb (digits_value 10 bs) limit) a.1 in
    let l = ltb-true (digits_value 10 bs) limit b.1 in
    let d = decimal-digits_value own bs b.0 (plain_some bs a.0) (plain_zero bs a.0) (omega arith) in
    (sym d ∙ ap decimal found.1, omega arith)

-- no text but a numeral below the limit is read, and each of these is
pub unsigned_exact : (limit : ℕ) (bs : List ℕ) (r : Option ℕ) → limit ≤ 2 ^ 64 → r ≡ unsigned_text limit bs → MatchOption r ((n : ℕ) → n < limit → bs ≡ decimal n → ⊥) (λ n. bs ≡ decimal n)
unsigned_exact limit bs (Some n) big e = (unsigned_is limit bs n big (sym e)).0
unsigned_exact limit bs None big e = λ n low is. let back = unsigned_back limit n low (omega arith) in cc

-- what `parse` makes of a text that begins plainly
pub unsigned_parsed : {E : Type 0} (k : ℕ) (bs : List ℕ) (r : Result ℕ E) → plain bs ≡ true → ParsesUnsigned k 10 bs r → result_ok r ≡ unsigned_text (2 ^ k) bs
unsigned_parsed k bs r p h =
    let plus : get_or bs 0 0 ≡ 43 → ⊥ = plain_not 43 bs p (omega arith) in
    let some = plain_some bs p in
    let got = parse_plain own k bs r h plus in
    let t = all_ascii_digits bs && ltb (digits_value 10 bs) (2 ^ k) in
    let d : Decides t ((all_ascii_digits bs ≡ true) × (0 < length bs) × (digits_value 10 bs < 2 ^ k)) =
    (λ e. let b = and_parts (all_ascii_digits bs) (ltb (digits_value 10 bs) (2 ^ k)) e in (b.0, some, ltb-true (digits_value 10 bs) (2 ^ k) b.1), λ q. rw (q.0, lt-ltb (digits_value 10 bs) (2 ^ k) q.2) refl) in
    rw p (converted_cond r (digits_value 10 bs) t got d)

mapped_cond : {X Y : Type 0} (f : X → Y) (t : Bool) (x : X) → option_map f (cond t (Some x) None) ≡ cond t (Some (f x)) None
mapped_cond f true x = refl
mapped_cond f false x = refl

-- a text that begins with a minus and 1 to 9, taken apart
negative_parts : (bs : List ℕ) → negative bs ≡ true → (bs ≡ 45 ∷ drop 1 bs) × (get_or bs 0 0 ≡ 45) × (plain (drop 1 bs) ≡ true) × (48 < get_or (drop 1 bs) 0 0)
negative_parts [] e = cc
negative_parts (c ∷ []) e = cc
negative_parts (c ∷ (d ∷ [])) e = let p : c ≡ 45 = grind (arith, nat_tests) in (ap (λ x. x ∷ (d ∷ [])) p, p, grind (arith, nat_tests), grind (arith, nat_tests))
negative_parts (c ∷ (d ∷ (f ∷ ds))) e = let p : c ≡ 45 = grind (arith, nat_tests) in (ap (λ x. x ∷ (d ∷ (f ∷ ds))) p, p, grind (arith, nat_tests), grind (arith, nat_tests))

negative_from : (bs : List ℕ) → 0 < length bs → 48 < get_or bs 0 0 → get_or bs 0 0 < 58 → negative (45 ∷ bs) ≡ true
negative_from [] some low high = absurd (omega arith)
negative_from (c ∷ cs) some low high = grind (arith, nat_tests)

-- no text begins both ways
plain_positive : (bs : List ℕ) → plain bs ≡ true → negative bs ≡ false
plain_positive [] e = refl
plain_positive (c ∷ []) e = refl
plain_positive (c ∷ (d ∷ ds)) e = grind (arith, nat_tests)

-- what `parse` makes of a text that begins with a minus, and of one that begins plainly
minus_parsed : {E : Type 0} (bs : List ℕ) (r : Result ℤ E) → negative bs ≡ true → ParsesSigned w32 10 bs r → result_ok r ≡ signed_text bs
minus_parsed bs r p h =
    let parts = negative_parts bs p in
    let ds = drop 1 bs in
    let n = digits_value 10 ds in
    let some = plain_some ds parts.2 in
    let got = parse_signed_minus own w32 bs r h parts.1 in
    let t = all_ascii_digits ds && ltb n (2 ^ 31 + 1) in
    let d : Decides t ((all_ascii_digits ds ≡ true) × (0 < length ds) × (n ≤ 2 ^ 31)) =
    (λ e. let b = and_parts (all_ascii_digits ds) (ltb n (2 ^ 31 + 1)) e in (b.0, some, omega (arith, ltb-true n (2 ^ 31 + 1) b.1)), λ q. rw (q.0, lt-ltb n (2 ^ 31 + 1) (omega (arith, q.2))) refl) in
    converted_cond r (neg_ℤ (pos n)) t got d ∙ sym (rw (p, parts.2) (mapped_cond (λ m. neg_ℤ (pos m)) t n))

plus_parsed : {E : Type 0} (bs : List ℕ) (r : Result ℤ E) → plain bs ≡ true → ParsesSigned w32 10 bs r → result_ok r ≡ signed_text bs
plus_parsed bs r p h =
    let n = digits_value 10 bs in
    let some = plain_some bs p in
    let got = parse_signed_plain own w32 bs r h (plain_not 43 bs p (omega arith)) (plain_not 45 bs p (omega arith)) in
    let t = all_ascii_digits bs && ltb n (2 ^ 31) in
    let d : Decides t ((all_ascii_digits bs ≡ true) × (0 < length bs) × (n < 2 ^ 31)) =
    (λ e. let b = and_parts (all_ascii_digits bs) (ltb n (2 ^ 31)) e in (b.0, some, ltb-true n (2 ^ 31) b.1), λ q. rw (q.0, lt-ltb n (2 ^ 31) q.2) refl) in
    converted_cond r (pos n) t got d ∙ sym (rw (plain_positive bs p, p) (mapped_cond pos t n))

pub signed_parsed : {E : Type 0} (bs : List ℕ) (r : Result ℤ E) → (negative bs || plain bs) ≡ true → ParsesSigned w32 10 bs r → result_ok r ≡ signed_text bs
signed_parsed bs r e h = elim (or_cases (negative bs) (plain bs) e) [ inl p ↦ minus_parsed bs r p h | inr p ↦ plus_parsed bs r p h ]

decimal_first_digit : (n : ℕ) → n < 2 ^ 64 → get_or (decimal n) 0 0 < 58
decimal_first_digit n fits = digit_low (decimal n) (digits_decimal own n fits)

-- a numeral with a sign is read to its number
pub signed_back : (z : ℤ) → SFits w32 z → signed_text (signed_decimal z) ≡ Some z
signed_back (pos n) fits =
    let low : n < 2 ^ 31 = fits.sfits in
    let back = unsigned_back (2 ^ 31) n low (omega arith) in
    let p = plain_decimal n (omega arith) in
    rw (plain_positive (decimal n) p, back) refl
signed_back (negsuc n) fits =
    let low : n < 2 ^ 31 = fits.sfits in
    let m : ℕ = suc n in
    let small : m < 2 ^ 64 = omega arith in
    let back = unsigned_back (2 ^ 31 + 1) m (omega arith) small in
    let neg = negative_from (decimal m) (decimal_nonempty m small) (first_decimal m (omega arith) small) (decimal_first_digit m small) in
    rw (neg, back) refl

-- a text that is read is the numeral of its number
minus_is : (bs : List ℕ) (o : Option ℕ) (z : ℤ) → negative bs ≡ true → unsigned_text (2 ^ 31 + 1) (drop 1 bs) ≡ o → option_map (λ n. neg_ℤ (pos n)) o ≡ Some z → bs ≡ signed_decimal z
minus_is bs None z p u e = cc
minus_is bs (Some zero) z p u e =
    let parts = negative_parts bs p in
    let is = (unsigned_is (2 ^ 31 + 1) (drop 1 bs) 0 (omega arith) u).0 in
    let first = ap (λ ds. get_or ds 0 0) (is ∙ decimal_digit 0 (omega arith)) in
    absurd (omega (arith, parts.3, first))
minus_is bs (Some (suc n)) z p u e =
    let parts = negative_parts bs p in
    let is = (unsigned_is (2 ^ 31 + 1) (drop 1 bs) (suc n) (omega arith) u).0 in
    let sign : negsuc n ≡ z = cc in
    parts.0 ∙ ap (λ ds. 45 ∷ ds) is ∙ ap signed_decimal sign

plus_is : (bs : List ℕ) (o : Option ℕ) (z : ℤ) → unsigned_text (2 ^ 31) bs ≡ o → option_map pos o ≡ Some z → bs ≡ signed_decimal z
plus_is bs None z u e = cc
plus_is bs (Some n) z u e = let sign : pos n ≡ z = cc in (unsigned_is (2 ^ 31) bs n (omega arith) u).0 ∙ ap signed_decimal sign

pub signed_is : (bs : List ℕ) (z : ℤ) → signed_text bs ≡ Some z → bs ≡ signed_decimal z
signed_is bs z e =
    (elim (negative bs) as (λ t. negative bs ≡ t → cond t (option_map (λ n. neg_ℤ (pos n)) (unsigned_text (2 ^ 31 + 1) (drop 1 bs))) (option_map pos (unsigned_text (2 ^ 31) bs)) ≡ Some z → bs ≡ signed_decimal z) [
      | true ↦ λ p q. minus_is bs (unsigned_text (2 ^ 31 + 1) (drop 1 bs)) z p refl q
      | false ↦ λ p q. plus_is bs (unsigned_text (2 ^ 31) bs) z refl q
    ]) refl e

-- no text but a numeral of 32 bits with a sign is read, and each of these is
pub signed_exact : (bs : List ℕ) (r : Option ℤ) → r ≡ signed_text bs → MatchOption r ((z : ℤ) → SFits w32 z → bs ≡ signed_decimal z → ⊥) (λ z. bs ≡ signed_decimal z)
signed_exact bs (Some z) e = signed_is bs z (sym e)
signed_exact bs None e = λ z fits is. let back = signed_back z fits in cc

-- a numeral holds digits and a minus alone
pub decimal_lacks : (c n : ℕ) → n < 2 ^ 64 → (IsInRange 48 57 c → ⊥) → Lacks c (decimal n)
decimal_lacks c n fits other = not_in_digits own (decimal n) c (digits_decimal own n fits) other

pub signed_lacks : (c : ℕ) (z : ℤ) → SFits w32 z → (IsInRange 48 57 c → ⊥) → (45 ≡ c → ⊥) → Lacks c (signed_decimal z)
signed_lacks c (pos n) fits other minus = let low : n < 2 ^ 31 = fits.sfits in decimal_lacks c n (omega arith) other
signed_lacks c (negsuc n) fits other minus =
    let low : n < 2 ^ 31 = fits.sfits in
    lacks_more c 45 (decimal (suc n)) minus (decimal_lacks c (suc n) (omega arith) other)
