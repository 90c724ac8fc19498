-- The words that state a number between two bounds.
use Rattle.std.proofs.Common.{◌≡◌, ◌≢◌, zero, suc, lit<, Err, ℕ, ◌<◌, ◌≤◌, ◌^◌, Bool, true, false, List, [], ◌∷◌, length, get_or, refl, sym, ◌∙◌, ap, arith, Result, Ok, decimal, ◌&&◌, nat_le}
use Rattle.std.proofs.lemmas.Bool.Decides.{nat_tests}
use Rattle.std.proofs.lemmas.Str.Parse.{IsNumeralModel, numerals_by_value, tells_all_ascii_digits}
use Rattle.std.proofs.lemmas.Fmt.{decimal-digits_value, digits_decimal, digits_value-decimal, first_decimal, decimal_digit, parse-decimal}
use Rattle.std.specs.Str.{all_ascii_digits}
use Rattle.std.specs.Str.Parse.{digits_value, ParsesUnsigned}
use Rattle.loom_words.specs.Words.{is_plain_number, is_number}

own : IsNumeralModel (λ ds. all_ascii_digits ds ≡ true) (digits_value 10)
own = numerals_by_value _ tells_all_ascii_digits

-- a plain number has digits alone
plain-digits : (w : List ℕ) → is_plain_number w ≡ true → all_ascii_digits w ≡ true
plain-digits [] h = refl
plain-digits (d ∷ []) h = grind (arith, nat_tests)
plain-digits (d ∷ e ∷ w) h = grind (arith, nat_tests)

plain-some : (w : List ℕ) → is_plain_number w ≡ true → 0 < length w
plain-some [] h = absurd (grind arith)
plain-some (d ∷ w) h = grind arith

-- and begins with 0 only where that is all
plain-first : (w : List ℕ) → is_plain_number w ≡ true → get_or w 0 0 ≡ 48 → length w ≡ 1
plain-first [] h zero_first = absurd (grind arith)
plain-first (d ∷ []) h zero_first = refl
plain-first (d ∷ e ∷ w) h zero_first = grind (arith, nat_tests)

-- digits that begin with no zero are a plain number
digits-plain : (w : List ℕ) → all_ascii_digits w ≡ true → 48 < get_or w 0 0 → is_plain_number w ≡ true
digits-plain [] h above = absurd (grind arith)
digits-plain (d ∷ []) h above = grind (arith, nat_tests)
digits-plain (d ∷ e ∷ w) h above = grind (arith, nat_tests)

-- a number is within its bounds
pub number-least : (least most : ℕ) (w : List ℕ) → is_number least most w ≡ true → least ≤ digits_value 10 w
number-least least most w h = grind (arith, nat_tests)

pub number-most : (least most : ℕ) (w : List ℕ) → is_number least most w ≡ true → digits_value 10 w ≤ most
number-most least most w h = grind (arith, nat_tests)

-- and is written as its decimal
pub number-decimal : (least most : ℕ) (w : List ℕ) → most < 2 ^ 32 → is_number least most w ≡ true → decimal (digits_value 10 w) ≡ w
number-decimal least most w small h =
    let plain : is_plain_number w ≡ true = grind arith
    in let below = number-most least most w h
    in decimal-digits_value own w (plain-digits w plain) (plain-some w plain) (plain-first w plain) (omega (arith, small, below))

decimal-plain : (n : ℕ) → n < 2 ^ 32 → is_plain_number (decimal n) ≡ true
decimal-plain zero small = rw (decimal_digit 0 (lit< tt)) refl
decimal-plain (suc n) small = digits-plain (decimal (suc n)) (digits_decimal own (suc n) (omega arith)) (first_decimal (suc n) (omega arith) (omega arith))

pub decimal-value : (n : ℕ) → n < 2 ^ 32 → digits_value 10 (decimal n) ≡ n
decimal-value n small = digits_value-decimal own n (omega arith)

within : (least most n : ℕ) (plain : Bool) → least ≤ n → n ≤ most → plain ≡ true → (plain && (nat_le least n && nat_le n most)) ≡ true
within least most n plain low high is = grind (arith, nat_tests)

-- and each decimal within the bounds is one
pub decimal-number : (least most n : ℕ) → most < 2 ^ 32 → least ≤ n → n ≤ most → is_number least most (decimal n) ≡ true
decimal-number least most n small low high =
    rw (decimal-plain n (omega arith), decimal-value n (omega arith)) (within least most n true low high refl)

-- which parse reads
number-parse : {E : Type 0} (least most : ℕ) (w : List ℕ) (r : Result ℕ E) → most < 2 ^ 32 → ParsesUnsigned 32 10 w r → is_number least most w ≡ true → r ≡ Ok (digits_value 10 w)
number-parse least most w r small parsed h =
    let below = number-most least most w h
    in parse-decimal 32 (digits_value 10 w) w r (omega (arith, small, below)) (omega (arith, small, below)) (sym (number-decimal least most w small h)) parsed

false-from_not : (b : Bool) → (b ≡ true → ⊥) → b ≡ false
false-from_not true never = absurd (never refl)
false-from_not false never = refl

-- a text that parse reads as a number, and that isn't the decimal of it or is outside the bounds, is none
pub number-other : {E : Type 0} (least most : ℕ) (w : List ℕ) (n : ℕ) (r : Result ℕ E) → most < 2 ^ 32 → ParsesUnsigned 32 10 w r → r ≡ Ok n → (least ≤ n → n ≤ most → w ≢ decimal n) → is_number least most w ≡ false
number-other least most w n r small parsed is other = false-from_not (is_number least most w) (λ h.
    let same : n ≡ digits_value 10 w = let e = sym is ∙ number-parse least most w r small parsed h in grind arith
    in let low = number-least least most w h
    in let high = number-most least most w h
    in other (omega (arith, low, same)) (omega (arith, high, same)) (sym (number-decimal least most w small h) ∙ ap decimal (sym same)))

-- nor is a text that parse refuses
pub number-refused : {E : Type 0} (least most : ℕ) (w : List ℕ) (e : E) (r : Result ℕ E) → most < 2 ^ 32 → ParsesUnsigned 32 10 w r → r ≡ Err e → is_number least most w ≡ false
number-refused least most w e r small parsed is = false-from_not (is_number least most w) (λ h. let e = sym is ∙ number-parse least most w r small parsed h in grind arith)

pub ruleset number_rules = (number-other, number-refused)
