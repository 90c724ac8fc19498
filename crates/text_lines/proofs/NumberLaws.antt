-- Numbers are read back as they are spelled, and each has one spelling.
use Rattle.std.proofs.Common.{◌≡◌, ℕ, zero, suc, ◌^◌, ◌<◌, Bool, true, false, cond, not, ◌&&◌, ◌||◌, eqb, List, [], ◌∷◌, length, get_or, Some, None, decimal, refl, sym, ap, ◌∙◌, subst, arith}
use Rattle.std.proofs.lemmas.Bool.{and_parts, eq-eqb, ne_eqb}
use Rattle.std.proofs.lemmas.Bool.Decides.{nat_tests}
use Rattle.std.proofs.lemmas.Fmt.{decimal-digits_value, decimal_nonempty, digits_decimal, digits_value-decimal, first_decimal, decimal_digit}
use Rattle.std.proofs.lemmas.Str.Parse.{IsDigitsTest, IsNumeralModel, numerals_by_value}
use Rattle.std.specs.Char.{is_ascii_digit}
use Rattle.std.specs.List.{list_all}
use Rattle.std.specs.Str.Parse.{digits_value}
use Rattle.text_lines.specs.Parts.{is_plain, number_of}

abbrev pub AreDigits : List ℕ → Type 0
AreDigits ds = list_all is_ascii_digit ds ≡ true

pub digits-test : IsDigitsTest AreDigits
digits-test = record {
  empty = refl;
  parts = λ c cs all. let both = and_parts (is_ascii_digit c) (list_all is_ascii_digit cs) all in ((let first = both.0 in grind (arith, nat_tests), let first = both.0 in grind (arith, nat_tests)), both.1);
  more = λ c cs range all. let first : is_ascii_digit c ≡ true = (let low = range.0 in let high = range.1 in grind (arith, nat_tests)) in ap (λ (b : Bool). b && list_all is_ascii_digit cs) first ∙ all;
}

pub digits : IsNumeralModel AreDigits (digits_value 10)
digits = numerals_by_value AreDigits digits-test

-- the first digit of several isn't 0
plain-first : (n : ℕ) (d : ℕ) (ds : List ℕ) → n < 2 ^ 64 → decimal n ≡ d ∷ ds → (not (eqb d 48) || eqb (length ds) 0) ≡ true
plain-first zero d ds small e =
    let one = sym (decimal_digit 0 (omega arith)) ∙ e in
    let none : ds ≡ [] = cc in
    let test : eqb (length ds) 0 ≡ true = eq-eqb (length ds) 0 (ap (λ (xs : List ℕ). length xs) none) in
    rw test (or-true (not (eqb d 48)))
  where
    or-true : (b : Bool) → (b || true) ≡ true
    or-true true = refl
    or-true false = refl
plain-first (suc n) d ds small e =
    let first = first_decimal (suc n) (omega arith) small in
    let above : 48 < d = subst (λ (xs : List ℕ). 48 < get_or xs 0 0) e first in
    let test : eqb d 48 ≡ false = ne_eqb d 48 (λ is. omega (arith, is, above)) in
    rw test refl

plain-as : (n : ℕ) (text : List ℕ) → n < 2 ^ 64 → decimal n ≡ text → is_plain text ≡ true
plain-as n [] small e = let some = decimal_nonempty n small in let none = ap (λ (xs : List ℕ). length xs) e in absurd (omega arith)
plain-as n (d ∷ ds) small e =
    let all : list_all is_ascii_digit (d ∷ ds) ≡ true = subst AreDigits e (digits_decimal digits n small) in
    ap (λ (b : Bool). b && (not (eqb d 48) || eqb (length ds) 0)) all ∙ plain-first n d ds small e

pub number-again : (n : ℕ) → n < 2 ^ 64 → number_of (decimal n) ≡ Some n
number-again n small =
    ap (λ (b : Bool). cond b (Some (digits_value 10 (decimal n))) None) (plain-as n (decimal n) small refl)
    ∙ ap Some (digits_value-decimal digits n small)

or-left : (b c : Bool) → (not b || c) ≡ true → b ≡ true → c ≡ true
or-left true c h e = h
or-left false c h e = absurd (cc)

plain-spelled : (text : List ℕ) → is_plain text ≡ true → digits_value 10 text < 2 ^ 64 → decimal (digits_value 10 text) ≡ text
plain-spelled [] plain small = absurd (cc)
plain-spelled (d ∷ ds) plain small =
    let both = and_parts (list_all is_ascii_digit (d ∷ ds)) (not (eqb d 48) || eqb (length ds) 0) plain in
    decimal-digits_value digits (d ∷ ds) both.0 (omega arith) (λ zero_first.
    let one = or-left (eqb d 48) (eqb (length ds) 0) both.1 (eq-eqb d 48 zero_first) in
    grind (arith, nat_tests)) small

pub number-spelled : (text : List ℕ) (n : ℕ) → number_of text ≡ Some n → n < 2 ^ 64 → text ≡ decimal n
number-spelled text n e small = told (is_plain text) refl e
  where
    told : (b : Bool) → is_plain text ≡ b → cond b (Some (digits_value 10 text)) None ≡ Some n → text ≡ decimal n
    told true is e = let same : digits_value 10 text ≡ n = cc in sym (plain-spelled text is (omega (arith, same, small))) ∙ ap decimal same
    told false is e = absurd (cc)
