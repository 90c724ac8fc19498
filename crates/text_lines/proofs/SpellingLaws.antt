-- Each part that is spelled is read back, and has one spelling.
use Rattle.std.proofs.Common.{◌≡◌, ℕ, ℤ, suc, pos, negsuc, ◌+◌, ◌*◌, ◌/◌, ◌%◌, ◌^◌, ◌<◌, Bool, true, false, cond, ◌&&◌, eqb, ltb, List, [], ◌∷◌, ◌++◌, length, codes, decimal, Option, Some, None, refl, sym, ap, ap₂, ◌∙◌, arith}
use Rattle.std.proofs.lemmas.Bool.{and_parts, eq-eqb, lt-ltb}
use Rattle.std.proofs.lemmas.Bool.Decides.{nat_tests}
use Rattle.std.proofs.lemmas.Fmt.{decimal_nonempty, digits_decimal}
use Rattle.std.proofs.lemmas.Str.{digit_value-digit_char}
use Rattle.std.specs.Char.{digit_char, digit_value, is_ascii_digit}
use Rattle.std.specs.Fmt.{signed_decimal}
use Rattle.std.specs.List.{list_all}
use Rattle.std.specs.Option.{option_and_then, option_map}
use Rattle.long_names.specs.Names.{IsLongName}
use Rattle.long_names.specs.Words.{IsSmallInteger, IsValue}
use Rattle.long_names.specs.declared.value.Value.{Value}
use Rattle.long_names.specs.declared.value.Value.TheVariants.{Int, Ref}
use Rattle.long_names.specs.declared.object.Kind.{Kind}
use Rattle.long_names.specs.declared.object.Kind.TheVariants as kind
use Rattle.text_lines.specs.Parts.{◌or◌, before_i, byte_of, is_hex, is_small, kind_of, long_of, name_of, negative_of, number_of, signed_of, small_of, that_is, value_of, word_of}
use Rattle.text_lines.specs.PartSpelling.{byte_text, kind_text, value_text, word_text}
use Rattle.text_lines.proofs.NumberLaws.{digits, number-again}
use Rattle.text_lines.proofs.PartLaws.{before-last, word-some}

-- ---- names

pub long-again : (n : ℕ) → n < 2 ^ 32 → long_of (decimal n) ≡ Some n
long-again n small = ap (that_is (λ n. ltb n (2 ^ 32))) (number-again n (omega arith)) ∙ ap (λ (b : Bool). cond b (Some n) None) (lt-ltb n (2 ^ 32) small)

pub name-again : (n : ℕ) → IsLongName n → name_of (decimal n) ≡ Some n
name-again n is =
    let small : n < 2 ^ 32 = omega (arith, is) in
    ap (that_is (λ n. eqb (n % 2) 0 && ltb 0 n)) (long-again n small)
    ∙ ap₂ (λ (a b : Bool). cond (a && b) (Some n) None) (eq-eqb (n % 2) 0 (omega (arith, is))) (lt-ltb 0 n (omega (arith, is)))

-- ---- SmallIntegers

first-digit : (n d : ℕ) (ds : List ℕ) → n < 2 ^ 64 → decimal n ≡ d ∷ ds → is_ascii_digit d ≡ true
first-digit n d ds small e = let all : list_all is_ascii_digit (d ∷ ds) ≡ true = rw e at (digits_decimal digits n small) in (and_parts (is_ascii_digit d) (list_all is_ascii_digit ds) all).0

digit-no-minus : (d : ℕ) → is_ascii_digit d ≡ true → eqb d 45 ≡ false
digit-no-minus d is = grind (arith, nat_tests)

digit-no-i : (d : ℕ) → is_ascii_digit d ≡ true → eqb d 105 ≡ false
digit-no-i d is = grind (arith, nat_tests)

positive-again : (n : ℕ) (text : List ℕ) → n < 2 ^ 64 → decimal n ≡ text → signed_of text ≡ Some (pos n)
positive-again n [] small e = let some = decimal_nonempty n small in let none = ap (λ (xs : List ℕ). length xs) e in absurd (omega arith)
positive-again n (d ∷ ds) small e =
    ap (λ (b : Bool). cond b (option_and_then negative_of (number_of ds)) (option_map pos (number_of (d ∷ ds)))) (digit-no-minus d (first-digit n d ds small e))
    ∙ ap (λ (xs : List ℕ). option_map pos (number_of xs)) (sym e)
    ∙ ap (option_map pos) (number-again n small)

signed-again : (z : ℤ) → IsSmallInteger z → signed_of (signed_decimal z) ≡ Some z
signed-again (pos n) small = positive-again n (decimal n) (omega (arith, small)) refl
signed-again (negsuc n) small = ap (option_and_then negative_of) (number-again (suc n) (omega (arith, small)))

small-test : (z : ℤ) → IsSmallInteger z → is_small z ≡ true
small-test (pos n) small = lt-ltb n 16384 small
small-test (negsuc n) small = lt-ltb n 16384 small

pub small-again : (z : ℤ) → IsSmallInteger z → small_of (signed_decimal z ++ codes "i") ≡ Some z
small-again z small =
    ap (λ (o : Option (List ℕ)). that_is is_small (option_and_then signed_of o)) (before-last (signed_decimal z) 105)
    ∙ ap (that_is is_small) (signed-again z small)
    ∙ ap (λ (b : Bool). cond b (Some z) None) (small-test z small)

-- ---- values

no-i : (xs : List ℕ) → list_all is_ascii_digit xs ≡ true → before_i xs ≡ None
no-i [] all = refl
no-i (b ∷ []) all = ap (λ (c : Bool). cond c (Some []) None) (digit-no-i b (and_parts (is_ascii_digit b) true all).0)
no-i (b ∷ c ∷ bs) all = ap (option_map (λ (front : List ℕ). b ∷ front)) (no-i (c ∷ bs) (and_parts (is_ascii_digit b) (list_all is_ascii_digit (c ∷ bs)) all).1)

pub value-again : (v : Value) → IsValue v → value_of (value_text v) ≡ Some v
value-again (Int z) is = ap (λ (o : Option ℤ). option_map Int o or option_map Ref (name_of (signed_decimal z ++ codes "i"))) (small-again z is)
value-again (Ref n) is =
    let small : n < 2 ^ 64 = omega (arith, is) in
    ap (λ (o : Option (List ℕ)). option_map Int (that_is is_small (option_and_then signed_of o)) or option_map Ref (name_of (decimal n))) (no-i (decimal n) (digits_decimal digits n small))
    ∙ ap (option_map Ref) (name-again n is)

-- ---- bytes and words

hex-two : (a b : ℕ) → byte_of (a ∷ b ∷ []) ≡ cond (is_hex a && is_hex b) (Some (16 * digit_value a + digit_value b)) None
hex-two a b = tested (is_hex a) (is_hex b)
  where
    tested : (p q : Bool) → cond (p && (q && true)) (Some ((0 * 16 + digit_value a) * 16 + digit_value b)) None ≡ cond (p && q) (Some (16 * digit_value a + digit_value b)) None
    tested true true = ap Some (omega arith)
    tested true false = refl
    tested false q = refl

hex-digit : (d : ℕ) → d < 16 → is_hex (digit_char d) ≡ true
hex-digit d low = grind (arith, nat_tests)

pub byte-again : (b : ℕ) → b < 2 ^ 8 → byte_of (byte_text b) ≡ Some b
byte-again b small =
    hex-two (digit_char (b / 16)) (digit_char (b % 16))
    ∙ ap₂ (λ (p q : Bool). cond (p && q) (Some (16 * digit_value (digit_char (b / 16)) + digit_value (digit_char (b % 16)))) None) (hex-digit (b / 16) (omega (arith, small))) (hex-digit (b % 16) (omega arith))
    ∙ ap₂ (λ (m n : ℕ). Some (16 * m + n)) (digit_value-digit_char (b / 16) (omega (arith, small))) (digit_value-digit_char (b % 16) (omega arith))
    ∙ ap Some (omega arith)

pub word-again : (w : ℕ) → w < 2 ^ 16 → word_of (word_text w) ≡ Some w
word-again w small =
    word-some (word_text w) (w / 256) (w % 256) refl (byte-again (w / 256) (omega (arith, small))) (byte-again (w % 256) (omega arith))
    ∙ ap Some (omega arith)

pub kind-again : (k : Kind) → kind_of (kind_text k) ≡ Some k
kind-again kind.Pointers = refl
kind-again kind.Words = refl
kind-again kind.Bytes = refl
kind-again kind.Method = refl
