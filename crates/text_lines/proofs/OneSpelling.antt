-- What is read of a part is what the part spells, and so is what a line states.
use Rattle.std.proofs.Common.{◌≡◌, ℕ, ℤ, zero, suc, pos, negsuc, ◌+◌, ◌-◌, ◌*◌, ◌/◌, ◌%◌, ◌^◌, ◌<◌, Bool, true, false, cond, ◌&&◌, eqb, ltb, leb, List, [], ◌∷◌, ◌++◌, length, codes, decimal, Option, Some, None, refl, sym, ap, ap₂, subst, ◌∙◌, arith, inl, inr, ◌⊎◌}
use Rattle.std.specs.Prelude.{All, bytes_eq, map, option_map}
use Rattle.std.specs.Char.{digit_char, digit_value}
use Rattle.std.specs.Fmt.{signed_decimal}
use Rattle.std.specs.List.{join_with_byte, list_all, slice_split}
use Rattle.std.specs.Option.{option_and_then}
use Rattle.std.specs.Str.Parse.{digits_value}
use Rattle.std.proofs.lemmas.Bool.{and_parts, eqb-true, le-ltb, leb-true, lt-ltb, ltb-true, or_cases}
use Rattle.std.proofs.lemmas.List.Elements.{All-nil, All-cons}
use Rattle.std.proofs.lemmas.List.Splits.{join_with_byte-slice_split}
use Rattle.std.proofs.lemmas.Slice.Eq.{bytes_eq-Decides}
use Rattle.long_names.specs.Names.{IsLongName}
use Rattle.long_names.specs.Words.{IsSmallInteger, IsValue}
use Rattle.long_names.specs.Objects as objects
use Rattle.long_names.specs.Objects.{HasRange}
use Rattle.long_names.specs.declared.limits.TheConstants.{MOST_FIELDS}
use Rattle.long_names.specs.declared.value.Value.{Value}
use Rattle.long_names.specs.declared.value.Value.TheVariants.{Int, Ref}
use Rattle.long_names.specs.declared.object.Kind.{Kind}
use Rattle.long_names.specs.declared.object.Kind.TheVariants as kind
use Rattle.long_names.specs.declared.object.Body.{Body}
use Rattle.long_names.specs.declared.object.Body.TheVariants.{Pointers, Words, Bytes, Method}
use Rattle.long_names.specs.declared.object.Rec.{Rec}
use Rattle.image_format.specs.Rules.{object_of_rec}
use Rattle.text_lines.specs.Parts.{is_space, ◌or◌, before_i, byte_of, is_code, is_hex, is_loom, is_small, kind_of, long_of, name_of, negative_of, number_of, signed_of, small_of, that_is, value_of, word_of}
use Rattle.text_lines.specs.PartSpelling.{byte_text, kind_text, value_text, word_text}
use Rattle.text_lines.specs.declared.limits.TheConstants.{LONGEST_LINE}
use Rattle.text_lines.specs.Grammar.{◌>>=◌, Head, body_of, code_of, each_of, fields_of, head_of, line_head, line_object, method_of, object_of, parts_of}
use Rattle.text_lines.specs.Spelling.{contents_parts, head_parts, line_of, object_parts}
use Rattle.text_lines.proofs.NumberLaws.{number-spelled}

-- ---- what was read

pub no_some : {X P : Type 0} (x : X) → ◌≡◌ {A = Option X} None (Some x) → P
no_some x e = absurd (cc)

pub some_is : {X : Type 0} (x y : X) → ◌≡◌ {A = Option X} (Some x) (Some y) → x ≡ y
some_is x y e = cc

pub then_some : {X Y : Type 0} (o : Option X) (f : X → Option Y) (y : Y) → (o >>= f) ≡ Some y → (x : X) × (o ≡ Some x) × (f x ≡ Some y)
then_some None f y e = no_some y e
then_some (Some x) f y e = (x, refl, e)

pub and_then_some : {X Y : Type 0} (f : X → Option Y) (o : Option X) (y : Y) → option_and_then f o ≡ Some y → (x : X) × (o ≡ Some x) × (f x ≡ Some y)
and_then_some f None y e = no_some y e
and_then_some f (Some x) y e = (x, refl, e)

pub mapped_some : {X Y : Type 0} (f : X → Y) (o : Option X) (y : Y) → option_map f o ≡ Some y → (x : X) × (o ≡ Some x) × (f x ≡ y)
mapped_some f None y e = no_some y e
mapped_some f (Some x) y e = (x, refl, some_is (f x) y e)

pub if_some : {X : Type 0} (b : Bool) (o : Option X) (y : X) → cond b o None ≡ Some y → (b ≡ true) × (o ≡ Some y)
if_some true o y e = (refl, e)
if_some false o y e = no_some y e

pub unless_some : {X : Type 0} (b : Bool) (o : Option X) (y : X) → cond b None o ≡ Some y → o ≡ Some y
unless_some true o y e = no_some y e
unless_some false o y e = e

if_or : {X : Type 0} (b : Bool) (x : X) (o : Option X) (y : X) → cond b (Some x) o ≡ Some y → ((b ≡ true) × (x ≡ y)) ⊎ (o ≡ Some y)
if_or true x o y e = inl (refl, some_is x y e)
if_or false x o y e = inr e

either_some : {X : Type 0} (a b : Option X) (y : X) → (a or b) ≡ Some y → (a ≡ Some y) ⊎ (b ≡ Some y)
either_some None b y e = inr e
either_some (Some x) b y e = inl e

pub tested_some : {X : Type 0} (test : X → Bool) (o : Option X) (x : X) → that_is test o ≡ Some x → (o ≡ Some x) × (test x ≡ true)
tested_some test None x e = no_some x e
tested_some test (Some y) x e =
    let two = if_some (test y) (Some y) x e in
    (two.1, ap test (sym (some_is y x two.1)) ∙ two.0)

-- ---- numbers and names

pub long_one : (part : List ℕ) (n : ℕ) → long_of part ≡ Some n → (n < 2 ^ 32) × (part ≡ decimal n)
long_one part n e =
    let t = tested_some (λ n. ltb n (2 ^ 32)) (number_of part) n e in
    let low = ltb-true n (2 ^ 32) t.1 in
    (low, number-spelled part n t.0 (omega (arith, low)))

pub name_one : (part : List ℕ) (n : ℕ) → name_of part ≡ Some n → IsLongName n × (part ≡ decimal n)
name_one part n e =
    let t = tested_some (λ n. eqb (n % 2) 0 && ltb 0 n) (long_of part) n e in
    let both = and_parts (eqb (n % 2) 0) (ltb 0 n) t.1 in
    let l = long_one part n t.0 in
    ((record { even = eqb-true (n % 2) 0 both.0; above = ltb-true 0 n both.1 }, l.0), l.1)

-- ---- SmallIntegers and values

below_zero : (part : List ℕ) (n : ℕ) (z : ℤ) → number_of part ≡ Some n → negative_of n ≡ Some z → is_small z ≡ true → 45 ∷ part ≡ signed_decimal z
below_zero part zero z e is small = no_some z is
below_zero part (suc n) z e is small =
    let same = some_is (negsuc n) z is in
    let low : n < 16384 = ltb-true n 16384 (ap is_small same ∙ small) in
    ap (λ (t : List ℕ). 45 ∷ t) (number-spelled part (suc n) e (omega (arith, low))) ∙ ap signed_decimal same

not_below_zero : (part : List ℕ) (n : ℕ) (z : ℤ) → number_of part ≡ Some n → pos n ≡ z → is_small z ≡ true → part ≡ signed_decimal z
not_below_zero part n z e same small =
    let low : n < 16384 = ltb-true n 16384 (ap is_small same ∙ small) in
    number-spelled part n e (omega (arith, low)) ∙ ap signed_decimal same

signed_one : (part : List ℕ) (z : ℤ) → signed_of part ≡ Some z → is_small z ≡ true → part ≡ signed_decimal z
signed_one [] z e small = no_some z e
signed_one (b ∷ bs) z e small = told (eqb b 45) refl e
  where
    told : (t : Bool) → eqb b 45 ≡ t → cond t (option_and_then negative_of (number_of bs)) (option_map pos (number_of (b ∷ bs))) ≡ Some z → b ∷ bs ≡ signed_decimal z
    told true is e =
        let s = and_then_some negative_of (number_of bs) z e in
        ap (λ (k : ℕ). k ∷ bs) (eqb-true b 45 is) ∙ below_zero bs s.0 z s.1 s.2 small
    told false is e =
        let s = mapped_some pos (number_of (b ∷ bs)) z e in
        not_below_zero (b ∷ bs) s.0 z s.1 s.2 small

before_one : (part front : List ℕ) → before_i part ≡ Some front → part ≡ front ++ 105 ∷ []
before_one [] front e = no_some front e
before_one (b ∷ []) front e =
    let two = if_some (eqb b 105) (Some []) front e in
    ap (λ (k : ℕ). k ∷ []) (eqb-true b 105 two.0) ∙ ap (λ (t : List ℕ). t ++ 105 ∷ []) (some_is [] front two.1)
before_one (b ∷ c ∷ bs) front e =
    let s = mapped_some (λ (front : List ℕ). b ∷ front) (before_i (c ∷ bs)) front e in
    ap (λ (t : List ℕ). b ∷ t) (before_one (c ∷ bs) s.0 s.1) ∙ ap (λ (t : List ℕ). t ++ 105 ∷ []) s.2

small_is : (z : ℤ) → is_small z ≡ true → IsSmallInteger z
small_is (pos n) e = ltb-true n 16384 e
small_is (negsuc n) e = ltb-true n 16384 e

pub small_one : (part : List ℕ) (z : ℤ) → small_of part ≡ Some z → IsSmallInteger z × (part ≡ signed_decimal z ++ codes "i")
small_one part z e =
    let t = tested_some is_small (option_and_then signed_of (before_i part)) z e in
    let s = and_then_some signed_of (before_i part) z t.0 in
    (small_is z t.1, before_one part s.0 s.1 ∙ ap (λ (u : List ℕ). u ++ 105 ∷ []) (signed_one s.0 z s.2 t.1))

pub value_one : (part : List ℕ) (v : Value) → value_of part ≡ Some v → IsValue v × (part ≡ value_text v)
value_one part v e = elim (either_some (option_map Int (small_of part)) (option_map Ref (name_of part)) v e) [
  | inl is ↦ (let s = mapped_some Int (small_of part) v is in subst (λ (w : Value). IsValue w × (part ≡ value_text w)) s.2 (small_one part s.0 s.1))
  | inr is ↦ (let s = mapped_some Ref (name_of part) v is in subst (λ (w : Value). IsValue w × (part ≡ value_text w)) s.2 (name_one part s.0 s.1))
]

-- ---- bytes and words

low_digit : (a : ℕ) → 47 < a → a < 58 → (digit_value a < 16) × (digit_char (digit_value a) ≡ a)
low_digit a above below =
    let first : ltb a 48 ≡ false = le-ltb a 48 (omega (arith, above)) in
    let second : ltb a 58 ≡ true = lt-ltb a 58 below in
    let value : digit_value a ≡ a - 48 = rw (first, second) refl in
    let digit : ltb (a - 48) 10 ≡ true = lt-ltb (a - 48) 10 (omega (arith, above, below)) in
    let char : digit_char (a - 48) ≡ 48 + (a - 48) = rw digit refl in
    (omega (arith, value, above, below), ap digit_char value ∙ char ∙ omega (arith, above))

high_digit : (a : ℕ) → 96 < a → a < 103 → (digit_value a < 16) × (digit_char (digit_value a) ≡ a)
high_digit a above below =
    let first : ltb a 48 ≡ false = le-ltb a 48 (omega (arith, above)) in
    let second : ltb a 58 ≡ false = le-ltb a 58 (omega (arith, above)) in
    let third : ltb a 65 ≡ false = le-ltb a 65 (omega (arith, above)) in
    let fourth : ltb a 91 ≡ false = le-ltb a 91 (omega (arith, above)) in
    let fifth : ltb a 97 ≡ false = le-ltb a 97 (omega (arith, above)) in
    let sixth : ltb a 123 ≡ true = lt-ltb a 123 (omega (arith, below)) in
    let value : digit_value a ≡ a - 87 = rw (first, second, third, fourth, fifth, sixth) refl in
    let digit : ltb (a - 87) 10 ≡ false = le-ltb (a - 87) 10 (omega (arith, above)) in
    let char : digit_char (a - 87) ≡ 87 + (a - 87) = rw digit refl in
    (omega (arith, value, above, below), ap digit_char value ∙ char ∙ omega (arith, above))

hex_digit : (a : ℕ) → is_hex a ≡ true → (digit_value a < 16) × (digit_char (digit_value a) ≡ a)
hex_digit a is = elim (or_cases (ltb 47 a && ltb a 58) (ltb 96 a && ltb a 103) is) [
  | inl low ↦ (let both = and_parts (ltb 47 a) (ltb a 58) low in low_digit a (ltb-true 47 a both.0) (ltb-true a 58 both.1))
  | inr high ↦ (let both = and_parts (ltb 96 a) (ltb a 103) high in high_digit a (ltb-true 96 a both.0) (ltb-true a 103 both.1))
]

two_digits : (a c h l b : ℕ) → (h < 16) × (digit_char h ≡ a) → (l < 16) × (digit_char l ≡ c) → 16 * h + l ≡ b → (b < 256) × (a ∷ c ∷ [] ≡ byte_text b)
two_digits a c h l b high low e =
    let left = high.0 in
    let right = low.0 in
    let high_is : b / 16 ≡ h = omega (arith, left, right, e) in
    let low_is : b % 16 ≡ l = omega (arith, left, right, e) in
    (omega (arith, left, right, e), ap₂ (λ (p q : ℕ). p ∷ q ∷ []) (sym high.1 ∙ ap digit_char (sym high_is)) (sym low.1 ∙ ap digit_char (sym low_is)))

hex_pair : (a c b : ℕ) → is_hex a ≡ true → is_hex c ≡ true → 16 * digit_value a + digit_value c ≡ b → (b < 256) × (a ∷ c ∷ [] ≡ byte_text b)
hex_pair a c b is_a is_c e = two_digits a c (digit_value a) (digit_value c) b (hex_digit a is_a) (hex_digit c is_c) e

two_hex : (part : List ℕ) (b : ℕ) → length part ≡ 2 → list_all is_hex part ≡ true → digits_value 16 part ≡ b → (b < 256) × (part ≡ byte_text b)
two_hex (a ∷ c ∷ []) b len all e =
    let first = and_parts (is_hex a) (is_hex c && true) all in
    let second = and_parts (is_hex c) true first.1 in
    let sum : (0 * 16 + digit_value a) * 16 + digit_value c ≡ b = e in
    hex_pair a c b first.0 second.0 (omega (arith, sum))
two_hex (a ∷ c ∷ d ∷ ds) b len all e = absurd (omega arith)
two_hex (a ∷ []) b len all e = absurd (omega arith)
two_hex [] b len all e = absurd (omega arith)

pub byte_one : (part : List ℕ) (b : ℕ) → byte_of part ≡ Some b → (b < 2 ^ 8) × (part ≡ byte_text b)
byte_one part b e =
    let two = if_some (eqb (length part) 2 && list_all is_hex part) (Some (digits_value 16 part)) b e in
    let both = and_parts (eqb (length part) 2) (list_all is_hex part) two.0 in
    two_hex part b (eqb-true (length part) 2 both.0) both.1 (some_is (digits_value 16 part) b two.1)

two_bytes : (h l w : ℕ) (p q : List ℕ) → (h < 256) × (p ≡ byte_text h) → (l < 256) × (q ≡ byte_text l) → 256 * h + l ≡ w → (w < 65536) × (p ++ q ≡ word_text w)
two_bytes h l w p q high low e =
    let left = high.0 in
    let right = low.0 in
    let high_is : w / 256 ≡ h = omega (arith, left, right, e) in
    let low_is : w % 256 ≡ l = omega (arith, left, right, e) in
    (omega (arith, left, right, e), ap₂ (λ (s t : List ℕ). s ++ t) (high.1 ∙ ap byte_text (sym high_is)) (low.1 ∙ ap byte_text (sym low_is)))

four_hex : (part : List ℕ) (w : ℕ) → length part ≡ 4 → list_all is_hex part ≡ true → digits_value 16 part ≡ w → (w < 65536) × (part ≡ word_text w)
four_hex (a ∷ b ∷ c ∷ d ∷ []) w len all e =
    let one = and_parts (is_hex a) (is_hex b && (is_hex c && (is_hex d && true))) all in
    let two = and_parts (is_hex b) (is_hex c && (is_hex d && true)) one.1 in
    let three = and_parts (is_hex c) (is_hex d && true) two.1 in
    let four = and_parts (is_hex d) true three.1 in
    let sum : (((0 * 16 + digit_value a) * 16 + digit_value b) * 16 + digit_value c) * 16 + digit_value d ≡ w = e in
    two_bytes (16 * digit_value a + digit_value b) (16 * digit_value c + digit_value d) w (a ∷ b ∷ []) (c ∷ d ∷ []) (hex_pair a b _ one.0 two.0 refl) (hex_pair c d _ three.0 four.0 refl) (omega (arith, sum))
four_hex (a ∷ b ∷ c ∷ d ∷ f ∷ fs) w len all e = absurd (omega arith)
four_hex (a ∷ b ∷ c ∷ []) w len all e = absurd (omega arith)
four_hex (a ∷ b ∷ []) w len all e = absurd (omega arith)
four_hex (a ∷ []) w len all e = absurd (omega arith)
four_hex [] w len all e = absurd (omega arith)

pub word_one : (part : List ℕ) (w : ℕ) → word_of part ≡ Some w → (w < 2 ^ 16) × (part ≡ word_text w)
word_one part w e =
    let two = if_some (eqb (length part) 4 && list_all is_hex part) (Some (digits_value 16 part)) w e in
    let both = and_parts (eqb (length part) 4) (list_all is_hex part) two.0 in
    four_hex part w (eqb-true (length part) 4 both.0) both.1 (some_is (digits_value 16 part) w two.1)

-- ---- words of the grammar

same_bytes : (xs ys : List ℕ) → bytes_eq xs ys ≡ true → xs ≡ ys
same_bytes xs ys e = (bytes_eq-Decides xs ys).0 e

spelled_kind : (part text : List ℕ) (k l : Kind) → (bytes_eq part text ≡ true) × (l ≡ k) → text ≡ kind_text l → part ≡ kind_text k
spelled_kind part text k l both is = same_bytes part text both.0 ∙ is ∙ ap kind_text both.1

pub kind_one : (part : List ℕ) (k : Kind) → kind_of part ≡ Some k → part ≡ kind_text k
kind_one part k e = elim (if_or (bytes_eq part (codes "pointers")) kind.Pointers _ k e) [
  | inl both ↦ spelled_kind part (codes "pointers") k kind.Pointers both refl
  | inr e ↦ elim (if_or (bytes_eq part (codes "words")) kind.Words _ k e) [
    | inl both ↦ spelled_kind part (codes "words") k kind.Words both refl
    | inr e ↦ elim (if_or (bytes_eq part (codes "bytes")) kind.Bytes _ k e) [
      | inl both ↦ spelled_kind part (codes "bytes") k kind.Bytes both refl
      | inr e ↦ (let two = if_some (bytes_eq part (codes "method")) (Some kind.Method) k e in spelled_kind part (codes "method") k kind.Method (two.0, some_is kind.Method k two.1) refl)
    ]
  ]
]

-- ---- what comes behind the kind

pub each_one : {X : Type 0} (read : List ℕ → Option X) (spell : X → List ℕ) (P : X → Type 0) → ((part : List ℕ) (x : X) → read part ≡ Some x → P x × (part ≡ spell x)) → (parts : List (List ℕ)) (xs : List X) → each_of read parts ≡ Some xs → All P xs × (parts ≡ map spell xs)
unfolding each_of
each_one {X = X} read spell P one [] xs e = subst (λ (ys : List X). All P ys × ([] ≡ map spell ys)) (some_is [] xs e) (All-nil P, refl)
each_one {X = X} read spell P one (part ∷ parts) xs e =
    let a = then_some (read part) (λ x. each_of read parts >>= λ ys. Some (x ∷ ys)) xs e in
    let b = then_some (each_of read parts) (λ ys. Some (a.0 ∷ ys)) xs a.2 in
    let first = one part a.0 a.1 in
    let others = each_one read spell P one parts b.0 b.1 in
    subst (λ (ys : List X). All P ys × (part ∷ parts ≡ map spell ys)) (some_is (a.0 ∷ b.0) xs b.2) (All-cons P a.0 b.0 first.0 others.0, ap₂ (λ (p : List ℕ) (ps : List (List ℕ)). p ∷ ps) first.1 others.1)

fields_one : {X : Type 0} (read : List ℕ → Option X) (spell : X → List ℕ) (P : X → Type 0) → ((part : List ℕ) (x : X) → read part ≡ Some x → P x × (part ≡ spell x)) → (parts : List (List ℕ)) (xs : List X) → fields_of read parts ≡ Some xs → (length xs < MOST_FIELDS + 1) × All P xs × (parts ≡ map spell xs)
fields_one {X = X} read spell P one parts xs e =
    let t = tested_some (λ (ys : List X). leb (length ys) MOST_FIELDS) (each_of read parts) xs e in
    let few = leb-true (length xs) MOST_FIELDS t.1 in
    let all = each_one read spell P one parts xs t.0 in
    (omega (arith, few), all.0, all.1)

abbrev IsCode : List (List ℕ) → List Value × List ℕ → Type 0
IsCode parts x = All IsValue x.0 × All (λ (b : ℕ). b < 2 ^ 8) x.1 × (parts ≡ map value_text x.0 ++ codes "code" ∷ map byte_text x.1)

code_one : (parts : List (List ℕ)) (x : List Value × List ℕ) → code_of parts ≡ Some x → IsCode parts x
unfolding code_of
code_one [] x e = no_some x e
code_one (part ∷ parts) x e = told (is_code part) refl e (code_one parts)
  where
    told : (b : Bool) → is_code part ≡ b → cond b (option_map (λ (code : List ℕ). ([], code)) (each_of byte_of parts)) (value_of part >>= λ y. code_of parts >>= λ x. Some (y ∷ x.0, x.1)) ≡ Some x → ((y : List Value × List ℕ) → code_of parts ≡ Some y → IsCode parts y) → IsCode (part ∷ parts) x
    told true is e more =
        let s = mapped_some (λ (code : List ℕ). let y : List Value × List ℕ = ([], code) in y) (each_of byte_of parts) x e in
        let all = each_one byte_of byte_text (λ (b : ℕ). b < 2 ^ 8) byte_one parts s.0 s.1 in
        subst (IsCode (part ∷ parts)) s.2 (All-nil IsValue, all.0, ap₂ (λ (p : List ℕ) (ps : List (List ℕ)). p ∷ ps) (same_bytes part (codes "code") is) all.1)
    told false is e more =
        let a = then_some (value_of part) _ x e in
        let b = then_some (code_of parts) _ x a.2 in
        let first = value_one part a.0 a.1 in
        let others = more b.0 b.1 in
        subst (IsCode (part ∷ parts)) (some_is _ x b.2) (All-cons IsValue a.0 b.0.0 first.0 others.0, others.1, ap₂ (λ (p : List ℕ) (ps : List (List ℕ)). p ∷ ps) first.1 others.2)

-- the sizes that a line has; those of a method are judged by rule 7
abbrev pub HasStated : Body → Type 0
HasStated (Pointers values) = length values < MOST_FIELDS + 1
HasStated (Words words) = length words < MOST_FIELDS + 1
HasStated (Bytes bytes) = length bytes < MOST_FIELDS + 1
HasStated (Method header literals code) = IsSmallInteger header

record IsStatedBody (parts : List (List ℕ)) (k : Kind) (body : Body) : Type 0 where
  kind : k ≡ objects.kind_of body
  size : HasStated body
  fields : All IsValue (objects.fields_of body)
  range : HasRange body
  parts_are : parts ≡ contents_parts body

method_one : (parts : List (List ℕ)) (body : Body) → method_of parts ≡ Some body → IsStatedBody parts kind.Method body
unfolding method_of
method_one [] body e = no_some body e
method_one (part ∷ parts) body e =
    let a = then_some (small_of part) _ body e in
    let b = then_some (code_of parts) _ body a.2 in
    let header = small_one part a.0 a.1 in
    let others = code_one parts b.0 b.1 in
    subst (IsStatedBody (part ∷ parts) kind.Method) (some_is _ body b.2) (record {
      kind = refl;
      size = header.0;
      fields = others.0;
      range = others.1;
      parts_are = ap₂ (λ (p : List ℕ) (ps : List (List ℕ)). p ∷ ps) header.1 others.2;
    })

body_one : (k : Kind) (parts : List (List ℕ)) (body : Body) → body_of k parts ≡ Some body → IsStatedBody parts k body
body_one kind.Pointers parts body e =
    let s = mapped_some Pointers (fields_of value_of parts) body e in
    let all = fields_one value_of value_text IsValue value_one parts s.0 s.1 in
    subst (IsStatedBody parts kind.Pointers) s.2 (record { kind = refl; size = all.0; fields = all.1; range = tt; parts_are = all.2 })
body_one kind.Words parts body e =
    let s = mapped_some Words (fields_of word_of parts) body e in
    let all = fields_one word_of word_text (λ (w : ℕ). w < 2 ^ 16) word_one parts s.0 s.1 in
    subst (IsStatedBody parts kind.Words) s.2 (record { kind = refl; size = all.0; fields = All-nil IsValue; range = all.1; parts_are = all.2 })
body_one kind.Bytes parts body e =
    let s = mapped_some Bytes (fields_of byte_of parts) body e in
    let all = fields_one byte_of byte_text (λ (b : ℕ). b < 2 ^ 8) byte_one parts s.0 s.1 in
    subst (IsStatedBody parts kind.Bytes) s.2 (record { kind = refl; size = all.0; fields = All-nil IsValue; range = all.1; parts_are = all.2 })
body_one kind.Method parts body e = method_one parts body e

-- ---- an object

pub record IsStatedObject (parts : List (List ℕ)) (r : Rec) : Type 0 where
  pub count : r.count ≡ 0
  pub class : IsLongName r.class
  pub size : HasStated r.body
  pub fields : All IsValue (objects.fields_of r.body)
  pub range : HasRange r.body
  pub parts_are : r.name < 2 ^ 64 → parts ≡ object_parts r.name (object_of_rec r)

four_same : (p p2 q q2 k k2 : List ℕ) (ps qs : List (List ℕ)) → p ≡ p2 → q ≡ q2 → k ≡ k2 → ps ≡ qs → p ∷ q ∷ k ∷ ps ≡ p2 ∷ q2 ∷ k2 ∷ qs
four_same p p2 q q2 k k2 ps qs a b c d = cc

pub object_one : (parts : List (List ℕ)) (r : Rec) → object_of parts ≡ Some r → IsStatedObject parts r
unfolding object_of
object_one [] r e = no_some r e
object_one (name ∷ []) r e = no_some r e
object_one (name ∷ class ∷ []) r e = no_some r e
object_one (name ∷ class ∷ kind ∷ contents) r e =
    let a = then_some (number_of name) _ r e in
    let b = then_some (name_of class) _ r a.2 in
    let c = then_some (kind_of kind) _ r b.2 in
    let d = then_some (body_of c.0 contents) _ r c.2 in
    let class_is = name_one class b.0 b.1 in
    let body = body_one c.0 contents d.0 d.1 in
    subst (IsStatedObject (name ∷ class ∷ kind ∷ contents)) (some_is _ r d.2) (record {
      count = refl;
      class = class_is.0;
      size = body.size;
      fields = body.fields;
      range = body.range;
      parts_are = λ small. four_same name (decimal a.0) class (decimal b.0) kind (kind_text (objects.kind_of d.0)) contents (contents_parts d.0) (number-spelled name a.0 a.1 small) class_is.1 (kind_one kind c.0 c.1 ∙ ap kind_text body.kind) body.parts_are;
    })

-- ---- the first line

pub record IsStatedHead (parts : List (List ℕ)) (h : Head) : Type 0 where
  pub next : h.next < 2 ^ 32
  pub clock : h.state.clock < 2 ^ 32
  pub display : h.state.display < 2 ^ 32
  pub input : h.state.input < 2 ^ 32
  pub timer : h.state.timer < 2 ^ 32
  pub tick : h.state.tick < 2 ^ 32
  pub parts_are : parts ≡ head_parts h.next h.state

seven_same : (p1 p2 p3 p4 p5 p6 p7 q1 q2 q3 q4 q5 q6 q7 : List ℕ) → p1 ≡ q1 → p2 ≡ q2 → p3 ≡ q3 → p4 ≡ q4 → p5 ≡ q5 → p6 ≡ q6 → p7 ≡ q7 → p1 ∷ p2 ∷ p3 ∷ p4 ∷ p5 ∷ p6 ∷ p7 ∷ [] ≡ q1 ∷ q2 ∷ q3 ∷ q4 ∷ q5 ∷ q6 ∷ q7 ∷ []
seven_same p1 p2 p3 p4 p5 p6 p7 q1 q2 q3 q4 q5 q6 q7 e1 e2 e3 e4 e5 e6 e7 = cc

pub head_one : (parts : List (List ℕ)) (h : Head) → head_of parts ≡ Some h → IsStatedHead parts h
unfolding head_of
head_one (loom ∷ next ∷ clock ∷ display ∷ input ∷ timer ∷ tick ∷ []) h e =
    let two = if_some (is_loom loom) _ h e in
    let a = then_some (long_of next) _ h two.1 in
    let b = then_some (long_of clock) _ h a.2 in
    let c = then_some (long_of display) _ h b.2 in
    let d = then_some (long_of input) _ h c.2 in
    let f = then_some (long_of timer) _ h d.2 in
    let g = then_some (long_of tick) _ h f.2 in
    let next_is = long_one next a.0 a.1 in
    let clock_is = long_one clock b.0 b.1 in
    let display_is = long_one display c.0 c.1 in
    let input_is = long_one input d.0 d.1 in
    let timer_is = long_one timer f.0 f.1 in
    let tick_is = long_one tick g.0 g.1 in
    subst (IsStatedHead (loom ∷ next ∷ clock ∷ display ∷ input ∷ timer ∷ tick ∷ [])) (some_is _ h g.2) (record {
      next = next_is.0;
      clock = clock_is.0;
      display = display_is.0;
      input = input_is.0;
      timer = timer_is.0;
      tick = tick_is.0;
      parts_are = seven_same loom next clock display input timer tick (codes "loom") (decimal a.0) (decimal b.0) (decimal c.0) (decimal d.0) (decimal f.0) (decimal g.0) (same_bytes loom (codes "loom") two.0) next_is.1 clock_is.1 display_is.1 input_is.1 timer_is.1 tick_is.1;
    })
head_one (p1 ∷ p2 ∷ p3 ∷ p4 ∷ p5 ∷ p6 ∷ p7 ∷ p8 ∷ ps) h e = no_some h e
head_one (p1 ∷ p2 ∷ p3 ∷ p4 ∷ p5 ∷ p6 ∷ []) h e = no_some h e
head_one (p1 ∷ p2 ∷ p3 ∷ p4 ∷ p5 ∷ []) h e = no_some h e
head_one (p1 ∷ p2 ∷ p3 ∷ p4 ∷ []) h e = no_some h e
head_one (p1 ∷ p2 ∷ p3 ∷ []) h e = no_some h e
head_one (p1 ∷ p2 ∷ []) h e = no_some h e
head_one (p1 ∷ []) h e = no_some h e
head_one [] h e = no_some h e

-- ---- lines

joined : (line : List ℕ) (parts : List (List ℕ)) → parts_of line ≡ Some parts → line ≡ join_with_byte 32 parts
joined line parts e =
    let cut : slice_split is_space line ≡ parts = some_is _ parts (unless_some (ltb LONGEST_LINE (length line)) (Some (slice_split is_space line)) parts e) in
    sym (join_with_byte-slice_split 32 line) ∙ ap (join_with_byte 32) cut

spelled_line : (line : List ℕ) (parts spelled : List (List ℕ)) → parts_of line ≡ Some parts → parts ≡ spelled → line ++ 10 ∷ [] ≡ line_of spelled
spelled_line line parts spelled e same = ap (λ (t : List ℕ). t ++ 10 ∷ []) (joined line parts e ∙ ap (join_with_byte 32) same)

-- what a line states, and its spelling
pub record IsLineOfObject (line : List ℕ) (r : Rec) : Type 0 where
  pub count : r.count ≡ 0
  pub class : IsLongName r.class
  pub size : HasStated r.body
  pub fields : All IsValue (objects.fields_of r.body)
  pub range : HasRange r.body
  pub line_is : r.name < 2 ^ 64 → line ++ 10 ∷ [] ≡ line_of (object_parts r.name (object_of_rec r))

pub line_object_one : (line : List ℕ) (r : Rec) → line_object line ≡ Some r → IsLineOfObject line r
line_object_one line r e =
    let s = then_some (parts_of line) object_of r e in
    let o = object_one s.0 r s.2 in
    record {
      count = o.count;
      class = o.class;
      size = o.size;
      fields = o.fields;
      range = o.range;
      line_is = λ small. spelled_line line s.0 (object_parts r.name (object_of_rec r)) s.1 (o.parts_are small);
    }

pub record IsLineOfHead (line : List ℕ) (h : Head) : Type 0 where
  pub next : h.next < 2 ^ 32
  pub clock : h.state.clock < 2 ^ 32
  pub display : h.state.display < 2 ^ 32
  pub input : h.state.input < 2 ^ 32
  pub timer : h.state.timer < 2 ^ 32
  pub tick : h.state.tick < 2 ^ 32
  pub line_is : line ++ 10 ∷ [] ≡ line_of (head_parts h.next h.state)

pub line_head_one : (line : List ℕ) (h : Head) → line_head line ≡ Some h → IsLineOfHead line h
line_head_one line h e =
    let s = then_some (parts_of line) head_of h e in
    let o = head_one s.0 h s.2 in
    record {
      next = o.next;
      clock = o.clock;
      display = o.display;
      input = o.input;
      timer = o.timer;
      tick = o.tick;
      line_is = spelled_line line s.0 (head_parts h.next h.state) s.1 o.parts_are;
    }
