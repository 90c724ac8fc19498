-- What lines spell is read back, part by part.
use Rattle.std.proofs.Common.{◌≡◌, ℕ, ℤ, suc, pos, negsuc, ◌*◌, ◌/◌, ◌%◌, ◌^◌, ◌<◌, ◌≤◌, Bool, true, false, cond, ◌&&◌, ltb, List, [], ◌∷◌, ◌++◌, length, map, codes, decimal, Option, Some, None, refl, sym, ap, ap₂, ◌∙◌, length-append, arith}
use Rattle.std.proofs.lemmas.Bool.{and_parts}
use Rattle.std.proofs.lemmas.Bool.Decides.{nat_tests}
use Rattle.std.proofs.lemmas.Fmt.{digits_decimal, length-decimal-le}
use Rattle.std.proofs.lemmas.List.{append_cancel_right, length-map}
use Rattle.std.proofs.lemmas.List.Elements.{All-append, All-cons, All-head, All-nil, All-tail}
use Rattle.std.proofs.lemmas.List.Folds.{list_all-append}
use Rattle.std.proofs.lemmas.List.Splits.{slice_split_at, slice_split_none}
use Rattle.std.proofs.lemmas.Slice.Eq.{bytes_eq-Decides}
use Rattle.std.specs.Char.{digit_char, is_ascii_digit}
use Rattle.std.specs.Fmt.{signed_decimal}
use Rattle.std.specs.List.{All, join_with_byte, list_all, slice_split}
use Rattle.std.specs.Option.{option_map}
use Rattle.long_names.specs.Names.{IsLongName}
use Rattle.long_names.specs.Objects.{HasRange, IsBody, IsRecord, kind_of}
use Rattle.long_names.specs.Words.{IsSmallInteger, IsValue, literal_count}
use Rattle.long_names.specs.declared.limits.TheConstants.{MOST_CODE}
use Rattle.long_names.specs.declared.value.Value.{Value}
use Rattle.long_names.specs.declared.value.Value.TheVariants.{Int, Ref}
use Rattle.long_names.specs.declared.object.Kind.{Kind}
use Rattle.long_names.specs.declared.object.Kind.TheVariants as kind
use Rattle.long_names.specs.declared.object.Body.{Body}
use Rattle.long_names.specs.declared.object.Body.TheVariants.{Pointers, Words, Bytes, Method}
use Rattle.long_names.specs.declared.object.Rec.{Rec}
use Rattle.image_format.specs.Rules.{object_of_rec}
use Rattle.text_lines.specs.Parts.{is_space, byte_of, is_code, long_of, value_of, word_of}
use Rattle.text_lines.specs.Parts as parts
use Rattle.text_lines.specs.PartSpelling.{byte_text, kind_text, value_text, word_text}
use Rattle.text_lines.specs.Grammar.{◌>>=◌, Head, body_of, code_of, each_of, head_of, line_head, line_object, object_of, parts_of}
use Rattle.text_lines.specs.Spelling.{contents_parts, head_parts, line_of, object_parts}
use Rattle.text_lines.proofs.EachLaws.{few_fields}
use Rattle.text_lines.proofs.LineLaws.{head_is, method_some, short_parts}
use Rattle.text_lines.proofs.NumberLaws.{AreDigits, digits, number-again}
use Rattle.text_lines.proofs.SpellingLaws.{byte-again, kind-again, long-again, name-again, small-again, value-again, word-again}

-- ---- parts of a line: no spaces, no newlines, at most ten bytes

abbrev pub IsInner : List ℕ → Type 0
IsInner xs = list_all (λ b. ltb 32 b) xs ≡ true

pub record IsPart (part : List ℕ) : Type 0 where
  pub inner : IsInner part
  pub short : length part ≤ 10

inner-append : (xs ys : List ℕ) → IsInner xs → IsInner ys → IsInner (xs ++ ys)
inner-append xs ys p q = list_all-append (λ b. ltb 32 b) xs ys ∙ ap₂ (λ (a b : Bool). a && b) p q

digit-inner : (d : ℕ) → is_ascii_digit d ≡ true → ltb 32 d ≡ true
digit-inner d is = grind (arith, nat_tests)

digits-inner : (ds : List ℕ) → AreDigits ds → IsInner ds
digits-inner [] all = refl
digits-inner (d ∷ ds) all =
    let both = and_parts (is_ascii_digit d) (list_all is_ascii_digit ds) all in
    ap₂ (λ (a b : Bool). a && b) (digit-inner d both.0) (digits-inner ds both.1)

decimal-inner : (n : ℕ) → n < 2 ^ 64 → IsInner (decimal n)
decimal-inner n small = digits-inner (decimal n) (digits_decimal digits n small)

pub long-part : (n : ℕ) → n < 2 ^ 32 → IsPart (decimal n)
long-part n small = record { inner = decimal-inner n (omega arith); short = length-decimal-le 10 n (omega arith) (omega arith) (omega arith) }

name-part : (n : ℕ) → IsLongName n → IsPart (decimal n)
name-part n is = long-part n (omega (arith, is))

signed-inner : (z : ℤ) → IsSmallInteger z → IsInner (signed_decimal z)
signed-inner (pos n) small = decimal-inner n (omega (arith, small))
signed-inner (negsuc n) small = decimal-inner (suc n) (omega (arith, small))

signed-length : (z : ℤ) → IsSmallInteger z → length (signed_decimal z) ≤ 6
signed-length (pos n) small = let few = length-decimal-le 5 n (omega arith) (omega (arith, small)) (omega (arith, small)) in omega arith
signed-length (negsuc n) small = let few = length-decimal-le 5 (suc n) (omega arith) (omega (arith, small)) (omega (arith, small)) in omega arith

value-part : (v : Value) → IsValue v → IsPart (value_text v)
value-part (Int z) is = record {
  inner = inner-append (signed_decimal z) (codes "i") (signed-inner z is) refl;
  short = omega (arith, length-append (signed_decimal z) (codes "i"), signed-length z is);
}
value-part (Ref n) is = name-part n is

glyph-inner : (d : ℕ) → d < 16 → ltb 32 (digit_char d) ≡ true
glyph-inner d low = grind (arith, nat_tests)

byte-inner : (b : ℕ) → b < 2 ^ 8 → IsInner (byte_text b)
byte-inner b small = ap₂ (λ (p q : Bool). p && (q && true)) (glyph-inner (b / 16) (omega (arith, small))) (glyph-inner (b % 16) (omega arith))

byte-part : (b : ℕ) → b < 2 ^ 8 → IsPart (byte_text b)
byte-part b small = record { inner = byte-inner b small; short = omega arith }

word-part : (w : ℕ) → w < 2 ^ 16 → IsPart (word_text w)
word-part w small = record { inner = inner-append (byte_text (w / 256)) (byte_text (w % 256)) (byte-inner (w / 256) (omega (arith, small))) (byte-inner (w % 256) (omega arith)); short = omega arith }

kind-part : (k : Kind) → IsPart (kind_text k)
kind-part kind.Pointers = record { inner = refl; short = omega arith }
kind-part kind.Words = record { inner = refl; short = omega arith }
kind-part kind.Bytes = record { inner = refl; short = omega arith }
kind-part kind.Method = record { inner = refl; short = omega arith }

-- ---- parts that are joined

all-map : {X : Type 0} (text : X → List ℕ) (P : X → Type 0) → ((x : X) → P x → IsPart (text x)) → (xs : List X) → All P xs → All IsPart (map text xs)
all-map text P each [] all = All-nil IsPart
all-map text P each (x ∷ xs) all = All-cons IsPart (text x) (map text xs) (each x (All-head P x xs all)) (all-map text P each xs (All-tail P x xs all))

no-space : (xs : List ℕ) → IsInner xs → All (λ b. is_space b ≡ false) xs
no-space [] all = All-nil (λ b. is_space b ≡ false)
no-space (x ∷ xs) all =
    let both = and_parts (ltb 32 x) (list_all (λ b. ltb 32 b) xs) all in
    All-cons (λ b. is_space b ≡ false) x xs (let first = both.0 in grind (arith, nat_tests)) (no-space xs both.1)

pub split-joined : (part : List ℕ) (parts : List (List ℕ)) → All IsPart (part ∷ parts) → slice_split is_space (join_with_byte 32 (part ∷ parts)) ≡ part ∷ parts
split-joined part [] all = slice_split_none is_space part (no-space part (All-head IsPart part [] all).inner)
split-joined part (next ∷ parts) all =
    slice_split_at is_space part 32 (join_with_byte 32 (next ∷ parts)) (no-space part (All-head IsPart part (next ∷ parts) all).inner) refl
    ∙ ap (λ (ps : List (List ℕ)). part ∷ ps) (split-joined next parts (All-tail IsPart part (next ∷ parts) all))

joined-length : (parts : List (List ℕ)) → All IsPart parts → length (join_with_byte 32 parts) ≤ 11 * length parts
joined-length [] all = omega arith
joined-length (part ∷ []) all = let few = (All-head IsPart part [] all).short in omega arith
joined-length (part ∷ next ∷ parts) all =
    let few = (All-head IsPart part (next ∷ parts) all).short in
    let more = joined-length (next ∷ parts) (All-tail IsPart part (next ∷ parts) all) in
    omega (arith, length-append part (32 ∷ join_with_byte 32 (next ∷ parts)))

-- a line of so few parts is short enough
pub parts-back : (part : List ℕ) (parts : List (List ℕ)) → All IsPart (part ∷ parts) → length (part ∷ parts) ≤ 70000 → parts_of (join_with_byte 32 (part ∷ parts)) ≡ Some (part ∷ parts)
parts-back part parts all few = short_parts (join_with_byte 32 (part ∷ parts)) (part ∷ parts) (let long = joined-length (part ∷ parts) all in omega arith) (split-joined part parts all)

-- ---- each part is read back

each-again : {X : Type 0} (read : List ℕ → Option X) (text : X → List ℕ) (P : X → Type 0) → ((x : X) → P x → read (text x) ≡ Some x) → (xs : List X) → All P xs → each_of read (map text xs) ≡ Some xs
unfolding each_of
each-again {X = X} read text P back [] all = refl
each-again {X = X} read text P back (x ∷ xs) all =
    ap (λ (o : Option X). o >>= λ y. each_of read (map text xs) >>= λ ys. Some (y ∷ ys)) (back x (All-head P x xs all))
    ∙ ap (λ (o : Option (List X)). o >>= λ ys. Some (x ∷ ys)) (each-again read text P back xs (All-tail P x xs all))

-- no value is spelled `code`
no-code : (v : Value) → IsValue v → is_code (value_text v) ≡ false
no-code v is = go (is_code (value_text v)) refl
  where
    go : (b : Bool) → is_code (value_text v) ≡ b → b ≡ false
    go false e = refl
    go true e =
        let same : value_text v ≡ codes "code" = (bytes_eq-Decides (value_text v) (codes "code")).0 e in
        let none : value_of (codes "code") ≡ None = refl in
        let clash : ◌≡◌ {A = Option Value} (Some v) None = sym (value-again v is) ∙ ap value_of same ∙ none in
        absurd (cc)

code-again : (literals : List Value) (code : List ℕ) → All IsValue literals → All (λ b. b < 2 ^ 8) code → code_of (map value_text literals ++ codes "code" ∷ map byte_text code) ≡ Some (literals, code)
unfolding code_of
code-again [] code values bytes = ap (option_map (λ (found : List ℕ). let pair : List Value × List ℕ = ([], found) in pair)) (each-again byte_of byte_text (λ b. b < 2 ^ 8) byte-again code bytes)
code-again (v ∷ vs) code values bytes =
    let is = All-head IsValue v vs values in
    ap (λ (b : Bool). cond b (option_map (λ (found : List ℕ). let pair : List Value × List ℕ = ([], found) in pair) (each_of byte_of (map value_text vs ++ codes "code" ∷ map byte_text code))) (value_of (value_text v) >>= λ y. code_of (map value_text vs ++ codes "code" ∷ map byte_text code) >>= λ x. Some (y ∷ x.0, x.1))) (no-code v is)
    ∙ ap (λ (o : Option Value). o >>= λ y. code_of (map value_text vs ++ codes "code" ∷ map byte_text code) >>= λ x. Some (y ∷ x.0, x.1)) (value-again v is)
    ∙ ap (λ (o : Option (List Value × List ℕ)). o >>= λ x. Some (v ∷ x.0, x.1)) (code-again vs code (All-tail IsValue v vs values) bytes)

-- ---- an object

body-again : (body : Body) → IsBody body → HasRange body → body_of (kind_of body) (contents_parts body) ≡ Some body
body-again (Pointers values) is range = ap (option_map Pointers) (few_fields value_of (map value_text values) values (each-again value_of value_text IsValue value-again values is.fields) (let size = is.size in omega arith))
body-again (Words words) is range = ap (option_map Words) (few_fields word_of (map word_text words) words (each-again word_of word_text (λ w. w < 2 ^ 16) word-again words range) (let size = is.size in omega arith))
body-again (Bytes bytes) is range = ap (option_map Bytes) (few_fields byte_of (map byte_text bytes) bytes (each-again byte_of byte_text (λ b. b < 2 ^ 8) byte-again bytes range) (let size = is.size in omega arith))
body-again (Method header literals code) is range =
    method_some (value_text (Int header) ∷ (map value_text literals ++ codes "code" ∷ map byte_text code)) (map value_text literals ++ codes "code" ∷ map byte_text code) (value_text (Int header)) header (literals, code) refl
    (small-again header is.size.0) (code-again literals code is.fields range)

object-again : (r : Rec) → IsRecord r → r.count ≡ 0 → object_of (object_parts r.name (object_of_rec r)) ≡ Some r
unfolding object_of
object-again r is none =
    ap (λ (o : Option ℕ). o >>= λ n. parts.name_of (decimal r.class) >>= λ c. parts.kind_of (kind_text (kind_of r.body)) >>= λ k. body_of k (contents_parts r.body) >>= λ b. Some (record { name = n; class = c; count = 0; body = b })) (number-again r.name (let name = is.name in omega arith))
    ∙ ap (λ (o : Option ℕ). o >>= λ c. parts.kind_of (kind_text (kind_of r.body)) >>= λ k. body_of k (contents_parts r.body) >>= λ b. Some (record { name = r.name; class = c; count = 0; body = b })) (name-again r.class is.class)
    ∙ ap (λ (o : Option Kind). o >>= λ k. body_of k (contents_parts r.body) >>= λ b. Some (record { name = r.name; class = r.class; count = 0; body = b })) (kind-again (kind_of r.body))
    ∙ ap (λ (o : Option Body). o >>= λ b. Some (record { name = r.name; class = r.class; count = 0; body = b })) (body-again r.body is.body is.range)
    ∙ ap (λ (n : ℕ). let x : Option Rec = Some (record { name = r.name; class = r.class; count = n; body = r.body }) in x) (sym none)

contents-part : (body : Body) → IsBody body → HasRange body → All IsPart (contents_parts body)
contents-part (Pointers values) is range = all-map value_text IsValue value-part values is.fields
contents-part (Words words) is range = all-map word_text (λ w. w < 2 ^ 16) word-part words range
contents-part (Bytes bytes) is range = all-map byte_text (λ b. b < 2 ^ 8) byte-part bytes range
contents-part (Method header literals code) is range =
    All-cons IsPart (value_text (Int header)) (map value_text literals ++ codes "code" ∷ map byte_text code) (value-part (Int header) is.size.0)
    (All-append IsPart (map value_text literals) (codes "code" ∷ map byte_text code) (all-map value_text IsValue value-part literals is.fields)
    (All-cons IsPart (codes "code") (map byte_text code) (record { inner = refl; short = omega arith }) (all-map byte_text (λ b. b < 2 ^ 8) byte-part code range)))

contents-few : (body : Body) → IsBody body → length (contents_parts body) ≤ 69997
contents-few (Pointers values) is = let size = is.size in omega (arith, length-map values value_text)
contents-few (Words words) is = let size = is.size in omega (arith, length-map words word_text)
contents-few (Bytes bytes) is = let size = is.size in omega (arith, length-map bytes byte_text)
contents-few (Method header literals code) is =
    let size : length literals ≡ literal_count header = is.size.1 in
    let most : length code ≤ MOST_CODE = is.size.2 in
    omega (arith, length-append (map value_text literals) (codes "code" ∷ map byte_text code), length-map literals value_text, length-map code byte_text)

pub object-parts : (r : Rec) → IsRecord r → All IsPart (object_parts r.name (object_of_rec r))
object-parts r is =
    All-cons IsPart (decimal r.name) (decimal r.class ∷ kind_text (kind_of r.body) ∷ contents_parts r.body) (name-part r.name is.name)
    (All-cons IsPart (decimal r.class) (kind_text (kind_of r.body) ∷ contents_parts r.body) (name-part r.class is.class)
    (All-cons IsPart (kind_text (kind_of r.body)) (contents_parts r.body) (kind-part (kind_of r.body)) (contents-part r.body is.body is.range)))

bare-line : (line : List ℕ) (parts : List (List ℕ)) → line ++ 10 ∷ [] ≡ line_of parts → line ≡ join_with_byte 32 parts
bare-line line parts e = append_cancel_right line (join_with_byte 32 parts) (10 ∷ []) e

pub object-back : (line : List ℕ) (r : Rec) → IsRecord r → r.count ≡ 0 → line ++ 10 ∷ [] ≡ line_of (object_parts r.name (object_of_rec r)) → line_object line ≡ Some r
object-back line r is none e =
    ap line_object (bare-line line (object_parts r.name (object_of_rec r)) e)
    ∙ ap (λ (o : Option (List (List ℕ))). o >>= object_of) (parts-back (decimal r.name) (decimal r.class ∷ kind_text (kind_of r.body) ∷ contents_parts r.body) (object-parts r is) (let few = contents-few r.body is.body in omega arith))
    ∙ object-again r is none

-- ---- the head

abbrev pub IsHeadShort : Head → Type 0
IsHeadShort h = (h.next < 2 ^ 32) × (h.state.clock < 2 ^ 32) × (h.state.display < 2 ^ 32) × (h.state.input < 2 ^ 32) × (h.state.timer < 2 ^ 32) × (h.state.tick < 2 ^ 32)

abbrev longs-of : Head → List ℕ
longs-of h = h.next ∷ h.state.clock ∷ h.state.display ∷ h.state.input ∷ h.state.timer ∷ h.state.tick ∷ []

all-longs : (h : Head) → IsHeadShort h → All (λ n. n < 2 ^ 32) (longs-of h)
all-longs h is =
    let P : ℕ → Type 0 = λ n. n < 2 ^ 32 in
    let s = h.state in
    All-cons P h.next (s.clock ∷ s.display ∷ s.input ∷ s.timer ∷ s.tick ∷ []) is.0
    (All-cons P s.clock (s.display ∷ s.input ∷ s.timer ∷ s.tick ∷ []) is.1
    (All-cons P s.display (s.input ∷ s.timer ∷ s.tick ∷ []) is.2
    (All-cons P s.input (s.timer ∷ s.tick ∷ []) is.3
    (All-cons P s.timer (s.tick ∷ []) is.4
    (All-cons P s.tick [] is.5 (All-nil P))))))

pub head-part : (h : Head) → IsHeadShort h → All IsPart (head_parts h.next h.state)
head-part h is = All-cons IsPart (codes "loom") (map decimal (longs-of h)) (record { inner = refl; short = omega arith }) (all-map decimal (λ n. n < 2 ^ 32) long-part (longs-of h) (all-longs h is))

pub head-back : (line : List ℕ) (h : Head) → IsHeadShort h → line ++ 10 ∷ [] ≡ line_of (head_parts h.next h.state) → line_head line ≡ Some h
head-back line h is e =
    ap line_head (bare-line line (head_parts h.next h.state) e)
    ∙ ap (λ (o : Option (List (List ℕ))). o >>= head_of) (parts-back (codes "loom") (map decimal (longs-of h)) (head-part h is) (omega arith))
    ∙ head_is (codes "loom") (map decimal (longs-of h)) (longs-of h) refl (each-again long_of decimal (λ n. n < 2 ^ 32) long-again (longs-of h) (all-longs h is)) refl
