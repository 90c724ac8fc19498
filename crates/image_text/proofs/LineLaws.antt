-- The line of an object, from its record.
use Rattle.std.proofs.Common.{◌≡◌, ℕ, ℤ, ◌%◌, Bool, true, false, cond, eqb, List, [], ◌∷◌, ◌++◌, length, map, codes, decimal, Option, Some, None, is_some, refl, sym, ap, ◌∙◌, append_assoc, arith, inl, inr}
use Rattle.std.specs.List.{flat_map, join_with_byte}
use Rattle.std.specs.Option.{option_map_or}
use Rattle.std.proofs.lemmas.Bool.{cases_lt, eq-eqb, ne_eqb}
use Rattle.std.proofs.lemmas.Grind.{flat_map-append}
use Rattle.long_names.specs.Heap.{Heap, Has}
use Rattle.long_names.specs.Words.{value_of}
use Rattle.long_names.specs.Objects.{kind_of}
use Rattle.long_names.specs.declared.value.Value.{Value}
use Rattle.long_names.specs.declared.value.Value.TheVariants.{Int, Ref}
use Rattle.long_names.specs.declared.object.Kind.TheVariants as kind
use Rattle.long_names.specs.declared.object.Object.{Object}
use Rattle.object_record.specs.Buffer.{raw_of}
use Rattle.object_record.specs.Objects.{int_in, value_in, body_of, object_in}
use Rattle.object_record.specs.Raw.{RawBody, RawPointers, RawWords, RawBytes, RawMethod, RawRecord, HasRawSize, longs_of, raw_bytes, raw_header, raw_kind, raw_len, raw_literals, raw_words, stated_by}
use Rattle.disk_objects.specs.Function.{IsFetched}
use Rattle.text_lines.specs.PartSpelling.{byte_text, kind_text, value_text, word_text}
use Rattle.image_text.specs.Items.{head_text, item_text, spaced_contents}
use Rattle.image_text.specs.declared.spelling.Items.TheVariants.{Values, Words, Bytes}
use Rattle.text_lines.specs.Spelling.{contents_parts, line_of, name_line, object_parts}

-- ---- parts with a space before each

abbrev spaced : List (List ℕ) → List ℕ
spaced parts = flat_map (λ (p : List ℕ). 32 ∷ p) parts

join_spaced : (p : List ℕ) (ps : List (List ℕ)) → join_with_byte 32 (p ∷ ps) ≡ p ++ spaced ps
join_spaced p [] = sym (append-none p)
  where
    append-none : (xs : List ℕ) → xs ++ [] ≡ xs
    append-none [] = refl
    append-none (x ∷ xs) = ap (λ (t : List ℕ). x ∷ t) (append-none xs)
join_spaced p (q ∷ qs) = ap (λ (t : List ℕ). p ++ (32 ∷ t)) (join_spaced q qs)

line_parts : (name class kind contents : List ℕ) (parts : List (List ℕ)) → contents ≡ spaced parts → (name ++ (32 ∷ (class ++ (32 ∷ kind)))) ++ (contents ++ 10 ∷ []) ≡ line_of (name ∷ class ∷ kind ∷ parts)
line_parts name class kind contents parts e =
    append_assoc name (32 ∷ (class ++ (32 ∷ kind))) (contents ++ 10 ∷ [])
    ∙ ap (λ (t : List ℕ). name ++ (32 ∷ t)) (append_assoc class (32 ∷ kind) (contents ++ 10 ∷ []) ∙ ap (λ (t : List ℕ). class ++ (32 ∷ t)) (sym (append_assoc kind contents (10 ∷ [])) ∙ ap (λ (t : List ℕ). t ++ 10 ∷ []) (ap (λ (t : List ℕ). kind ++ t) e ∙ sym (join_spaced kind parts))))
    ∙ ap (λ (t : List ℕ). name ++ (32 ∷ t)) (sym (append_assoc class (32 ∷ join_with_byte 32 (kind ∷ parts)) (10 ∷ [])))
    ∙ sym (append_assoc name (32 ∷ (class ++ (32 ∷ join_with_byte 32 (kind ∷ parts)))) (10 ∷ []))

-- ---- contents

values_spaced : (longs : List ℕ) → flat_map (item_text Values) longs ≡ spaced (map value_text (map value_in longs))
values_spaced [] = refl
values_spaced (l ∷ ls) = ap (λ (t : List ℕ). (32 ∷ value_text (value_in l)) ++ t) (values_spaced ls)

words_spaced : (words : List ℕ) → flat_map (item_text Words) words ≡ spaced (map word_text words)
words_spaced [] = refl
words_spaced (w ∷ ws) = ap (λ (t : List ℕ). (32 ∷ word_text w) ++ t) (words_spaced ws)

bytes_spaced : (bytes : List ℕ) → flat_map (item_text Bytes) bytes ≡ spaced (map byte_text bytes)
bytes_spaced [] = refl
bytes_spaced (b ∷ bs) = ap (λ (t : List ℕ). (32 ∷ byte_text b) ++ t) (bytes_spaced bs)

-- a header is a SmallInteger
int_header : (o : Option Value) (n : ℕ) → stated_by o ≡ Some n → (z : ℤ) × (o ≡ Some (Int z))
int_header (Some (Int z)) n e = (z, refl)
int_header (Some (Ref m)) n e = let clash : ◌≡◌ {A = Option ℕ} None (Some n) = e in absurd (cc)
int_header None n e = let clash : ◌≡◌ {A = Option ℕ} None (Some n) = e in absurd (cc)

odd_header : (word : ℕ) (z : ℤ) → value_of word ≡ Some (Int z) → value_in word ≡ Int (int_in word)
odd_header word z e = elim (cases_lt (word % 2) 1) [
  | inl lt ↦ (let even : eqb (word % 2) 1 ≡ false = ne_eqb _ _ (λ o. omega (arith, o, lt)) in absurd (go (eqb word 0) (rw even at e)))
  | inr le ↦ (let odd : eqb (word % 2) 1 ≡ true = eq-eqb (word % 2) 1 (omega (arith, le)) in rw odd refl)
]
  where
    go : (b : Bool) → cond b None (Some (Ref word)) ≡ Some (Int z) → ⊥
    go true e = let clash : ◌≡◌ {A = Option Value} None (Some (Int z)) = e in cc
    go false e = let clash : ◌≡◌ {A = Option Value} (Some (Ref word)) (Some (Int z)) = e in cc

contents_spaced : (b : RawBody) → HasRawSize b → spaced_contents b ≡ spaced (contents_parts (body_of b))
contents_spaced (RawPointers longs) size = values_spaced longs
contents_spaced (RawWords words) size = words_spaced words
contents_spaced (RawBytes bytes) size = bytes_spaced bytes
contents_spaced (RawMethod header literals code) size =
    let z = int_header (value_of header) (length literals) size.0 in
    ap (λ (v : Value). (32 ∷ value_text v) ++ (flat_map (item_text Values) literals ++ (codes " code" ++ flat_map (item_text Bytes) code))) (odd_header header z.0 z.1)
    ∙ ap (λ (t : List ℕ). (32 ∷ value_text (Int (int_in header))) ++ (t ++ (codes " code" ++ flat_map (item_text Bytes) code))) (values_spaced literals)
    ∙ ap (λ (t : List ℕ). (32 ∷ value_text (Int (int_in header))) ++ (spaced (map value_text (map value_in literals)) ++ (codes " code" ++ t))) (bytes_spaced code)
    ∙ ap (λ (t : List ℕ). (32 ∷ value_text (Int (int_in header))) ++ t) (sym (flat_map-append (λ (p : List ℕ). 32 ∷ p) (map value_text (map value_in literals)) (codes "code" ∷ map byte_text code)))

kind_same : (b : RawBody) → raw_kind b ≡ kind_of (body_of b)
kind_same (RawPointers longs) = refl
kind_same (RawWords words) = refl
kind_same (RawBytes bytes) = refl
kind_same (RawMethod header literals code) = refl

-- ---- lines

pub line_is : (r : RawRecord) → HasRawSize r.body → head_text r ++ (spaced_contents r.body ++ 10 ∷ []) ≡ line_of (object_parts r.name (object_in r))
line_is r size =
    line_parts (decimal r.name) (decimal r.class) (kind_text (raw_kind r.body)) (spaced_contents r.body) (contents_parts (body_of r.body)) (contents_spaced r.body size)
    ∙ ap (λ k. line_of (decimal r.name ∷ decimal r.class ∷ kind_text k ∷ contents_parts (body_of r.body))) (kind_same r.body)

-- ---- the line of a name that a disk holds

object_there : (h : Heap) (n : ℕ) → Has h n → (o : Object) × (h.at n ≡ Some o)
object_there h n has = go (h.at n) refl has
  where
    go : (o : Option Object) → h.at n ≡ o → is_some o ≡ true → (x : Object) × (h.at n ≡ Some x)
    go None e is = let clash : ◌≡◌ {A = Bool} false true = is in absurd (cc)
    go (Some x) e is = (x, e)

fetched : (bytes : List ℕ) (d : Option Object) (held : Bool) (o : Object) → IsFetched bytes d held → d ≡ Some o → held ≡ true → o ≡ object_in (raw_of bytes)
fetched bytes None held o is e yes_held = let clash : ◌≡◌ {A = Option Object} None (Some o) = e in absurd (cc)
fetched bytes (Some p) true o is e yes_held = let same : p ≡ o = cc in sym same ∙ is
fetched bytes (Some p) false o is e yes_held = absurd is

pub name_line_is : (h : Heap) (name : ℕ) (at : ℕ → Option Object) (bytes : List ℕ) (held : Bool) → h.at ≡ at → Has h name → IsFetched bytes (at name) held → held ≡ true → (raw_of bytes).name ≡ name
    → line_of (object_parts (raw_of bytes).name (object_in (raw_of bytes))) ≡ name_line h name
name_line_is h name at bytes held same has got yes_held named =
    let o = object_there h name has in
    let on_disk : at name ≡ Some o.0 = ap (λ (f : ℕ → Option Object). f name) (sym same) ∙ o.1 in
    ap (λ (n : ℕ). line_of (object_parts n (object_in (raw_of bytes)))) named
    ∙ ap (λ (p : Object). line_of (object_parts name p)) (sym (fetched bytes (at name) held o.0 got on_disk yes_held))
    ∙ ap (λ (p : Option Object). option_map_or (λ (x : Object). line_of (object_parts name x)) p []) (sym o.1)

-- ---- items

pub method_contents : (b : RawBody) → raw_kind b ≡ kind.Method
    → item_text Values (raw_header b) ++ (flat_map (item_text Values) (longs_of b) ++ (codes " code" ++ flat_map (item_text Bytes) (raw_bytes b))) ≡ spaced_contents b
method_contents (RawPointers longs) e = absurd (cc)
method_contents (RawWords words) e = absurd (cc)
method_contents (RawBytes bytes) e = absurd (cc)
method_contents (RawMethod header literals code) e = refl

pub literals_length : (b : RawBody) → raw_kind b ≡ kind.Method → raw_literals b ≡ length (longs_of b)
literals_length (RawPointers longs) e = absurd (cc)
literals_length (RawWords words) e = absurd (cc)
literals_length (RawBytes bytes) e = absurd (cc)
literals_length (RawMethod header literals code) e = refl

pub code_length : (b : RawBody) → raw_kind b ≡ kind.Method → raw_len b ≡ length (raw_bytes b)
code_length (RawPointers longs) e = absurd (cc)
code_length (RawWords words) e = absurd (cc)
code_length (RawBytes bytes) e = absurd (cc)
code_length (RawMethod header literals code) e = refl

pub pointers_are : (b : RawBody) → raw_kind b ≡ kind.Pointers → (raw_len b ≡ length (longs_of b)) × (flat_map (item_text Values) (longs_of b) ≡ spaced_contents b)
pointers_are (RawPointers longs) e = (refl, refl)
pointers_are (RawWords words) e = absurd (cc)
pointers_are (RawBytes bytes) e = absurd (cc)
pointers_are (RawMethod header literals code) e = absurd (cc)

pub words_are : (b : RawBody) → raw_kind b ≡ kind.Words → (raw_len b ≡ length (raw_words b)) × (flat_map (item_text Words) (raw_words b) ≡ spaced_contents b)
words_are (RawPointers longs) e = absurd (cc)
words_are (RawWords words) e = (refl, refl)
words_are (RawBytes bytes) e = absurd (cc)
words_are (RawMethod header literals code) e = absurd (cc)

pub bytes_are : (b : RawBody) → raw_kind b ≡ kind.Bytes → (raw_len b ≡ length (raw_bytes b)) × (flat_map (item_text Bytes) (raw_bytes b) ≡ spaced_contents b)
bytes_are (RawPointers longs) e = absurd (cc)
bytes_are (RawWords words) e = absurd (cc)
bytes_are (RawBytes bytes) e = (refl, refl)
bytes_are (RawMethod header literals code) e = absurd (cc)

-- a name that is there is found
pub not_lost : (h : Heap) (name : ℕ) (at : ℕ → Option Object) (bytes : List ℕ) (held : Bool) → h.at ≡ at → Has h name → IsFetched bytes (at name) held → held ≡ false → ⊥
not_lost h name at bytes held same has got absent =
    let o = object_there h name has in
    go (at name) held got (ap (λ (f : ℕ → Option Object). f name) (sym same) ∙ o.1) absent
  where
    go : {x : Object} (d : Option Object) (b : Bool) → IsFetched bytes d b → d ≡ Some x → b ≡ false → ⊥
    go None b is e absent = let clash : ◌≡◌ {A = Option Object} None (Some _) = e in cc
    go (Some p) true is e absent = let clash : ◌≡◌ {A = Bool} true false = absent in cc
    go (Some p) false is e absent = is
