-- Records of objects are raw records, with one text.
use Rattle.std.proofs.Common.{◌≡◌, ℕ, ℤ, pos, negsuc, ◌+◌, ◌-◌, ◌*◌, ◌/◌, ◌%◌, ◌^◌, ◌<◌, ◌≤◌, true, false, eqb, ltb, leb, List, [], ◌∷◌, ◌++◌, length, drop, replicate, map, refl, sym, ap, ◌∙◌, append_assoc, arith}
use Rattle.std.specs.Prelude.{All, Some}
use Rattle.std.proofs.lemmas.Bool.{le-ltb, lt-ltb, le-leb, eq-eqb}
use Rattle.std.proofs.lemmas.List.{take_at, length-append, length-map}
use Rattle.std.proofs.lemmas.List.Elements.{All-map, All-weaker}
use Rattle.long_names.specs.Words.{IsSmallInteger, IsValue, long_word, value_of}
use Rattle.long_names.specs.Objects.{IsBody, IsRecord, HasRange, kind_of, len_of}
use Rattle.long_names.specs.Record.{two_bytes, four_bytes, eight_bytes, kind_number, values_text, contents_text, record_head, padding, record_text}
use Rattle.long_names.specs.declared.value.Value.{Value}
use Rattle.long_names.specs.declared.value.Value.TheVariants.{Int, Ref}
use Rattle.long_names.specs.declared.object.Kind.{Kind}
use Rattle.long_names.specs.declared.object.Body.{Body}
use Rattle.long_names.specs.declared.object.Body.TheVariants as body
use Rattle.long_names.specs.declared.object.Rec.{Rec}
use Rattle.long_names.specs.declared.limits.TheConstants.{LONGEST_RECORD}
use Rattle.object_record.specs.Raw.{RawBody, RawPointers, RawWords, RawBytes, RawMethod, RawRecord, IsRawRecord, HasRawSize, HasRawRange, raw_kind, raw_len, raw_contents, raw_end, raw_text, raw_body, raw_record, longs_text}
use Rattle.object_record.specs.Filling.{filled_with}
use Rattle.object_record.proofs.Numbers.{wide16, wide32, wide64}
use Rattle.object_record.proofs.Reading.{few-literals, IsLong}
use Rattle.object_record.proofs.Texts.{length-contents}
use Rattle.object_record.proofs.Calls.{length-text}

longs-values : (values : List Value) → longs_text (map long_word values) ≡ values_text values
longs-values [] = refl
longs-values (v ∷ vs) = ap (λ (t : List ℕ). four_bytes (long_word v) ++ t) (longs-values vs)

same-contents : (b : Body) → raw_contents (raw_body b) ≡ contents_text b
same-contents (body.Pointers values) = longs-values values
same-contents (body.Words words) = refl
same-contents (body.Bytes bytes) = refl
same-contents (body.Method header literals code) =
    ap (λ (n : ℕ). four_bytes n ++ (four_bytes (long_word (Int header)) ++ (longs_text (map long_word literals) ++ code))) (length-map literals long_word)
    ∙ ap (λ (t : List ℕ). four_bytes (length literals) ++ (four_bytes (long_word (Int header)) ++ (t ++ code))) (longs-values literals)

same-kind : (b : Body) → raw_kind (raw_body b) ≡ kind_of b
same-kind (body.Pointers values) = refl
same-kind (body.Words words) = refl
same-kind (body.Bytes bytes) = refl
same-kind (body.Method header literals code) = refl

same-len : (b : Body) → raw_len (raw_body b) ≡ len_of b
same-len (body.Pointers values) = length-map values long_word
same-len (body.Words words) = refl
same-len (body.Bytes bytes) = refl
same-len (body.Method header literals code) = refl

pub same-text : (r : Rec) → raw_text (raw_record r) ≡ record_text r
unfolding raw_text record_text
same-text r =
    let b : RawBody = raw_body r.body in
    let z : ℕ → List ℕ = λ n. replicate {A = ℕ} (padding n) 0 in
    let whole : List ℕ → List ℕ → ℕ → ℕ → List ℕ = λ c zeros k n. four_bytes r.name ++ (four_bytes r.class ++ (eight_bytes r.count ++ (two_bytes k ++ (two_bytes n ++ (c ++ zeros))))) in
    let long : length (record_head r ++ contents_text r.body) ≡ raw_end b =
    omega (arith, length-append (record_head r) (contents_text r.body), length-head r, ap length (same-contents r.body), length-contents b) in
    let grouped : whole (contents_text r.body) (z (length (record_head r ++ contents_text r.body))) (kind_number (kind_of r.body)) (len_of r.body) ≡ (record_head r ++ contents_text r.body) ++ z (length (record_head r ++ contents_text r.body)) = simp append_assoc in
    ap (λ (c : List ℕ). whole c (z (raw_end b)) (kind_number (raw_kind b)) (raw_len b)) (same-contents r.body)
    ∙ ap (λ (k : Kind). whole (contents_text r.body) (z (raw_end b)) (kind_number k) (raw_len b)) (same-kind r.body)
    ∙ ap (λ (n : ℕ). whole (contents_text r.body) (z (raw_end b)) (kind_number (kind_of r.body)) n) (same-len r.body)
    ∙ ap (λ (n : ℕ). whole (contents_text r.body) (z n) (kind_number (kind_of r.body)) (len_of r.body)) (sym long)
    ∙ grouped
  where
    length-head : (r : Rec) → length (record_head r) ≡ 20
    length-head r = simp (length-append, wide16.len, wide32.len, wide64.len) refl

word-fits : (v : Value) → IsValue v → long_word v < 2 ^ 32
word-fits (Int (pos n)) lt = omega (arith, lt)
word-fits (Int (negsuc n)) lt = omega arith
word-fits (Ref n) is = is.1

number-again : (z : ℤ) → IsSmallInteger z → value_of (long_word (Int z)) ≡ Some (Int z)
number-again (pos n) lt =
    let odd : eqb ((2 * n + 1) % 2) 1 ≡ true = eq-eqb _ _ (omega arith) in
    let half : (2 * n + 1) / 2 ≡ n = omega arith in
    let low : ltb n 16384 ≡ true = lt-ltb _ _ lt in
    rw (odd, half, low) refl
number-again (negsuc n) lt =
    let odd : eqb ((2 ^ 32 - 1 - 2 * n) % 2) 1 ≡ true = eq-eqb _ _ (omega (arith, lt)) in
    let half : (2 ^ 32 - 1 - 2 * n) / 2 ≡ 2 ^ 31 - 1 - n = omega (arith, lt) in
    let low : ltb (2 ^ 31 - 1 - n) 16384 ≡ false = le-ltb _ _ (omega (arith, lt)) in
    let high : leb (2 ^ 31 - 16384) (2 ^ 31 - 1 - n) ≡ true = le-leb _ _ (omega (arith, lt)) in
    let back : 2 ^ 31 - 1 - (2 ^ 31 - 1 - n) ≡ n = omega (arith, lt) in
    rw (odd, half, low, high, back) refl

longs-fit : (values : List Value) → All IsValue values → All IsLong (map long_word values)
longs-fit values all = All-map IsLong long_word values (All-weaker IsValue (λ v. long_word v < 2 ^ 32) word-fits values all)

raw-size : (b : Body) → IsBody b → HasRawSize (raw_body b)
raw-size (body.Pointers values) is = omega (arith, is.size, length-map values long_word)
raw-size (body.Words words) is = omega (arith, is.size)
raw-size (body.Bytes bytes) is = omega (arith, is.size)
raw-size (body.Method header literals code) is =
    (rw (number-again header is.size.0) (ap (λ (n : ℕ). Some n) (sym is.size.1 ∙ sym (length-map literals long_word))), is.size.2)

raw-range : (b : Body) → IsBody b → HasRange b → HasRawRange (raw_body b)
raw-range (body.Pointers values) is range = longs-fit values is.fields
raw-range (body.Words words) is range = range
raw-range (body.Bytes bytes) is range = range
raw-range (body.Method header literals code) is range = (word-fits (Int header) is.size.0, longs-fit literals is.fields, range)

pub is-raw : (r : Rec) → IsRecord r → IsRawRecord (raw_record r)
is-raw r is = record { name = is.name; class = is.class; count = is.count; size = raw-size r.body is.body; range = raw-range r.body is.body is.range }

end-fits : (b : RawBody) → HasRawSize b → raw_end b + padding (raw_end b) ≤ LONGEST_RECORD
end-fits (RawPointers longs) size = omega (arith, size)
end-fits (RawWords words) size = omega (arith, size)
end-fits (RawBytes bytes) size = omega (arith, size)
end-fits (RawMethod header literals code) size = omega (arith, size.1, few-literals header (length literals) size.0)

pub longest-raw : (r : RawRecord) → IsRawRecord r → length (raw_text r) ≤ LONGEST_RECORD
longest-raw r is = omega (arith, length-text r, end-fits r.body is.size)

pub whole-filled : (old filling : List ℕ) → length filling ≡ LONGEST_RECORD → filled_with old filling ≡ filling
whole-filled old filling len = take_at filling (drop (length filling) old) LONGEST_RECORD len
