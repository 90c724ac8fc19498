-- A part of a record's text, and the text of the same record with another part.
use Rattle.std.proofs.Common.{◌≡◌, ℕ, ◌+◌, ◌*◌, ◌^◌, ◌<◌, ◌≤◌, List, [], ◌∷◌, ◌++◌, length, drop, replicate, refl, sym, ap, subst, ◌∙◌, append_assoc, arith, slice_set}
use Rattle.std.specs.Prelude.{slice_index, Option, Some}
use Rattle.std.proofs.lemmas.List.{drop_at, length-append, length-set}
use Rattle.std.proofs.lemmas.List.Elements.{All-set, All-get_or}
use Rattle.long_names.specs.Objects.{put_run}
use Rattle.long_names.specs.Record.{two_bytes, four_bytes, eight_bytes, kind_number, padding}
use Rattle.long_names.specs.declared.object.Kind.{Kind}
use Rattle.long_names.specs.declared.object.Kind.TheVariants as kind
use Rattle.object_record.specs.Raw.{RawBody, RawPointers, RawWords, RawBytes, RawMethod, RawRecord, IsRawRecord, HasRawSize, HasRawRange, raw_kind, raw_len, raw_literals, raw_header, longs_of, raw_words, raw_bytes, raw_contents, raw_size, raw_end, raw_text, longs_text, with_raw, body_with_long, body_with_word, body_with_byte, body_with_header, stated_literals}
use Rattle.object_record.specs.Buffer.{long_at, word_at, kind_numbered, raw_of, HasRecord}
use Rattle.object_record.specs.Inside.{longs_place, bytes_place}
use Rattle.object_record.proofs.Numbers.{wide16, wide32, wide64}
use Rattle.object_record.proofs.Reading.{IsLong, IsWord, headed, laid, after_head, text-laid, raw-again, kind-fits, size-fits, head-kind, head-size, head-rest, kind-again, length-longs, length-words, long-front, few-literals}
use Rattle.object_record.proofs.Spots.{Spot, under-to, over, longs-spot, words-spot, bytes-spot, put-there, long-there, word-there, byte-there, within}

abbrev IsByte : ℕ → Type 0
IsByte b = b < 2 ^ 8

abbrev some_number : ℕ → Option ℕ
some_number n = Some n

long-at-20 : (t : List ℕ) → long_at t 20 ≡ long_at (drop 20 t) 0
unfolding long_at
long-at-20 t = refl

-- bytes that begin with the text of a raw record have that record
pub begun : (bytes : List ℕ) (r : RawRecord) (rest : List ℕ) → IsRawRecord r → bytes ≡ raw_text r ++ rest → HasRecord bytes × (raw_of bytes ≡ r)
begun bytes r rest is e =
    let same : raw_of bytes ≡ r = ap raw_of e ∙ raw-again r rest is in
    let P : RawRecord → Type 0 = λ q. IsRawRecord q × (bytes ≡ raw_text q ++ drop (length (raw_text q)) bytes) in
    let past : drop (length (raw_text r)) bytes ≡ rest = ap (drop (length (raw_text r))) e ∙ drop_at (raw_text r) rest (length (raw_text r)) refl in
    let both = subst P (sym same) (is, rw past e) in
    (record { is = both.0; begins = both.1 }, same)

-- ---- one part of the contents

pub length-contents : (body : RawBody) → length (raw_contents body) ≡ raw_size body
length-contents (RawPointers longs) = length-longs longs
length-contents (RawWords words) = length-words words
length-contents (RawBytes bytes) = refl
length-contents (RawMethod header literals code) =
    omega (arith, length-append (four_bytes (length literals)) (four_bytes header ++ (longs_text literals ++ code)), length-append (four_bytes header) (longs_text literals ++ code), length-append (longs_text literals) code, wide32.len (length literals), wide32.len header, length-longs literals)

-- another body of the same kind and sizes
pub record Twin (a b : RawBody) : Type 0 where
  pub kind : raw_kind b ≡ raw_kind a
  pub len : raw_len b ≡ raw_len a
  pub size : raw_size b ≡ raw_size a

-- a part of the contents is a part of the record
pub text-spot : (r : RawRecord) (body : RawBody) (rest : List ℕ) (at n : ℕ) (was now : List ℕ) → Twin r.body body → 20 + at ≡ n → Spot at was (raw_contents r.body) now (raw_contents body) → Spot n was (raw_text r ++ rest) now (raw_text (with_raw r body) ++ rest)
text-spot r body rest at n was now twin e s =
    let k : ℕ = kind_number (raw_kind r.body) in
    let size : ℕ = raw_len r.body in
    let tail : List ℕ = replicate (padding (raw_end r.body)) 0 ++ rest in
    let s0 = over tail at was (raw_contents r.body) now (raw_contents body) s in
    let s1 = under-to (two_bytes size) (2 + at) at was (raw_contents r.body ++ tail) now (raw_contents body ++ tail) (omega (arith, wide16.len size)) s0 in
    let s2 = under-to (two_bytes k) (4 + at) (2 + at) was (two_bytes size ++ (raw_contents r.body ++ tail)) now (two_bytes size ++ (raw_contents body ++ tail)) (omega (arith, wide16.len k)) s1 in
    let s3 = under-to (eight_bytes r.count) (12 + at) (4 + at) was (two_bytes k ++ (two_bytes size ++ (raw_contents r.body ++ tail))) now (two_bytes k ++ (two_bytes size ++ (raw_contents body ++ tail))) (omega (arith, wide64.len r.count)) s2 in
    let s4 = under-to (four_bytes r.class) (16 + at) (12 + at) was (eight_bytes r.count ++ (two_bytes k ++ (two_bytes size ++ (raw_contents r.body ++ tail)))) now (eight_bytes r.count ++ (two_bytes k ++ (two_bytes size ++ (raw_contents body ++ tail)))) (omega (arith, wide32.len r.class)) s3 in
    let s5 = under-to (four_bytes r.name) n (16 + at) was (four_bytes r.class ++ (eight_bytes r.count ++ (two_bytes k ++ (two_bytes size ++ (raw_contents r.body ++ tail))))) now (four_bytes r.class ++ (eight_bytes r.count ++ (two_bytes k ++ (two_bytes size ++ (raw_contents body ++ tail))))) (omega (arith, wide32.len r.name, e)) s4 in
    let P : List ℕ → Type 0 = λ t. Spot n was t now (raw_text (with_raw r body) ++ rest) in
    let Q : List ℕ → Type 0 = λ t. Spot n was (laid r rest) now t in
    let others : headed r.name r.class r.count k size (raw_contents body ++ tail) ≡ laid (with_raw r body) rest =
    ap (λ (q : Kind). headed r.name r.class r.count (kind_number q) size (raw_contents body ++ tail)) (sym twin.kind)
    ∙ ap (λ (q : ℕ). headed r.name r.class r.count (kind_number (raw_kind body)) q (raw_contents body ++ tail)) (sym twin.len)
    ∙ ap (λ (q : ℕ). headed r.name r.class r.count (kind_number (raw_kind body)) (raw_len body) (raw_contents body ++ (replicate (padding (20 + q)) 0 ++ rest))) (sym twin.size) in
    subst P (sym (text-laid r rest)) (subst Q (others ∙ sym (text-laid (with_raw r body) rest)) s5)

-- ---- each part

-- a part of a body's contents that stands at a place of the record
pub record Part (body : RawBody) (n : ℕ) (was now : List ℕ) (other : RawBody) : Type 0 where
  pub at : ℕ
  pub place : 20 + at ≡ n
  pub spot : Spot at was (raw_contents body) now (raw_contents other)
  pub twin : Twin body other
  pub size : HasRawSize body → HasRawSize other

pub part-spot : (r : RawRecord) (other : RawBody) (rest : List ℕ) (n : ℕ) (was now : List ℕ) → Part r.body n was now other → Spot n was (raw_text r ++ rest) now (raw_text (with_raw r other) ++ rest)
part-spot r other rest n was now p = text-spot r other rest p.at n was now p.twin p.place p.spot

same-length : (xs : List ℕ) (i x limit : ℕ) → length xs < limit → length (slice_set xs i x) < limit
same-length xs i x limit lt = rw (length-set xs i x) lt

pub long-part : (body : RawBody) (i long : ℕ) → i < length (longs_of body) → Part body (longs_place (raw_kind body) + 4 * i) (four_bytes (slice_index (longs_of body) i)) (four_bytes long) (body_with_long body i long)
long-part (RawPointers longs) i long lt = record {
  at = 4 * i;
  place = refl;
  spot = longs-spot longs i long lt;
  twin = record { kind = refl; len = length-set longs i long; size = ap (λ (n : ℕ). 4 * n) (length-set longs i long) };
  size = λ size. same-length longs i long (2 ^ 16) size;
}
long-part (RawWords words) i long lt = absurd (omega (arith, lt))
long-part (RawBytes bytes) i long lt = absurd (omega (arith, lt))
long-part (RawMethod header literals code) i long lt =
    let same : length (slice_set literals i long) ≡ length literals = length-set literals i long in
    let s0 = over code (4 * i) (four_bytes (slice_index literals i)) (longs_text literals) (four_bytes long) (longs_text (slice_set literals i long)) (longs-spot literals i long lt) in
    let s1 = under-to (four_bytes header) (4 + 4 * i) (4 * i) (four_bytes (slice_index literals i)) (longs_text literals ++ code) (four_bytes long) (longs_text (slice_set literals i long) ++ code) (omega (arith, wide32.len header)) s0 in
    let s2 = under-to (four_bytes (length literals)) (8 + 4 * i) (4 + 4 * i) (four_bytes (slice_index literals i)) (four_bytes header ++ (longs_text literals ++ code)) (four_bytes long) (four_bytes header ++ (longs_text (slice_set literals i long) ++ code)) (omega (arith, wide32.len (length literals))) s1 in
    let P : ℕ → Type 0 = λ n. Spot (8 + 4 * i) (four_bytes (slice_index literals i)) (raw_contents (RawMethod header literals code)) (four_bytes long) (four_bytes n ++ (four_bytes header ++ (longs_text (slice_set literals i long) ++ code))) in
    record {
      at = 8 + 4 * i;
      place = omega arith;
      spot = subst P (sym same) s2;
      twin = record { kind = refl; len = refl; size = ap (λ (n : ℕ). 8 + 4 * n + length code) same };
      size = λ size. (size.0 ∙ ap (λ (n : ℕ). some_number n) (sym same), size.1);
    }

pub word-part : (body : RawBody) (i word : ℕ) → i < length (raw_words body) → Part body (20 + 2 * i) (two_bytes (slice_index (raw_words body) i)) (two_bytes word) (body_with_word body i word)
word-part (RawPointers longs) i word lt = absurd (omega (arith, lt))
word-part (RawWords words) i word lt = record {
  at = 2 * i;
  place = refl;
  spot = words-spot words i word lt;
  twin = record { kind = refl; len = length-set words i word; size = ap (λ (n : ℕ). 2 * n) (length-set words i word) };
  size = λ size. same-length words i word (2 ^ 16) size;
}
word-part (RawBytes bytes) i word lt = absurd (omega (arith, lt))
word-part (RawMethod header literals code) i word lt = absurd (omega (arith, lt))

pub byte-part : (body : RawBody) (i byte : ℕ) → i < length (raw_bytes body) → Part body (bytes_place (raw_kind body) (raw_literals body) + i) (slice_index (raw_bytes body) i ∷ []) (byte ∷ []) (body_with_byte body i byte)
byte-part (RawPointers longs) i byte lt = absurd (omega (arith, lt))
byte-part (RawWords words) i byte lt = absurd (omega (arith, lt))
byte-part (RawBytes bytes) i byte lt = record {
  at = i;
  place = refl;
  spot = bytes-spot bytes i byte lt;
  twin = record { kind = refl; len = length-set bytes i byte; size = length-set bytes i byte };
  size = λ size. same-length bytes i byte (2 ^ 16) size;
}
byte-part (RawMethod header literals code) i byte lt =
    let was : List ℕ = slice_index code i ∷ [] in
    let now : List ℕ = byte ∷ [] in
    let code' : List ℕ = slice_set code i byte in
    let same : length code' ≡ length code = length-set code i byte in
    let n : ℕ = length literals in
    let s0 = bytes-spot code i byte lt in
    let s1 = under-to (longs_text literals) (4 * n + i) i was code now code' (omega (arith, length-longs literals)) s0 in
    let s2 = under-to (four_bytes header) (4 + 4 * n + i) (4 * n + i) was (longs_text literals ++ code) now (longs_text literals ++ code') (omega (arith, wide32.len header)) s1 in
    record {
      at = 8 + 4 * n + i;
      place = omega arith;
      spot = under-to (four_bytes n) (8 + 4 * n + i) (4 + 4 * n + i) was (four_bytes header ++ (longs_text literals ++ code)) now (four_bytes header ++ (longs_text literals ++ code')) (omega (arith, wide32.len n)) s2;
      twin = record { kind = refl; len = same; size = ap (λ (k : ℕ). 8 + 4 * n + k) same };
      size = λ size. (size.0, rw same size.1);
    }

pub header-part : (body : RawBody) (long : ℕ) → raw_kind body ≡ kind.Method → stated_literals long ≡ Some (raw_literals body) → Part body 24 (four_bytes (raw_header body)) (four_bytes long) (body_with_header body long)
header-part (RawPointers longs) long is states = absurd cc
header-part (RawWords words) long is states = absurd cc
header-part (RawBytes bytes) long is states = absurd cc
header-part (RawMethod header literals code) long is states = record {
  at = 4;
  place = refl;
  spot = record { front = four_bytes (length literals); back = longs_text literals ++ code; len = wide32.len (length literals); before = refl; after = refl };
  twin = record { kind = refl; len = refl; size = refl };
  size = λ size. (states, size.1);
}

-- ---- the record after a part was set

pub long-range : (body : RawBody) (i long : ℕ) → long < 2 ^ 32 → HasRawRange body → HasRawRange (body_with_long body i long)
long-range (RawPointers longs) i long lt range = All-set IsLong longs i long lt range
long-range (RawWords words) i long lt range = range
long-range (RawBytes bytes) i long lt range = range
long-range (RawMethod header literals code) i long lt range = (range.0, All-set IsLong literals i long lt range.1, range.2)

pub word-range : (body : RawBody) (i word : ℕ) → word < 2 ^ 16 → HasRawRange body → HasRawRange (body_with_word body i word)
word-range (RawPointers longs) i word lt range = range
word-range (RawWords words) i word lt range = All-set IsWord words i word lt range
word-range (RawBytes bytes) i word lt range = range
word-range (RawMethod header literals code) i word lt range = range

pub byte-range : (body : RawBody) (i byte : ℕ) → byte < 2 ^ 8 → HasRawRange body → HasRawRange (body_with_byte body i byte)
byte-range (RawPointers longs) i byte lt range = range
byte-range (RawWords words) i byte lt range = range
byte-range (RawBytes bytes) i byte lt range = All-set IsByte bytes i byte lt range
byte-range (RawMethod header literals code) i byte lt range = (range.0, range.1, All-set IsByte code i byte lt range.2)

pub header-range : (body : RawBody) (long : ℕ) → long < 2 ^ 32 → HasRawRange body → HasRawRange (body_with_header body long)
header-range (RawPointers longs) long lt range = range
header-range (RawWords words) long lt range = range
header-range (RawBytes bytes) long lt range = range
header-range (RawMethod header literals code) long lt range = (lt, range.1, range.2)

pub body-set : (r : RawRecord) (other : RawBody) → IsRawRecord r → HasRawSize other → HasRawRange other → IsRawRecord (with_raw r other)
body-set r other is size range = record { name = is.name; class = is.class; count = is.count; size = size; range = range }

pub long-fits : (body : RawBody) (i : ℕ) → HasRawRange body → i < length (longs_of body) → slice_index (longs_of body) i < 2 ^ 32
long-fits (RawPointers longs) i range lt = All-get_or IsLong longs i 0 lt range
long-fits (RawWords words) i range lt = absurd (omega (arith, lt))
long-fits (RawBytes bytes) i range lt = absurd (omega (arith, lt))
long-fits (RawMethod header literals code) i range lt = All-get_or IsLong literals i 0 lt range.1

pub word-fits : (body : RawBody) (i : ℕ) → HasRawRange body → i < length (raw_words body) → slice_index (raw_words body) i < 2 ^ 16
word-fits (RawPointers longs) i range lt = absurd (omega (arith, lt))
word-fits (RawWords words) i range lt = All-get_or IsWord words i 0 lt range
word-fits (RawBytes bytes) i range lt = absurd (omega (arith, lt))
word-fits (RawMethod header literals code) i range lt = absurd (omega (arith, lt))

-- ---- the record that bytes have: one part put, or read

pub set-part : (bytes : List ℕ) (other : RawBody) (n : ℕ) (was now : List ℕ) → HasRecord bytes → Part (raw_of bytes).body n was now other → HasRawRange other → length was ≡ length now → HasRecord (put_run bytes n now) × (raw_of (put_run bytes n now) ≡ with_raw (raw_of bytes) other)
set-part bytes other n was now h p range same =
    let r : RawRecord = raw_of bytes in
    let rest : List ℕ = drop (length (raw_text r)) bytes in
    let done : put_run bytes n now ≡ raw_text (with_raw r other) ++ rest =
    ap (λ (t : List ℕ). put_run t n now) h.begins ∙ put-there n was (raw_text r ++ rest) now (raw_text (with_raw r other) ++ rest) (part-spot r other rest n was now p) same in
    begun (put_run bytes n now) (with_raw r other) rest (body-set r other h.is (p.size h.is.size) range) done

pub read-long : (bytes : List ℕ) (other : RawBody) (n v : ℕ) (now : List ℕ) → HasRecord bytes → Part (raw_of bytes).body n (four_bytes v) now other → v < 2 ^ 32 → long_at bytes n ≡ v
read-long bytes other n v now h p lt =
    let r : RawRecord = raw_of bytes in
    let rest : List ℕ = drop (length (raw_text r)) bytes in
    ap (λ (t : List ℕ). long_at t n) h.begins ∙ long-there n v (raw_text r ++ rest) now (raw_text (with_raw r other) ++ rest) (part-spot r other rest n (four_bytes v) now p) lt

pub read-word : (bytes : List ℕ) (other : RawBody) (n v : ℕ) (now : List ℕ) → HasRecord bytes → Part (raw_of bytes).body n (two_bytes v) now other → v < 2 ^ 16 → word_at bytes n ≡ v
read-word bytes other n v now h p lt =
    let r : RawRecord = raw_of bytes in
    let rest : List ℕ = drop (length (raw_text r)) bytes in
    ap (λ (t : List ℕ). word_at t n) h.begins ∙ word-there n v (raw_text r ++ rest) now (raw_text (with_raw r other) ++ rest) (part-spot r other rest n (two_bytes v) now p) lt

pub read-byte : (bytes : List ℕ) (other : RawBody) (n v : ℕ) (now : List ℕ) → HasRecord bytes → Part (raw_of bytes).body n (v ∷ []) now other → slice_index bytes n ≡ v
read-byte bytes other n v now h p =
    let r : RawRecord = raw_of bytes in
    let rest : List ℕ = drop (length (raw_text r)) bytes in
    ap (λ (t : List ℕ). slice_index t n) h.begins ∙ byte-there n v (raw_text r ++ rest) now (raw_text (with_raw r other) ++ rest) (part-spot r other rest n (v ∷ []) now p)

-- a part stands within the bytes
pub part-within : (bytes : List ℕ) (other : RawBody) (n : ℕ) (was now : List ℕ) → HasRecord bytes → Part (raw_of bytes).body n was now other → n + length was ≤ length bytes
part-within bytes other n was now h p =
    let r : RawRecord = raw_of bytes in
    let rest : List ℕ = drop (length (raw_text r)) bytes in
    let s = part-spot r other rest n was now p in
    let P : List ℕ → Type 0 = λ t. n + length was ≤ length t in
    subst P (sym h.begins) (within n was (raw_text r ++ rest) now (raw_text (with_raw r other) ++ rest) s (n + length was) refl)

-- ---- what the head says

pub kind-said : (bytes : List ℕ) → HasRecord bytes → kind_numbered (word_at bytes 16) ≡ raw_kind (raw_of bytes).body
kind-said bytes h =
    let r : RawRecord = raw_of bytes in
    let rest : List ℕ = drop (length (raw_text r)) bytes in
    ap (λ (t : List ℕ). kind_numbered (word_at t 16)) (h.begins ∙ text-laid r rest)
    ∙ ap (λ (n : ℕ). kind_numbered n) (head-kind r.name r.class r.count (kind_number (raw_kind r.body)) (raw_len r.body) (after_head r rest) (kind-fits (raw_kind r.body)))
    ∙ kind-again (raw_kind r.body)

pub size-said : (bytes : List ℕ) → HasRecord bytes → word_at bytes 18 ≡ raw_len (raw_of bytes).body
size-said bytes h =
    let r : RawRecord = raw_of bytes in
    let rest : List ℕ = drop (length (raw_text r)) bytes in
    ap (λ (t : List ℕ). word_at t 18) (h.begins ∙ text-laid r rest)
    ∙ head-size r.name r.class r.count (kind_number (raw_kind r.body)) (raw_len r.body) (after_head r rest) (size-fits r.body h.is.size)

literals-laid : (body : RawBody) (y : List ℕ) → raw_kind body ≡ kind.Method → HasRawSize body → long_at (raw_contents body ++ y) 0 ≡ raw_literals body
literals-laid (RawPointers longs) y is size = absurd cc
literals-laid (RawWords words) y is size = absurd cc
literals-laid (RawBytes bytes) y is size = absurd cc
literals-laid (RawMethod header literals code) y is size =
    ap (λ (t : List ℕ). long_at t 0) (append_assoc (four_bytes (length literals)) (four_bytes header ++ (longs_text literals ++ code)) y)
    ∙ long-front (length literals) ((four_bytes header ++ (longs_text literals ++ code)) ++ y) (omega (arith, few-literals header (length literals) size.0))

pub literals-said : (bytes : List ℕ) → HasRecord bytes → raw_kind (raw_of bytes).body ≡ kind.Method → long_at bytes 20 ≡ raw_literals (raw_of bytes).body
literals-said bytes h is =
    let r : RawRecord = raw_of bytes in
    let rest : List ℕ = drop (length (raw_text r)) bytes in
    ap (λ (t : List ℕ). long_at t 20) (h.begins ∙ text-laid r rest)
    ∙ long-at-20 (laid r rest)
    ∙ ap (λ (t : List ℕ). long_at t 0) (head-rest r.name r.class r.count (kind_number (raw_kind r.body)) (raw_len r.body) (after_head r rest))
    ∙ literals-laid r.body (replicate (padding (raw_end r.body)) 0 ++ rest) is h.is.size
