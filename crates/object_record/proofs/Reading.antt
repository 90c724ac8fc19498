-- What the text of a raw record is read as: the raw record, whatever follows.
-- `raw_of` is total, so that a getter is one equation of it, without a condition in the equation. That bytes begin with a raw
-- record (`HasRecord`) is then two facts: `raw_of` is one, and its text is a prefix of the bytes. `begins_with` says that there
-- is no other.
use Rattle.std.proofs.Common.{suc, ◌≡◌, ℕ, ◌+◌, ◌*◌, ◌^◌, ◌<◌, List, [], ◌∷◌, ◌++◌, length, take, drop, replicate, Option, Some, None, refl, sym, ap, ◌∙◌, append_assoc, arith}
use Rattle.std.specs.Int.{w16, w32, w64, from_be_bytes}
use Rattle.std.proofs.lemmas.List.{take_at, drop_at, drop-drop, length-append}
use Rattle.std.proofs.lemmas.List.Elements.{All-head, All-tail}
use Rattle.std.specs.Prelude.{All}
use Rattle.long_names.specs.Words.{literal_count, value_of}
use Rattle.long_names.specs.Record.{two_bytes, four_bytes, eight_bytes, kind_number, words_text, padding}
use Rattle.long_names.specs.declared.value.Value.{Value}
use Rattle.long_names.specs.declared.value.Value.TheVariants.{Int, Ref}
use Rattle.long_names.specs.declared.object.Kind.{Kind}
use Rattle.long_names.specs.declared.object.Kind.TheVariants as kind
use Rattle.object_record.specs.Raw.{RawBody, RawPointers, RawWords, RawBytes, RawMethod, RawRecord, IsRawRecord, HasRawSize, HasRawRange, raw_kind, raw_len, raw_contents, raw_end, raw_text, longs_text, stated_by, stated_literals}
use Rattle.object_record.specs.Buffer.{long_at, word_at, count_in, longs_in, words_in, kind_numbered, body_in, raw_of}
use Rattle.object_record.proofs.Numbers.{wide16, wide32, wide64}

abbrev pub IsLong : ℕ → Type 0
IsLong w = w < 2 ^ 32

abbrev pub IsWord : ℕ → Type 0
IsWord w = w < 2 ^ 16

-- ---- past what stands in front

pub skip : (x y : List ℕ) (n m : ℕ) → length x ≡ n → drop (n + m) (x ++ y) ≡ drop m y
skip x y n m len = sym (drop-drop m n (x ++ y)) ∙ ap (drop m) (drop_at x y n len)

pub long-skip : (x y : List ℕ) (n at : ℕ) → length x ≡ n → long_at (x ++ y) (n + at) ≡ long_at y at
unfolding long_at
long-skip x y n at len = ap (λ (s : List ℕ). from_be_bytes w32 (take 4 s)) (skip x y n at len)

pub word-skip : (x y : List ℕ) (n at : ℕ) → length x ≡ n → word_at (x ++ y) (n + at) ≡ word_at y at
unfolding word_at
word-skip x y n at len = ap (λ (s : List ℕ). from_be_bytes w16 (take 2 s)) (skip x y n at len)

pub long-front : (n : ℕ) (y : List ℕ) → n < 2 ^ 32 → long_at (four_bytes n ++ y) 0 ≡ n
unfolding long_at
long-front n y lt = ap (from_be_bytes w32) (take_at (four_bytes n) y 4 (wide32.len n)) ∙ wide32.again n lt

pub word-front : (n : ℕ) (y : List ℕ) → n < 2 ^ 16 → word_at (two_bytes n ++ y) 0 ≡ n
unfolding word_at
word-front n y lt = ap (from_be_bytes w16) (take_at (two_bytes n) y 2 (wide16.len n)) ∙ wide16.again n lt

-- ---- the head

-- the head, and what follows it
abbrev pub headed : ℕ → ℕ → ℕ → ℕ → ℕ → List ℕ → List ℕ
headed name class count kind size rest = four_bytes name ++ (four_bytes class ++ (eight_bytes count ++ (two_bytes kind ++ (two_bytes size ++ rest))))

pub head-class : (name class count kind size : ℕ) (rest : List ℕ) → class < 2 ^ 32 → long_at (headed name class count kind size rest) 4 ≡ class
head-class name class count kind size rest lt =
    long-skip (four_bytes name) (four_bytes class ++ (eight_bytes count ++ (two_bytes kind ++ (two_bytes size ++ rest)))) 4 0 (wide32.len name) ∙ long-front class _ lt

pub head-count : (name class count kind size : ℕ) (rest : List ℕ) → count < 2 ^ 64 → count_in (headed name class count kind size rest) ≡ count
unfolding count_in
head-count name class count kind size rest lt =
    ap (λ (s : List ℕ). from_be_bytes w64 (take 8 s)) (skip (four_bytes name) (four_bytes class ++ (eight_bytes count ++ (two_bytes kind ++ (two_bytes size ++ rest)))) 4 4 (wide32.len name) ∙ drop_at (four_bytes class) (eight_bytes count ++ (two_bytes kind ++ (two_bytes size ++ rest))) 4 (wide32.len class))
    ∙ ap (from_be_bytes w64) (take_at (eight_bytes count) (two_bytes kind ++ (two_bytes size ++ rest)) 8 (wide64.len count))
    ∙ wide64.again count lt

pub head-kind : (name class count kind size : ℕ) (rest : List ℕ) → kind < 2 ^ 16 → word_at (headed name class count kind size rest) 16 ≡ kind
head-kind name class count kind size rest lt =
    word-skip (four_bytes name) (four_bytes class ++ (eight_bytes count ++ (two_bytes kind ++ (two_bytes size ++ rest)))) 4 12 (wide32.len name)
    ∙ word-skip (four_bytes class) (eight_bytes count ++ (two_bytes kind ++ (two_bytes size ++ rest))) 4 8 (wide32.len class)
    ∙ word-skip (eight_bytes count) (two_bytes kind ++ (two_bytes size ++ rest)) 8 0 (wide64.len count)
    ∙ word-front kind (two_bytes size ++ rest) lt

pub head-size : (name class count kind size : ℕ) (rest : List ℕ) → size < 2 ^ 16 → word_at (headed name class count kind size rest) 18 ≡ size
head-size name class count kind size rest lt =
    word-skip (four_bytes name) (four_bytes class ++ (eight_bytes count ++ (two_bytes kind ++ (two_bytes size ++ rest)))) 4 14 (wide32.len name)
    ∙ word-skip (four_bytes class) (eight_bytes count ++ (two_bytes kind ++ (two_bytes size ++ rest))) 4 10 (wide32.len class)
    ∙ word-skip (eight_bytes count) (two_bytes kind ++ (two_bytes size ++ rest)) 8 2 (wide64.len count)
    ∙ word-skip (two_bytes kind) (two_bytes size ++ rest) 2 0 (wide16.len kind)
    ∙ word-front size rest lt

pub head-rest : (name class count kind size : ℕ) (rest : List ℕ) → drop 20 (headed name class count kind size rest) ≡ rest
head-rest name class count kind size rest =
    skip (four_bytes name) (four_bytes class ++ (eight_bytes count ++ (two_bytes kind ++ (two_bytes size ++ rest)))) 4 16 (wide32.len name)
    ∙ skip (four_bytes class) (eight_bytes count ++ (two_bytes kind ++ (two_bytes size ++ rest))) 4 12 (wide32.len class)
    ∙ skip (eight_bytes count) (two_bytes kind ++ (two_bytes size ++ rest)) 8 4 (wide64.len count)
    ∙ skip (two_bytes kind) (two_bytes size ++ rest) 2 2 (wide16.len kind)
    ∙ drop_at (two_bytes size) rest 2 (wide16.len size)

-- ---- contents

pub longs-again : (ls y : List ℕ) → All IsLong ls → longs_in (length ls) (longs_text ls ++ y) ≡ ls
unfolding longs_in
longs-again [] y all = refl
longs-again (l ∷ ls) y all =
    ap (longs_in (suc (length ls))) (append_assoc (four_bytes l) (longs_text ls) y)
    ∙ rw (long-front l (longs_text ls ++ y) (All-head IsLong l ls all), drop_at (four_bytes l) (longs_text ls ++ y) 4 (wide32.len l), longs-again ls y (All-tail IsLong l ls all)) refl

pub words-again : (ws y : List ℕ) → All IsWord ws → words_in (length ws) (words_text ws ++ y) ≡ ws
unfolding words_in
words-again [] y all = refl
words-again (w ∷ ws) y all =
    ap (words_in (suc (length ws))) (append_assoc (two_bytes w) (words_text ws) y)
    ∙ rw (word-front w (words_text ws ++ y) (All-head IsWord w ws all), drop_at (two_bytes w) (words_text ws ++ y) 2 (wide16.len w), words-again ws y (All-tail IsWord w ws all)) refl

pub length-longs : (ls : List ℕ) → length (longs_text ls) ≡ 4 * length ls
length-longs [] = refl
length-longs (l ∷ ls) = omega (arith, length-append (four_bytes l) (longs_text ls), wide32.len l, length-longs ls)

pub length-words : (ws : List ℕ) → length (words_text ws) ≡ 2 * length ws
length-words [] = refl
length-words (w ∷ ws) = omega (arith, length-append (two_bytes w) (words_text ws), wide16.len w, length-words ws)

abbrev some_number : ℕ → Option ℕ
some_number n = Some n

some_is : (x y : ℕ) → some_number x ≡ some_number y → x ≡ y
some_is x y e = cc

few : (v : Option Value) (n : ℕ) → stated_by v ≡ Some n → n < 64
few (Some (Int z)) n e = let same = some_is (literal_count z) n e in omega (arith, same)
few (Some (Ref m)) n e = absurd cc
few None n e = absurd cc

pub few-literals : (header n : ℕ) → stated_literals header ≡ Some n → n < 64
few-literals header n e = few (value_of header) n e

pub method-again : (header : ℕ) (literals code y : List ℕ) → HasRawSize (RawMethod header literals code) → HasRawRange (RawMethod header literals code) → body_in kind.Method (length code) (raw_contents (RawMethod header literals code) ++ y) ≡ RawMethod header literals code
unfolding body_in
method-again header literals code y size range =
    let n : ℕ = length literals in
    let lt : n < 2 ^ 32 = omega (arith, few-literals header n size.0) in
    let grouped : raw_contents (RawMethod header literals code) ++ y ≡ four_bytes n ++ (four_bytes header ++ (longs_text literals ++ (code ++ y))) = simp append_assoc in
    let front : List ℕ = four_bytes n ++ (four_bytes header ++ longs_text literals) in
    let long : length front ≡ 8 + 4 * n = omega (arith, length-append (four_bytes n) (four_bytes header ++ longs_text literals), length-append (four_bytes header) (longs_text literals), wide32.len n, wide32.len header, length-longs literals) in
    let regrouped : four_bytes n ++ (four_bytes header ++ (longs_text literals ++ (code ++ y))) ≡ front ++ (code ++ y) = simp append_assoc in
    let past : drop (8 + 4 * n) (four_bytes n ++ (four_bytes header ++ (longs_text literals ++ (code ++ y)))) ≡ code ++ y = ap (drop (8 + 4 * n)) regrouped ∙ drop_at front (code ++ y) (8 + 4 * n) long in
    let fields : drop 8 (four_bytes n ++ (four_bytes header ++ (longs_text literals ++ (code ++ y)))) ≡ longs_text literals ++ (code ++ y) = skip (four_bytes n) (four_bytes header ++ (longs_text literals ++ (code ++ y))) 4 4 (wide32.len n) ∙ drop_at (four_bytes header) (longs_text literals ++ (code ++ y)) 4 (wide32.len header) in
    let second : long_at (four_bytes n ++ (four_bytes header ++ (longs_text literals ++ (code ++ y)))) 4 ≡ header = long-skip (four_bytes n) (four_bytes header ++ (longs_text literals ++ (code ++ y))) 4 0 (wide32.len n) ∙ long-front header _ range.0 in
    ap (body_in kind.Method (length code)) grouped
    ∙ rw (long-front n (four_bytes header ++ (longs_text literals ++ (code ++ y))) lt, past, fields, second, longs-again literals (code ++ y) range.1, take_at code y (length code) refl) refl

pub body-again : (body : RawBody) (y : List ℕ) → HasRawSize body → HasRawRange body → body_in (raw_kind body) (raw_len body) (raw_contents body ++ y) ≡ body
unfolding body_in
body-again (RawPointers longs) y size range = ap RawPointers (longs-again longs y range)
body-again (RawWords words) y size range = ap RawWords (words-again words y range)
body-again (RawBytes bytes) y size range = ap RawBytes (take_at bytes y (length bytes) refl)
body-again (RawMethod header literals code) y size range = method-again header literals code y size range

-- ---- the record

pub kind-again : (k : Kind) → kind_numbered (kind_number k) ≡ k
kind-again kind.Pointers = refl
kind-again kind.Words = refl
kind-again kind.Bytes = refl
kind-again kind.Method = refl

pub kind-fits : (k : Kind) → kind_number k < 2 ^ 16
kind-fits kind.Pointers = omega arith
kind-fits kind.Words = omega arith
kind-fits kind.Bytes = omega arith
kind-fits kind.Method = omega arith

pub size-fits : (body : RawBody) → HasRawSize body → raw_len body < 2 ^ 16
size-fits (RawPointers longs) size = size
size-fits (RawWords words) size = size
size-fits (RawBytes bytes) size = size
size-fits (RawMethod header literals code) size = omega (arith, size.1)

-- a record's contents, its zeros, and what follows it
abbrev pub after_head : RawRecord → List ℕ → List ℕ
after_head r rest = raw_contents r.body ++ (replicate (padding (raw_end r.body)) 0 ++ rest)

abbrev pub laid : RawRecord → List ℕ → List ℕ
laid r rest = headed r.name r.class r.count (kind_number (raw_kind r.body)) (raw_len r.body) (after_head r rest)

pub text-laid : (r : RawRecord) (rest : List ℕ) → raw_text r ++ rest ≡ laid r rest
unfolding raw_text
text-laid r rest = simp append_assoc

record-is : (r : RawRecord) (name class count : ℕ) (body : RawBody) → name ≡ r.name → class ≡ r.class → count ≡ r.count → body ≡ r.body → record { name = name; class = class; count = count; body = body } ≡ r
record-is r name class count body a b c d = λ i. record { name = a i; class = b i; count = c i; body = d i }

laid-again : (r : RawRecord) (rest : List ℕ) → IsRawRecord r → raw_of (laid r rest) ≡ r
unfolding raw_of
laid-again r rest is =
    let k : ℕ = kind_number (raw_kind r.body) in
    let size : ℕ = raw_len r.body in
    record-is r _ _ _ _
    (long-front r.name _ is.name.1)
    (head-class r.name r.class r.count k size (after_head r rest) is.class.1)
    (head-count r.name r.class r.count k size (after_head r rest) is.count)
    (rw (head-kind r.name r.class r.count k size (after_head r rest) (kind-fits (raw_kind r.body)), head-size r.name r.class r.count k size (after_head r rest) (size-fits r.body is.size), head-rest r.name r.class r.count k size (after_head r rest), kind-again (raw_kind r.body)) (body-again r.body (replicate (padding (raw_end r.body)) 0 ++ rest) is.size is.range))

-- the text of a raw record is read again, whatever follows
pub raw-again : (r : RawRecord) (rest : List ℕ) → IsRawRecord r → raw_of (raw_text r ++ rest) ≡ r
raw-again r rest is = ap raw_of (text-laid r rest) ∙ laid-again r rest is
