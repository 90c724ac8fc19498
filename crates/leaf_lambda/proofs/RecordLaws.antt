-- The words of a record's body: what they are, and that they mean the record.
-- A raw body is changed by `with_longs`, `with_words`, `with_bytes`: a loop keeps `raw ≡ with_raw first (with_longs ..
-- (longs_of raw))` and says its elements by `slice_get`; `all-same` closes it.
use Rattle.std.proofs.Common.{zero, suc, ◌≡◌, ℕ, ℤ, pos, negsuc, ◌+◌, ◌-◌, ◌*◌, ◌/◌, ◌%◌, ◌^◌, ◌<◌, ◌≤◌, Bool, true, false, eqb, nat_lt, nat_le, List, [], ◌∷◌, ◌++◌, length, map, replicate, get_or, refl, sym, ◌∙◌, ap, arith, Option, Some, None, All}
use Rattle.std.proofs.lemmas.Grind.{common_steps}
use Rattle.std.proofs.lemmas.List.Elements.{All-head, All-tail}
use Rattle.std.proofs.Math.ListN.{length-replicate}
use Rattle.std.specs.List.{slice_get}
use Rattle.std.specs.Prelude.{take, drop}
use Rattle.long_names.specs.Words.{literal_count, value_of, small_integer_of}
use Rattle.long_names.specs.Objects.{fields_of, body_words}
use Rattle.long_names.specs.declared.value.Value.{Value}
use Rattle.long_names.specs.declared.value.Value.TheVariants.{Int, Ref}
use Rattle.long_names.specs.declared.object.Kind.TheVariants as kind
use Rattle.long_names.specs.declared.object.Body.TheVariants as body
use Rattle.object_record.specs.Raw.{RawBody, RawPointers, RawWords, RawBytes, RawMethod, raw_kind, raw_len, raw_bytes, raw_literals, raw_header, raw_words, longs_of, stated_literals, stated_by, HasRawSize, HasRawRange}
use Rattle.object_record.specs.Objects.{int_in, value_in, body_of}
use Rattle.object_table.specs.declared.entry.Entry.{Entry}
use Rattle.core_view.specs.Words.{int_of_short, meant, values_by, bytes_in, header_in, literals_in, code_in, pointers, body_in, words_for, most_len}
use Rattle.core_view.proofs.Bodies.{values-lambda}
use Rattle.leaf_lambda.specs.Records.{packed, unresolved}

-- ---- bytes two to a word

pub length-packed : (bs : List ℕ) → length (packed bs) ≡ (length bs + 1) / 2
length-packed [] = refl
length-packed (a ∷ []) = refl
length-packed (a ∷ b ∷ rest) = let more = length-packed rest in omega arith

pub packed-get : (bs : List ℕ) (k : ℕ) → k + k < length bs → slice_get (packed bs) k ≡ Some (256 * get_or bs (k + k) 0 + get_or bs (suc (k + k)) 0)
packed-get [] k low = absurd (omega arith)
packed-get (a ∷ []) zero low = ap Some (omega arith)
packed-get (a ∷ []) (suc k) low = absurd (omega arith)
packed-get (a ∷ b ∷ rest) zero low = refl
packed-get (a ∷ b ∷ rest) (suc k) low =
    packed-get rest k (omega arith)
    ∙ ap (λ (j : ℕ). Some (256 * get_or (a ∷ b ∷ rest) j 0 + get_or (a ∷ b ∷ rest) (suc j) 0)) (twice k)
  where
    twice : (k : ℕ) → suc (suc (k + k)) ≡ suc k + suc k
    twice k = omega arith

pub bytes-packed : (bs : List ℕ) → All (λ b. b < 2 ^ 8) bs → take (length bs) (bytes_in (packed bs)) ≡ bs
bytes-packed [] all = refl
bytes-packed (a ∷ []) all = ap (λ x. x ∷ []) (omega arith)
bytes-packed (a ∷ b ∷ rest) all =
    let low : b < 2 ^ 8 = All-head (λ b. b < 2 ^ 8) b rest (All-tail (λ b. b < 2 ^ 8) a (b ∷ rest) all) in
    let more = bytes-packed rest (All-tail (λ b. b < 2 ^ 8) b rest (All-tail (λ b. b < 2 ^ 8) a (b ∷ rest) all)) in
    ap (λ x. x ∷ (256 * a + b) % 256 ∷ take (length rest) (bytes_in (packed rest))) (high a b low)
    ∙ ap (λ x. a ∷ x ∷ take (length rest) (bytes_in (packed rest))) (rest_of a b low)
    ∙ ap (λ xs. a ∷ b ∷ xs) more
  where
    high : (a b : ℕ) → b < 2 ^ 8 → (256 * a + b) / 256 ≡ a
    high a b low = omega arith

    rest_of : (a b : ℕ) → b < 2 ^ 8 → (256 * a + b) % 256 ≡ b
    rest_of a b low = omega arith

-- ---- a method's header

-- its lowest 16 bits say the number, where it is the long word of a SmallInteger
pub header-number : (h : ℕ) (o : Option Value) (n : ℕ) → value_of h ≡ o → stated_by o ≡ Some n → h < 2 ^ 32 → (int_of_short (h % 65536) ≡ int_in h) × (literal_count (int_in h) ≡ n)
header-number h None n e stated fits = cc
header-number h (Some (Ref m)) n e stated fits = cc
header-number h (Some (Int z)) n e stated fits = go (eqb (h % 2) 1) refl
  where
    some : (a b : ℕ) → Some a ≡ Some b → a ≡ b
    some a b e = cc

    int : (a b : ℤ) → Some (Int a) ≡ Some (Int b) → a ≡ b
    int a b e = cc

    half : (b : Bool) → nat_lt (h / 2) 16384 ≡ b → h % 2 ≡ 1 → small_integer_of (h / 2) ≡ Some (Int z) → (int_of_short (h % 65536) ≡ int_in h) × (literal_count (int_in h) ≡ n)
    half true low odd is =
        let small : h / 2 < 16384 = grind (arith, common_steps) in
        let same : z ≡ pos (h / 2) = int z (pos (h / 2)) (sym is ∙ simp low refl) in
        let short : nat_lt (h % 65536 / 2) 16384 ≡ true = grind (arith, common_steps) in
        let long : nat_lt (h / 2) (2 ^ 30) ≡ true = grind (arith, common_steps) in
        let number : int_in h ≡ pos (h / 2) = simp long refl in
        (simp short (ap pos (omega arith)) ∙ sym number, ap literal_count (number ∙ sym same) ∙ some (literal_count z) n stated)
    half false high odd is = last (nat_le (2 ^ 31 - 16384) (h / 2)) refl
      where
        last : (b : Bool) → nat_le (2 ^ 31 - 16384) (h / 2) ≡ b → (int_of_short (h % 65536) ≡ int_in h) × (literal_count (int_in h) ≡ n)
        last false not = let no : None ≡ Some (Int z) = sym (simp (high, not) refl) ∙ is in cc
        last true far =
            let least : 2 ^ 31 - 16384 ≤ h / 2 = grind (arith, common_steps) in
            let same : z ≡ negsuc (2 ^ 31 - 1 - h / 2) = int z (negsuc (2 ^ 31 - 1 - h / 2)) (sym is ∙ simp (high, far) refl) in
            let short : nat_lt (h % 65536 / 2) 16384 ≡ false = grind (arith, common_steps) in
            let long : nat_lt (h / 2) (2 ^ 30) ≡ false = grind (arith, common_steps) in
            let number : int_in h ≡ negsuc (2 ^ 31 - 1 - h / 2) = simp long refl in
            (simp short (ap negsuc (omega arith)) ∙ sym number, ap literal_count (number ∙ sym same) ∙ some (literal_count z) n stated)

    go : (b : Bool) → eqb (h % 2) 1 ≡ b → (int_of_short (h % 65536) ≡ int_in h) × (literal_count (int_in h) ≡ n)
    go true is = half (nat_lt (h / 2) 16384) refl (grind (arith, common_steps)) (sym (simp is refl) ∙ e)
    go false is = even (eqb h 0) refl
      where
        even : (b : Bool) → eqb h 0 ≡ b → (int_of_short (h % 65536) ≡ int_in h) × (literal_count (int_in h) ≡ n)
        even true none = let no : None ≡ Some (Int z) = sym (simp (is, none) refl) ∙ e in cc
        even false some_ = let no : Some (Ref h) ≡ Some (Int z) = sym (simp (is, some_) refl) ∙ e in cc

-- ---- the words of a body with lambdas

take-zeros : (n : ℕ) (xs : List ℕ) → take n (replicate n 0 ++ xs) ≡ replicate n 0
take-zeros zero xs = refl
take-zeros (suc n) xs = ap (λ t. 0 ∷ t) (take-zeros n xs)

drop-zeros : (n : ℕ) (xs : List ℕ) → drop n (replicate n 0 ++ xs) ≡ xs
drop-zeros zero xs = refl
drop-zeros (suc n) xs = drop-zeros n xs

length-zeros : (n : ℕ) (xs : List ℕ) → length (replicate n 0 ++ xs) ≡ n + length xs
length-zeros zero xs = omega arith
length-zeros (suc n) xs = let more = length-zeros n xs in omega arith

-- a method's literals in its words
method-literals : (h : ℕ) (literals code : List ℕ) → stated_literals h ≡ Some (length literals) → h < 2 ^ 32 → literals_in (unresolved (RawMethod h literals code)) ≡ replicate (length literals) 0
method-literals h literals code stated fits =
    let number = header-number h (value_of h) (length literals) refl stated fits in
    ap (λ (n : ℕ). take n (replicate (length literals) 0 ++ packed code)) (ap literal_count number.0 ∙ number.1) ∙ take-zeros (length literals) (packed code)

method-code : (h : ℕ) (literals code : List ℕ) → stated_literals h ≡ Some (length literals) → h < 2 ^ 32 → code_in (unresolved (RawMethod h literals code)) ≡ packed code
method-code h literals code stated fits =
    let number = header-number h (value_of h) (length literals) refl stated fits in
    ap (λ (n : ℕ). drop n (replicate (length literals) 0 ++ packed code)) (ap literal_count number.0 ∙ number.1) ∙ drop-zeros (length literals) (packed code)

method-header : (h : ℕ) (literals code : List ℕ) → stated_literals h ≡ Some (length literals) → h < 2 ^ 32 → header_in (unresolved (RawMethod h literals code)) ≡ int_in h
method-header h literals code stated fits = (header-number h (value_of h) (length literals) refl stated fits).0

-- each field is a lambda
pub unresolved-pointers : (b : RawBody) → HasRawSize b → HasRawRange b → pointers (raw_kind b) (unresolved b) ≡ replicate (length (longs_of b)) 0
unresolved-pointers (RawPointers longs) size range = refl
unresolved-pointers (RawWords words) size range = refl
unresolved-pointers (RawBytes bytes) size range = refl
unresolved-pointers (RawMethod header literals code) size range = method-literals header literals code size.0 range.0

pub unresolved-long : (b : RawBody) → HasRawSize b → HasRawRange b → length (unresolved b) ≡ words_for (raw_kind b) (raw_len b) (literal_count (header_in (unresolved b)))
unresolved-long (RawPointers longs) size range = length-replicate (length longs) 0
unresolved-long (RawWords words) size range = refl
unresolved-long (RawBytes bytes) size range = length-packed bytes
unresolved-long (RawMethod header literals code) size range =
    let all = length-zeros (length literals) (packed code) in
    let some = length-packed code in
    let number = header-number header (value_of header) (length literals) refl size.0 range.0 in
    let count : literal_count (int_of_short (header % 65536)) ≡ length literals = ap literal_count number.0 ∙ number.1 in
    omega arith

pub unresolved-small : (b : RawBody) → HasRawSize b → raw_len b ≤ most_len (raw_kind b)
unresolved-small (RawPointers longs) size = omega arith
unresolved-small (RawWords words) size = omega arith
unresolved-small (RawBytes bytes) size = omega arith
unresolved-small (RawMethod header literals code) size = size.1

pub length-map : (f : ℕ → Value) (xs : List ℕ) → length (map f xs) ≡ length xs
length-map f [] = refl
length-map f (x ∷ xs) = ap suc (length-map f xs)

-- as many words as the object's body has
pub unresolved-words : (b : RawBody) → length (unresolved b) ≡ body_words (body_of b)
unresolved-words (RawPointers longs) = length-replicate (length longs) 0 ∙ sym (length-map value_in longs)
unresolved-words (RawWords words) = refl
unresolved-words (RawBytes bytes) = length-packed bytes
unresolved-words (RawMethod header literals code) = let all = length-zeros (length literals) (packed code) in let some = length-packed code in let same = length-map value_in literals in omega arith

lambda-values : (entries : ℕ → Entry) (longs : List ℕ) → values_by (meant entries (map value_in longs)) (replicate (length longs) 0) ≡ map value_in longs
lambda-values entries longs =
    ap (λ (n : ℕ). values_by (meant entries (map value_in longs)) (replicate n 0)) (sym (length-map value_in longs))
    ∙ values-lambda (meant entries (map value_in longs)) (map value_in longs) (Int (pos 0)) (λ i. refl)

-- the words mean the record
pub unresolved-body : (entries : ℕ → Entry) (b : RawBody) → HasRawSize b → HasRawRange b → body_in entries (fields_of (body_of b)) (unresolved b) (raw_kind b) (raw_len b) ≡ body_of b
unfolding body_in
unresolved-body entries (RawPointers longs) size range = ap body.Pointers (lambda-values entries longs)
unresolved-body entries (RawWords words) size range = refl
unresolved-body entries (RawBytes bytes) size range = ap body.Bytes (bytes-packed bytes range)
unresolved-body entries (RawMethod header literals code) size range = λ i. body.Method
    (method-header header literals code size.0 range.0 i)
    ((ap (values_by (meant entries (map value_in literals))) (method-literals header literals code size.0 range.0) ∙ lambda-values entries literals) i)
    ((ap (λ ws. take (length code) (bytes_in ws)) (method-code header literals code size.0 range.0) ∙ bytes-packed code range.2) i)

-- the fields of a record's object are the values of its long words
pub fields-values : (b : RawBody) → fields_of (body_of b) ≡ map value_in (longs_of b)
fields-values (RawPointers longs) = refl
fields-values (RawWords words) = refl
fields-values (RawBytes bytes) = refl
fields-values (RawMethod header literals code) = refl

-- ---- parts of a raw body, by its kind

pub bytes-len : (b : RawBody) → raw_kind b ≡ kind.Bytes → (raw_len b ≡ length (raw_bytes b)) × (unresolved b ≡ packed (raw_bytes b))
bytes-len (RawPointers longs) e = cc
bytes-len (RawWords words) e = cc
bytes-len (RawBytes bytes) e = (refl, refl)
bytes-len (RawMethod header literals code) e = cc

pub words-words : (b : RawBody) → raw_kind b ≡ kind.Words → unresolved b ≡ raw_words b
words-words (RawPointers longs) e = cc
words-words (RawWords words) e = refl
words-words (RawBytes bytes) e = cc
words-words (RawMethod header literals code) e = cc

pub get-zeros : (n k : ℕ) → k < n → slice_get {X = ℕ} (replicate n 0) k ≡ Some 0
get-zeros zero k low = absurd (omega arith)
get-zeros (suc n) zero low = refl
get-zeros (suc n) (suc k) low = get-zeros n k (omega arith)

get-first : (n k : ℕ) (xs : List ℕ) → k < n → slice_get (replicate n 0 ++ xs) k ≡ Some 0
get-first zero k xs low = absurd (omega arith)
get-first (suc n) zero xs low = refl
get-first (suc n) (suc k) xs low = get-first n k xs (omega arith)

get-rest : (n k : ℕ) (xs : List ℕ) → slice_get (replicate n 0 ++ xs) (n + k) ≡ slice_get xs k
get-rest zero k xs = ap (λ (j : ℕ). slice_get xs j) (omega arith)
get-rest (suc n) k xs = ap (λ (j : ℕ). slice_get (replicate (suc n) 0 ++ xs) j) (shift n k) ∙ get-rest n k xs
  where
    shift : (n k : ℕ) → suc n + k ≡ suc (n + k)
    shift n k = omega arith

pub pointers-zero : (b : RawBody) (k : ℕ) → raw_kind b ≡ kind.Pointers → k < length (unresolved b) → slice_get (unresolved b) k ≡ Some 0
pointers-zero (RawPointers longs) k e low = let long : length (unresolved (RawPointers longs)) ≡ length longs = length-replicate (length longs) 0 in get-zeros (length longs) k (omega arith)
pointers-zero (RawWords words) k e low = cc
pointers-zero (RawBytes bytes) k e low = cc
pointers-zero (RawMethod header literals code) k e low = cc

pub pointers-len : (b : RawBody) → raw_kind b ≡ kind.Pointers → length (unresolved b) ≡ raw_len b
pointers-len (RawPointers longs) e = length-replicate (length longs) 0
pointers-len (RawWords words) e = cc
pointers-len (RawBytes bytes) e = cc
pointers-len (RawMethod header literals code) e = cc

pub words-len : (b : RawBody) → raw_kind b ≡ kind.Words → length (unresolved b) ≡ raw_len b
words-len (RawPointers longs) e = cc
words-len (RawWords words) e = refl
words-len (RawBytes bytes) e = cc
words-len (RawMethod header literals code) e = cc

-- the words of a method
pub record IsMethodWords (b : RawBody) : Type 0 where
  pub len : raw_len b ≡ length (raw_bytes b)
  pub size : length (unresolved b) ≡ 1 + raw_literals b + (length (raw_bytes b) + 1) / 2
  pub first : slice_get (unresolved b) 0 ≡ Some (raw_header b % 65536)
  pub literal : (k : ℕ) → 0 < k → k ≤ raw_literals b → slice_get (unresolved b) k ≡ Some 0
  pub code : (k : ℕ) → slice_get (unresolved b) (1 + raw_literals b + k) ≡ slice_get (packed (raw_bytes b)) k

pub method-words : (b : RawBody) → raw_kind b ≡ kind.Method → IsMethodWords b
method-words (RawPointers longs) e = cc
method-words (RawWords words) e = cc
method-words (RawBytes bytes) e = cc
method-words (RawMethod header literals code) e = record {
  len = refl;
  size = let all = length-zeros (length literals) (packed code) in let some = length-packed code in omega arith;
  first = refl;
  literal = literal_;
  code = λ k. ap (λ (j : ℕ). slice_get (unresolved (RawMethod header literals code)) j) (shift (length literals) k) ∙ get-rest (length literals) k (packed code);
}
  where
    shift : (n k : ℕ) → 1 + n + k ≡ suc (n + k)
    shift n k = omega arith

    literal_ : (k : ℕ) → 0 < k → k ≤ length literals → slice_get (unresolved (RawMethod header literals code)) k ≡ Some 0
    literal_ zero above low = absurd (omega arith)
    literal_ (suc k) above low = get-first (length literals) k (packed code) (omega arith)

pub raw-small : (b : RawBody) → HasRawSize b → length (raw_bytes b) < 2 ^ 16
raw-small (RawPointers longs) size = omega arith
raw-small (RawWords words) size = omega arith
raw-small (RawBytes bytes) size = size
raw-small (RawMethod header literals code) size = omega (arith, size.1)

-- a long word that has a value is read as this value
pub value-is : (long : ℕ) (v : Value) → value_of long ≡ Some v → value_in long ≡ v
value-is long v e = go (eqb (long % 2) 1) refl
  where
    same : (a b : Value) → Some a ≡ Some b → a ≡ b
    same a b e = cc

    half : (b : Bool) → nat_lt (long / 2) 16384 ≡ b → small_integer_of (long / 2) ≡ Some v → Int (int_in long) ≡ v
    half true low is =
        let small : long / 2 < 16384 = grind (arith, common_steps) in
        let below : nat_lt (long / 2) (2 ^ 30) ≡ true = grind (arith, common_steps) in
        let number : int_in long ≡ pos (long / 2) = simp below refl in
        let read : small_integer_of (long / 2) ≡ Some (Int (pos (long / 2))) = simp low refl in
        same (Int (int_in long)) v (ap (λ z. Some (Int z)) number ∙ sym read ∙ is)
    half false high is = last (nat_le (2 ^ 31 - 16384) (long / 2)) refl
      where
        last : (b : Bool) → nat_le (2 ^ 31 - 16384) (long / 2) ≡ b → Int (int_in long) ≡ v
        last false not = let no : None ≡ Some v = sym (simp (high, not) refl) ∙ is in cc
        last true far =
            let least : 2 ^ 31 - 16384 ≤ long / 2 = grind (arith, common_steps) in
            let above : nat_lt (long / 2) (2 ^ 30) ≡ false = grind (arith, common_steps) in
            let number : int_in long ≡ negsuc (2 ^ 31 - 1 - long / 2) = simp above refl in
            let read : small_integer_of (long / 2) ≡ Some (Int (negsuc (2 ^ 31 - 1 - long / 2))) = simp (high, far) refl in
            same (Int (int_in long)) v (ap (λ z. Some (Int z)) number ∙ sym read ∙ is)

    go : (b : Bool) → eqb (long % 2) 1 ≡ b → value_in long ≡ v
    go true is =
        let number : value_in long ≡ Int (int_in long) = simp is refl in
        let read : value_of long ≡ small_integer_of (long / 2) = simp is refl in
        number ∙ half (nat_lt (long / 2) 16384) refl (sym read ∙ e)
    go false is = even (eqb long 0) refl
      where
        even : (b : Bool) → eqb long 0 ≡ b → value_in long ≡ v
        even true none = let no : None ≡ Some v = sym (simp (is, none) refl) ∙ e in cc
        even false some =
            let name : value_in long ≡ Ref long = simp is refl in
            let read : value_of long ≡ Some (Ref long) = simp (is, some) refl in
            same (value_in long) v (ap Some name ∙ sym read ∙ e)

pub map-get : (longs : List ℕ) (i : ℕ) → i < length longs → slice_get (map value_in longs) i ≡ Some (value_in (get_or longs i 0))
map-get [] i low = absurd (omega arith)
map-get (x ∷ xs) zero low = refl
map-get (x ∷ xs) (suc i) low = map-get xs i (omega arith)
