-- Records that are merged from a body and an old copy.
use Rattle.std.proofs.Common.{zero, suc, ◌≡◌, ℕ, pos, ◌+◌, ◌-◌, ◌*◌, ◌/◌, ◌%◌, ◌<◌, ◌≤◌, Bool, true, false, cond, eqb, List, [], ◌∷◌, length, map, get_or, refl, sym, ◌∙◌, ap, arith, Some, None}
use Rattle.std.proofs.lemmas.Grind.{common_steps}
use Rattle.std.proofs.lemmas.Option.{slice_get-get_or, get_or_from_slice_get}
use Rattle.std.specs.List.{slice_get, slice_set}
use Rattle.std.specs.Prelude.{take, drop}
use Rattle.long_names.specs.Names.{IsName}
use Rattle.long_names.specs.Words.{literal_count}
use Rattle.long_names.specs.declared.value.Value.{Value}
use Rattle.long_names.specs.declared.value.Value.TheVariants.{Int, Ref}
use Rattle.long_names.specs.declared.object.Kind.{Kind}
use Rattle.long_names.specs.declared.object.Kind.TheVariants as kind
use Rattle.long_names.specs.declared.object.Body.TheVariants as body
use Rattle.object_record.specs.Raw.{RawBody, RawPointers, RawWords, RawBytes, RawMethod, raw_kind, raw_len, raw_words, raw_bytes, raw_literals, longs_of, body_with_long, body_with_word, body_with_byte, body_with_header}
use Rattle.object_record.specs.Objects.{int_in, value_in, body_of}
use Rattle.object_table.specs.declared.entry.Entry.{Entry}
use Rattle.core_view.specs.Words.{int_of_short, meant, values_by, bytes_in, header_in, literals_in, code_in, pointers, body_in, words_for}
use Rattle.core_view.proofs.Lists.{values-get, length-values}
use Rattle.leaf_lambda.specs.Records.{with_longs, with_words, with_bytes}
use Rattle.leaf_lambda.proofs.FillLaws.{get-set, all-same}
use Rattle.leaf_lambda.proofs.RecordLaws.{map-get, length-map}

-- ---- one part set, as another list of it

pub longs-set : (b : RawBody) (i v : ℕ) → longs_of (body_with_long b i v) ≡ slice_set (longs_of b) i v
longs-set (RawPointers longs) i v = refl
longs-set (RawWords words) i v = refl
longs-set (RawBytes bytes) i v = refl
longs-set (RawMethod header literals code) i v = refl

pub longs-put : (b : RawBody) (i v : ℕ) → body_with_long b i v ≡ with_longs b (longs_of (body_with_long b i v))
longs-put (RawPointers longs) i v = refl
longs-put (RawWords words) i v = refl
longs-put (RawBytes bytes) i v = refl
longs-put (RawMethod header literals code) i v = refl

pub longs-again : (b : RawBody) (x y : List ℕ) → with_longs (with_longs b x) y ≡ with_longs b y
longs-again (RawPointers longs) x y = refl
longs-again (RawWords words) x y = refl
longs-again (RawBytes bytes) x y = refl
longs-again (RawMethod header literals code) x y = refl

pub longs-same : (b : RawBody) → b ≡ with_longs b (longs_of b)
longs-same (RawPointers longs) = refl
longs-same (RawWords words) = refl
longs-same (RawBytes bytes) = refl
longs-same (RawMethod header literals code) = refl

pub words-set : (b : RawBody) (i v : ℕ) → raw_words (body_with_word b i v) ≡ slice_set (raw_words b) i v
words-set (RawPointers longs) i v = refl
words-set (RawWords words) i v = refl
words-set (RawBytes bytes) i v = refl
words-set (RawMethod header literals code) i v = refl

pub words-put : (b : RawBody) (i v : ℕ) → body_with_word b i v ≡ with_words b (raw_words (body_with_word b i v))
words-put (RawPointers longs) i v = refl
words-put (RawWords words) i v = refl
words-put (RawBytes bytes) i v = refl
words-put (RawMethod header literals code) i v = refl

pub words-again : (b : RawBody) (x y : List ℕ) → with_words (with_words b x) y ≡ with_words b y
words-again (RawPointers longs) x y = refl
words-again (RawWords words) x y = refl
words-again (RawBytes bytes) x y = refl
words-again (RawMethod header literals code) x y = refl

pub words-same : (b : RawBody) → b ≡ with_words b (raw_words b)
words-same (RawPointers longs) = refl
words-same (RawWords words) = refl
words-same (RawBytes bytes) = refl
words-same (RawMethod header literals code) = refl

pub bytes-set : (b : RawBody) (i v : ℕ) → raw_bytes (body_with_byte b i v) ≡ slice_set (raw_bytes b) i v
bytes-set (RawPointers longs) i v = refl
bytes-set (RawWords words) i v = refl
bytes-set (RawBytes bytes) i v = refl
bytes-set (RawMethod header literals code) i v = refl

pub bytes-put : (b : RawBody) (i v : ℕ) → body_with_byte b i v ≡ with_bytes b (raw_bytes (body_with_byte b i v))
bytes-put (RawPointers longs) i v = refl
bytes-put (RawWords words) i v = refl
bytes-put (RawBytes bytes) i v = refl
bytes-put (RawMethod header literals code) i v = refl

pub bytes-again : (b : RawBody) (x y : List ℕ) → with_bytes (with_bytes b x) y ≡ with_bytes b y
bytes-again (RawPointers longs) x y = refl
bytes-again (RawWords words) x y = refl
bytes-again (RawBytes bytes) x y = refl
bytes-again (RawMethod header literals code) x y = refl

pub bytes-same : (b : RawBody) → b ≡ with_bytes b (raw_bytes b)
bytes-same (RawPointers longs) = refl
bytes-same (RawWords words) = refl
bytes-same (RawBytes bytes) = refl
bytes-same (RawMethod header literals code) = refl

-- ---- lists

pub get_or-set : (xs : List ℕ) (i v : ℕ) → i < length xs → get_or (slice_set xs i v) i 0 ≡ v
get_or-set xs i v low = get_or_from_slice_get (slice_set xs i v) i v 0 (get-set xs i v low)

pub get_or-same : (xs ys : List ℕ) (i : ℕ) → slice_get xs i ≡ slice_get ys i → get_or xs i 0 ≡ get_or ys i 0
get_or-same [] [] i e = refl
get_or-same [] (y ∷ ys) zero e = cc
get_or-same [] (y ∷ ys) (suc i) e = get_or-same [] ys i (none i ∙ e)
  where
    none : (i : ℕ) → slice_get {X = ℕ} [] i ≡ None
    none i = refl
get_or-same (x ∷ xs) [] zero e = cc
get_or-same (x ∷ xs) [] (suc i) e = get_or-same xs [] i e
get_or-same (x ∷ xs) (y ∷ ys) zero e = some e
  where
    some : Some x ≡ Some y → x ≡ y
    some e = cc
get_or-same (x ∷ xs) (y ∷ ys) (suc i) e = get_or-same xs ys i e

pub map-or : (xs : List ℕ) (i : ℕ) → i < length xs → get_or (map value_in xs) i (Int (pos 0)) ≡ value_in (get_or xs i 0)
map-or xs i low = get_or_from_slice_get (map value_in xs) i (value_in (get_or xs i 0)) (Int (pos 0)) (map-get xs i low)

-- what a word means depends on this field of the old copy alone
pub meant-at : (entries : ℕ → Entry) (xs ys : List ℕ) (i w : ℕ) → i < length xs → i < length ys → slice_get xs i ≡ slice_get ys i → meant entries (map value_in xs) i w ≡ meant entries (map value_in ys) i w
meant-at entries xs ys i w low high same = odd (eqb (w % 2) 1) refl
  where
    lambda : get_or (map value_in xs) i (Int (pos 0)) ≡ get_or (map value_in ys) i (Int (pos 0))
    lambda = map-or xs i low ∙ ap value_in (get_or-same xs ys i same) ∙ sym (map-or ys i high)

    odd : (b : Bool) → eqb (w % 2) 1 ≡ b → meant entries (map value_in xs) i w ≡ meant entries (map value_in ys) i w
    odd true is = simp is refl
    odd false is = none (eqb w 0) refl
      where
        none : (b : Bool) → eqb w 0 ≡ b → meant entries (map value_in xs) i w ≡ meant entries (map value_in ys) i w
        none true nought = simp (is, nought) lambda
        none false some = simp (is, some) refl

-- values that were merged one by one
pub all-merged : (f : ℕ → ℕ → Value) (longs ws : List ℕ) → length longs ≡ length ws → ((k w : ℕ) → k < length ws → slice_get ws k ≡ Some w → value_in (get_or longs k 0) ≡ f k w) → map value_in longs ≡ values_by f ws
all-merged f longs ws l h = all-same (map value_in longs) (values_by f ws) (length-map value_in longs ∙ l ∙ sym (length-values f ws)) go
  where
    go : (k : ℕ) → k < length (map value_in longs) → slice_get (map value_in longs) k ≡ slice_get (values_by f ws) k
    go k low =
        let long = length-map value_in longs in
        let here : slice_get ws k ≡ Some (get_or ws k 0) = slice_get-get_or ws k 0 (omega arith) in
        map-get longs k (omega arith) ∙ ap Some (h k (get_or ws k 0) (omega arith) here) ∙ sym (values-get f ws k (get_or ws k 0) here)

-- ---- bytes

pub drop-get : (n : ℕ) (xs : List ℕ) (i : ℕ) → slice_get (drop n xs) i ≡ slice_get xs (n + i)
drop-get zero xs i = ap (λ (j : ℕ). slice_get xs j) (omega arith)
drop-get (suc n) [] i = refl
drop-get (suc n) (x ∷ xs) i = drop-get n xs i ∙ ap (λ (j : ℕ). slice_get (x ∷ xs) j) (shift n i)
  where
    shift : (n i : ℕ) → suc (n + i) ≡ suc n + i
    shift n i = omega arith

pub take-at : (n : ℕ) (xs : List ℕ) (i : ℕ) → i < n → slice_get (take n xs) i ≡ slice_get xs i
take-at zero xs i low = absurd (omega arith)
take-at (suc n) [] i low = refl
take-at (suc n) (x ∷ xs) zero low = refl
take-at (suc n) (x ∷ xs) (suc i) low = take-at n xs i (omega arith)

-- byte i is the high or the low byte of word i / 2
pub bytes-get : (ws : List ℕ) (i w : ℕ) → slice_get ws (i / 2) ≡ Some w → slice_get (bytes_in ws) i ≡ Some (cond (eqb (i % 2) 1) (w % 256) (w / 256))
bytes-get [] i w e = cc
bytes-get (x ∷ xs) zero w e = some e
  where
    some : Some x ≡ Some w → Some (x / 256) ≡ Some (w / 256)
    some e = cc
bytes-get (x ∷ xs) (suc zero) w e = some e
  where
    some : Some x ≡ Some w → Some (x % 256) ≡ Some (w % 256)
    some e = cc
bytes-get (x ∷ xs) (suc (suc j)) w e =
    bytes-get xs j w (ap (λ (k : ℕ). slice_get (x ∷ xs) k) (half j) ∙ e) ∙ ap (λ (k : ℕ). Some (cond (eqb k 1) (w % 256) (w / 256))) (parity j)
  where
    half : (j : ℕ) → suc (j / 2) ≡ suc (suc j) / 2
    half j = omega arith

    parity : (j : ℕ) → j % 2 ≡ suc (suc j) % 2
    parity j = omega arith

pub length-bytes : (ws : List ℕ) → length (bytes_in ws) ≡ 2 * length ws
length-bytes [] = refl
length-bytes (w ∷ ws) = let more = length-bytes ws in omega arith

pub length-drop-of : (n : ℕ) (xs : List ℕ) → length (drop n xs) ≡ length xs - n
length-drop-of zero xs = omega arith
length-drop-of (suc n) [] = omega arith
length-drop-of (suc n) (x ∷ xs) = let more = length-drop-of n xs in omega arith

pub length-take-of : (n : ℕ) (xs : List ℕ) → n ≤ length xs → length (take n xs) ≡ n
length-take-of zero xs low = refl
length-take-of (suc n) [] low = absurd (omega arith)
length-take-of (suc n) (x ∷ xs) low = let more = length-take-of n xs (omega arith) in omega arith

-- ---- long words of words

pub value-odd : (long : ℕ) → long % 2 ≡ 1 → value_in long ≡ Int (int_in long)
value-odd long odd = let is : eqb (long % 2) 1 ≡ true = grind (arith, common_steps) in simp is refl

pub value-name : (n : ℕ) → IsName n → value_in n ≡ Ref n
value-name n is = let even = is.even in let not : eqb (n % 2) 1 ≡ false = grind (arith, common_steps) in simp not refl

-- ---- bodies of each kind

pub is-pointers : (b : RawBody) → raw_kind b ≡ kind.Pointers → (longs : List ℕ) → (body_of (with_longs b longs) ≡ body.Pointers (map value_in longs)) × (raw_len b ≡ length (longs_of b))
is-pointers (RawPointers old) e longs = (refl, refl)
is-pointers (RawWords words) e longs = cc
is-pointers (RawBytes bytes) e longs = cc
is-pointers (RawMethod header literals code) e longs = cc

pub is-words : (b : RawBody) → raw_kind b ≡ kind.Words → (words : List ℕ) → (body_of (with_words b words) ≡ body.Words words) × (raw_len b ≡ length (raw_words b))
is-words (RawPointers longs) e words = cc
is-words (RawWords old) e words = (refl, refl)
is-words (RawBytes bytes) e words = cc
is-words (RawMethod header literals code) e words = cc

pub is-bytes : (b : RawBody) → raw_kind b ≡ kind.Bytes → (bytes : List ℕ) → (body_of (with_bytes b bytes) ≡ body.Bytes bytes) × (raw_len b ≡ length (raw_bytes b))
is-bytes (RawPointers longs) e bytes = cc
is-bytes (RawWords words) e bytes = cc
is-bytes (RawBytes old) e bytes = (refl, refl)
is-bytes (RawMethod header literals code) e bytes = cc

pub record IsMethod (b : RawBody) (h : ℕ) (longs bytes : List ℕ) : Type 0 where
  pub merged : body_of (with_bytes (with_longs (body_with_header b h) longs) bytes) ≡ body.Method (int_in h) (map value_in longs) bytes
  pub len : raw_len b ≡ length (raw_bytes b)
  pub literals : raw_literals b ≡ length (longs_of b)
  pub same_longs : longs_of (body_with_header b h) ≡ longs_of b
  pub same_bytes : raw_bytes (with_longs (body_with_header b h) longs) ≡ raw_bytes b

pub is-method : (b : RawBody) → raw_kind b ≡ kind.Method → (h : ℕ) (longs bytes : List ℕ) → IsMethod b h longs bytes
is-method (RawPointers old) e h longs bytes = cc
is-method (RawWords words) e h longs bytes = cc
is-method (RawBytes old) e h longs bytes = cc
is-method (RawMethod header literals code) e h longs bytes = record { merged = refl; len = refl; literals = refl; same_longs = refl; same_bytes = refl }

pub in-pointers : (entries : ℕ → Entry) (old : List Value) (ws : List ℕ) (k : Kind) (len : ℕ) → k ≡ kind.Pointers → (body_in entries old ws k len ≡ body.Pointers (values_by (meant entries old) (pointers k ws)))
unfolding body_in
in-pointers entries old ws k len e = ap (λ (k : Kind). body_in entries old ws k len) e ∙ ap (λ (k : Kind). body.Pointers (values_by (meant entries old) (pointers k ws))) (sym e)

pub in-words : (entries : ℕ → Entry) (old : List Value) (ws : List ℕ) (k : Kind) (len : ℕ) → k ≡ kind.Words → body_in entries old ws k len ≡ body.Words ws
unfolding body_in
in-words entries old ws k len e = ap (λ (k : Kind). body_in entries old ws k len) e

pub in-bytes : (entries : ℕ → Entry) (old : List Value) (ws : List ℕ) (k : Kind) (len : ℕ) → k ≡ kind.Bytes → body_in entries old ws k len ≡ body.Bytes (take len (bytes_in ws))
unfolding body_in
in-bytes entries old ws k len e = ap (λ (k : Kind). body_in entries old ws k len) e

pub in-method : (entries : ℕ → Entry) (old : List Value) (ws : List ℕ) (k : Kind) (len : ℕ) → k ≡ kind.Method → body_in entries old ws k len ≡ body.Method (header_in ws) (values_by (meant entries old) (pointers k ws)) (take len (bytes_in (code_in ws)))
unfolding body_in
in-method entries old ws k len e = ap (λ (k : Kind). body_in entries old ws k len) e ∙ ap (λ (k : Kind). body.Method (header_in ws) (values_by (meant entries old) (pointers k ws)) (take len (bytes_in (code_in ws)))) (sym e)

-- a method's words: as many literals as the header says, and the code behind them
pub literals-length : (ws : List ℕ) (len : ℕ) → length ws ≡ words_for kind.Method len (literal_count (header_in ws)) → length (literals_in ws) ≡ literal_count (header_in ws)
literals-length [] len long = absurd (omega arith)
literals-length (h ∷ rest) len long = length-take-of (literal_count (int_of_short h)) rest (omega arith)

pub code-drop : (ws : List ℕ) (n : ℕ) → n ≡ literal_count (header_in ws) → 0 < length ws → code_in ws ≡ drop (1 + n) ws
code-drop [] n e some = absurd (omega arith)
code-drop (h ∷ rest) n e some = ap (λ (k : ℕ). drop k rest) (sym e) ∙ ap (λ (k : ℕ). drop k (h ∷ rest)) (one_more n)
  where
    one_more : (n : ℕ) → suc n ≡ 1 + n
    one_more n = omega arith

pub header-first : (ws : List ℕ) (w : ℕ) → slice_get ws 0 ≡ Some w → header_in ws ≡ int_of_short w
header-first [] w e = cc
header-first (h ∷ rest) w e = some e
  where
    some : Some h ≡ Some w → int_of_short h ≡ int_of_short w
    some e = cc
