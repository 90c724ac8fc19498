-- What each call reads and writes, said of the bytes and of the places that the code finds.
use Rattle.std.proofs.Common.{◌≡◌, ◌≢◌, ℕ, ◌+◌, ◌*◌, ◌^◌, ◌<◌, ◌≤◌, List, [], ◌∷◌, ◌++◌, length, take, drop, replicate, refl, sym, ap, subst, ◌∙◌, arith}
use Rattle.std.specs.Prelude.{slice_index, Some}
use Rattle.std.proofs.lemmas.List.{take_at, length-append, length-replicate}
use Rattle.long_names.specs.Names.{IsLongName}
use Rattle.long_names.specs.Objects.{put_run}
use Rattle.long_names.specs.Record.{two_bytes, four_bytes, eight_bytes, kind_number, padding}
use Rattle.long_names.specs.declared.object.Kind.{Kind}
use Rattle.long_names.specs.declared.object.Kind.TheVariants as kind
use Rattle.object_record.specs.Raw.{RawBody, RawPointers, RawWords, RawBytes, RawMethod, RawRecord, HasRawSize, HasRawRange, raw_kind, raw_len, raw_literals, raw_header, longs_of, raw_words, raw_bytes, raw_size, raw_end, raw_text, raw_contents, with_name, with_long, with_word, with_byte, with_header, body_with_long, body_with_word, body_with_byte, body_with_header, stated_literals}
use Rattle.object_record.specs.Buffer.{long_at, word_at, kind_numbered, raw_of, HasRecord}
use Rattle.object_record.specs.Inside.{longs_place, bytes_place, size_stated}
use Rattle.object_record.proofs.Numbers.{wide16, wide32, wide64}
use Rattle.object_record.proofs.Spots.{Spot, over, put-there}
use Rattle.object_record.proofs.Texts.{begun, length-contents, long-part, word-part, byte-part, header-part, long-range, word-range, byte-range, header-range, long-fits, word-fits, set-part, read-long, read-word, read-byte, part-within, kind-said, size-said, literals-said}

-- ---- places

place-said : (b : List ℕ) → HasRecord b → (p : ℕ) → p ≡ longs_place (kind_numbered (word_at b 16)) → p ≡ longs_place (raw_kind (raw_of b).body)
place-said b h p e = e ∙ ap longs_place (kind-said b h)

bytes-said : (b : List ℕ) → HasRecord b → (p : ℕ) → p ≡ bytes_place (kind_numbered (word_at b 16)) (long_at b 20) → p ≡ bytes_place (raw_kind (raw_of b).body) (raw_literals (raw_of b).body)
bytes-said b h p e = e ∙ ap (λ (k : Kind). bytes_place k (long_at b 20)) (kind-said b h) ∙ counted (raw_kind (raw_of b).body) (raw_literals (raw_of b).body) (long_at b 20) (literals-said b h)
  where
    counted : (k : Kind) (literals n : ℕ) → (k ≡ kind.Method → n ≡ literals) → bytes_place k n ≡ bytes_place k literals
    counted kind.Pointers literals n e = refl
    counted kind.Words literals n e = refl
    counted kind.Bytes literals n e = refl
    counted kind.Method literals n e = ap (λ (m : ℕ). 28 + 4 * m) (e refl)

-- ---- fields

pub get-long : (b : List ℕ) (i p : ℕ) → HasRecord b → i < length (longs_of (raw_of b).body) → p ≡ longs_place (kind_numbered (word_at b 16)) → (p + 4 * i + 4 ≤ length b) × (long_at b (p + 4 * i) ≡ slice_index (longs_of (raw_of b).body) i)
get-long b i p h lt e =
    let body : RawBody = (raw_of b).body in
    let v : ℕ = slice_index (longs_of body) i in
    let n : ℕ = longs_place (raw_kind body) + 4 * i in
    let part = long-part body i 0 lt in
    let same : p + 4 * i ≡ n = ap (λ (q : ℕ). q + 4 * i) (place-said b h p e) in
    let low : n + length (four_bytes v) ≤ length b = part-within b (body_with_long body i 0) n (four_bytes v) (four_bytes 0) h part in
    (omega (arith, low, same, wide32.len v), ap (long_at b) same ∙ read-long b (body_with_long body i 0) n v (four_bytes 0) h part (long-fits body i h.is.range lt))

pub set-long : (b : List ℕ) (i p w : ℕ) → HasRecord b → i < length (longs_of (raw_of b).body) → p ≡ longs_place (kind_numbered (word_at b 16)) → w < 2 ^ 32 → HasRecord (put_run b (p + 4 * i) (four_bytes w)) × (raw_of (put_run b (p + 4 * i) (four_bytes w)) ≡ with_long (raw_of b) i w)
set-long b i p w h lt e fits =
    let body : RawBody = (raw_of b).body in
    let v : ℕ = slice_index (longs_of body) i in
    let n : ℕ = longs_place (raw_kind body) + 4 * i in
    let same : p + 4 * i ≡ n = ap (λ (q : ℕ). q + 4 * i) (place-said b h p e) in
    let P : ℕ → Type 0 = λ q. HasRecord (put_run b q (four_bytes w)) × (raw_of (put_run b q (four_bytes w)) ≡ with_long (raw_of b) i w) in
    subst P (sym same) (set-part b (body_with_long body i w) n (four_bytes v) (four_bytes w) h (long-part body i w lt) (long-range body i w fits h.is.range) (wide32.len v ∙ sym (wide32.len w)))

pub get-word : (b : List ℕ) (i : ℕ) → HasRecord b → i < length (raw_words (raw_of b).body) → (20 + 2 * i + 2 ≤ length b) × (word_at b (20 + 2 * i) ≡ slice_index (raw_words (raw_of b).body) i)
get-word b i h lt =
    let body : RawBody = (raw_of b).body in
    let v : ℕ = slice_index (raw_words body) i in
    let n : ℕ = 20 + 2 * i in
    let part = word-part body i 0 lt in
    let low : n + length (two_bytes v) ≤ length b = part-within b (body_with_word body i 0) n (two_bytes v) (two_bytes 0) h part in
    (omega (arith, low, wide16.len v), read-word b (body_with_word body i 0) n v (two_bytes 0) h part (word-fits body i h.is.range lt))

pub set-word : (b : List ℕ) (i w : ℕ) → HasRecord b → i < length (raw_words (raw_of b).body) → w < 2 ^ 16 → HasRecord (put_run b (20 + 2 * i) (two_bytes w)) × (raw_of (put_run b (20 + 2 * i) (two_bytes w)) ≡ with_word (raw_of b) i w)
set-word b i w h lt fits =
    let body : RawBody = (raw_of b).body in
    let v : ℕ = slice_index (raw_words body) i in
    set-part b (body_with_word body i w) (20 + 2 * i) (two_bytes v) (two_bytes w) h (word-part body i w lt) (word-range body i w fits h.is.range) (wide16.len v ∙ sym (wide16.len w))

pub get-byte : (b : List ℕ) (i p : ℕ) → HasRecord b → i < length (raw_bytes (raw_of b).body) → p ≡ bytes_place (kind_numbered (word_at b 16)) (long_at b 20) → (p + i + 1 ≤ length b) × (slice_index b (p + i) ≡ slice_index (raw_bytes (raw_of b).body) i)
get-byte b i p h lt e =
    let body : RawBody = (raw_of b).body in
    let v : ℕ = slice_index (raw_bytes body) i in
    let n : ℕ = bytes_place (raw_kind body) (raw_literals body) + i in
    let part = byte-part body i 0 lt in
    let same : p + i ≡ n = ap (λ (q : ℕ). q + i) (bytes-said b h p e) in
    let low : n + 1 ≤ length b = part-within b (body_with_byte body i 0) n (v ∷ []) (0 ∷ []) h part in
    (omega (arith, low, same), ap (λ (q : ℕ). slice_index b q) same ∙ read-byte b (body_with_byte body i 0) n v (0 ∷ []) h part)

pub set-byte : (b : List ℕ) (i p w : ℕ) → HasRecord b → i < length (raw_bytes (raw_of b).body) → p ≡ bytes_place (kind_numbered (word_at b 16)) (long_at b 20) → w < 2 ^ 8 → HasRecord (put_run b (p + i) (w ∷ [])) × (raw_of (put_run b (p + i) (w ∷ [])) ≡ with_byte (raw_of b) i w)
set-byte b i p w h lt e fits =
    let body : RawBody = (raw_of b).body in
    let v : ℕ = slice_index (raw_bytes body) i in
    let n : ℕ = bytes_place (raw_kind body) (raw_literals body) + i in
    let same : p + i ≡ n = ap (λ (q : ℕ). q + i) (bytes-said b h p e) in
    let P : ℕ → Type 0 = λ q. HasRecord (put_run b q (w ∷ [])) × (raw_of (put_run b q (w ∷ [])) ≡ with_byte (raw_of b) i w) in
    subst P (sym same) (set-part b (body_with_byte body i w) n (v ∷ []) (w ∷ []) h (byte-part body i w lt) (byte-range body i w fits h.is.range) refl)

-- ---- the name

name-spot : (r : RawRecord) (n : ℕ) (rest : List ℕ) → Spot 0 (four_bytes r.name) (raw_text r ++ rest) (four_bytes n) (raw_text (with_name r n) ++ rest)
unfolding raw_text
name-spot r n rest =
    let back : List ℕ = four_bytes r.class ++ (eight_bytes r.count ++ (two_bytes (kind_number (raw_kind r.body)) ++ (two_bytes (raw_len r.body) ++ (raw_contents r.body ++ replicate (padding (raw_end r.body)) 0)))) in
    over rest 0 (four_bytes r.name) (raw_text r) (four_bytes n) (raw_text (with_name r n)) (record { front = []; back = back; len = refl; before = refl; after = refl })

pub set-name : (b : List ℕ) (n : ℕ) → HasRecord b → IsLongName n → HasRecord (put_run b 0 (four_bytes n)) × (raw_of (put_run b 0 (four_bytes n)) ≡ with_name (raw_of b) n)
set-name b n h is =
    let r : RawRecord = raw_of b in
    let rest : List ℕ = drop (length (raw_text r)) b in
    let done : put_run b 0 (four_bytes n) ≡ raw_text (with_name r n) ++ rest =
    ap (λ (t : List ℕ). put_run t 0 (four_bytes n)) h.begins
    ∙ put-there 0 (four_bytes r.name) (raw_text r ++ rest) (four_bytes n) (raw_text (with_name r n) ++ rest) (name-spot r n rest) (wide32.len r.name ∙ sym (wide32.len n)) in
    begun (put_run b 0 (four_bytes n)) (with_name r n) rest (record { name = is; class = h.is.class; count = h.is.count; size = h.is.size; range = h.is.range }) done

-- ---- how many fields

pub values-many : (b : RawBody) → raw_kind b ≡ kind.Pointers → raw_len b ≡ length (longs_of b)
values-many (RawPointers longs) e = refl
values-many (RawWords words) e = cc
values-many (RawBytes bytes) e = cc
values-many (RawMethod header literals code) e = cc

pub literals-many : (b : RawBody) → raw_kind b ≡ kind.Method → raw_literals b ≡ length (longs_of b)
literals-many (RawPointers longs) e = cc
literals-many (RawWords words) e = cc
literals-many (RawBytes bytes) e = cc
literals-many (RawMethod header literals code) e = refl

pub none-many : (b : RawBody) → raw_kind b ≢ kind.Pointers → raw_kind b ≢ kind.Method → 0 ≡ length (longs_of b)
none-many (RawPointers longs) p m = absurd (p refl)
none-many (RawWords words) p m = refl
none-many (RawBytes bytes) p m = refl
none-many (RawMethod header literals code) p m = absurd (m refl)

-- ---- headers

header-states : (body : RawBody) → raw_kind body ≡ kind.Method → HasRawSize body → stated_literals (raw_header body) ≡ Some (raw_literals body)
header-states (RawPointers longs) is size = absurd cc
header-states (RawWords words) is size = absurd cc
header-states (RawBytes bytes) is size = absurd cc
header-states (RawMethod header literals code) is size = size.0

header-fits : (body : RawBody) → raw_kind body ≡ kind.Method → HasRawRange body → raw_header body < 2 ^ 32
header-fits (RawPointers longs) is range = absurd cc
header-fits (RawWords words) is range = absurd cc
header-fits (RawBytes bytes) is range = absurd cc
header-fits (RawMethod header literals code) is range = range.0

pub get-header : (b : List ℕ) → HasRecord b → raw_kind (raw_of b).body ≡ kind.Method → long_at b 24 ≡ raw_header (raw_of b).body
get-header b h is =
    let body : RawBody = (raw_of b).body in
    let v : ℕ = raw_header body in
    read-long b (body_with_header body v) 24 v (four_bytes v) h (header-part body v is (header-states body is h.is.size)) (header-fits body is h.is.range)

pub set-header : (b : List ℕ) (w : ℕ) → HasRecord b → raw_kind (raw_of b).body ≡ kind.Method → stated_literals w ≡ Some (raw_literals (raw_of b).body) → w < 2 ^ 32 → HasRecord (put_run b 24 (four_bytes w)) × (raw_of (put_run b 24 (four_bytes w)) ≡ with_header (raw_of b) w)
set-header b w h is states fits =
    let body : RawBody = (raw_of b).body in
    let v : ℕ = raw_header body in
    set-part b (body_with_header body w) 24 (four_bytes v) (four_bytes w) h (header-part body w is states) (header-range body w fits h.is.range) (wide32.len v ∙ sym (wide32.len w))

pub no-literals : (body : RawBody) → raw_kind body ≢ kind.Method → 0 ≡ raw_literals body
no-literals (RawPointers longs) other = refl
no-literals (RawWords words) other = refl
no-literals (RawBytes bytes) other = refl
no-literals (RawMethod header literals code) other = absurd (other refl)

-- ---- the bytes of the record alone

size-of-body : (body : RawBody) (n : ℕ) → (raw_kind body ≡ kind.Method → n ≡ raw_literals body) → size_stated (raw_kind body) (raw_len body) n ≡ raw_size body
size-of-body (RawPointers longs) n e = refl
size-of-body (RawWords words) n e = refl
size-of-body (RawBytes bytes) n e = refl
size-of-body (RawMethod header literals code) n e = ap (λ (m : ℕ). 8 + 4 * m + length code) (e refl)

pub end-said : (b : List ℕ) → HasRecord b → 20 + size_stated (kind_numbered (word_at b 16)) (word_at b 18) (long_at b 20) ≡ raw_end (raw_of b).body
end-said b h =
    let body : RawBody = (raw_of b).body in
    ap (λ (k : Kind). 20 + size_stated k (word_at b 18) (long_at b 20)) (kind-said b h)
    ∙ ap (λ (n : ℕ). 20 + size_stated (raw_kind body) n (long_at b 20)) (size-said b h)
    ∙ ap (λ (n : ℕ). 20 + n) (size-of-body body (long_at b 20) (literals-said b h))

pub length-text : (r : RawRecord) → length (raw_text r) ≡ raw_end r.body + padding (raw_end r.body)
unfolding raw_text
length-text r =
    let z : List ℕ = replicate (padding (raw_end r.body)) 0 in
    let k : List ℕ = two_bytes (kind_number (raw_kind r.body)) in
    let s : List ℕ = two_bytes (raw_len r.body) in
    omega (arith, length-append (four_bytes r.name) (four_bytes r.class ++ (eight_bytes r.count ++ (k ++ (s ++ (raw_contents r.body ++ z))))), length-append (four_bytes r.class) (eight_bytes r.count ++ (k ++ (s ++ (raw_contents r.body ++ z)))), length-append (eight_bytes r.count) (k ++ (s ++ (raw_contents r.body ++ z))), length-append k (s ++ (raw_contents r.body ++ z)), length-append s (raw_contents r.body ++ z), length-append (raw_contents r.body) z, length-replicate {A = ℕ} (padding (raw_end r.body)) 0, length-contents r.body, wide32.len r.name, wide32.len r.class, wide64.len r.count, wide16.len (kind_number (raw_kind r.body)), wide16.len (raw_len r.body))

-- the bytes up to an end that the code finds
pub text-front : (b : List ℕ) (end zeros : ℕ) → HasRecord b → end ≡ 20 + size_stated (kind_numbered (word_at b 16)) (word_at b 18) (long_at b 20) → zeros ≡ padding end → (take (end + zeros) b ≡ raw_text (raw_of b)) × (end + zeros ≤ length b)
text-front b end zeros h e z =
    let r : RawRecord = raw_of b in
    let rest : List ℕ = drop (length (raw_text r)) b in
    let ends : end ≡ raw_end r.body = e ∙ end-said b h in
    let len : end + zeros ≡ length (raw_text r) = ap (λ (n : ℕ). end + n) z ∙ ap (λ (n : ℕ). n + padding n) ends ∙ sym (length-text r) in
    let front : take (length (raw_text r)) b ≡ raw_text r = ap (take (length (raw_text r))) h.begins ∙ take_at (raw_text r) rest (length (raw_text r)) refl in
    (ap (λ (n : ℕ). take n b) len ∙ front, omega (arith, len, ap length h.begins, length-append (raw_text r) rest))
