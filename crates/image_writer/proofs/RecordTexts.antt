-- The record of an object that a disk holds, with its count.
use Rattle.std.proofs.Common.{◌≡◌, ℕ, ℤ, ◌/◌, ◌%◌, ◌^◌, ◌<◌, ◌≤◌, Bool, true, false, cond, eqb, ltb, List, [], ◌∷◌, ◌++◌, length, take, drop, map, Option, Some, None, refl, sym, ap, ap₂, ◌∙◌, arith, inl, inr}
use Rattle.std.specs.Prelude.{All}
use Rattle.std.specs.Option.{option_map_or}
use Rattle.std.proofs.lemmas.Bool.{cases_lt, lt-ltb, le-ltb, eq-eqb, ne_eqb}
use Rattle.std.proofs.lemmas.List.Elements.{All-head, All-tail}
use Rattle.long_names.specs.Words.{long_word, value_of}
use Rattle.long_names.specs.Heap.{Heap, count_of, rec_of}
use Rattle.long_names.specs.Record.{four_bytes, eight_bytes, record_text}
use Rattle.long_names.specs.declared.value.Value.{Value}
use Rattle.long_names.specs.declared.value.Value.TheVariants.{Int, Ref}
use Rattle.long_names.specs.declared.object.Object.{Object}
use Rattle.object_record.specs.Raw.{RawBody, RawPointers, RawWords, RawBytes, RawMethod, RawRecord, HasRawSize, HasRawRange, IsRawRecord, stated_by, raw_text, raw_body}
use Rattle.object_record.specs.Objects.{int_in, value_in, body_of, object_in}
use Rattle.object_record.proofs.Records.{same-text}
use Rattle.disk_objects.specs.Disk.{with_count}
use Rattle.image_writer.specs.Puts.{name_text}

-- ---- a long word is that of the value it stands for

int_back : (long : ℕ) → long < 2 ^ 32 → long % 2 ≡ 1 → long_word (Int (int_in long)) ≡ long
int_back long fits odd = elim (cases_lt (long / 2) (2 ^ 30)) [
  | inl lt ↦ (let low : ltb (long / 2) (2 ^ 30) ≡ true = lt-ltb _ _ lt in rw low (omega (arith, odd)))
  | inr le ↦ (let high : ltb (long / 2) (2 ^ 30) ≡ false = le-ltb _ _ le in rw high (omega (arith, odd, fits)))
]

long_back : (long : ℕ) → long < 2 ^ 32 → long_word (value_in long) ≡ long
long_back long fits = elim (cases_lt (long % 2) 1) [
  | inl lt ↦ (let even : eqb (long % 2) 1 ≡ false = ne_eqb _ _ (λ e. omega (arith, e, lt)) in rw even refl)
  | inr le ↦ (let odd : long % 2 ≡ 1 = omega (arith, le) in rw (eq-eqb (long % 2) 1 odd) (int_back long fits odd))
]

longs_back : (longs : List ℕ) → All (λ w. w < 2 ^ 32) longs → map long_word (map value_in longs) ≡ longs
longs_back [] all = refl
longs_back (w ∷ ws) all = ap₂ (λ (x : ℕ) (xs : List ℕ). x ∷ xs) (long_back w (All-head (λ w. w < 2 ^ 32) w ws all)) (longs_back ws (All-tail (λ w. w < 2 ^ 32) w ws all))

stated_odd : (o : Option Value) (n : ℕ) → stated_by o ≡ Some n → (z : ℤ) × (o ≡ Some (Int z))
stated_odd (Some (Int z)) n e = (z, refl)
stated_odd (Some (Ref m)) n e = let clash : ◌≡◌ {A = Option ℕ} None (Some n) = e in absurd (cc)
stated_odd None n e = let clash : ◌≡◌ {A = Option ℕ} None (Some n) = e in absurd (cc)

int_odd : (word : ℕ) (z : ℤ) → value_of word ≡ Some (Int z) → word % 2 ≡ 1
int_odd word z e = elim (cases_lt (word % 2) 1) [
  | inl lt ↦ (let even : eqb (word % 2) 1 ≡ false = ne_eqb _ _ (λ o. omega (arith, o, lt)) in go (eqb word 0) (rw even at e))
  | inr le ↦ omega (arith, le)
]
  where
    go : (b : Bool) → cond b None (Some (Ref word)) ≡ Some (Int z) → word % 2 ≡ 1
    go true e = let clash : ◌≡◌ {A = Option Value} None (Some (Int z)) = e in absurd (cc)
    go false e = let clash : ◌≡◌ {A = Option Value} (Some (Ref word)) (Some (Int z)) = e in absurd (cc)

body_back : (b : RawBody) → HasRawSize b → HasRawRange b → raw_body (body_of b) ≡ b
body_back (RawPointers longs) size range = ap RawPointers (longs_back longs range)
body_back (RawWords words) size range = refl
body_back (RawBytes bytes) size range = refl
body_back (RawMethod header literals code) size range =
    let z = stated_odd (value_of header) (length literals) size.0 in
    ap₂ (λ (h : ℕ) (ls : List ℕ). RawMethod h ls code) (int_back header range.0 (int_odd header z.0 z.1)) (longs_back literals range.1)

-- ---- the record of an object

pub raw_is_record : (h : Heap) (n : ℕ) (r : RawRecord) → IsRawRecord r → r.name ≡ n → record_text (rec_of h n (object_in r)) ≡ raw_text (with_count r (count_of h n))
raw_is_record h n r is named =
    sym (same-text (rec_of h n (object_in r)))
    ∙ ap₂ (λ (k : ℕ) (b : RawBody). raw_text (record { name = k; class = r.class; count = count_of h n; body = b })) (sym named) (body_back r.body is.size is.range)

-- a held name has this text
pub text_of_held : (h : Heap) (n : ℕ) (o : Object) (r : RawRecord) (count : ℕ) → h.at n ≡ Some o → o ≡ object_in r → IsRawRecord r → r.name ≡ n → count ≡ count_of h n → raw_text (with_count r count) ≡ name_text h n
text_of_held h n o r count at same is named exact =
    ap (λ (k : ℕ). raw_text (with_count r k)) exact
    ∙ sym (raw_is_record h n r is named)
    ∙ ap (λ (p : Object). record_text (rec_of h n p)) (sym same)
    ∙ ap (λ (p : Option Object). option_map_or (λ (o : Object). record_text (rec_of h n o)) p []) (sym at)

-- a record's bytes, with another count in the place of its own
pub recounted : (r : RawRecord) (count : ℕ) → take 8 (raw_text r) ++ (eight_bytes count ++ drop 16 (raw_text r)) ≡ raw_text (with_count r count)
unfolding raw_text four_bytes eight_bytes
recounted r count = refl

pub long_text : (r : RawRecord) → 16 ≤ length (raw_text r)
unfolding raw_text four_bytes eight_bytes
long_text r = omega arith
