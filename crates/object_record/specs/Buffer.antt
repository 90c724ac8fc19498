-- The raw record that bytes begin with.
use Rattle.std.specs.Prelude.{◌≡◌, ℕ, zero, suc, ◌+◌, ◌*◌, ◌==◌, List, [], ◌∷◌, ◌++◌, length, take, drop, if◌then◌else◌}
use Rattle.std.specs.Int.{w16, w32, w64, from_be_bytes}
use Rattle.long_names.specs.declared.object.Kind.{Kind}
use Rattle.long_names.specs.declared.object.Kind.TheVariants as kind
use Rattle.object_record.specs.declared.offsets.TheConstants.{NAME_AT, CLASS_AT, COUNT_AT, KIND_AT, SIZE_AT, CONTENTS_AT}
use Rattle.object_record.specs.Raw.{RawBody, RawPointers, RawWords, RawBytes, RawMethod, RawRecord, IsRawRecord, raw_text}

-- the numbers of four and of two bytes at a place
unfoldable pub long_at : List ℕ → ℕ → ℕ
long_at bytes at = from_be_bytes w32 (take 4 (drop at bytes))

unfoldable pub word_at : List ℕ → ℕ → ℕ
word_at bytes at = from_be_bytes w16 (take 2 (drop at bytes))

unfoldable pub count_in : List ℕ → ℕ
count_in bytes = from_be_bytes w64 (take 8 (drop COUNT_AT bytes))

-- the first long words, as many as this, and the first words
unfoldable pub longs_in : ℕ → List ℕ → List ℕ
longs_in zero bytes = []
longs_in (suc n) bytes = long_at bytes 0 ∷ longs_in n (drop 4 bytes)

unfoldable pub words_in : ℕ → List ℕ → List ℕ
words_in zero bytes = []
words_in (suc n) bytes = word_at bytes 0 ∷ words_in n (drop 2 bytes)

-- 3 and all numbers above stand for a method here; a record has none above
abbrev pub kind_numbered : ℕ → Kind
kind_numbered n = if n == 0 then kind.Pointers else (if n == 1 then kind.Words else (if n == 2 then kind.Bytes else kind.Method))

-- the body of this kind and size that these bytes begin with
unfoldable pub body_in : Kind → ℕ → List ℕ → RawBody
body_in kind.Pointers size bytes = RawPointers (longs_in size bytes)
body_in kind.Words size bytes = RawWords (words_in size bytes)
body_in kind.Bytes size bytes = RawBytes (take size bytes)
body_in kind.Method size bytes =
    RawMethod (long_at bytes 4) (longs_in (long_at bytes 0) (drop 8 bytes)) (take size (drop (8 + 4 * long_at bytes 0) bytes))

-- the raw record that bytes begin with, if they begin with one
unfoldable pub raw_of : List ℕ → RawRecord
raw_of bytes = record {
  name = long_at bytes NAME_AT;
  class = long_at bytes CLASS_AT;
  count = count_in bytes;
  body = body_in (kind_numbered (word_at bytes KIND_AT)) (word_at bytes SIZE_AT) (drop CONTENTS_AT bytes);
}

-- the bytes begin with a raw record
pub record HasRecord (bytes : List ℕ) : Type 0 where
  pub is : IsRawRecord (raw_of bytes)
  pub begins : bytes ≡ raw_text (raw_of bytes) ++ drop (length (raw_text (raw_of bytes))) bytes
