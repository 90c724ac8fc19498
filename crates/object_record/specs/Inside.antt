-- Where the parts of a record stand. No public clause cites it.
use Rattle.std.specs.Prelude.{◌≡◌, ℕ, ◌+◌, ◌*◌, ◌≤◌, List, ◌++◌, take, drop, Some}
use Rattle.long_names.specs.Names.{IsName}
use Rattle.long_names.specs.declared.limits.TheConstants.{MOST_CODE}
use Rattle.long_names.specs.Record.{two_bytes, four_bytes, eight_bytes, padding}
use Rattle.long_names.specs.declared.object.Kind.{Kind}
use Rattle.long_names.specs.declared.object.Kind.TheVariants as kind
use Rattle.object_record.specs.declared.offsets.TheConstants.{NAME_AT, CLASS_AT, KIND_AT, SIZE_AT, CONTENTS_AT, HEADER_AT, LITERALS_AT}
use Rattle.object_record.specs.declared.layout.TheConstants.{LAST_KIND}
use Rattle.object_record.specs.Raw.{stated_literals}
use Rattle.object_record.specs.Buffer.{long_at, word_at, kind_numbered}

-- the first long word, or a method's first literal
abbrev pub longs_place : Kind → ℕ
longs_place kind.Pointers = CONTENTS_AT
longs_place kind.Words = CONTENTS_AT
longs_place kind.Bytes = CONTENTS_AT
longs_place kind.Method = LITERALS_AT

-- the first byte, or a method's first byte of code, past so many literals
abbrev pub bytes_place : Kind → ℕ → ℕ
bytes_place kind.Pointers literals = CONTENTS_AT
bytes_place kind.Words literals = CONTENTS_AT
bytes_place kind.Bytes literals = CONTENTS_AT
bytes_place kind.Method literals = LITERALS_AT + 4 * literals

-- how many bytes contents of this kind, size and number of literals have
abbrev pub size_stated : Kind → ℕ → ℕ → ℕ
size_stated kind.Pointers size literals = 4 * size
size_stated kind.Words size literals = 2 * size
size_stated kind.Bytes size literals = size
size_stated kind.Method size literals = 8 + 4 * literals + size

-- the size and the literals are those of an object of the kind; the size has 16 bits
abbrev pub HasStated : Kind → ℕ → ℕ → ℕ → Type 0
HasStated kind.Pointers size literals header = Unit {0}
HasStated kind.Words size literals header = Unit {0}
HasStated kind.Bytes size literals header = Unit {0}
HasStated kind.Method size literals header = (size ≤ MOST_CODE) × (stated_literals header ≡ Some literals)

-- where the contents end
abbrev pub end_stated : List ℕ → ℕ
end_stated bytes = CONTENTS_AT + size_stated (kind_numbered (word_at bytes KIND_AT)) (word_at bytes SIZE_AT) (long_at bytes CONTENTS_AT)

-- what stands where the zeros have to
abbrev pub zeros_stated : List ℕ → List ℕ
zeros_stated bytes = take (padding (end_stated bytes)) (drop (end_stated bytes) bytes)

-- all that a record's first bytes have to be, but for the zeros
abbrev pub IsSized : List ℕ → Type 0
IsSized bytes =
    (IsName (long_at bytes NAME_AT) × IsName (long_at bytes CLASS_AT))
    × (word_at bytes KIND_AT ≤ LAST_KIND)
    × HasStated (kind_numbered (word_at bytes KIND_AT)) (word_at bytes SIZE_AT) (long_at bytes CONTENTS_AT) (long_at bytes HEADER_AT)

-- name, class, count, kind and size, before the rest
abbrev pub head_text : ℕ → ℕ → ℕ → ℕ → ℕ → List ℕ → List ℕ
head_text name class count kind size rest = four_bytes name ++ (four_bytes class ++ (eight_bytes count ++ (two_bytes kind ++ (two_bytes size ++ rest))))

-- a kind without literals
abbrev pub IsPlain : Kind → Type 0
IsPlain kind.Pointers = Unit {0}
IsPlain kind.Words = Unit {0}
IsPlain kind.Bytes = Unit {0}
IsPlain kind.Method = ⊥
