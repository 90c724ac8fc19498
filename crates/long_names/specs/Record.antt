-- Records: the bytes that stand for an object under its name, in an image and in the work file.
use Rattle.std.specs.Prelude.{ℕ, ◌-◌, ◌%◌, List, ◌++◌, length, replicate}
use Rattle.std.specs.List.{flat_map}
use Rattle.std.specs.Int.{w16, w32, w64, to_be_bytes}
use Rattle.long_names.specs.Words.{long_word}
use Rattle.long_names.specs.Objects.{kind_of, len_of}
use Rattle.long_names.specs.declared.value.Value.{Value}
use Rattle.long_names.specs.declared.value.Value.TheVariants.{Int}
use Rattle.long_names.specs.declared.object.Kind.{Kind}
use Rattle.long_names.specs.declared.object.Kind.TheVariants as kind
use Rattle.long_names.specs.declared.object.Body.{Body}
use Rattle.long_names.specs.declared.object.Body.TheVariants.{Pointers, Words, Bytes, Method}
use Rattle.long_names.specs.declared.object.Rec.{Rec}

-- numbers in two, four and eight bytes, the highest byte first
unfoldable pub two_bytes : ℕ → List ℕ
two_bytes n = to_be_bytes w16 n

unfoldable pub four_bytes : ℕ → List ℕ
four_bytes n = to_be_bytes w32 n

unfoldable pub eight_bytes : ℕ → List ℕ
eight_bytes n = to_be_bytes w64 n

-- the four kinds by their numbers
abbrev pub kind_number : Kind → ℕ
kind_number kind.Pointers = 0
kind_number kind.Words = 1
kind_number kind.Bytes = 2
kind_number kind.Method = 3

-- the long words of values, one after the other
abbrev pub values_text : List Value → List ℕ
values_text values = flat_map (λ v. four_bytes (long_word v)) values

abbrev pub words_text : List ℕ → List ℕ
words_text words = flat_map two_bytes words

-- values as long words, words as 16-bit numbers, bytes as they are; of a method the number of its literals, its header, its
-- literals and its code
abbrev pub contents_text : Body → List ℕ
contents_text (Pointers values) = values_text values
contents_text (Words words) = words_text words
contents_text (Bytes bytes) = bytes
contents_text (Method header literals code) = four_bytes (length literals) ++ (four_bytes (long_word (Int header)) ++ (values_text literals ++ code))

-- how many zeros make a length a multiple of four
abbrev pub padding : ℕ → ℕ
padding len = (4 - len % 4) % 4

-- with zeros up to a multiple of four
abbrev pub padded : List ℕ → List ℕ
padded text = text ++ replicate (padding (length text)) 0

-- name, class, count, kind and size
abbrev pub record_head : Rec → List ℕ
record_head r = four_bytes r.name ++ (four_bytes r.class ++ (eight_bytes r.count ++ (two_bytes (kind_number (kind_of r.body)) ++ two_bytes (len_of r.body))))

-- the record of an object
unfoldable pub record_text : Rec → List ℕ
record_text r = padded (record_head r ++ contents_text r.body)
