-- What the words of a body mean (the LOOM paper's short pointers, and lambdas for fields that have none).
use Rattle.std.specs.Prelude.{ℕ, ℤ, pos, negsuc, suc, ◌+◌, ◌-◌, ◌*◌, ◌/◌, ◌%◌, ◌==◌, nat_lt, List, [], ◌∷◌, take, drop, get_or, if◌then◌else◌}
use Rattle.long_names.specs.Words.{literal_count}
use Rattle.long_names.specs.declared.limits.TheConstants.{SMALL_INTEGERS, MOST_FIELDS, MOST_CODE}
use Rattle.long_names.specs.declared.value.Value.{Value}
use Rattle.long_names.specs.declared.value.Value.TheVariants.{Int, Ref}
use Rattle.long_names.specs.declared.object.Kind.{Kind}
use Rattle.long_names.specs.declared.object.Kind.TheVariants as kind
use Rattle.long_names.specs.declared.object.Body.{Body}
use Rattle.long_names.specs.declared.object.Body.TheVariants as body
use Rattle.object_table.specs.declared.entry.Entry.{Entry}

-- ---- words

-- the number of an odd short word: its upper 15 bits in two's complement
abbrev pub int_of_short : ℕ → ℤ
int_of_short w = if nat_lt (w / 2) SMALL_INTEGERS then pos (w / 2) else negsuc (2 * SMALL_INTEGERS - 1 - w / 2)

-- What a short word means at field i of an object whose record has these fields: a number, the name of an entry, or, where it is a
-- lambda, what the record has there.
abbrev pub meant : (ℕ → Entry) → List Value → ℕ → ℕ → Value
meant entries old i w = if w % 2 == 1 then Int (int_of_short w) else (if w == 0 then get_or old i (Int (pos 0)) else Ref (entries w).name)

-- the values of words, by what a word means at each field
abbrev pub values_by : (ℕ → ℕ → Value) → List ℕ → List Value
values_by f [] = []
values_by f (w ∷ ws) = f 0 w ∷ values_by (λ i. f (suc i)) ws

-- the bytes of words, two to a word, the high byte first
abbrev pub bytes_in : List ℕ → List ℕ
bytes_in [] = []
bytes_in (w ∷ ws) = w / 256 ∷ w % 256 ∷ bytes_in ws

-- ---- the words of a method: its header, its literals, its code

abbrev pub header_in : List ℕ → ℤ
header_in [] = pos 0
header_in (h ∷ rest) = int_of_short h

abbrev pub literals_in : List ℕ → List ℕ
literals_in [] = []
literals_in (h ∷ rest) = take (literal_count (int_of_short h)) rest

abbrev pub code_in : List ℕ → List ℕ
code_in [] = []
code_in (h ∷ rest) = drop (literal_count (int_of_short h)) rest

-- ---- bodies

-- the words of the fields: those that may be short names
abbrev pub pointers : Kind → List ℕ → List ℕ
pointers kind.Pointers words = words
pointers kind.Words words = []
pointers kind.Bytes words = []
pointers kind.Method words = literals_in words

-- where field i stands among the words
abbrev pub spot : Kind → ℕ → ℕ
spot kind.Pointers i = i
spot kind.Words i = i
spot kind.Bytes i = i
spot kind.Method i = suc i

-- how many words a body has: one for each value and word, one for two bytes, and of a method one for its header and each literal
abbrev pub words_for : Kind → ℕ → ℕ → ℕ
words_for kind.Pointers len literals = len
words_for kind.Words len literals = len
words_for kind.Bytes len literals = (len + 1) / 2
words_for kind.Method len literals = 1 + literals + (len + 1) / 2

-- the most values, words, bytes or code bytes
abbrev pub most_len : Kind → ℕ
most_len kind.Pointers = MOST_FIELDS
most_len kind.Words = MOST_FIELDS
most_len kind.Bytes = MOST_FIELDS
most_len kind.Method = MOST_CODE

-- The body that words are, of so many values, words, bytes or code bytes, where the object's record has these fields.
unfoldable pub body_in : (ℕ → Entry) → List Value → List ℕ → Kind → ℕ → Body
body_in entries old words kind.Pointers len = body.Pointers (values_by (meant entries old) words)
body_in entries old words kind.Words len = body.Words words
body_in entries old words kind.Bytes len = body.Bytes (take len (bytes_in words))
body_in entries old words kind.Method len =
    body.Method (header_in words) (values_by (meant entries old) (literals_in words)) (take len (bytes_in (code_in words)))
