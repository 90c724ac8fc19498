-- How values, words, bytes and kinds are spelled as parts of a line.
use Rattle.std.specs.Prelude.{ℕ, ◌/◌, ◌%◌, List, [], ◌∷◌, ◌++◌, codes, decimal}
use Rattle.std.specs.Char.{digit_char}
use Rattle.std.specs.Fmt.{signed_decimal}
use Rattle.long_names.specs.declared.value.Value.{Value}
use Rattle.long_names.specs.declared.value.Value.TheVariants.{Int, Ref}
use Rattle.long_names.specs.declared.object.Kind.{Kind}
use Rattle.long_names.specs.declared.object.Kind.TheVariants as kind

-- a SmallInteger has an i behind it, and a name is its number
abbrev pub value_text : Value → List ℕ
value_text (Int z) = signed_decimal z ++ codes "i"
value_text (Ref n) = decimal n

-- two hexadecimal digits for a byte and four for a word, in lower case
abbrev pub byte_text : ℕ → List ℕ
byte_text b = digit_char (b / 16) ∷ digit_char (b % 16) ∷ []

abbrev pub word_text : ℕ → List ℕ
word_text w = byte_text (w / 256) ++ byte_text (w % 256)

abbrev pub kind_text : Kind → List ℕ
kind_text kind.Pointers = codes "pointers"
kind_text kind.Words = codes "words"
kind_text kind.Bytes = codes "bytes"
kind_text kind.Method = codes "method"
