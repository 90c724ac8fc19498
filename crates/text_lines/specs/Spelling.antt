-- The text of a heap and a state: a line for the next name and the state, and a line for each object, by rising name. Counts aren't written.
use Rattle.std.specs.Prelude.{ℕ, zero, suc, List, [], ◌∷◌, ◌++◌, map, codes, decimal}
use Rattle.std.specs.List.{join_with_byte}
use Rattle.std.specs.Option.{option_map_or}
use Rattle.long_names.specs.Heap.{Heap}
use Rattle.long_names.specs.Objects.{kind_of}
use Rattle.long_names.specs.declared.value.Value.TheVariants.{Int}
use Rattle.long_names.specs.declared.object.Body.{Body}
use Rattle.long_names.specs.declared.object.Body.TheVariants.{Pointers, Words, Bytes, Method}
use Rattle.long_names.specs.declared.object.Object.{Object}
use Rattle.image_format.specs.declared.opening.State.{State}
use Rattle.text_lines.specs.PartSpelling.{byte_text, kind_text, value_text, word_text}

-- ---- the parts of a line

-- values, words or bytes; of a method the header, the literals, and behind `code` the bytes of code
abbrev pub contents_parts : Body → List (List ℕ)
contents_parts (Pointers values) = map value_text values
contents_parts (Words words) = map word_text words
contents_parts (Bytes bytes) = map byte_text bytes
contents_parts (Method header literals code) = value_text (Int header) ∷ (map value_text literals ++ codes "code" ∷ map byte_text code)

abbrev pub object_parts : ℕ → Object → List (List ℕ)
object_parts name o = decimal name ∷ decimal o.class ∷ kind_text (kind_of o.body) ∷ contents_parts o.body

abbrev pub head_parts : ℕ → State → List (List ℕ)
head_parts next s = codes "loom" ∷ decimal next ∷ decimal s.clock ∷ decimal s.display ∷ decimal s.input ∷ decimal s.timer ∷ decimal s.tick ∷ []

-- ---- lines

-- a single space (32) stands between two parts, and a newline (10) behind the last
abbrev pub line_of : List (List ℕ) → List ℕ
line_of parts = join_with_byte 32 parts ++ 10 ∷ []

-- the line of the object of a name, if there is one
abbrev pub name_line : Heap → ℕ → List ℕ
name_line h n = option_map_or (λ (o : Object). line_of (object_parts n o)) (h.at n) []

-- the lines of the objects below a name, by rising name
abbrev pub lines_below : Heap → ℕ → List ℕ
lines_below h zero = []
lines_below h (suc n) = lines_below h n ++ name_line h n

unfoldable pub heap_text : Heap → State → List ℕ
heap_text h s = line_of (head_parts h.next s) ++ lines_below h h.next
