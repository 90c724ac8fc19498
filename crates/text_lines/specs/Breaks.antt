-- The image that a text is read as, and the line and rule at which a text breaks first. The grammar is rule 0. A rule's number is that of an image's rule, and its place is a line.
use Rattle.std.specs.Prelude.{ℕ, ◌+◌, ◌%◌, ◌&&◌, ◌==◌, nat_lt, nat_le, not, Bool, true, List, [], ◌∷◌, length, map, Option, Some, None, option_map, Result, Ok, Err, if◌then◌else◌}
use Rattle.std.specs.List.{slice_split}
use Rattle.long_names.specs.Words.{literal_count}
use Rattle.long_names.specs.declared.limits.TheConstants.{MOST_CODE}
use Rattle.long_names.specs.declared.object.Body.{Body}
use Rattle.long_names.specs.declared.object.Body.TheVariants.{Pointers, Words, Bytes, Method}
use Rattle.long_names.specs.declared.object.Rec.{Rec}
use Rattle.image_format.specs.declared.fault.Break.{Break}
use Rattle.image_format.specs.declared.head.TheConstants.{FEWEST_OBJECTS, MOST_OBJECTS}
use Rattle.image_format.specs.declared.opening.TheConstants.{STATE_VERSION}
use Rattle.image_format.specs.declared.opening.ImageHead.{ImageHead}
use Rattle.image_format.specs.Heads.{is_next, is_state_word, is_tick}
use Rattle.image_format.specs.Rules.{Image, break, whole_break, words_in}
use Rattle.text_lines.specs.Grammar as grammar
use Rattle.text_lines.specs.Grammar.{Head, head_of, object_of, parts_of}

-- ---- one reading after another

infixl 10 ◌>>=◌
abbrev pub ◌>>=◌ : {A B : Type 0} → Result A Break → (A → Result B Break) → Result B Break
(Ok x) >>= f = f x
(Err b) >>= f = Err b

abbrev pub broken : {A : Type 0} → ℕ → ℕ → Result A Break
broken rule line = Err (break rule line)

-- what a line states, or else it breaks the grammar
abbrev pub stated : {A : Type 0} → ℕ → Option A → Result A Break
stated line (Some x) = Ok x
stated line None = broken 0 line

-- what keeps a rule
abbrev pub keeping : ℕ → ℕ → Bool → Result (Unit {0}) Break
keeping rule line true = Ok tt
keeping rule line _ = broken rule line

-- ---- line 1

-- rule 13
abbrev pub keeps_state : Head → Bool
keeps_state h = is_state_word h.next h.state.display && (is_state_word h.next h.state.input && (is_state_word h.next h.state.timer && is_tick h.state.timer h.state.tick))

unfoldable pub head_at : List ℕ → Result Head Break
head_at line = do
  head ← stated 1 (grammar.◌>>=◌ (parts_of line) head_of)
  next ← keeping 3 1 (is_next head.next)
  state ← keeping 13 1 (keeps_state head)
  Ok head

-- ---- the line of an object

-- rule 3: line 1 states no object, and the others state one each
abbrev pub keeps_count : ℕ → Bool
keeps_count line = nat_le line (MOST_OBJECTS + 1)

-- rule 4
abbrev pub keeps_order : ℕ → ℕ → ℕ → Bool
keeps_order last next name = name % 2 == 0 && (nat_lt last name && nat_lt name next)

-- rule 7
abbrev pub keeps_size : Body → Bool
keeps_size (Pointers values) = true
keeps_size (Words words) = true
keeps_size (Bytes bytes) = true
keeps_size (Method header literals code) = nat_le (length code) MOST_CODE && literal_count header == length literals

unfoldable pub object_at : ℕ → ℕ → ℕ → List ℕ → Result Rec Break
object_at number last next line = do
  object ← stated number (grammar.◌>>=◌ (parts_of line) object_of)
  count ← keeping 3 number (keeps_count number)
  order ← keeping 4 number (keeps_order last next object.name)
  size ← keeping 7 number (keeps_size object.body)
  Ok object

-- ---- the text

-- the lines from this number on, up to the text's end: behind the last newline nothing stands
unfoldable pub objects_at : ℕ → ℕ → ℕ → List (List ℕ) → Result (List Rec) Break
objects_at number last next [] = Ok []
objects_at number last next (tail ∷ []) = if length tail == 0 then Ok [] else broken 0 number
objects_at number last next (line ∷ more ∷ lines) = do
  first ← object_at number last next line
  others ← objects_at (number + 1) first.name next (more ∷ lines)
  Ok (first ∷ others)

-- each record with its count, which is the number of words of all records that are its name
abbrev pub with_counts : List Rec → List Rec
with_counts recs = map (λ (r : Rec). record { name = r.name; class = r.class; count = words_in recs r.name; body = r.body }) recs

abbrev pub image_of : Head → List Rec → Image
image_of head recs = record { head = record { opening = record { version = STATE_VERSION; objects = length recs; next = head.next }; state = head.state }; recs = with_counts recs }

unfoldable pub lines_at : List (List ℕ) → Result Image Break
lines_at [] = broken 0 1
lines_at (line ∷ []) = broken 0 1
lines_at (line ∷ more ∷ lines) = do
  head ← head_at line
  recs ← objects_at 2 0 head.next (more ∷ lines)
  enough ← keeping 3 1 (nat_le FEWEST_OBJECTS (length recs))
  Ok (image_of head recs)

-- the image of version 2 that a text is read as: the lines are what newlines (10) end
abbrev pub text_at : List ℕ → Result Image Break
text_at text = lines_at (slice_split (λ b. b == 10) text)

-- ---- the first break

-- the line of a name: line 2 has the first record
abbrev pub line_of_name : List Rec → ℕ → ℕ
line_of_name [] name = 2
line_of_name (r ∷ rs) name = if r.name == name then 2 else line_of_name rs name + 1

-- what an object breaks is told with its line; what is missing has none, and is told with 0
abbrev pub at_line : List Rec → Break → Break
at_line recs b = if nat_lt b.rule 12 then break b.rule (line_of_name recs b.place) else break b.rule 0

abbrev pub first_break_of : Result Image Break → Option Break
first_break_of (Err b) = Some b
first_break_of (Ok x) = option_map (at_line x.recs) (whole_break x)

-- The first line that breaks the grammar or one of the rules 3, 4, 7 and 13; where none does, the line of the lowest object that breaks rule 10, else rule 11; else rule 12 and then 14. None where the text is that of an image.
unfoldable pub text_break : List ℕ → Option Break
text_break text = first_break_of (text_at text)
