-- The lines of an image's text, part by part: what each line states, or none where it breaks the grammar.
use Rattle.std.specs.Prelude.{ℕ, nat_lt, nat_le, List, [], ◌∷◌, length, Option, Some, None, option_map, if◌then◌else◌}
use Rattle.std.specs.List.{slice_split}
use Rattle.long_names.specs.declared.limits.TheConstants.{MOST_FIELDS}
use Rattle.long_names.specs.declared.value.Value.{Value}
use Rattle.long_names.specs.declared.object.Kind.{Kind}
use Rattle.long_names.specs.declared.object.Kind.TheVariants as kind
use Rattle.long_names.specs.declared.object.Body.{Body}
use Rattle.long_names.specs.declared.object.Body.TheVariants.{Pointers, Words, Bytes, Method}
use Rattle.long_names.specs.declared.object.Rec.{Rec}
use Rattle.image_format.specs.declared.opening.State.{State}
use Rattle.text_lines.specs.declared.limits.TheConstants.{LONGEST_LINE}
use Rattle.text_lines.specs.Parts.{is_space, is_code, is_loom, byte_of, kind_of, long_of, name_of, number_of, small_of, that_is, value_of, word_of}

-- ---- one reading after another

infixl 10 ◌>>=◌
abbrev pub ◌>>=◌ : {A B : Type 0} → Option A → (A → Option B) → Option B
None >>= f = None
(Some x) >>= f = f x

-- ---- a line

-- the parts between its spaces; none where it is too long
abbrev pub parts_of : List ℕ → Option (List (List ℕ))
parts_of line = if nat_lt LONGEST_LINE (length line) then None else Some (slice_split is_space line)

-- what each part is, if each is something
unfoldable pub each_of : {X : Type 0} → (List ℕ → Option X) → List (List ℕ) → Option (List X)
each_of read [] = Some []
each_of read (part ∷ parts) = do
  first ← read part
  others ← each_of read parts
  Some (first ∷ others)

-- as many as an object has that is no method
abbrev pub fields_of : {X : Type 0} → (List ℕ → Option X) → List (List ℕ) → Option (List X)
fields_of read parts = that_is (λ xs. nat_le (length xs) MOST_FIELDS) (each_of read parts)

-- a method's literals and its code, behind the first `code`
unfoldable pub code_of : List (List ℕ) → Option (List Value × List ℕ)
code_of [] = None
code_of (part ∷ parts) = if is_code part then (option_map (λ code. ([], code)) (each_of byte_of parts)) else do
  literal ← value_of part
  others ← code_of parts
  Some (literal ∷ others.0, others.1)

unfoldable pub method_of : List (List ℕ) → Option Body
method_of [] = None
method_of (part ∷ parts) = do
  header ← small_of part
  others ← code_of parts
  Some (Method header others.0 others.1)

abbrev pub body_of : Kind → List (List ℕ) → Option Body
body_of kind.Pointers parts = option_map Pointers (fields_of value_of parts)
body_of kind.Words parts = option_map Words (fields_of word_of parts)
body_of kind.Bytes parts = option_map Bytes (fields_of byte_of parts)
body_of kind.Method parts = method_of parts

-- the object of a line, under its name, which may be any number; its count isn't written
unfoldable pub object_of : List (List ℕ) → Option Rec
object_of [] = None
object_of (name ∷ []) = None
object_of (name ∷ class ∷ []) = None
object_of (name ∷ class ∷ kind ∷ contents) = do
  name ← number_of name
  class ← name_of class
  kind ← kind_of kind
  body ← body_of kind contents
  Some (record { name = name; class = class; count = 0; body = body })

-- what the first line states
pub record Head : Type 0 where
  pub next : ℕ
  pub state : State

unfoldable pub head_of : List (List ℕ) → Option Head
head_of (loom ∷ next ∷ clock ∷ display ∷ input ∷ timer ∷ tick ∷ []) = if is_loom loom then (do
  next ← long_of next
  clock ← long_of clock
  display ← long_of display
  input ← long_of input
  timer ← long_of timer
  tick ← long_of tick
  Some (record { next = next; state = record { clock = clock; display = display; input = input; timer = timer; tick = tick } })) else None
head_of parts = None

-- ---- what a line states

abbrev pub line_object : List ℕ → Option Rec
line_object line = parts_of line >>= object_of

abbrev pub line_head : List ℕ → Option Head
line_head line = parts_of line >>= head_of
