-- What rules of primitives begin with, and what those end with that store text or use streams.
use Rattle.std.specs.Prelude.{ℕ, ℤ, pos, Bool}
use Rattle.long_names.specs.declared.value.Value.{Value}
use Rattle.long_names.specs.declared.value.Value.TheVariants.{Int}
use Rattle.blue_model.specs.declared.answer.Answer.{Answer}
use Rattle.blue_model.specs.declared.spot.Spot.{Spot}
use Rattle.blue_model.specs.declared.indexes.TheConstants.{STREAM_ARRAY_INDEX, STREAM_INDEX_INDEX, STREAM_SIZE}
use Rattle.blue_model.specs.Machine.{Rule, ◌>>=◌, ◌>>◌}
use Rattle.blue_model.specs.Parts.{size, field, number}
use Rattle.blue_model.specs.Contexts.{stack}
use Rattle.blue_model.specs.Trials.{◌>>?◌, peek, where_some, answer}
use Rattle.blue_model.specs.Elements.{natural, index_argument, element_of, variable_of, text_at, byte_of_character, put_element}
use Rattle.blue_model.specs.Storage.{streamed, advance}

-- the receiver and one argument,
abbrev pub of_one : (Value → Value → Rule Answer) → Rule Answer
of_one rest = do
  receiver ← stack 1
  argument ← stack 0
  rest receiver argument

-- or two arguments
abbrev pub of_two : (Value → Value → Value → Rule Answer) → Rule Answer
of_two rest = do
  receiver ← stack 2
  argument ← stack 1
  v ← stack 0
  rest receiver argument v

-- where the element stands that an index argument says,
abbrev pub at_element : Value → Value → (Spot → Rule Answer) → Rule Answer
at_element receiver argument rest = index_argument argument >>? λ i. element_of receiver i >>? rest

-- or the variable
abbrev pub at_variable : Value → Value → (Spot → Rule Answer) → Rule Answer
at_variable receiver argument rest = peek (size 0) receiver >>? λ n. index_argument argument >>? λ i. variable_of receiver i >>? rest

-- the array of a stream, and whether it is text,
abbrev pub of_array : Value → (Value → Bool → Rule Answer) → Rule Answer
of_array stream rest = peek (field STREAM_SIZE STREAM_ARRAY_INDEX) stream >>? λ array. streamed array >>? λ text. rest array text

-- and its index and one of its limits
abbrev pub of_numbers : ℕ → Value → (ℕ → ℤ → Rule Answer) → Rule Answer
of_numbers limit stream rest = peek (number STREAM_SIZE STREAM_INDEX_INDEX) stream >>? λ z. peek (number STREAM_SIZE limit) stream >>? λ bound. where_some (natural z) (λ index. rest index bound)

-- a character's byte is stored there in text
abbrev pub put_character : Value → Spot → Value → Rule Answer → Rule Answer
put_character receiver spot v rest = peek (text_at spot) receiver >>? λ old. byte_of_character v >>? λ byte. put_element receiver spot (Int (pos byte)) rest

-- one element more of a stream was read or written, and a value is answered to a message of n arguments
abbrev pub advanced : Value → ℕ → ℕ → Value → Rule Answer
advanced stream index n v = advance stream index >> answer n v
