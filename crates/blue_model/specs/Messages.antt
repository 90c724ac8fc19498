-- Methods and messages (chapters 27 and 28): what a method's header says, the message that is sent, the end of the chain, and the
-- activation of a method.
use Rattle.std.specs.Prelude.{ℕ, ℤ, pos, ◌-ℤ◌, ◌+◌, ◌-◌, ◌*◌, ◌/◌, ◌%◌, ◌==◌, nat_lt, List, length, Option, Some, None, if◌then◌else◌}
use Rattle.std.specs.List.{slice_get}
use Rattle.std.specs.Option.{option_and_then}
use Rattle.long_names.specs.declared.value.Value.{Value}
use Rattle.long_names.specs.declared.value.Value.TheVariants.{Int}
use Rattle.long_names.specs.declared.object.Object.{Object}
use Rattle.long_names.specs.Names.{ARRAY, METHOD_CONTEXT, MESSAGE, DOES_NOT_UNDERSTAND}
use Rattle.long_names.specs.Words.{unsigned_of, literal_count}
use Rattle.long_names.specs.Objects.{OfPointers, int_of, is_ref, literals_of}
use Rattle.long_names.specs.State.{ACTIVE_CONTEXT, SELECTOR, NEW_METHOD}
use Rattle.blue_model.specs.declared.cause.Cause.TheVariants.{Stack, Shape, NotUnderstood}
use Rattle.blue_model.specs.declared.indexes.TheConstants.{SENDER_INDEX, INSTRUCTION_POINTER_INDEX, STACK_POINTER_INDEX, METHOD_INDEX, RECEIVER_INDEX, SMALL_CONTEXT_SIZE, LARGE_CONTEXT_SIZE, MESSAGE_SELECTOR_INDEX, MESSAGE_ARGUMENTS_INDEX, MESSAGE_SIZE}
use Rattle.blue_model.specs.declared.limits.TheConstants.{SELF_FLAG, EXTENSION_FLAG, FLAG_UNIT, TEMPORARIES_UNIT, LARGE_CONTEXT_BIT}
use Rattle.blue_model.specs.Machine.{Rule, ◌>>=◌, ◌>>◌, done, halt, given, pick, each, register, put_register, numbers, set_numbers, part, known, make}
use Rattle.blue_model.specs.Parts.{size, heading}
use Rattle.blue_model.specs.Contexts.{stack_place, store_field, push, stack, pop, enter}
use Rattle.blue_model.specs.Lookup.{find}

-- ---- methods (chapter 27, compiled methods)

-- below `SELF_FLAG` so many arguments, and no primitive; the method answers self, or a field of the receiver, or it has an extension
abbrev pub flag_of : ℤ → ℕ
flag_of header = unsigned_of header / FLAG_UNIT

-- how many temporaries, arguments among them; with `FIELD_FLAG` the number of the field
abbrev pub temporaries_of : ℤ → ℕ
temporaries_of header = unsigned_of header / TEMPORARIES_UNIT % 32

-- how many fields its context has
abbrev pub context_size : ℤ → ℕ
context_size header = if unsigned_of header / LARGE_CONTEXT_BIT % 2 == 1 then LARGE_CONTEXT_SIZE else SMALL_CONTEXT_SIZE

-- field 1 of its context at first: its header and literals take two bytes each, and the pointer is counted from 1
abbrev pub first_pointer : ℤ → ℤ
first_pointer header = pos (2 * (literal_count header + 1) + 1)

-- the last literal of a method, which is the association of the class that it stands in
unfoldable pub last_literal : Object → Option Value
last_literal o = option_and_then (λ (literals : List Value). slice_get literals (length literals - 1)) (literals_of o.body)

-- the literal before the last
unfoldable pub literal_before_last : Object → Option Value
literal_before_last o = option_and_then (λ (literals : List Value). if nat_lt 1 (length literals) then slice_get literals (length literals - 2) else None) (literals_of o.body)

-- the header extension of a method is a number
unfoldable pub extension : Object → Option ℤ
extension o = option_and_then int_of (literal_before_last o)

abbrev pub primitive_of : ℤ → ℕ
primitive_of extension = unsigned_of extension % 256

abbrev pub extension_arguments : ℤ → ℕ
extension_arguments extension = unsigned_of extension / 256 % 32

-- of a method without a header extension
abbrev pub flag_arguments : ℕ → ℕ
flag_arguments flag = if nat_lt flag SELF_FLAG then flag else 0

-- argumentCountOf: (chapter 28)
unfoldable pub arguments_of : Value → Rule ℕ
arguments_of method = do
  header ← part Shape heading method
  pick (flag_of header == EXTENSION_FLAG) (part Shape extension method >>= λ it. done (extension_arguments it)) (done (flag_arguments (flag_of header)))

-- ---- the message

unfoldable pub set_arguments : ℕ → Rule (Unit {0})
set_arguments n = do
  cpu ← numbers
  set_numbers (record cpu { args = n })

-- a value of the stack is replaced
unfoldable pub put_stack : ℕ → Value → Rule (Unit {0})
put_stack depth v = do
  cpu ← numbers
  active ← register ACTIVE_CONTEXT
  len ← part Shape (size 0) active
  place ← given Stack (stack_place (cpu.sp -ℤ pos depth) len)
  store_field active place v

-- ---- the end of the chain

-- argument i goes into an array, in order; the last is on top of the stack
unfoldable pub copy_argument : ℕ → Value → ℕ → Rule (Unit {0})
copy_argument n array i = do
  v ← stack (n - 1 - i)
  store_field array i v

-- an array of the arguments
unfoldable pub make_arguments : ℕ → Rule Value
make_arguments n = do
  arrays ← known ARRAY
  array ← make arrays (OfPointers n)
  each (copy_argument n array) n
  done array

unfoldable pub make_message : Value → Value → Rule Value
make_message selector array = do
  messages ← known MESSAGE
  message ← make messages (OfPointers MESSAGE_SIZE)
  store_field message MESSAGE_SELECTOR_INDEX selector
  store_field message MESSAGE_ARGUMENTS_INDEX array
  done message

-- createActualMessage (chapter 28): the message takes the place of the arguments on the stack
unfoldable pub create_message : Value → ℕ → Rule (Unit {0})
create_message selector n = do
  array ← make_arguments n
  message ← make_message selector array
  pop n
  push message

-- the same class is asked for doesNotUnderstand:, with the message as its argument
unfoldable pub tell : Value → Value → Rule (Unit {0})
tell class selector = do
  cpu ← numbers
  create_message selector cpu.args
  told ← known DOES_NOT_UNDERSTAND
  put_register SELECTOR told
  set_arguments 1
  found ← find class
  pick found (done tt) (halt NotUnderstood)

-- findNewMethodInClass: (chapter 28), with doesNotUnderstand: in place of a message that no class of the chain has
unfoldable pub find_or_tell : Value → Rule (Unit {0})
find_or_tell class = do
  found ← find class
  selector ← register SELECTOR
  pick found (done tt) (pick (is_ref DOES_NOT_UNDERSTAND selector) (halt NotUnderstood) (tell class selector))

-- ---- activation

-- receiver and arguments, in order, from field 5 of a new context on, if it has the field
abbrev pub argument_place : ℕ → ℕ → Option ℕ
argument_place len k = if nat_lt (RECEIVER_INDEX + k) len then Some (RECEIVER_INDEX + k) else None

unfoldable pub pass : ℕ → ℕ → Value → ℕ → Rule (Unit {0})
pass n len context k = do
  place ← given Stack (argument_place len k)
  v ← stack (n - k)
  store_field context place v

-- where a method's first byte is found, and how deep its stack is at first
unfoldable pub fill_context : Value → Value → ℤ → Rule (Unit {0})
fill_context context method header = do
  active ← register ACTIVE_CONTEXT
  store_field context SENDER_INDEX active
  store_field context INSTRUCTION_POINTER_INDEX (Int (first_pointer header))
  store_field context STACK_POINTER_INDEX (Int (pos (temporaries_of header)))
  store_field context METHOD_INDEX method

-- a context for a method with this header and n arguments. It is made before anything is tested
unfoldable pub make_context : Value → ℤ → ℕ → Rule Value
make_context method header n = do
  contexts ← known METHOD_CONTEXT
  context ← make contexts (OfPointers (context_size header))
  fill_context context method header
  each (pass n (context_size header) context) (n + 1)
  done context

-- activateNewMethod (chapter 28)
unfoldable pub activate : Rule (Unit {0})
activate = do
  cpu ← numbers
  method ← register NEW_METHOD
  header ← part Shape heading method
  context ← make_context method header cpu.args
  pop (cpu.args + 1)
  enter context
