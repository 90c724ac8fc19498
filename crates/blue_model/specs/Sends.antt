-- Sends and returns (chapter 28): execution of a method by its header, messages by their selectors, and what is sent where the
-- machine can't go on.
use Rattle.std.specs.Prelude.{List, ℕ, ℤ, pos, negsuc, ◌+◌, ◌*◌, ◌==◌, ◌&&◌, ◌||◌, Bool, true, false, nat_lt, Option, Some, None, if◌then◌else◌}
use Rattle.long_names.specs.declared.value.Value.{Value}
use Rattle.long_names.specs.Names.{CANNOT_RETURN, SPECIAL_SELECTORS, MUST_BE_BOOLEAN}
use Rattle.long_names.specs.State.{ACTIVE_CONTEXT, METHOD, SELECTOR, NEW_METHOD}
use Rattle.blue_model.specs.declared.answer.Answer.{Answer}
use Rattle.blue_model.specs.declared.answer.Answer.TheVariants.{Done, Failed, Execute, Quit, Keep}
use Rattle.blue_model.specs.declared.cause.Cause.TheVariants.{Shape}
use Rattle.blue_model.specs.declared.event.Line.{Line}
use Rattle.blue_model.specs.declared.step.Step.{Step}
use Rattle.blue_model.specs.declared.indexes.TheConstants.{VALUE_INDEX, ASSOCIATION_SIZE, INSTRUCTION_POINTER_INDEX, SUPERCLASS_INDEX}
use Rattle.blue_model.specs.declared.limits.TheConstants.{SELF_FLAG, FIELD_FLAG, EXTENSION_FLAG, MOST_ARGUMENTS}
use Rattle.blue_model.specs.Machine.{Rule, ◌>>=◌, ◌>>◌, done, given, pick, register, put_register, numbers, part, known, class_of}
use Rattle.blue_model.specs.Parts.{is_nil, field, number, heading}
use Rattle.blue_model.specs.Contexts.{push, stack, back_with}
use Rattle.blue_model.specs.Messages.{flag_of, temporaries_of, last_literal, extension, primitive_of, set_arguments, put_stack, find_or_tell, activate}
use Rattle.blue_model.specs.Primitives.{is_perform, primitive, has_failed, step_of, then_next}

-- ---- execution

-- the receiver is replaced by one of its fields; arguments stay where they are
unfoldable pub answer_field : ℕ → Rule (Unit {0})
answer_field i = do
  cpu ← numbers
  receiver ← stack cpu.args
  v ← part Shape (field 0 i) receiver
  put_stack cpu.args v

-- the answer of what a method does by its primitive, or by what comes in its place
abbrev pub is_execute : Answer → Bool
is_execute Done = false
is_execute Failed = false
is_execute Execute = true
is_execute Quit = false
is_execute Keep = false

-- a method with a header extension: primitive 0 is none, and another is tried first. Of a method that a perform found, neither perform
-- is tried again
unfoldable pub execute_extended : List Line → Bool → Value → Rule Answer
execute_extended events performed method = do
  it ← part Shape extension method
  pick (primitive_of it == 0 || (performed && is_perform (primitive_of it))) (activate >> done Done) (primitive events (primitive_of it) >>= λ answer. pick (has_failed answer) (activate >> done Done) (done answer))

-- a method by its header: it answers self, or a field of the receiver, or its primitive is tried, or it is activated
unfoldable pub execute_method : List Line → Bool → Rule Answer
execute_method events performed = do
  method ← register NEW_METHOD
  header ← part Shape heading method
  pick (flag_of header == SELF_FLAG) (done Done) (pick (flag_of header == FIELD_FLAG) (answer_field (temporaries_of header) >> done Done) (pick (flag_of header == EXTENSION_FLAG) (execute_extended events performed method) (activate >> done Done)))

-- executeNewMethod (chapter 28), and the method that a perform found
unfoldable pub execute : List Line → Rule Step
execute events = do
  answer ← execute_method events false
  pick (is_execute answer) (execute_method events true >>= λ last. done (step_of last)) (done (step_of answer))

-- ---- sends

unfoldable pub send_from : List Line → Value → Value → ℕ → Rule Step
send_from events class selector n = do
  put_register SELECTOR selector
  set_arguments n
  find_or_tell class
  execute events

-- sendSelector:argumentCount: (chapter 28)
unfoldable pub send : List Line → Value → ℕ → Rule Step
send events selector n = do
  receiver ← stack n
  class ← class_of receiver
  send_from events class selector n

-- to super: the class above the one that the method stands in
unfoldable pub send_super : List Line → Value → ℕ → Rule Step
send_super events selector n = do
  stack n
  method ← register METHOD
  association ← part Shape last_literal method
  here ← part Shape (field ASSOCIATION_SIZE VALUE_INDEX) association
  class ← part Shape (field 0 SUPERCLASS_INDEX) here
  send_from events class selector n

-- how many arguments a special selector has
abbrev pub argument_count : ℤ → Option ℕ
argument_count (pos n) = if nat_lt n (MOST_ARGUMENTS + 1) then Some n else None
argument_count (negsuc n) = None

-- the special selectors stand in an array with their numbers of arguments
unfoldable pub special_send : List Line → ℕ → Rule Step
special_send events s = do
  specials ← known SPECIAL_SELECTORS
  selector ← part Shape (field (2 * s + 2) (2 * s)) specials
  z ← part Shape (number (2 * s + 2) (2 * s + 1)) specials
  n ← given Shape (argument_count z)
  send events selector n

-- cannotReturn: (chapter 28), with the value that can't be returned
unfoldable pub cannot_return : List Line → Value → Rule Step
cannot_return events v = do
  active ← register ACTIVE_CONTEXT
  push active
  push v
  selector ← known CANNOT_RETURN
  send events selector 1

-- mustBeBoolean (chapter 28): the value goes back on the stack
unfoldable pub must_be_boolean : List Line → Value → Rule Step
must_be_boolean events v = do
  push v
  selector ← known MUST_BE_BOOLEAN
  send events selector 0

-- ---- returns

-- returnValue:to: (chapter 28). cannotReturn: is sent where the context is nil or has ended
unfoldable pub return_to : List Line → Value → Value → Rule Step
return_to events context v = pick (is_nil context) (cannot_return events v) (do
  ip ← part Shape (field 0 INSTRUCTION_POINTER_INDEX) context
  pick (is_nil ip) (cannot_return events v) (then_next (back_with context v)))
