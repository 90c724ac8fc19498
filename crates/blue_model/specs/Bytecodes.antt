-- The bytecodes (chapter 28): a table of ranges, each with its rule. The first range that has a byte says what it does.
use Rattle.std.specs.Prelude.{ℕ, ℤ, pos, ◌-ℤ◌, ◌+◌, ◌-◌, ◌*◌, ◌/◌, ◌%◌, ◌==◌, ◌&&◌, ◌||◌, Bool, false, is_some, nat_lt, nat_le, List, [], ◌∷◌, Option, Some, None, if◌then◌else◌}
use Rattle.std.specs.List.{slice_index_or}
use Rattle.long_names.specs.declared.value.Value.{Value}
use Rattle.long_names.specs.declared.value.Value.TheVariants.{Int, Ref}
use Rattle.long_names.specs.Names.{NIL, FALSE, TRUE, METHOD_CONTEXT, BLOCK_CONTEXT}
use Rattle.long_names.specs.Objects.{int_of, is_ref}
use Rattle.long_names.specs.State.{ACTIVE_CONTEXT, HOME, METHOD, RECEIVER}
use Rattle.blue_model.specs.declared.cause.Cause.TheVariants.{Unused, Stack, Shape}
use Rattle.blue_model.specs.declared.event.Line.{Line}
use Rattle.blue_model.specs.declared.step.Step.{Step}
use Rattle.blue_model.specs.declared.step.Step.TheVariants.{Next}
use Rattle.blue_model.specs.declared.indexes.TheConstants.{VALUE_INDEX, ASSOCIATION_SIZE, SENDER_INDEX, TEMP_FRAME_START}
use Rattle.blue_model.specs.declared.primitives.TheConstants.{PRIMITIVE_ADD, PRIMITIVE_SUBTRACT, PRIMITIVE_LESS_THAN, PRIMITIVE_GREATER_THAN, PRIMITIVE_LESS_OR_EQUAL, PRIMITIVE_GREATER_OR_EQUAL, PRIMITIVE_EQUAL, PRIMITIVE_NOT_EQUAL, PRIMITIVE_MULTIPLY, PRIMITIVE_DIVIDE, PRIMITIVE_MOD, PRIMITIVE_MAKE_POINT, PRIMITIVE_BIT_SHIFT, PRIMITIVE_DIV, PRIMITIVE_BIT_AND, PRIMITIVE_BIT_OR, PRIMITIVE_EQUIVALENT, PRIMITIVE_CLASS, PRIMITIVE_BLOCK_COPY, PRIMITIVE_VALUE, SPECIAL_AT, SPECIAL_EQUIVALENT, SPECIAL_CLASS, SPECIAL_BLOCK_COPY, SPECIAL_VALUE, SPECIAL_VALUE_WITH_ARGUMENT, SPECIAL_DO}
use Rattle.blue_model.specs.Machine.{Rule, ◌>>=◌, ◌>>◌, done, halt, given, pick, register, part, known, class_of}
use Rattle.blue_model.specs.Parts.{size, field, literal}
use Rattle.blue_model.specs.Contexts.{store_field, push, stack, pop, pop_top, fetch, jump}
use Rattle.blue_model.specs.Messages.{set_arguments}
use Rattle.blue_model.specs.Primitives.{then_next, tried}
use Rattle.blue_model.specs.Sends.{send, send_super, special_send, must_be_boolean, return_to}

-- ---- variables

-- a receiver variable, which a receiver of pointers has
unfoldable pub receiver_variable : ℕ → Rule Value
receiver_variable i = do
  receiver ← register RECEIVER
  part Shape (field 0 i) receiver

-- the field of a temporary, in a context with so many fields
abbrev pub temporary_place : ℕ → ℕ → Option ℕ
temporary_place i len = if nat_lt (TEMP_FRAME_START + i) len then Some (TEMP_FRAME_START + i) else None

unfoldable pub temporary : ℕ → Rule Value
temporary i = do
  home ← register HOME
  len ← part Shape (size 0) home
  place ← given Stack (temporary_place i len)
  part Shape (field 0 place) home

unfoldable pub literal_constant : ℕ → Rule Value
literal_constant i = do
  method ← register METHOD
  part Shape (literal i) method

-- the value of an association that is a literal
unfoldable pub literal_variable : ℕ → Rule Value
literal_variable i = do
  association ← literal_constant i
  part Shape (field ASSOCIATION_SIZE VALUE_INDEX) association

unfoldable pub store_receiver_variable : ℕ → Value → Rule (Unit {0})
store_receiver_variable i v = do
  receiver ← register RECEIVER
  store_field receiver i v

unfoldable pub store_temporary : ℕ → Value → Rule (Unit {0})
store_temporary i v = do
  home ← register HOME
  len ← part Shape (size 0) home
  place ← given Stack (temporary_place i len)
  store_field home place v

unfoldable pub store_literal_variable : ℕ → Value → Rule (Unit {0})
store_literal_variable i v = do
  association ← literal_constant i
  store_field association VALUE_INDEX v

-- ---- pushes

unfoldable pub push_of : Rule Value → Rule (Unit {0})
push_of p = p >>= push

unfoldable pub push_known : ℕ → Rule (Unit {0})
push_known n = known n >>= push

unfoldable pub push_number : ℕ → Rule (Unit {0})
push_number i = push (Int (pos i -ℤ pos 1))

unfoldable pub push_receiver : Rule (Unit {0})
push_receiver = push_of (register RECEIVER)

unfoldable pub push_active_context : Rule (Unit {0})
push_active_context = push_of (register ACTIVE_CONTEXT)

unfoldable pub duplicate_top : Rule (Unit {0})
duplicate_top = push_of (stack 0)

-- ---- stores: the top is read first

unfoldable pub store_top : (Value → Rule (Unit {0})) → Rule (Unit {0})
store_top p = stack 0 >>= p

unfoldable pub store_and_pop : (Value → Rule (Unit {0})) → Rule (Unit {0})
store_and_pop p = do
  store_top p
  pop 1

-- ---- the extended forms: kind and number stand in the next byte

-- one of four by the kind
unfoldable pub by_kind : {A : Type 0} → ℕ → Rule A → Rule A → Rule A → Rule A → Rule A
by_kind n receiver temporary literal variable =
    pick (n / 64 == 0) receiver
    (pick (n / 64 == 1) temporary
    (pick (n / 64 == 2) literal variable))

unfoldable pub extended_push : Rule (Unit {0})
extended_push = do
  n ← fetch
  push_of (by_kind n (receiver_variable (n % 64)) (temporary (n % 64)) (literal_constant (n % 64)) (literal_variable (n % 64)))

-- a literal can't be stored into: kind 2 is unused, and nothing is read before
unfoldable pub extended_store_of : ℕ → Rule (Unit {0})
extended_store_of n = by_kind n (store_top (store_receiver_variable (n % 64))) (store_top (store_temporary (n % 64))) (halt Unused) (store_top (store_literal_variable (n % 64)))

unfoldable pub extended_store : Rule (Unit {0})
extended_store = do
  n ← fetch
  extended_store_of n

unfoldable pub extended_store_and_pop : Rule (Unit {0})
extended_store_and_pop = do
  n ← fetch
  extended_store_of n
  pop 1

-- ---- returns

-- sender (chapter 28): of the home
unfoldable pub return_home : List Line → Value → Rule Step
return_home events v = do
  home ← register HOME
  sender ← part Shape (field 0 SENDER_INDEX) home
  return_to events sender v

unfoldable pub return_of : List Line → Rule Value → Rule Step
return_of events p = p >>= return_home events

-- caller (chapter 28): of the active context
unfoldable pub return_from_block : List Line → Rule Step
return_from_block events = do
  v ← pop_top
  active ← register ACTIVE_CONTEXT
  caller ← part Shape (field 0 SENDER_INDEX) active
  return_to events caller v

-- ---- jumps

-- what a conditional jump does with the value that it popped. mustBeBoolean is sent to one that is neither
unfoldable pub jump_where : List Line → ℕ → ℕ → ℤ → Value → Rule Step
jump_where events taken passed distance v = pick (is_ref taken v) (then_next (jump distance)) (pick (is_ref passed v) (done Next) (must_be_boolean events v))

-- jumpIf: (chapter 28)
unfoldable pub jump_on : List Line → ℕ → ℕ → ℤ → Rule Step
jump_on events taken passed distance = do
  v ← pop_top
  jump_where events taken passed distance v

unfoldable pub long_jump : ℕ → Rule (Unit {0})
long_jump i = do
  n ← fetch
  jump (pos (256 * i + n) -ℤ pos 1024)

unfoldable pub long_jump_on : List Line → ℕ → ℕ → ℕ → Rule Step
long_jump_on events taken passed i = do
  n ← fetch
  jump_on events taken passed (pos (256 * i + n))

-- ---- sends

unfoldable pub send_literal : List Line → ℕ → ℕ → Rule Step
send_literal events i n = do
  selector ← literal_constant i
  send events selector n

unfoldable pub send_literal_super : List Line → ℕ → ℕ → Rule Step
send_literal_super events i n = do
  selector ← literal_constant i
  send_super events selector n

-- literal and number of arguments in one byte
unfoldable pub single_extended : (ℕ → ℕ → Rule Step) → Rule Step
single_extended p = do
  n ← fetch
  p (n % 32) (n / 32)

-- the number of arguments in one byte, and the literal in the next
unfoldable pub double_extended : (ℕ → ℕ → Rule Step) → Rule Step
double_extended p = do
  n ← fetch
  i ← fetch
  p i n

-- ---- special sends. Where the receiver is as it has to be, a primitive is tried at once, and the message is sent where it fails

-- the primitive for a message of so many arguments
unfoldable pub tried_for : List Line → ℕ → ℕ → ℕ → Rule Step
tried_for events index n s = do
  set_arguments n
  tried events index (special_send events s)

-- + - < > <= >= = ~= * / \\ @ bitShift: // bitAnd: bitOr:
abbrev pub arithmetic_primitives : List ℕ
arithmetic_primitives =
    PRIMITIVE_ADD ∷ PRIMITIVE_SUBTRACT ∷ PRIMITIVE_LESS_THAN ∷ PRIMITIVE_GREATER_THAN ∷ PRIMITIVE_LESS_OR_EQUAL ∷ PRIMITIVE_GREATER_OR_EQUAL ∷ PRIMITIVE_EQUAL ∷ PRIMITIVE_NOT_EQUAL
    ∷ PRIMITIVE_MULTIPLY ∷ PRIMITIVE_DIVIDE ∷ PRIMITIVE_MOD ∷ PRIMITIVE_MAKE_POINT ∷ PRIMITIVE_BIT_SHIFT ∷ PRIMITIVE_DIV ∷ PRIMITIVE_BIT_AND ∷ PRIMITIVE_BIT_OR ∷ []

-- of two numbers
unfoldable pub arithmetic_send : List Line → ℕ → Rule Step
arithmetic_send events s = do
  receiver ← stack 1
  pick (is_some (int_of receiver)) (tried_for events (slice_index_or arithmetic_primitives s 0) 1 s) (special_send events s)

abbrev pub is_among : (ℕ → Bool) → Value → Bool
is_among classes (Int z) = false
is_among classes (Ref n) = classes n

abbrev pub is_context_class : ℕ → Bool
is_context_class n = (n == METHOD_CONTEXT) || (n == BLOCK_CONTEXT)

abbrev pub is_block_class : ℕ → Bool
is_block_class n = n == BLOCK_CONTEXT

-- of a receiver of these classes
unfoldable pub block_send : List Line → ℕ → ℕ → (ℕ → Bool) → ℕ → Rule Step
block_send events index n classes s = do
  receiver ← stack n
  class ← class_of receiver
  pick (is_among classes class) (tried_for events index n s) (special_send events s)

-- ---- the table

-- the bytes from first to last, by their distance from first
pub record Range : Type 0 where
  pub first : ℕ
  pub last : ℕ
  pub rule : ℕ → Rule Step

abbrev pub from_to : ℕ → ℕ → (ℕ → Rule Step) → Range
from_to first last rule = record { first = first; last = last; rule = rule }

abbrev pub only : ℕ → Rule Step → Range
only byte rule = record { first = byte; last = byte; rule = λ i. rule }

-- of bytes after which the next always follows
abbrev pub next_from_to : ℕ → ℕ → (ℕ → Rule (Unit {0})) → Range
next_from_to first last rule = record { first = first; last = last; rule = λ i. then_next (rule i) }

abbrev pub next_only : ℕ → Rule (Unit {0}) → Range
next_only byte rule = record { first = byte; last = byte; rule = λ i. then_next rule }

-- beside each range stands its row of the Blue Book
unfoldable pub bytecodes : List Line → List Range
bytecodes events =
    next_from_to 0 15 (λ i. push_of (receiver_variable i))  -- pushReceiverVariableBytecode
    ∷ next_from_to 16 31 (λ i. push_of (temporary i))  -- pushTemporaryVariableBytecode
    ∷ next_from_to 32 63 (λ i. push_of (literal_constant i))  -- pushLiteralConstantBytecode
    ∷ next_from_to 64 95 (λ i. push_of (literal_variable i))  -- pushLiteralVariableBytecode
    ∷ next_from_to 96 103 (λ i. store_and_pop (store_receiver_variable i))  -- storeAndPopReceiverVariableBytecode
    ∷ next_from_to 104 111 (λ i. store_and_pop (store_temporary i))  -- storeAndPopTemporaryVariableBytecode
    ∷ next_only 112 push_receiver  -- pushReceiverBytecode
    ∷ next_only 113 (push_known TRUE)  -- pushConstantBytecode: true
    ∷ next_only 114 (push_known FALSE)  -- pushConstantBytecode: false
    ∷ next_only 115 (push_known NIL)  -- pushConstantBytecode: nil
    ∷ next_from_to 116 119 push_number  -- pushConstantBytecode: -1, 0, 1, 2
    ∷ only 120 (return_of events (register RECEIVER))  -- returnBytecode: the receiver
    ∷ only 121 (return_of events (known TRUE))  -- returnBytecode: true
    ∷ only 122 (return_of events (known FALSE))  -- returnBytecode: false
    ∷ only 123 (return_of events (known NIL))  -- returnBytecode: nil
    ∷ only 124 (return_of events pop_top)  -- returnBytecode: the top, from the home
    ∷ only 125 (return_from_block events)  -- returnBytecode: the top, from the block
    ∷ next_from_to 126 127 (λ i. halt Unused)  -- unused
    ∷ next_only 128 extended_push  -- extendedPushBytecode
    ∷ next_only 129 extended_store  -- extendedStoreBytecode
    ∷ next_only 130 extended_store_and_pop  -- extendedStoreAndPopBytecode
    ∷ only 131 (single_extended (send_literal events))  -- singleExtendedSendBytecode
    ∷ only 132 (double_extended (send_literal events))  -- doubleExtendedSendBytecode
    ∷ only 133 (single_extended (send_literal_super events))  -- singleExtendedSuperBytecode
    ∷ only 134 (double_extended (send_literal_super events))  -- doubleExtendedSuperBytecode
    ∷ next_only 135 (pop 1)  -- popStackBytecode
    ∷ next_only 136 duplicate_top  -- duplicateTopBytecode
    ∷ next_only 137 push_active_context  -- pushActiveContextBytecode
    ∷ next_from_to 138 143 (λ i. halt Unused)  -- unused
    ∷ next_from_to 144 151 (λ i. jump (pos (i + 1)))  -- shortUnconditionalJump
    ∷ from_to 152 159 (λ i. jump_on events FALSE TRUE (pos (i + 1)))  -- shortConditionalJump: where false
    ∷ next_from_to 160 167 long_jump  -- longUnconditionalJump
    ∷ from_to 168 171 (long_jump_on events TRUE FALSE)  -- longConditionalJump: where true
    ∷ from_to 172 175 (long_jump_on events FALSE TRUE)  -- longConditionalJump: where false
    ∷ from_to 176 191 (arithmetic_send events)  -- arithmeticSelectorPrimitive
    ∷ from_to 192 197 (λ i. special_send events (SPECIAL_AT + i))  -- sendSpecialSelectorBytecode: at: at:put: size next nextPut: atEnd
    ∷ only 198 (tried_for events PRIMITIVE_EQUIVALENT 1 SPECIAL_EQUIVALENT)  -- commonSelectorPrimitive: ==
    ∷ only 199 (tried_for events PRIMITIVE_CLASS 0 SPECIAL_CLASS)  -- commonSelectorPrimitive: class
    ∷ only 200 (block_send events PRIMITIVE_BLOCK_COPY 1 is_context_class SPECIAL_BLOCK_COPY)  -- commonSelectorPrimitive: blockCopy:
    ∷ only 201 (block_send events PRIMITIVE_VALUE 0 is_block_class SPECIAL_VALUE)  -- commonSelectorPrimitive: value
    ∷ only 202 (block_send events PRIMITIVE_VALUE 1 is_block_class SPECIAL_VALUE_WITH_ARGUMENT)  -- commonSelectorPrimitive: value:
    ∷ from_to 203 207 (λ i. special_send events (SPECIAL_DO + i))  -- sendSpecialSelectorBytecode: do: new new: x y
    ∷ from_to 208 223 (λ i. send_literal events i 0)  -- sendLiteralSelectorBytecode: without arguments
    ∷ from_to 224 239 (λ i. send_literal events i 1)  -- sendLiteralSelectorBytecode: with one
    ∷ from_to 240 255 (λ i. send_literal events i 2)  -- sendLiteralSelectorBytecode: with two
    ∷ []

-- the range has the byte
abbrev pub has_byte : ℕ → Range → Bool
has_byte byte r = nat_le r.first byte && nat_le byte r.last

-- what the first range says that has the byte; bytes have 8 bits, and each of them is in one range
abbrev pub ruled : List Range → ℕ → Rule Step
ruled [] byte = halt Unused
ruled (r ∷ rs) byte = pick (has_byte byte r) (r.rule (byte - r.first)) (ruled rs byte)

-- dispatchOnThisBytecode (chapter 28)
unfoldable pub bytecode : List Line → ℕ → Rule Step
bytecode events byte = ruled (bytecodes events) byte
