-- Blocks, performs and the end of the run (chapter 29, control primitives).
use Rattle.std.specs.Prelude.{ℕ, ℤ, pos, ◌+ℤ◌, ◌+◌, ◌-◌, ◌==◌, ◌&&◌, Bool, true, false, nat_lt, List, [], ◌∷◌, Option, Some, None, if◌then◌else◌}
use Rattle.std.specs.Option.{option_and_then}
use Rattle.std.specs.Int.Signed.{lt_z}
use Rattle.std.specs.Ordering.{int_eq}
use Rattle.long_names.specs.declared.value.Value.{Value}
use Rattle.long_names.specs.declared.value.Value.TheVariants.{Int, Ref}
use Rattle.long_names.specs.Names.{ARRAY, BLOCK_CONTEXT}
use Rattle.long_names.specs.Objects.{OfPointers, int_of, is_ref}
use Rattle.long_names.specs.State.{ACTIVE_CONTEXT, NEW_METHOD}
use Rattle.blue_model.specs.declared.answer.Answer.{Answer}
use Rattle.blue_model.specs.declared.answer.Answer.TheVariants.{Done, Execute, Quit}
use Rattle.blue_model.specs.declared.cause.Cause.TheVariants.{Pointer, Shape}
use Rattle.blue_model.specs.declared.indexes.TheConstants.{INSTRUCTION_POINTER_INDEX, STACK_POINTER_INDEX, CALLER_INDEX, BLOCK_ARGUMENT_COUNT_INDEX, INITIAL_IP_INDEX, HOME_INDEX, TEMP_FRAME_START}
use Rattle.blue_model.specs.declared.limits.TheConstants.{FULL_STACK, MOST_ARGUMENTS}
use Rattle.blue_model.specs.declared.primitives.TheConstants.{PRIMITIVE_BLOCK_COPY, PRIMITIVE_VALUE, PRIMITIVE_VALUE_WITH_ARGUMENTS, PRIMITIVE_PERFORM, PRIMITIVE_PERFORM_WITH_ARGUMENTS, PRIMITIVE_FLUSH_CACHE, PRIMITIVE_QUIT}
use Rattle.blue_model.specs.Machine.{Rule, ◌>>=◌, ◌>>◌, done, given, pick, each, register, put_register, numbers, part, known, class_of, make}
use Rattle.blue_model.specs.Parts.{size, field, number, home_of}
use Rattle.blue_model.specs.Contexts.{store_field, push, stack, pop, stated, enter}
use Rattle.blue_model.specs.Lookup.{lookup}
use Rattle.blue_model.specs.Messages.{set_arguments, put_stack, arguments_of}
use Rattle.blue_model.specs.Trials.{where_some, where_true, ◌>>?◌, peek, answer, Primitive, primitive_in}
use Rattle.blue_model.specs.Elements.{natural}
use Rattle.blue_model.specs.Storage.{row}

-- ---- blocks

-- how many arguments a block is to have
abbrev pub argument_number : Value → Option ℕ
argument_number v = option_and_then natural (int_of v)

-- A block of a home of so many fields, for so many arguments. Its code begins behind the jump of two bytes that follows this bytecode.
-- This profile tests that the pointer can be stated, which in a run it always can
unfoldable pub make_block : Value → ℕ → ℕ → Rule Value
make_block home len n = do
  blocks ← known BLOCK_CONTEXT
  block ← make blocks (OfPointers len)
  cpu ← numbers
  ip ← given Pointer (stated (cpu.ip +ℤ pos 3))
  store_field block INSTRUCTION_POINTER_INDEX (Int ip)
  store_field block STACK_POINTER_INDEX (Int (pos 0))
  store_field block BLOCK_ARGUMENT_COUNT_INDEX (Int (pos n))
  store_field block INITIAL_IP_INDEX (Int ip)
  store_field block HOME_INDEX home
  done block

-- primitiveBlockCopy: the block's home is the receiver, or where that is a block, the receiver's home
unfoldable pub block_copy : Rule Answer
block_copy = do
  context ← stack 1
  argument ← stack 0
  peek (home_of context) context >>? λ home. where_some (argument_number argument) (λ n. peek (size TEMP_FRAME_START) home >>? λ len. make_block home len n >>= answer 1)

-- it is the number of so many
abbrev pub states : ℕ → Option ℤ → Bool
states n None = false
states n (Some z) = int_eq z (pos n)

-- the first instruction pointer of what has room for n arguments, and states that it takes as many
unfoldable pub pointer_for : Value → ℕ → Rule (Option ℤ)
pointer_for block n = do
  count ← peek (number (TEMP_FRAME_START + n) BLOCK_ARGUMENT_COUNT_INDEX) block
  pick (states n count) (peek (number (TEMP_FRAME_START + n) INITIAL_IP_INDEX) block) (done None)

-- and of a block
unfoldable pub block_start : Value → ℕ → Rule (Option ℤ)
block_start block n = do
  class ← class_of block
  pick (is_ref BLOCK_CONTEXT class) (pointer_for block n) (done None)

-- a block is entered as new, with n values on its stack
unfoldable pub enter_block : Value → ℕ → ℤ → Rule Answer
enter_block block n ip = do
  store_field block INSTRUCTION_POINTER_INDEX (Int ip)
  store_field block STACK_POINTER_INDEX (Int (pos n))
  active ← register ACTIVE_CONTEXT
  store_field block CALLER_INDEX active
  enter block
  done Done

-- argument k of n goes on the block's stack
unfoldable pub pass_argument : ℕ → Value → ℕ → Rule (Unit {0})
pass_argument n block k = do
  v ← stack (n - 1 - k)
  store_field block (TEMP_FRAME_START + k) v

-- primitiveValue: of a block, with its arguments
unfoldable pub value : Rule Answer
value = do
  cpu ← numbers
  block ← stack cpu.args
  block_start block cpu.args >>? λ ip. (do
    each (pass_argument cpu.args block) cpu.args
    pop (cpu.args + 1)
    enter_block block cpu.args ip)

-- how many elements an Array has
unfoldable pub array_length : Value → Rule (Option ℕ)
array_length array = do
  class ← class_of array
  pick (is_ref ARRAY class) (peek (size 0) array) (done None)

-- element k of an array goes on the block's stack
unfoldable pub pass_element : Value → Value → ℕ → Rule (Unit {0})
pass_element array block k = do
  v ← part Shape (field 0 k) array
  store_field block (TEMP_FRAME_START + k) v

-- primitiveValueWithArgs: the arguments are the elements of an Array
unfoldable pub value_with_arguments : Rule Answer
value_with_arguments = do
  block ← stack 1
  array ← stack 0
  array_length array >>? λ n. block_start block n >>? λ ip. (do
    each (pass_element array block) n
    pop 2
    enter_block block n ip)

-- ---- performs

abbrev pub is_name : Value → Bool
is_name (Int z) = false
is_name (Ref n) = true

-- a method that takes so many arguments. None takes 256 or more, and then it isn't asked
unfoldable pub taking : ℕ → Option Value → Rule (Option Value)
taking n None = done None
taking n (Some method) = pick (nat_lt n (MOST_ARGUMENTS + 1)) (arguments_of method >>= λ k. done (if k == n then Some method else None)) (done None)

-- the method for n arguments that a receiver's class has for a selector. Only the end of the chain fails in the lookup
unfoldable pub method_for : Value → Value → ℕ → Rule (Option Value)
method_for receiver selector n = do
  class ← class_of receiver
  found ← lookup selector class
  taking n found

-- the method is executed, with so many arguments
unfoldable pub execute_found : Value → ℕ → Rule Answer
execute_found method n = do
  put_register NEW_METHOD method
  set_arguments n
  done Execute

-- one value of the stack moves down
unfoldable pub move_down : ℕ → ℕ → Rule (Unit {0})
move_down n k = do
  v ← stack (n - 1 - k)
  put_stack (n - k) v

-- primitivePerform: the selector is taken out of the stack, under the n other arguments
unfoldable pub perform_with : ℕ → Rule Answer
perform_with n = do
  receiver ← stack (n + 1)
  selector ← stack n
  where_true (is_name selector) (method_for receiver selector n >>? λ method. (do
    each (move_down n) n
    pop 1
    execute_found method n))

unfoldable pub perform : Rule Answer
perform = do
  cpu ← numbers
  where_true (nat_lt 0 cpu.args) (perform_with (cpu.args - 1))

-- whether n values fit in place of the two on top, on the stack of a context of so many fields
abbrev pub fits : ℤ → ℕ → ℕ → Bool
fits sp n len = lt_z (sp +ℤ pos n) (pos (len + 2)) && lt_z (sp +ℤ pos n) (pos (FULL_STACK + 3))

unfoldable pub has_room : ℕ → Rule Bool
has_room n = do
  cpu ← numbers
  active ← register ACTIVE_CONTEXT
  len ← part Shape (size 0) active
  done (fits cpu.sp n len)

unfoldable pub push_element : Value → ℕ → Rule (Unit {0})
push_element array k = do
  v ← part Shape (field 0 k) array
  push v

-- primitivePerformWithArgs: the elements of an Array are put in place of it and the selector
unfoldable pub perform_with_arguments : Rule Answer
perform_with_arguments = do
  receiver ← stack 2
  selector ← stack 1
  array ← stack 0
  where_true (is_name selector) (array_length array >>? λ n. method_for receiver selector n >>? λ method. has_room n >>= λ room. where_true room (do
    pop 2
    each (push_element array) n
    execute_found method n))

-- ---- the cache, and the end

-- primitiveFlushCache: there is nothing to flush, since every lookup is made anew
unfoldable pub flush_cache : Rule Answer
flush_cache = done Done

-- the receiver is the answer, and the run ends
unfoldable pub quit : Rule Answer
quit = done Quit

-- ---- the table

unfoldable pub control_primitives : List Primitive
control_primitives =
    row PRIMITIVE_BLOCK_COPY 1 block_copy
    ∷ row PRIMITIVE_VALUE_WITH_ARGUMENTS 1 value_with_arguments
    ∷ row PRIMITIVE_PERFORM_WITH_ARGUMENTS 2 perform_with_arguments
    ∷ row PRIMITIVE_FLUSH_CACHE 0 flush_cache
    ∷ row PRIMITIVE_QUIT 0 quit
    ∷ []

-- value and perform: are for messages of any number of arguments
unfoldable pub control_primitive : ℕ → Rule Answer
control_primitive index = pick (index == PRIMITIVE_VALUE) value (pick (index == PRIMITIVE_PERFORM) perform (primitive_in control_primitives index))
