-- The two pointers of a machine, and the numbers by which a context states them.
use Rattle.std.specs.Prelude.{◌≡◌, ℤ, pos, ◌+ℤ◌, ◌-ℤ◌, ◌≤◌, length, Some}
use Rattle.long_names.specs.declared.value.Value.{Value}
use Rattle.long_names.specs.declared.value.Value.TheVariants.{Int}
use Rattle.long_names.specs.declared.limits.TheConstants.{MOST_CODE, MOST_LITERALS}
use Rattle.long_names.specs.Words.{IsSmallInteger}
use Rattle.long_names.specs.State.{ACTIVE_CONTEXT, METHOD}
use Rattle.blue_model.specs.declared.indexes.TheConstants.{INSTRUCTION_POINTER_INDEX, STACK_POINTER_INDEX, TEMP_FRAME_START, EMPTY_STACK}
use Rattle.blue_model.specs.Machine.{Machine, Rule, ◌>>=◌, ◌>>◌, done, numbers, register}
use Rattle.blue_model.specs.Parts.{Code, code_of, number}
use Rattle.blue_model.specs.ClassList.{part_in}
use Rattle.blue_model.specs.Contexts.{store_field}

-- The active context can state both: what it states is a SmallInteger.
pub record CanState (m : Machine) : Type 0 where
  pub ip : IsSmallInteger (m.cpu.ip +ℤ pos 1)
  pub sp : IsSmallInteger (m.cpu.sp -ℤ pos EMPTY_STACK)

-- storeContextRegisters (chapter 28), as the book has it: without a test of what is stated
unfoldable pub store_untested : Rule (Unit {0})
store_untested = do
  cpu ← numbers
  active ← register ACTIVE_CONTEXT
  ip ← done (cpu.ip +ℤ pos 1)
  depth ← done (cpu.sp -ℤ pos EMPTY_STACK)
  store_field active INSTRUCTION_POINTER_INDEX (Int ip)
  store_field active STACK_POINTER_INDEX (Int depth)

-- the numbers that a context states of its pointers, where it states some, are SmallIntegers, as all numbers of an image are
pub record StatesSmall (m : Machine) (context : Value) : Type 0 where
  pub ip : (z : ℤ) → part_in m.heap (number TEMP_FRAME_START INSTRUCTION_POINTER_INDEX) context ≡ Some z → IsSmallInteger z
  pub depth : (z : ℤ) → part_in m.heap (number TEMP_FRAME_START STACK_POINTER_INDEX) context ≡ Some z → IsSmallInteger z

-- the method that runs, where it is one, has no more literals and code than an image may have
pub record RunsShort (m : Machine) : Type 0 where
  pub literals : (code : Code) → part_in m.heap code_of (m.regs METHOD) ≡ Some code → code.literals ≤ MOST_LITERALS
  pub bytes : (code : Code) → part_in m.heap code_of (m.regs METHOD) ≡ Some code → length code.bytes ≤ MOST_CODE
