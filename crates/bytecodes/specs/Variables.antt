-- The rules that pushes, stores and jumps are put together of.
use Rattle.std.specs.Prelude.{ℕ, ◌/◌, ◌==◌, if◌then◌else◌}
use Rattle.long_names.specs.declared.value.Value.{Value}
use Rattle.blue_model.specs.declared.cause.Cause.TheVariants.{Unused}
use Rattle.blue_model.specs.Machine.{Rule, halt}
use Rattle.blue_model.specs.Bytecodes.{receiver_variable, temporary, literal_constant, literal_variable, store_receiver_variable, store_temporary, store_literal_variable}
use Rattle.bytecodes.specs.declared.variables.Variable.{Variable}
use Rattle.bytecodes.specs.declared.variables.Variable.TheVariants.{Receiver, Temporary, Literal, LiteralVariable}

-- the value of a variable
abbrev pub loads : Variable → ℕ → Rule Value
loads Receiver i = receiver_variable i
loads Temporary i = temporary i
loads Literal i = literal_constant i
loads LiteralVariable i = literal_variable i

-- a store into a variable
abbrev pub stores : Variable → ℕ → Value → Rule (Unit {0})
stores Receiver i v = store_receiver_variable i v
stores Temporary i v = store_temporary i v
stores Literal i v = halt Unused
stores LiteralVariable i v = store_literal_variable i v

-- the kind of variable that the byte after an extended bytecode states
abbrev pub kind_of : ℕ → Variable
kind_of byte = if byte / 64 == 0 then Receiver else (if byte / 64 == 1 then Temporary else (if byte / 64 == 2 then Literal else LiteralVariable))
