-- Places in code, as the code of the interpreter finds them.
use Rattle.std.specs.Prelude.{ℕ, ℤ, pos, negsuc, ◌+◌, ◌-◌, ◌*◌, ◌&&◌, nat_lt, nat_le, Option, Some, None, if◌then◌else◌}
use Rattle.std.specs.Option.{option_and_then}
use Rattle.blue_model.specs.declared.limits.TheConstants.{LAST_BYTE}

-- the number that an instruction pointer may have
abbrev pub code_place : ℤ → Option ℕ
code_place (pos n) = if nat_le n LAST_BYTE then Some n else None
code_place (negsuc n) = None

-- the index of the byte of a number, in a method with so many literals and bytes of code
abbrev pub index_in : ℕ → ℕ → ℕ → Option ℕ
index_in literals len n = if nat_le (2 * (literals + 1)) n && nat_lt (n - 2 * (literals + 1)) len then Some (n - 2 * (literals + 1)) else None

abbrev pub code_index : ℕ → ℕ → Option ℕ → Option ℕ
code_index literals len place = option_and_then (index_in literals len) place
