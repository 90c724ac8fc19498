-- The object that a raw record is. A long word that is no value is read like the others: 0 as a name, an odd one as a number of 31 bits.
use Rattle.std.specs.Prelude.{ℕ, ℤ, pos, negsuc, ◌-◌, ◌/◌, ◌%◌, ◌^◌, ◌==◌, nat_lt, map, if◌then◌else◌}
use Rattle.long_names.specs.declared.value.Value.{Value}
use Rattle.long_names.specs.declared.value.Value.TheVariants.{Int, Ref}
use Rattle.long_names.specs.declared.object.Body.{Body}
use Rattle.long_names.specs.declared.object.Body.TheVariants as body
use Rattle.long_names.specs.declared.object.Object.{Object}
use Rattle.object_record.specs.Raw.{RawBody, RawPointers, RawWords, RawBytes, RawMethod, RawRecord}

-- the number of an odd long word: its upper 31 bits in two's complement
abbrev pub int_in : ℕ → ℤ
int_in long = if nat_lt (long / 2) (2 ^ 30) then pos (long / 2) else negsuc (2 ^ 31 - 1 - long / 2)

abbrev pub value_in : ℕ → Value
value_in long = if long % 2 == 1 then Int (int_in long) else Ref long

abbrev pub body_of : RawBody → Body
body_of (RawPointers longs) = body.Pointers (map value_in longs)
body_of (RawWords words) = body.Words words
body_of (RawBytes bytes) = body.Bytes bytes
body_of (RawMethod header literals code) = body.Method (int_in header) (map value_in literals) code

abbrev pub object_in : RawRecord → Object
object_in r = record { class = r.class; body = body_of r.body }
