-- The elements of an object by their kind and number.
use Rattle.std.specs.Prelude.{ℕ, ◌+◌, ◌-◌, ◌*◌, nat_le, Option, Some, None, length, if◌then◌else◌}
use Rattle.std.specs.Option.{option_map}
use Rattle.long_names.specs.declared.object.Kind.{Kind}
use Rattle.long_names.specs.declared.object.Kind.TheVariants as kind
use Rattle.long_names.specs.declared.object.Object.{Object}
use Rattle.long_names.specs.Objects.{kind_of, len_of, text_of}
use Rattle.object_memory.specs.Shape.{literals_count}
use Rattle.blue_model.specs.declared.spot.Spot.{Spot}
use Rattle.blue_model.specs.declared.spot.Spot.TheVariants.{Field, Word, Byte}
use Rattle.prims_object.specs.declared.extents.Extent.{Extent}

-- what a method's header and literals take, of so many literals
abbrev pub start_by : Option ℕ → ℕ
start_by None = 0
start_by (Some literals) = 2 * (literals + 1)

-- the elements of an object
unfoldable pub extent_of : Object → Option Extent
extent_of o = Some (record { kind = kind_of o.body; start = start_by (literals_count o.body); len = len_of o.body })

-- ---- what follows from them

abbrev pub length_by : Extent → ℕ
length_by x = x.start + x.len

abbrev pub behind : ℕ → Extent → Option ℕ
behind fixed x = if nat_le fixed (length_by x) then Some (length_by x - fixed) else None

abbrev pub spot_in_kind : Kind → ℕ → Spot
spot_in_kind kind.Pointers i = Field i
spot_in_kind kind.Words i = Word i
spot_in_kind kind.Bytes i = Byte i
spot_in_kind kind.Method i = Byte i

abbrev pub spot_by : ℕ → Extent → Option Spot
spot_by e x = if nat_le e x.start then None else (if nat_le e (length_by x) then Some (spot_in_kind x.kind (e - x.start - 1)) else None)

-- how many bytes, of an object of bytes
abbrev pub text_in_kind : Kind → ℕ → Option ℕ
text_in_kind kind.Pointers len = None
text_in_kind kind.Words len = None
text_in_kind kind.Bytes len = Some len
text_in_kind kind.Method len = None

abbrev pub text_by : Extent → Option ℕ
text_by x = text_in_kind x.kind x.len

unfoldable pub text_length : Object → Option ℕ
text_length o = option_map length (text_of o.body)
