-- An image that was read whole, and what its objects hold.
use Rattle.std.specs.Prelude.{◌≡◌, ℕ, ℤ, ◌+◌, ◌-◌, ◌^◌, min, List, [], length, Option, Some, None, Ok, Err, option_map, option_and_then, slice_get}
use Rattle.long_names.specs.Names.{SMALL_INTEGER}
use Rattle.long_names.specs.Objects.{int_of, name_of}
use Rattle.long_names.specs.declared.value.Value.{Value}
use Rattle.long_names.specs.declared.value.Value.TheVariants.{Int, Ref}
use Rattle.long_names.specs.declared.object.Body.{Body}
use Rattle.long_names.specs.declared.object.Body.TheVariants.{Pointers, Words, Bytes, Method}
use Rattle.long_names.specs.declared.object.Rec.{Rec}
use Rattle.image_format.specs.declared.fault.RecFault.{RecFault}
use Rattle.image_format.specs.declared.fault.RecFault.TheVariants as rec_fault
use Rattle.image_format.specs.Faults.{told}
use Rattle.image_format.specs.Rules.{image_at, rec_in}
use Rattle.st80_objects.specs.declared.fault.ImageFault.{ImageFault}
use Rattle.st80_objects.specs.declared.fault.ImageFault.TheVariants.{Broken, Memory}
use Rattle.st80_objects.specs.declared.image.Image.{Image}

-- its objects, by rising name
abbrev pub objects_of : Image → List Rec
objects_of image = image.objects

-- ---- reading

-- these are the bytes of this image: its head, its objects, and nothing behind them
abbrev pub IsImageOf : List ℕ → Image → Type 0
IsImageOf bytes image = image_at bytes ≡ Ok (record { head = image.head; recs = objects_of image }, [])

-- the first of the rules 1 to 9 and 13 that these bytes break, and the offset of the field that breaks it
abbrev pub IsFaultOf : List ℕ → ImageFault → Type 0
IsFaultOf bytes (Broken b) = told (length bytes) (image_at bytes) ≡ Err b
IsFaultOf bytes Memory = Unit {0}

-- ---- what objects hold

abbrev pub class_in : List Rec → ℕ → Option ℕ
class_in recs n = option_map (λ (r : Rec). r.class) (rec_in recs n)

-- the class of a value: that of its object, or SmallInteger
abbrev pub class_of_value : List Rec → Value → Option ℕ
class_of_value recs (Int z) = Some SMALL_INTEGER
class_of_value recs (Ref n) = class_in recs n

-- the fields of an object of pointers
abbrev pub pointers_of : Body → Option (List Value)
pointers_of (Pointers values) = Some values
pointers_of (Words words) = None
pointers_of (Bytes bytes) = None
pointers_of (Method header literals code) = None

abbrev pub pointers_in : List Rec → ℕ → Option (List Value)
pointers_in recs n = option_and_then (λ (r : Rec). pointers_of r.body) (rec_in recs n)

-- one of them
abbrev pub field_in : List Rec → ℕ → ℕ → Option Value
field_in recs n i = option_and_then (λ values. slice_get values i) (pointers_in recs n)

-- one of them that is a name, or a number
abbrev pub name_at_field : List Rec → ℕ → ℕ → Option ℕ
name_at_field recs n i = option_and_then name_of (field_in recs n i)

abbrev pub number_at_field : List Rec → ℕ → ℕ → Option ℤ
number_at_field recs n i = option_and_then int_of (field_in recs n i)

-- the bytes of an object of bytes
abbrev pub text_of : Body → Option (List ℕ)
text_of (Pointers values) = None
text_of (Words words) = None
text_of (Bytes bytes) = Some bytes
text_of (Method header literals code) = None

abbrev pub text_in : List Rec → ℕ → Option (List ℕ)
text_in recs n = option_and_then (λ (r : Rec). text_of r.body) (rec_in recs n)

-- ---- faults

-- the fault of a record that begins at this offset
abbrev pub fault_from : ℕ → RecFault → ImageFault
fault_from start (rec_fault.Bad rule at) = Broken (record { rule = rule; place = min (start + at) (2 ^ 64 - 1) })
fault_from start rec_fault.Memory = Memory
