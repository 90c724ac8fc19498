-- Worked values of the definitions.
use Rattle.std.proofs.Common.{◌≡◌, pos, negsuc, [], ◌∷◌, refl}
use Rattle.long_names.specs.declared.value.Value.TheVariants.{Int, Ref}
use Rattle.object_record.specs.Raw.{RawPointers, RawBytes, RawMethod}
use Rattle.object_record.specs.Objects.{value_in}
use Rattle.leaf_lambda.specs.Records.{unresolved}

-- long words: 3, -1, the lowest SmallInteger, a name
three : value_in 7 ≡ Int (pos 3)
three = refl

minus_one : value_in 4294967295 ≡ Int (negsuc 0)
minus_one = refl

lowest : value_in 4294934529 ≡ Int (negsuc 16383)
lowest = refl

a_name : value_in 40 ≡ Ref 40
a_name = refl

-- each field of pointers is a lambda
pointers_begin : unresolved (RawPointers (7 ∷ 40 ∷ [])) ≡ 0 ∷ 0 ∷ []
pointers_begin = refl

-- two bytes to a word, the high one first, and a 0 behind the last
bytes_begin : unresolved (RawBytes (65 ∷ 66 ∷ 67 ∷ [])) ≡ 16706 ∷ 17152 ∷ []
bytes_begin = refl

-- a method: its header 2, two literals, three bytes of code
method_begins : unresolved (RawMethod 5 (40 ∷ 42 ∷ []) (112 ∷ 121 ∷ 120 ∷ [])) ≡ 5 ∷ 0 ∷ 0 ∷ 28793 ∷ 30720 ∷ []
method_begins = refl

-- a header below 0 has its lowest 16 bits
negative_header : unresolved (RawMethod 4294967167 [] []) ≡ 65407 ∷ []
negative_header = refl
