-- A compiled method as an object (chapters 27 and 30): its header, its literals, and its code.
use Rattle.std.specs.Prelude.{◌≡◌, ℕ, ◌+◌, ◌*◌, ◌%◌, ◌&&◌, ◌||◌, Bool, true, false, nat_lt, ℤ, pos, ◌-ℤ◌, List, [], ◌∷◌, ◌++◌, length, map, unwrap_or, slice_get, if◌then◌else◌}
use Rattle.std.specs.List.{list_all}
use Rattle.st80_methods.specs.declared.methods.NoBody.{NoBody}
use Rattle.st80_methods.specs.declared.methods.NoBody.TheVariants.{NoMemory, UnknownLiteral}
use Rattle.long_names.specs.declared.value.Value.{Value}
use Rattle.long_names.specs.declared.value.Value.TheVariants.{Int, Ref}
use Rattle.long_names.specs.declared.object.Body.{Body}
use Rattle.long_names.specs.declared.object.Body.TheVariants.{Method}
use Rattle.st80_compile.specs.declared.compiler.Answers.{Answers}
use Rattle.st80_compile.specs.declared.compiler.Answers.TheVariants as form
use Rattle.st80_compile.specs.declared.compiler.Compiled.{Compiled}

-- flag 5 answers self, 6 a field; 7 has an extension, as a primitive and more than four arguments need it
abbrev pub has_extension : Compiled → Bool
has_extension made = nat_lt 4 made.arguments || nat_lt 0 made.primitive

abbrev pub flag_of : Answers → Compiled → ℕ
flag_of form.Code made = if has_extension made then 7 else made.arguments
flag_of form.Receiver made = 5
flag_of (form.Field n) made = 6

-- the five bits behind the flag: the field that is answered, or the number of temporaries
abbrev pub five_of : Answers → Compiled → ℕ
five_of form.Code made = made.temporaries % 32
five_of form.Receiver made = 0
five_of (form.Field n) made = n % 32

-- whether contexts are large
abbrev pub large_of : Compiled → ℕ
large_of made = if made.is_large then 64 else 0

-- the fifteen bits of a header, before they are a SmallInteger
abbrev pub header_bits : Compiled → ℕ → ℕ
header_bits made literals =
    4096 * flag_of made.answers made + 128 * five_of made.answers made + large_of made + literals % 64

-- fifteen bits in two's complement
abbrev pub signed : ℕ → ℤ
signed u = if nat_lt u 16384 then pos u else pos u -ℤ pos 32768

-- the literal before the last: arguments and primitive
abbrev pub extension_of : Compiled → Value
extension_of made = Int (pos (256 * (made.arguments % 32) + made.primitive))

-- what stands behind the literals of the code. The last is the class's association, where a send to super looks for it
abbrev pub tail_of : Compiled → Value → List Value
tail_of made class =
    if has_extension made then extension_of made ∷ class ∷ [] else (if made.sends_super then class ∷ [] else [])

-- whether a pool has all of these numbers
abbrev pub has_all : List Value → List ℕ → Bool
has_all pool numbers = list_all (λ n. nat_lt n (length pool)) numbers

-- the value of a number of a pool
abbrev pub value_at : List Value → ℕ → Value
value_at pool n = unwrap_or (slice_get pool n) (Int (pos 0))

abbrev pub values_of : List Value → List ℕ → List Value
values_of pool numbers = map (λ n. value_at pool n) numbers

abbrev pub body_with : Compiled → List Value → Body
body_with made literals = Method (signed (header_bits made (length literals))) literals made.code.items

-- the object of a method, whose literals the pool has
abbrev pub IsObjectOf : Compiled → List Value → Value → Body → Type 0
IsObjectOf made pool class body =
    (has_all pool made.literals.items ≡ true) × (body ≡ body_with made (values_of pool made.literals.items ++ tail_of made class))

-- a refusal: the pool lacks a literal. Want of memory is free
abbrev pub IsWhy : NoBody → Bool → Type 0
IsWhy NoMemory has = Unit {0}
IsWhy UnknownLiteral has = has ≡ false
