-- Objects as the tables write them.
use Rattle.std.specs.Prelude.{ℕ, ℤ, pos, negsuc, ◌-◌, ◌*◌, ◌+◌, List, [], ◌∷◌, replicate}
use Rattle.long_names.specs.Names.{NIL, STRING, ARRAY, COMPILED_METHOD}
use Rattle.long_names.specs.declared.value.Value.{Value}
use Rattle.long_names.specs.declared.value.Value.TheVariants.{Int, Ref}
use Rattle.long_names.specs.declared.object.Body.TheVariants.{Pointers, Words, Bytes, Method}
use Rattle.long_names.specs.declared.object.Object.{Object}

-- ---- values

abbrev pub nil : Value
nil = Ref NIL

abbrev pub int : ℕ → Value
int n = Int (pos n)

-- the negative of a number above 0
abbrev pub minus : ℕ → ℤ
minus n = negsuc (n - 1)

abbrev pub nils : ℕ → List Value
nils n = replicate n nil

-- so many zeros; not to be computed in proofs, since there may be thousands
unfoldable pub zeros : ℕ → List ℕ
zeros n = replicate n 0

-- ---- objects

abbrev pub of_class : ℕ → List Value → Object
of_class class fields = record { class = class; body = Pointers fields }

abbrev pub array : List Value → Object
array fields = of_class ARRAY fields

abbrev pub string : List ℕ → Object
string bytes = record { class = STRING; body = Bytes bytes }

abbrev pub words : ℕ → List ℕ → Object
words class content = record { class = class; body = Words content }

abbrev pub method : ℤ → List Value → List ℕ → Object
method header literals code = record { class = COMPILED_METHOD; body = Method header literals code }

-- a method that has this primitive, with so many arguments, and answers self where that fails (chapter 27, the header extension)
abbrev pub primitive : ℕ → ℕ → Object
primitive arguments index = method (minus 4094) (int (256 * arguments + index) ∷ nil ∷ []) (120 ∷ [])
