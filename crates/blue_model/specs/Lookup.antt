-- The lookup of a message along the superclass chain (chapter 28, findNewMethodInClass:), with all that it looks at.
use Rattle.std.specs.Prelude.{zero, suc, ℕ, ◌+◌, ◌-◌, ◌/◌, Bool, true, false, nat_lt, List, [], ◌∷◌, ◌++◌, length, take, drop, bit_and, Option, Some, None, if◌then◌else◌}
use Rattle.std.specs.Option.{option_and_then}
use Rattle.long_names.specs.declared.value.Value.{Value}
use Rattle.long_names.specs.declared.object.Object.{Object}
use Rattle.long_names.specs.Objects.{is_ref}
use Rattle.long_names.specs.State.{SELECTOR, NEW_METHOD, name_at}
use Rattle.blue_model.specs.declared.cause.Cause.TheVariants.{Shape, Chain}
use Rattle.blue_model.specs.declared.indexes.TheConstants.{SUPERCLASS_INDEX, METHOD_DICTIONARY_INDEX, CLASS_SIZE, METHOD_ARRAY_INDEX, SELECTOR_START, DICTIONARY_SIZE}
use Rattle.blue_model.specs.declared.limits.TheConstants.{LONGEST_CHAIN}
use Rattle.blue_model.specs.Machine.{Rule, ◌>>=◌, ◌>>◌, done, halt, pick, register, put_register, look, part}
use Rattle.blue_model.specs.Parts.{is_nil, shaped, size, field, code_of}

-- ---- the slots of a dictionary

-- one more than where the selector stands, before the first nil
abbrev pub raised : Option ℕ → Option ℕ
raised None = None
raised (Some i) = Some (suc i)

-- where the selector stands first, before the first nil
abbrev pub place_in : ℕ → List Value → Option ℕ
place_in selector [] = None
place_in selector (v ∷ vs) = if is_nil v then None else (if is_ref selector v then Some 0 else raised (place_in selector vs))

-- where the round begins: the selector's index, cut to the number of slots less 1
abbrev pub first_slot : ℕ → ℕ → ℕ
first_slot selector slots = bit_and (selector / 2) (slots - 1)

-- the slots, turned to begin there
abbrev pub turned : ℕ → List Value → List Value
turned first slots = drop first slots ++ take first slots

-- a place of the round as a place of the slots
abbrev pub turned_back : ℕ → ℕ → ℕ → ℕ
turned_back first slots i = if nat_lt (first + i) slots then first + i else first + i - slots

abbrev pub slot_in : ℕ → List Value → Option ℕ
slot_in selector slots = option_and_then (λ i. Some (turned_back (first_slot selector (length slots)) (length slots) i)) (place_in selector (turned (first_slot selector (length slots)) slots))

-- the slot of a dictionary that has the selector, or that none has it
unfoldable pub slot_of : Value → Object → Option (Option ℕ)
slot_of selector o = option_and_then (λ (values : List Value). Some (slot_in (name_at selector) (drop SELECTOR_START values))) (shaped DICTIONARY_SIZE o)

-- ---- one class

-- the method in a slot: the element of the method array with the slot's number, which has to be a method
unfoldable pub method_at : Value → Option ℕ → Rule (Option Value)
method_at dictionary None = done None
method_at dictionary (Some slot) = do
  methods ← part Shape (field DICTIONARY_SIZE METHOD_ARRAY_INDEX) dictionary
  method ← part Shape (field 0 slot) methods
  part Shape code_of method
  done (Some method)

-- lookupMethodInDictionary: (chapter 28). The selector's index is needed once class and dictionary have their shapes; it is in the log
unfoldable pub find_in : Value → Value → Rule (Option Value)
find_in selector class = do
  dictionary ← part Shape (field CLASS_SIZE METHOD_DICTIONARY_INDEX) class
  part Shape (size DICTIONARY_SIZE) dictionary
  look selector
  slot ← part Shape (slot_of selector) dictionary
  method_at dictionary slot

-- ---- the chain

unfoldable pub found_or : Option Value → Rule (Option Value) → Rule (Option Value)
found_or (Some method) rest = done (Some method)
found_or None rest = rest

-- the method of a selector in a class or the first class above that has one, after at most n classes. nil alone ends the chain
unfoldable pub find_from : ℕ → Value → Value → Rule (Option Value)
find_from zero selector class = pick (is_nil class) (done None) (halt Chain)
find_from (suc n) selector class = pick (is_nil class) (done None) (do
  found ← find_in selector class
  found_or found (part Shape (field CLASS_SIZE SUPERCLASS_INDEX) class >>= λ superclass. find_from n selector superclass))

abbrev pub lookup : Value → Value → Rule (Option Value)
lookup selector class = find_from LONGEST_CHAIN selector class

-- the method goes into its register
unfoldable pub put_found : Option Value → Rule Bool
put_found None = done false
put_found (Some method) = do
  put_register NEW_METHOD method
  done true

-- looks the selector's register up from a class on; false at the chain's end
unfoldable pub find : Value → Rule Bool
find class = do
  selector ← register SELECTOR
  found ← lookup selector class
  put_found found

-- from the class in a register
abbrev pub find_from_register : ℕ → Rule Bool
find_from_register r = register r >>= find
