-- What a lookup finds (chapter 28), said over the whole list of classes.
use Rattle.std.specs.Prelude.{zero, suc, ℕ, List, [], ◌∷◌, length, drop, Option, Some, None, if◌then◌else◌}
use Rattle.std.specs.Option.{option_and_then}
use Rattle.long_names.specs.declared.value.Value.{Value}
use Rattle.long_names.specs.declared.object.Object.{Object}
use Rattle.long_names.specs.Objects.{is_ref}
use Rattle.long_names.specs.Heap.{Heap}
use Rattle.long_names.specs.State.{object_at, name_at}
use Rattle.blue_model.specs.declared.indexes.TheConstants.{SUPERCLASS_INDEX, METHOD_DICTIONARY_INDEX, CLASS_SIZE, METHOD_ARRAY_INDEX, SELECTOR_START, DICTIONARY_SIZE}
use Rattle.blue_model.specs.Parts.{is_nil, shaped, field}
use Rattle.blue_model.specs.Lookup.{raised, first_slot, turned, turned_back}

-- a part of the object that a value names
abbrev pub part_in : {A : Type 0} → Heap → (Object → Option A) → Value → Option A
part_in h f v = option_and_then f (object_at h v)

-- ---- classes

-- the class, its superclass and so on, before nil: n of them at most
abbrev pub classes_from : (Value → List Value) → Option Value → List Value
classes_from rest None = []
classes_from rest (Some superclass) = rest superclass

abbrev pub class_list : ℕ → Heap → Value → List Value
class_list zero h class = []
class_list (suc n) h class = if is_nil class then [] else class ∷ classes_from (class_list n h) (part_in h (field CLASS_SIZE SUPERCLASS_INDEX) class)

-- ---- slots

abbrev pub before_nil : List Value → List Value
before_nil [] = []
before_nil (v ∷ vs) = if is_nil v then [] else v ∷ before_nil vs

-- the selectors of a dictionary, turned to begin at the selector's slot and cut before the first nil
abbrev pub slots_from : ℕ → List Value → List Value
slots_from selector selectors = before_nil (turned (first_slot selector (length selectors)) selectors)

-- where the selector stands first
abbrev pub first_place : ℕ → List Value → Option ℕ
first_place selector [] = None
first_place selector (v ∷ vs) = if is_ref selector v then Some 0 else raised (first_place selector vs)

-- the selectors of a class's dictionary
abbrev pub dictionary_of : Heap → Value → Option Value
dictionary_of h class = part_in h (field CLASS_SIZE METHOD_DICTIONARY_INDEX) class

abbrev pub selectors_of : Heap → Value → Option (List Value)
selectors_of h class = option_and_then (part_in h (λ o. option_and_then (λ (values : List Value). Some (drop SELECTOR_START values)) (shaped DICTIONARY_SIZE o))) (dictionary_of h class)

-- the first place of the selector in a class's slots
abbrev pub place_of : Heap → Value → Value → Option ℕ
place_of h selector class = option_and_then (λ (selectors : List Value). first_place (name_at selector) (slots_from (name_at selector) selectors)) (selectors_of h class)

-- ---- the method

-- the element of the class's method array with the number of the slot that stands at this place
abbrev pub method_of : Heap → Value → Value → ℕ → Option Value
method_of h selector class place = option_and_then (λ (selectors : List Value). option_and_then (part_in h (field 0 (turned_back (first_slot (name_at selector) (length selectors)) (length selectors) place))) (option_and_then (part_in h (field DICTIONARY_SIZE METHOD_ARRAY_INDEX)) (dictionary_of h class))) (selectors_of h class)

-- the first class of a list whose slots hold the selector, and there its first place
abbrev pub taken_or : Option Value → Option ℕ → (ℕ → Option Value) → Option Value
taken_or rest None method = rest
taken_or rest (Some place) method = method place

abbrev pub taken : Heap → Value → List Value → Option Value
taken h selector [] = None
taken h selector (class ∷ classes) = taken_or (taken h selector classes) (place_of h selector class) (method_of h selector class)
