-- What classes are called (chapter 16 of the Blue Book): field 6 of a class is its name, and that of a metaclass is the class.
use Rattle.std.specs.Prelude.{◌≡◌, ℕ, ◌-◌, ◌==◌, ◌&&◌, Bool, true, false, List, [], ◌∷◌, length, take, drop, codes, decimal, Option, Some, None, is_some, option_and_then, if◌then◌else◌}
use Rattle.std.specs.Str.{bytes_eq}
use Rattle.long_names.specs.Names.{NIL}
use Rattle.long_names.specs.declared.object.Rec.{Rec}
use Rattle.st80_objects.specs.Images.{name_at_field, text_in}
use Rattle.st80_view.specs.declared.classes.TheConstants.{CLASS_NAME, SUPERCLASS}

-- a name that isn't nil
abbrev pub not_nil : ℕ → Option ℕ
not_nil n = if n == NIL then None else Some n

abbrev pub superclass : List Rec → ℕ → Option ℕ
superclass recs n = option_and_then not_nil (name_at_field recs n SUPERCLASS)

-- the name that a class has itself
abbrev pub own_class_name : List Rec → ℕ → Option (List ℕ)
own_class_name recs n = option_and_then (text_in recs) (name_at_field recs n CLASS_NAME)

-- a class that has a name itself
abbrev pub if_named : List Rec → ℕ → Option ℕ
if_named recs n = if is_some (own_class_name recs n) then Some n else None

-- the class whose metaclass an object is
abbrev pub this_class : List Rec → ℕ → Option ℕ
this_class recs n = option_and_then (if_named recs) (name_at_field recs n CLASS_NAME)

-- the classes that the machine knows
abbrev pub known_class_name : ℕ → Option (List ℕ)
known_class_name n =
    if n == 12 then Some (codes "SmallInteger") else
    (if n == 14 then Some (codes "String") else
    (if n == 16 then Some (codes "Array") else
    (if n == 22 then Some (codes "MethodContext") else
    (if n == 24 then Some (codes "BlockContext") else
    (if n == 26 then Some (codes "Point") else
    (if n == 28 then Some (codes "LargePositiveInteger") else
    (if n == 30 then Some (codes "DisplayBitmap") else
    (if n == 32 then Some (codes "Message") else
    (if n == 34 then Some (codes "CompiledMethod") else
    (if n == 38 then Some (codes "Semaphore") else
    (if n == 40 then Some (codes "Character") else
    (if n == 58 then Some (codes "LargeNegativeInteger") else None))))))))))))

-- ---- which class a text means

abbrev pub is_text : Option (List ℕ) → List ℕ → Bool
is_text None text = false
is_text (Some own) text = bytes_eq own text

-- the text is the name of this class and ` class`
abbrev pub is_metaclass_text : List Rec → ℕ → List ℕ → Bool
is_metaclass_text recs this text = bytes_eq (drop (length text - 6) text) (codes " class") && is_text (own_class_name recs this) (take (length text - 6) text)

-- by its own name, as a metaclass, or by the machine's name
abbrev pub is_called_by : List Rec → ℕ → List ℕ → Option (List ℕ) → Option ℕ → Bool
is_called_by recs n text (Some own) this = bytes_eq own text
is_called_by recs n text None (Some this) = is_metaclass_text recs this text
is_called_by recs n text None None = is_text (known_class_name n) text

-- or by its number
abbrev pub is_class_called : List Rec → ℕ → List ℕ → Bool
is_class_called recs n text = if bytes_eq (decimal n) text then true else is_called_by recs n text (own_class_name recs n) (this_class recs n)

-- the first of these objects that is called so
abbrev pub first_called : List Rec → List ℕ → List Rec → Option ℕ
first_called all text [] = None
first_called all text (r ∷ rs) = if is_class_called all r.name text then Some r.name else first_called all text rs
