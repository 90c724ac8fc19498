-- The rules of images in the sentences that people read.
use Rattle.std.specs.Prelude.{ℕ, ◌-◌, ◌&&◌, ◌==◌, bytes_eq, not, Bool, true, List, [], ◌∷◌, codes, length, if◌then◌else◌}
use Rattle.std.specs.List.{list_any}

-- the rules 0 to 14, of which rule 0 is the grammar of texts
abbrev pub sentences : List (List ℕ)
sentences =
    codes "a line is parts with one space between two, as `NAME CLASS pointers VALUE ..`" ∷
    codes "an image begins with the four bytes LOOM" ∷
    codes "the version is 1 or 2" ∷
    codes "an image has 22 to 1,048,576 objects, and its next name is even, and 60 or more" ∷
    codes "a name is even, not 0, above the name before it and below the next name" ∷
    codes "a kind is 0 to 3: pointers, words, bytes or a method" ∷
    codes "a class is a name, and a value or literal is a name or a SmallInteger from -16384 to 16383" ∷
    codes "a method has at most 16,000 bytes of code, and its header says how many literals it has" ∷
    codes "the bytes that fill a record up to a multiple of four are zeros" ∷
    codes "the file ends after the last record, and not before" ∷
    codes "each name that a class word or a field holds is that of an object of the image" ∷
    codes "each object has the exact count of the words that hold it, and only a known object is held by none" ∷
    codes "the 22 known objects are there" ∷
    codes "display, input and timer are each 0 or a name below the next name, and without a timer the tick is 0" ∷
    codes "display, input and timer are each 0 or the name of an object of the image" ∷
    []

-- the item at a place, or what stands for none
abbrev pub item_or : List (List ℕ) → ℕ → List ℕ → List ℕ
item_or [] n none = none
item_or (s ∷ ss) n none = if n == 0 then s else item_or ss (n - 1) none

unfoldable pub sentence_of : ℕ → List ℕ
sentence_of rule = item_or sentences rule (codes "no rule of images has this number")

-- no two are the same, and none is empty
abbrev pub are_apart : List (List ℕ) → Bool
are_apart [] = true
are_apart (s ∷ ss) = not (length s == 0) && not (list_any (bytes_eq s) ss) && are_apart ss
