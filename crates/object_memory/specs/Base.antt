-- The base image, on which tests run: the known objects, and a process whose method does nothing.
use Rattle.std.specs.Prelude.{ℕ, pos, List, [], ◌∷◌, ◌++◌, map, replicate}
use Rattle.long_names.specs.declared.value.Value.{Value}
use Rattle.long_names.specs.declared.value.Value.TheVariants.{Int, Ref}
use Rattle.long_names.specs.declared.object.Body.TheVariants.{Pointers, Method}
use Rattle.long_names.specs.declared.object.Rec.{Rec}
use Rattle.long_names.specs.Names.{NIL, FALSE, TRUE, SCHEDULER_ASSOCIATION, SMALL_INTEGER, STRING, ARRAY, METHOD_CONTEXT, BLOCK_CONTEXT, POINT, LARGE_POSITIVE_INTEGER, DISPLAY_BITMAP, MESSAGE, COMPILED_METHOD, SEMAPHORE, CHARACTER, DOES_NOT_UNDERSTAND, CANNOT_RETURN, SPECIAL_SELECTORS, CHARACTER_TABLE, MUST_BE_BOOLEAN, LARGE_NEGATIVE_INTEGER}

-- an object of pointers, with no count
abbrev pub pointers_rec : ℕ → ℕ → List Value → Rec
pointers_rec name class values = record { name = name; class = class; count = 0; body = Pointers values }

-- an empty array
abbrev pub empty_rec : ℕ → Rec
empty_rec name = pointers_rec name ARRAY []

-- the method: push the receiver, pop, jump back
abbrev pub method_rec : Rec
method_rec = record { name = 64; class = COMPILED_METHOD; count = 0; body = Method (pos 0) [] (112 ∷ 135 ∷ 163 ∷ 252 ∷ []) }

-- the active context: nil as sender, the instruction pointer 3, the stack pointer 0, the method
abbrev pub context_rec : Rec
context_rec = pointers_rec 66 METHOD_CONTEXT (Ref NIL ∷ Int (pos 3) ∷ Int (pos 0) ∷ Ref 64 ∷ replicate 14 (Ref NIL))

abbrev pub known_from_12 : List ℕ
known_from_12 =
    SMALL_INTEGER ∷ STRING ∷ ARRAY ∷ METHOD_CONTEXT ∷ BLOCK_CONTEXT ∷ POINT ∷ LARGE_POSITIVE_INTEGER ∷ DISPLAY_BITMAP ∷ MESSAGE
    ∷ COMPILED_METHOD ∷ SEMAPHORE ∷ CHARACTER ∷ DOES_NOT_UNDERSTAND ∷ CANNOT_RETURN ∷ SPECIAL_SELECTORS ∷ CHARACTER_TABLE
    ∷ MUST_BE_BOOLEAN ∷ LARGE_NEGATIVE_INTEGER ∷ []

-- the scheduler is 60, its process 62
abbrev pub base_recs : List Rec
base_recs =
    map empty_rec (NIL ∷ FALSE ∷ TRUE ∷ [])
    ++ pointers_rec SCHEDULER_ASSOCIATION ARRAY (Ref NIL ∷ Ref 60 ∷ []) ∷ []
    ++ map empty_rec known_from_12
    ++ pointers_rec 60 ARRAY (Ref NIL ∷ Ref 62 ∷ []) ∷ []
    ++ pointers_rec 62 ARRAY (Ref NIL ∷ Ref 66 ∷ Int (pos 1) ∷ Ref NIL ∷ []) ∷ []
    ++ method_rec ∷ []
    ++ context_rec ∷ []
