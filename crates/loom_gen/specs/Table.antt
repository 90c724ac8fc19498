-- The objects of a generated image but its characters and its nodes, by rising name.
use Rattle.std.specs.Prelude.{ℕ, ℤ, pos, ◌+◌, ◌-◌, ◌*◌, ◌/◌, List, [], ◌∷◌, ◌++◌, codes, map}
use Rattle.std.specs.List.{range_with_len}
use Rattle.long_names.specs.Names.{known_names, NIL, FALSE, TRUE, SCHEDULER_ASSOCIATION, SMALL_INTEGER, STRING, ARRAY, METHOD_CONTEXT, BLOCK_CONTEXT, POINT, LARGE_POSITIVE_INTEGER, DISPLAY_BITMAP, MESSAGE, COMPILED_METHOD, SEMAPHORE, CHARACTER, DOES_NOT_UNDERSTAND, CANNOT_RETURN, SPECIAL_SELECTORS, CHARACTER_TABLE, MUST_BE_BOOLEAN, LARGE_NEGATIVE_INTEGER}
use Rattle.long_names.specs.declared.value.Value.{Value}
use Rattle.long_names.specs.declared.value.Value.TheVariants.{Int, Ref}
use Rattle.long_names.specs.declared.object.Object.{Object}
use Rattle.loom_gen.specs.declared.names.TheConstants.{SCHEDULER, LISTS, LIST_1, LIST_2, LIST_3, LIST_4, SEMAPHORE_2, SEMAPHORE_3, PROCESS_1, PROCESS_2, PROCESS_3, CONTEXT_1, CONTEXT_2, CONTEXT_3, METHOD_1, METHOD_2, METHOD_3, DICTIONARY, METHODS, SIGNAL, WAIT, COPY_BITS, BE_DISPLAY, SHOW, FORM, BITS, BIT_BLT, STREAM, BUFFER, TICK, FIRST_CHARACTER, CHARACTERS, STAR, FIRST_NODE}
use Rattle.loom_gen.specs.Notation.{nil, int, minus, nils, zeros, of_class, array, string, words, method, primitive}
use Rattle.loom_gen.specs.Messages.{messages, Message, dictionary, special_fields}

-- ---- names by number

abbrev pub character_name : ℕ → ℕ
character_name k = FIRST_CHARACTER + 2 * k

abbrev pub node_name : ℕ → ℕ
node_name j = FIRST_NODE + 2 * j

-- all characters
unfoldable pub characters : List Value
characters = map (λ k. Ref (character_name k)) (range_with_len 0 CHARACTERS)

-- ---- the known objects

-- a class has nil above it, the one dictionary, and its instance specification (chapter 27)
abbrev pub class_with : ℤ → Object
class_with specification = array (nil ∷ Ref DICTIONARY ∷ Int specification ∷ [])

-- its objects have pointers and no indexes
abbrev pub plain_class : Object
plain_class = class_with (minus 8192)

abbrev pub known_objects : List (ℕ × Object)
known_objects =
    (NIL, array [])
    ∷ (FALSE, array [])
    ∷ (TRUE, array [])
    ∷ (SCHEDULER_ASSOCIATION, array (nil ∷ Ref SCHEDULER ∷ []))
    ∷ (SMALL_INTEGER, plain_class)
    ∷ (STRING, class_with (pos 4096))
    ∷ (ARRAY, class_with (minus 4096))
    ∷ (METHOD_CONTEXT, plain_class)
    ∷ (BLOCK_CONTEXT, plain_class)
    ∷ (POINT, plain_class)
    ∷ (LARGE_POSITIVE_INTEGER, plain_class)
    ∷ (DISPLAY_BITMAP, plain_class)
    ∷ (MESSAGE, plain_class)
    ∷ (COMPILED_METHOD, plain_class)
    ∷ (SEMAPHORE, plain_class)
    ∷ (CHARACTER, plain_class)
    ∷ (DOES_NOT_UNDERSTAND, array [])
    ∷ (CANNOT_RETURN, array [])
    ∷ (SPECIAL_SELECTORS, array special_fields)
    ∷ (CHARACTER_TABLE, array characters)
    ∷ (MUST_BE_BOOLEAN, array [])
    ∷ (LARGE_NEGATIVE_INTEGER, plain_class)
    ∷ []

-- ---- the processes (chapters 28 and 29)

-- a context of eighteen fields, without a sender, that has one temporary
abbrev pub context : ℕ → ℕ → Value → Object
context pointer method temporary =
    of_class METHOD_CONTEXT ((nil ∷ int pointer ∷ int 1 ∷ Ref method ∷ nil ∷ nil ∷ temporary ∷ []) ++ nils 11)

-- The first process is active and shows the form; the second and the third wait on their semaphores. The first one's temporary is the
-- node that the number names.
abbrev pub processes : ℕ → List (ℕ × Object)
processes number =
    (SCHEDULER, array (Ref LISTS ∷ Ref PROCESS_1 ∷ []))
    ∷ (LISTS, array (Ref LIST_1 ∷ Ref LIST_2 ∷ Ref LIST_3 ∷ Ref LIST_4 ∷ []))
    ∷ (LIST_1, array (nil ∷ nil ∷ []))
    ∷ (LIST_2, array (nil ∷ nil ∷ []))
    ∷ (LIST_3, array (nil ∷ nil ∷ []))
    ∷ (LIST_4, array (nil ∷ nil ∷ []))
    ∷ (SEMAPHORE_2, of_class SEMAPHORE (Ref PROCESS_2 ∷ Ref PROCESS_2 ∷ int 0 ∷ []))
    ∷ (SEMAPHORE_3, of_class SEMAPHORE (Ref PROCESS_3 ∷ Ref PROCESS_3 ∷ int 0 ∷ []))
    ∷ (PROCESS_1, array (nil ∷ Ref CONTEXT_1 ∷ int 2 ∷ nil ∷ []))
    ∷ (PROCESS_2, array (nil ∷ Ref CONTEXT_2 ∷ int 4 ∷ Ref SEMAPHORE_2 ∷ []))
    ∷ (PROCESS_3, array (nil ∷ Ref CONTEXT_3 ∷ int 3 ∷ Ref SEMAPHORE_3 ∷ []))
    ∷ (CONTEXT_1, context 13 METHOD_1 (Ref (node_name number)))
    ∷ (CONTEXT_2, context 17 METHOD_2 (Ref SEMAPHORE_2))
    ∷ (CONTEXT_3, context 17 METHOD_3 (Ref SEMAPHORE_3))
    ∷ (
      METHOD_1,
      method (pos 133) (Ref SIGNAL ∷ Ref SEMAPHORE_2 ∷ Ref ARRAY ∷ Ref FORM ∷ Ref BE_DISPLAY ∷ [])
          (35 ∷ 212 ∷ 135 ∷ 16 ∷ 118 ∷ 192 ∷ 104 ∷ 16 ∷ 119 ∷ 34 ∷ 119 ∷ 205 ∷ 193 ∷ 135 ∷ 33 ∷ 208 ∷ 135 ∷ 163 ∷ 240 ∷ []),
    )
    ∷ (
      METHOD_2,
      method (pos 6) (Ref WAIT ∷ Ref SEMAPHORE_2 ∷ Ref BIT_BLT ∷ Ref COPY_BITS ∷ Ref SEMAPHORE_3 ∷ Ref SIGNAL ∷ [])
          (33 ∷ 208 ∷ 135 ∷ 34 ∷ 211 ∷ 135 ∷ 36 ∷ 213 ∷ 135 ∷ 163 ∷ 245 ∷ []),
    )
    ∷ (
      METHOD_3,
      method (pos 6) (Ref WAIT ∷ Ref SEMAPHORE_3 ∷ Ref STREAM ∷ Ref STAR ∷ Ref TICK ∷ Ref SHOW ∷ [])
          (33 ∷ 208 ∷ 135 ∷ 34 ∷ 35 ∷ 196 ∷ 135 ∷ 112 ∷ 36 ∷ 229 ∷ 135 ∷ 163 ∷ 243 ∷ []),
    )
    ∷ []

-- ---- the dictionary, with its selectors and methods

abbrev pub dictionary_objects : List (ℕ × Object)
dictionary_objects =
    (DICTIONARY, array (int 12 ∷ Ref METHODS ∷ dictionary.selectors))
    ∷ (METHODS, array dictionary.methods)
    ∷ []

abbrev pub selectors : List (ℕ × Object)
selectors = map (λ (m : Message). (m.selector, string m.text)) messages

abbrev pub methods : List (ℕ × Object)
methods = map (λ (m : Message). (m.method, primitive m.arguments m.primitive)) messages

-- ---- what the processes work on

-- a form of 640 by 480 pixels, a rectangle of it that is inverted, a stream with room for 1,000 characters, and a text
abbrev pub media : List (ℕ × Object)
media =
    (FORM, array (Ref BITS ∷ int 640 ∷ int 480 ∷ nil ∷ []))
    ∷ (BITS, words DISPLAY_BITMAP (zeros 19_200))
    ∷ (BIT_BLT, array (Ref FORM ∷ nil ∷ nil ∷ int 6 ∷ int 3 ∷ int 4 ∷ int 100 ∷ int 50 ∷ int 0 ∷ int 0 ∷ int 0 ∷ int 0 ∷ int 640 ∷ int 480 ∷ []))
    ∷ (STREAM, array (Ref BUFFER ∷ int 0 ∷ int 0 ∷ int 1_000 ∷ []))
    ∷ (BUFFER, string (zeros 1_000))
    ∷ (TICK, string (codes "tick\n"))
    ∷ []

-- ---- all of them

-- the names of a table: the known ones, and from the scheduler's on all even ones up to the first character
abbrev pub table_names : List ℕ
table_names = known_names ++ map (λ i. SCHEDULER + 2 * i) (range_with_len 0 ((FIRST_CHARACTER - SCHEDULER) / 2))

unfoldable pub table : ℕ → List (ℕ × Object)
table number = known_objects ++ (processes number ++ (dictionary_objects ++ (selectors ++ (methods ++ media))))
