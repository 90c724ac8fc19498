-- Names (the object pointers of the Blue Book's chapter 30, with 32 bits), the objects that every image has, and the bits of words.
use Rattle.std.specs.Prelude.{◌≡◌, ℕ, ◌+◌, ◌-◌, ◌/◌, ◌%◌, ◌^◌, ◌<◌, ◌==◌, Bool, List, [], ◌∷◌}
use Rattle.std.specs.List.{list_any}
pub use Rattle.long_names.specs.declared.limits.TheConstants.{LAST_NAME}

-- a name is an even long word above 0
pub record IsName (word : ℕ) : Type 0 where
  pub even : word % 2 ≡ 0
  pub above : 0 < word

-- a name of 32 bits
abbrev pub IsLongName : ℕ → Type 0
IsLongName n = IsName n × (n < 2 ^ 32)

-- ---- the known objects (chapter 27, guaranteed pointers)

abbrev pub NIL : ℕ
NIL = 2

abbrev pub FALSE : ℕ
FALSE = 4

abbrev pub TRUE : ℕ
TRUE = 6

abbrev pub SCHEDULER_ASSOCIATION : ℕ
SCHEDULER_ASSOCIATION = 8

abbrev pub SMALL_INTEGER : ℕ
SMALL_INTEGER = 12

abbrev pub STRING : ℕ
STRING = 14

abbrev pub ARRAY : ℕ
ARRAY = 16

abbrev pub METHOD_CONTEXT : ℕ
METHOD_CONTEXT = 22

abbrev pub BLOCK_CONTEXT : ℕ
BLOCK_CONTEXT = 24

abbrev pub POINT : ℕ
POINT = 26

abbrev pub LARGE_POSITIVE_INTEGER : ℕ
LARGE_POSITIVE_INTEGER = 28

abbrev pub DISPLAY_BITMAP : ℕ
DISPLAY_BITMAP = 30

abbrev pub MESSAGE : ℕ
MESSAGE = 32

abbrev pub COMPILED_METHOD : ℕ
COMPILED_METHOD = 34

abbrev pub SEMAPHORE : ℕ
SEMAPHORE = 38

abbrev pub CHARACTER : ℕ
CHARACTER = 40

abbrev pub DOES_NOT_UNDERSTAND : ℕ
DOES_NOT_UNDERSTAND = 42

abbrev pub CANNOT_RETURN : ℕ
CANNOT_RETURN = 44

abbrev pub SPECIAL_SELECTORS : ℕ
SPECIAL_SELECTORS = 48

abbrev pub CHARACTER_TABLE : ℕ
CHARACTER_TABLE = 50

abbrev pub MUST_BE_BOOLEAN : ℕ
MUST_BE_BOOLEAN = 52

abbrev pub LARGE_NEGATIVE_INTEGER : ℕ
LARGE_NEGATIVE_INTEGER = 58

-- the objects that every image has, and that are never freed
abbrev pub known_names : List ℕ
known_names =
    NIL ∷ FALSE ∷ TRUE ∷ SCHEDULER_ASSOCIATION ∷ SMALL_INTEGER ∷ STRING ∷ ARRAY ∷ METHOD_CONTEXT ∷ BLOCK_CONTEXT ∷ POINT
    ∷ LARGE_POSITIVE_INTEGER ∷ DISPLAY_BITMAP ∷ MESSAGE ∷ COMPILED_METHOD ∷ SEMAPHORE ∷ CHARACTER ∷ DOES_NOT_UNDERSTAND
    ∷ CANNOT_RETURN ∷ SPECIAL_SELECTORS ∷ CHARACTER_TABLE ∷ MUST_BE_BOOLEAN ∷ LARGE_NEGATIVE_INTEGER ∷ []

abbrev pub is_known : ℕ → Bool
is_known n = list_any (λ k. n == k) known_names

-- ---- bits

-- the bits of a 16-bit word from one to another, both of them; bit 0 is the highest
abbrev pub bits_of : ℕ → ℕ → ℕ → ℕ
bits_of word from to = word / 2 ^ (15 - to) % 2 ^ (to + 1 - from)
