-- What a caller knows of the object that a register names, and what reads leave.
use Rattle.std.specs.Prelude.{◌≡◌, ◌↔◌, ℕ, ℤ, ◌+◌, ◌-◌, ◌*◌, ◌==◌, nat_le, Bool, false, List, length, slice_get, Option, Some, None, Result, IsTrue, IsSome, OnOk, OnErr, if◌then◌else◌}
use Rattle.std.specs.Option.{option_map, option_and_then}
use Rattle.std.specs.List.{list_any}
use Rattle.long_names.specs.declared.value.Value.{Value}
use Rattle.long_names.specs.declared.object.Kind.{Kind}
use Rattle.long_names.specs.declared.object.Kind.TheVariants as kind
use Rattle.long_names.specs.declared.object.Body.{Body}
use Rattle.long_names.specs.declared.object.Body.TheVariants.{Pointers, Words, Bytes, Method}
use Rattle.long_names.specs.Objects.{kind_of, len_of, int_of, pointers_of, literals_of, words_of, bytes_of}
use Rattle.long_names.specs.Thin.{IsThinner}
use Rattle.long_names.specs.State.{IsRef, part_at, HasPart}
use Rattle.long_names.specs.Access.{KindOf}
use Rattle.object_memory.specs.Told.{Told}
use Rattle.object_memory.specs.Contract.{Does, IsLater, LeavesCache, no_names, Raised, Called, IfBounds, HasCore}
use Rattle.object_memory.specs.declared.fault.MemFault.{MemFault}

-- ---- parts of a body

-- its kind and its length
abbrev pub shape_of : Body → Option (Kind × ℕ)
shape_of body = Some (kind_of body, len_of body)

-- how many values an object of pointers has, words an object of words, bytes an object of bytes or a method's code, literals a method
abbrev pub field_count : Body → Option ℕ
field_count body = option_map length (pointers_of body)

abbrev pub word_count : Body → Option ℕ
word_count body = option_map length (words_of body)

abbrev pub byte_count : Body → Option ℕ
byte_count body = option_map length (bytes_of body)

abbrev pub literals_count : Body → Option ℕ
literals_count body = option_map length (literals_of body)

-- the number that value i of an object of pointers is
abbrev pub number_in : ℕ → Body → Option ℤ
number_in i body = option_and_then int_of (option_and_then (λ (values : List Value). slice_get values i) (pointers_of body))

-- the byte of a method's code at a place that counts from its header on, which takes two bytes, as each literal does
abbrev pub code_at : ℕ → Body → Option ℕ
code_at place (Pointers values) = None
code_at place (Words words) = None
code_at place (Bytes bytes) = None
code_at place (Method header literals code) = if nat_le (2 * (length literals + 1)) place then slice_get code (place - 2 * (length literals + 1)) else None

-- these numbers by kind and length
abbrev pub fields_by : Kind → ℕ → Option ℕ
fields_by kind.Pointers len = Some len
fields_by kind.Words len = None
fields_by kind.Bytes len = None
fields_by kind.Method len = None

abbrev pub words_by : Kind → ℕ → Option ℕ
words_by kind.Pointers len = None
words_by kind.Words len = Some len
words_by kind.Bytes len = None
words_by kind.Method len = None

abbrev pub bytes_by : Kind → ℕ → Option ℕ
bytes_by kind.Pointers len = None
bytes_by kind.Words len = None
bytes_by kind.Bytes len = Some len
bytes_by kind.Method len = Some len

-- ---- the object that a register names

-- The register holds a name, and where the heap is told, its object has this part, of which P holds.
pub record HasPartAt {A : Type 0} (t : Told) (r : ℕ) (part : Body → Option A) (P : A → Type 0) : Type 0 where
  pub name : IsRef (t.regs r)
  pub there : IsTrue t.tells → HasPart t.heap (t.regs r) part P

-- What was found is this part of the object, where the heap is told. Wherever some part was found, the register holds a name.
pub record IsPartAt {A : Type 0} (t : Told) (r : ℕ) (part : Body → Option A) (found : Option A) : Type 0 where
  pub name : IsSome found → IsRef (t.regs r)
  pub there : IsTrue t.tells → part_at t.heap (t.regs r) part ≡ found

-- The answer is true exactly where the object has this part, of which P holds, where the heap is told. Wherever it is true, the
-- register holds a name.
pub record IsTestAt {A : Type 0} (t : Told) (r : ℕ) (part : Body → Option A) (P : A → Type 0) (answer : Bool) : Type 0 where
  pub name : IsTrue answer → IsRef (t.regs r)
  pub there : IsTrue t.tells → (IsTrue answer ↔ HasPart t.heap (t.regs r) part P)

-- a call found this part of the object: it was there before the call, and is there after it
pub record FindsPart {A : Type 0} (old new : Told) (r : ℕ) (part : Body → Option A) (found : Option A) : Type 0 where
  pub before : IsPartAt old r part found
  pub after : IsPartAt new r part found

-- a call tested whether the object has this part, before the call and after it
pub record TestsPart {A : Type 0} (old new : Told) (r : ℕ) (part : Body → Option A) (P : A → Type 0) (answer : Bool) : Type 0 where
  pub before : IsTestAt old r part P answer
  pub after : IsTestAt new r part P answer

-- ---- reads

-- the register is one of these
abbrev pub is_among : List ℕ → ℕ → Bool
is_among filled r = list_any (λ k. r == k) filled

-- What reads leave, put together, where they brought values into these registers and none else: all other registers, the slots and the
-- transcript are as before, the heap is thinner, the cache is kept or emptied, nothing was made and nothing refused.
pub record Looks (filled : List ℕ) (old new : Told) : Type 0 where
  pub later : IsLater old new
  pub regs : (r : ℕ) → is_among filled r ≡ false → new.regs r ≡ old.regs r
  pub slots : new.slots ≡ old.slots
  pub transcript : IsTrue old.speaks → new.transcript ≡ old.transcript
  pub heap : IsTrue old.tells → IsThinner old.heap new.heap
  pub cache : LeavesCache no_names None old.cache old.cache new.cache
  pub counts : Raised 0 old.bounds new.bounds
  pub refusals : new.refusals ≡ old.refusals
  pub last : new.last ≡ old.last

-- What calls come to that read the object in a register and nothing else: put together, they are one call that asks for its kind. They
-- are refused only where the register holds a name.
pub record ReadsObject {A : Type 0} (old new : Told) (of : ℕ) (result : Result A MemFault) : Type 0 where
  pub called : Called old new (Does (KindOf of)) result
  pub core : OnOk result (IfBounds old.bounds (HasCore old (KindOf of)))
  pub named : OnErr result (IsRef (old.regs of))
