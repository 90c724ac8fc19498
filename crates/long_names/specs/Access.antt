-- The accesses to a memory: what they ask, what they do and what they answer.
use Rattle.std.specs.Prelude.{◌≡◌, ℕ, ℤ, ◌+◌, ◌^◌, ◌<◌, ◌≤◌, ◌||◌, Bool, List, [], ◌∷◌, ◌++◌, length, take, drop, All, Option, Some, None, IsTrue, slice_get}
use Rattle.std.specs.Option.{option_map_or, option_and_then}
use Rattle.long_names.specs.declared.value.Value.{Value}
use Rattle.long_names.specs.declared.value.Value.TheVariants.{Int, Ref}
use Rattle.long_names.specs.declared.object.Kind.{Kind}
use Rattle.long_names.specs.declared.object.Body.{Body}
use Rattle.long_names.specs.declared.object.Object.{Object}
use Rattle.long_names.specs.Names.{is_known}
use Rattle.long_names.specs.Objects.{kind_of, len_of, header_of, field_of, words_of, bytes_of, text_of, with_field, with_words, with_bytes, Making, body_made, CanMake}
use Rattle.long_names.specs.Heap.{Heap, Has, put_object, add_object, swap_objects}
use Rattle.long_names.specs.Kept.{any_below, holds_at}
use Rattle.long_names.specs.declared.limits.TheConstants.{SLOTS}
use Rattle.long_names.specs.State.{State, set_register, set_slot, name_at, IsRef, class_at, part_at, HasPart}

-- The calls that read or write an object, make one, pin one, mark one, let two change places, or make a register name a known one.
-- Registers and slots go by their numbers.
pub data Access : Type 0 where
  Known : (to : ℕ) → (name : ℕ) → Access
  Class : (to : ℕ) → (of : ℕ) → Access
  KindOf : (of : ℕ) → Access
  Length : (of : ℕ) → Access
  Header : (of : ℕ) → Access
  Field : (to : ℕ) → (of : ℕ) → (i : ℕ) → Access
  SetField : (of : ℕ) → (i : ℕ) → (from : ℕ) → Access
  Word : (of : ℕ) → (i : ℕ) → Access
  SetWord : (of : ℕ) → (i : ℕ) → (word : ℕ) → Access
  Byte : (of : ℕ) → (i : ℕ) → Access
  SetByte : (of : ℕ) → (i : ℕ) → (byte : ℕ) → Access
  ReadWords : (of : ℕ) → (at : ℕ) → (count : ℕ) → Access
  WriteWords : (of : ℕ) → (at : ℕ) → (run : List ℕ) → Access
  ReadBytes : (of : ℕ) → (at : ℕ) → (count : ℕ) → Access
  Make : (to : ℕ) → (class : ℕ) → (what : Making) → Access
  Pin : (slot : ℕ) → (of : ℕ) → Access
  Mark : (of : ℕ) → Access
  Say : (of : ℕ) → Access
  Swap : (a : ℕ) → (b : ℕ) → Access

-- the register whose object it is, if it is the object of one register
abbrev pub target_of : Access → Option ℕ
target_of (Known to name) = None
target_of (Class to of) = Some of
target_of (KindOf of) = Some of
target_of (Length of) = Some of
target_of (Header of) = Some of
target_of (Field to of i) = Some of
target_of (SetField of i from) = Some of
target_of (Word of i) = Some of
target_of (SetWord of i word) = Some of
target_of (Byte of i) = Some of
target_of (SetByte of i byte) = Some of
target_of (ReadWords of at count) = Some of
target_of (WriteWords of at run) = Some of
target_of (ReadBytes of at count) = Some of
target_of (Make to class what) = None
target_of (Pin slot of) = Some of
target_of (Mark of) = Some of
target_of (Say of) = Some of
target_of (Swap a b) = None

-- the register that it fills, if it fills one
abbrev pub filled_by : Access → Option ℕ
filled_by (Known to name) = Some to
filled_by (Class to of) = Some to
filled_by (Field to of i) = Some to
filled_by (Make to class what) = Some to
filled_by _ = None

-- the object that it makes, if it makes one
abbrev pub made_by : (ℕ → Value) → Access → Option Object
made_by regs (Make to class what) = Some (record { class = name_at (regs class); body = body_made what })
made_by regs _ = None

-- the register, if there is one, holds a name
abbrev pub NamesRef : (ℕ → Value) → Option ℕ → Type 0
NamesRef regs None = Unit {0}
NamesRef regs (Some of) = IsRef (regs of)

-- ---- what it asks

-- a class word or a field of the heap holds the name
abbrev pub is_held : Heap → ℕ → Bool
is_held h n = any_below h.next (λ k. holds_at h k n)

-- What an access asks of the heap: names that are held, kinds, and indexes in range. A run may be empty, and then its place is at
-- most the length.
abbrev pub CanDo : Heap → (ℕ → Value) → Access → Type 0
CanDo h regs (Known to name) = Has h name × IsTrue (is_known name || is_held h name)
CanDo h regs (Class to of) = (class : ℕ) × (class_at h (regs of) ≡ Some class)
CanDo h regs (KindOf of) = HasPart h (regs of) (λ b. Some (kind_of b)) (λ k. Unit {0})
CanDo h regs (Length of) = HasPart h (regs of) (λ b. Some (len_of b)) (λ n. Unit {0})
CanDo h regs (Header of) = HasPart h (regs of) header_of (λ z. Unit {0})
CanDo h regs (Field to of i) = HasPart h (regs of) (λ b. field_of b i) (λ v. Unit {0})
CanDo h regs (SetField of i from) = HasPart h (regs of) (λ b. field_of b i) (λ v. Unit {0})
CanDo h regs (Word of i) = HasPart h (regs of) words_of (λ words. i < length words)
CanDo h regs (SetWord of i word) = HasPart h (regs of) words_of (λ words. i < length words)
CanDo h regs (Byte of i) = HasPart h (regs of) bytes_of (λ bytes. i < length bytes)
CanDo h regs (SetByte of i byte) = HasPart h (regs of) bytes_of (λ bytes. i < length bytes)
CanDo h regs (ReadWords of at count) = HasPart h (regs of) words_of (λ words. at + count ≤ length words)
CanDo h regs (WriteWords of at run) = HasPart h (regs of) words_of (λ words. at + length run ≤ length words)
CanDo h regs (ReadBytes of at count) = HasPart h (regs of) bytes_of (λ bytes. at + count ≤ length bytes)
CanDo h regs (Make to class what) = Unit {0}
CanDo h regs (Pin slot of) = HasPart h (regs of) (λ b. Some (kind_of b)) (λ k. Unit {0})
CanDo h regs (Mark of) = HasPart h (regs of) (λ b. Some (kind_of b)) (λ k. Unit {0})
CanDo h regs (Say of) = HasPart h (regs of) text_of (λ bytes. Unit {0})
CanDo h regs (Swap a b) = HasPart h (regs a) (λ b. Some (kind_of b)) (λ k. Unit {0}) × HasPart h (regs b) (λ b. Some (kind_of b)) (λ k. Unit {0})

-- What it asks of registers, which are always known: that of its object, or of the class of what is made, holds a name. The class of
-- a number may be asked.
abbrev pub HasNames : (ℕ → Value) → Access → Type 0
HasNames regs (Class to of) = Unit {0}
HasNames regs (Make to class what) = IsRef (regs class)
HasNames regs (Swap a b) = IsRef (regs a) × IsRef (regs b)
HasNames regs a = NamesRef regs (target_of a)

-- no slot has this name
abbrev pub IsUnpinned : (ℕ → Option ℕ) → ℕ → Type 0
IsUnpinned slots n = (i : ℕ) → i < SLOTS → slots i ≡ Some n → ⊥

-- What it asks of slots, which are always known too: of two objects that change places none is pinned.
abbrev pub HasSlots : (ℕ → Value) → (ℕ → Option ℕ) → Access → Type 0
HasSlots regs slots (Swap a b) = IsUnpinned slots (name_at (regs a)) × IsUnpinned slots (name_at (regs b))
HasSlots regs slots _ = Unit {0}

-- And of numbers: sizes are those of an object, words have 16 bits and bytes 8.
abbrev pub HasRanges : Access → Type 0
HasRanges (SetWord of i word) = word < 2 ^ 16
HasRanges (SetByte of i byte) = byte < 2 ^ 8
HasRanges (WriteWords of at run) = All (λ w. w < 2 ^ 16) run
HasRanges (Make to class what) = CanMake what
HasRanges _ = Unit {0}

-- ---- what it does

-- the object of its row: for the class of a SmallInteger the class, for a making the object made, for a swap the first object
abbrev pub object_of : Heap → (ℕ → Value) → Access → ℕ
object_of h regs (Known to name) = name
object_of h regs (Swap a b) = name_at (regs a)
object_of h regs a = option_map_or (λ of. name_at (regs of)) (target_of a) h.next

-- The object of its other row. A swap has a row for each of its two objects; any other access has one row.
abbrev pub other_object_of : Heap → (ℕ → Value) → Access → ℕ
other_object_of h regs (Swap a b) = name_at (regs b)
other_object_of h regs a = object_of h regs a

-- the value that it brings into a register, where it brings one
abbrev pub brought : Heap → (ℕ → Value) → Access → Option Value
brought h regs (Known to name) = Some (Ref name)
brought h regs (Class to of) = option_and_then (λ class. Some (Ref class)) (class_at h (regs of))
brought h regs (Field to of i) = part_at h (regs of) (λ b. field_of b i)
brought h regs (Make to class what) = Some (Ref h.next)
brought h regs _ = None

-- the registers once it has brought this value
abbrev pub regs_after : (ℕ → Value) → Access → Value → ℕ → Value
regs_after regs a v = option_map_or (λ to. set_register regs to v) (filled_by a) regs

abbrev pub slots_after : (ℕ → Value) → (ℕ → Option ℕ) → Access → ℕ → Option ℕ
slots_after regs slots (Pin slot of) = set_slot slots slot (Some (name_at (regs of)))
slots_after regs slots _ = slots

-- the heap with another body for the object that a value names
abbrev pub with_body : Heap → Value → (Body → Body) → Heap
with_body h (Int z) change = h
with_body h (Ref n) change = option_map_or (λ (o : Object). put_object h n (record { class = o.class; body = change o.body })) (h.at n) h

-- the heap with the object that an access made, where it made one
abbrev pub with_made : Heap → Option Object → Heap
with_made h x = option_map_or (λ (o : Object). add_object h o) x h

-- the heap once the objects that two values name have changed places
abbrev pub with_swapped : Heap → Value → Value → Heap
with_swapped h (Ref n) (Ref k) = swap_objects h n k
with_swapped h _ _ = h

-- the heap after it stored or made something, or let two objects change places
abbrev pub heap_after : Heap → (ℕ → Value) → Access → Heap
heap_after h regs (SetField of i from) = with_body h (regs of) (λ b. with_field b i (regs from))
heap_after h regs (SetWord of i word) = with_body h (regs of) (λ b. with_words b i (word ∷ []))
heap_after h regs (SetByte of i byte) = with_body h (regs of) (λ b. with_bytes b i (byte ∷ []))
heap_after h regs (WriteWords of at run) = with_body h (regs of) (λ b. with_words b at run)
heap_after h regs (Swap a b) = with_swapped h (regs a) (regs b)
heap_after h regs a = with_made h (made_by regs a)

-- the bytes that join the transcript
abbrev pub said_by : Heap → (ℕ → Value) → Access → Option (List ℕ)
said_by h regs (Say of) = part_at h (regs of) text_of
said_by h regs _ = Some []

-- a state after an access
abbrev pub after : State → Access → State
after s a = record {
  heap = heap_after s.heap s.regs a;
  regs = option_map_or (λ v. regs_after s.regs a v) (brought s.heap s.regs a) s.regs;
  slots = slots_after s.regs s.slots a;
  transcript = s.transcript ++ option_map_or (λ bytes. bytes) (said_by s.heap s.regs a) [];
}

-- ---- what it answers

pub data Answer : Type 0 where
  Nothing : Answer
  OfKind : (kind : Kind) → Answer
  OfNumber : (n : ℕ) → Answer
  OfSigned : (z : ℤ) → Answer
  OfRun : (run : List ℕ) → Answer

abbrev pub answered : {A : Type 0} → (A → Answer) → Option A → Option Answer
answered f o = option_and_then (λ a. Some (f a)) o

abbrev pub answer_of : Heap → (ℕ → Value) → Access → Option Answer
answer_of h regs (KindOf of) = answered OfKind (part_at h (regs of) (λ b. Some (kind_of b)))
answer_of h regs (Length of) = answered OfNumber (part_at h (regs of) (λ b. Some (len_of b)))
answer_of h regs (Header of) = answered OfSigned (part_at h (regs of) header_of)
answer_of h regs (Word of i) = answered OfNumber (part_at h (regs of) (λ b. option_and_then (λ words. slice_get words i) (words_of b)))
answer_of h regs (Byte of i) = answered OfNumber (part_at h (regs of) (λ b. option_and_then (λ bytes. slice_get bytes i) (bytes_of b)))
answer_of h regs (ReadWords of at count) = answered (λ words. OfRun (take count (drop at words))) (part_at h (regs of) words_of)
answer_of h regs (ReadBytes of at count) = answered (λ bytes. OfRun (take count (drop at bytes))) (part_at h (regs of) bytes_of)
answer_of h regs _ = Some Nothing
