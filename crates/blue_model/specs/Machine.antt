-- The machine of chapters 26 to 30 over one unbounded memory of long names, and rules that take it on.
use Rattle.std.specs.Prelude.{zero, suc, ℕ, pos, Bool, true, false, ◌&&◌, nat_lt, max, List, [], ◌∷◌, ◌++◌, Option, Some, None, is_some, slice_get, if◌then◌else◌}
use Rattle.std.specs.Option.{option_and_then}
use Rattle.long_names.specs.declared.value.Value.{Value}
use Rattle.long_names.specs.declared.value.Value.TheVariants.{Int, Ref}
use Rattle.long_names.specs.declared.object.Body.{Body}
use Rattle.long_names.specs.declared.object.Object.{Object}
use Rattle.long_names.specs.Names.{NIL}
use Rattle.long_names.specs.declared.limits.TheConstants.{LAST_NAME, MACHINE_REGISTERS, SLOTS}
use Rattle.long_names.specs.Objects.{Making, body_made, with_field, with_words, with_bytes, field_of, words_of, bytes_of, text_of}
use Rattle.long_names.specs.Heap.{Heap, add_object}
use Rattle.long_names.specs.Kept.{any_below}
use Rattle.long_names.specs.State.{set_register, set_slot, object_at, name_at, class_at, part_at}
use Rattle.long_names.specs.Access.{with_body, with_swapped}
use Rattle.long_names.specs.Need.{Row, is_pinned, words_at, words_of_row, entries_of_row}
use Rattle.blue_model.specs.declared.cause.Cause.{Cause}
use Rattle.blue_model.specs.declared.cause.Cause.TheVariants.{Shape}
use Rattle.blue_model.specs.declared.cpu.Cpu.{Cpu}
use Rattle.blue_model.specs.declared.indexes.TheConstants.{EMPTY_STACK}

-- ---- machines

-- A heap, registers 0 to 9, the slots of the pinned objects, the transcript, the numbers of the processor, and the words that the largest
-- object of those that it made takes in a core, 0 where it made none.
pub record Machine : Type 0 where
  pub heap : Heap
  pub regs : ℕ → Value
  pub slots : ℕ → Option ℕ
  pub transcript : List ℕ
  pub cpu : Cpu
  pub largest : ℕ

abbrev pub numbers_at_rest : Cpu
numbers_at_rest = record { ip = pos 0; sp = pos EMPTY_STACK; args = 0; waiting = false; line = 0; words_in = 0; words_out = 0; timer = None; display = false; input = false; ran = 0; base = 0; vault = false }

-- nothing has been loaded: numbers in all registers, no object pinned, nothing said or made
abbrev pub at_rest : Heap → Machine
at_rest h = record { heap = h; regs = λ r. Int (pos 0); slots = λ i. None; transcript = []; cpu = numbers_at_rest; largest = 0 }

-- ---- logs

-- a row of a log: an object that a rule names, reads, writes, makes or pins, what it needs of a core with the objects that are pinned at
-- that moment, and the words that it takes there itself
pub record LogRow : Type 0 where
  pub object : ℕ
  pub words : ℕ
  pub entries : ℕ
  pub makes : Bool
  pub own : ℕ

abbrev pub logged : Heap → Row → Bool → LogRow
logged h r makes = record { object = r.object; words = words_of_row h r; entries = entries_of_row h r; makes = makes; own = words_at h r.object }

-- of an object that is there, and of one that is made
abbrev pub row_of : Machine → ℕ → LogRow
row_of m n = logged m.heap (record { object = n; slots = m.slots }) false

abbrev pub making_row : Machine → Object → LogRow
making_row m o = logged (add_object m.heap o) (record { object = m.heap.next; slots = m.slots }) true

-- ---- rules

-- What a rule comes to, with its log: an answer and the next machine; a cause; or no name left for an object.
pub data Outcome (A : Type 0) : Type 0 where
  Go : (answer : A) → (machine : Machine) → (log : List LogRow) → Outcome A
  Halt : (cause : Cause) → (log : List LogRow) → Outcome A
  Spent : (log : List LogRow) → Outcome A

abbrev pub Rule : Type 0 → Type 0
Rule A = Machine → Outcome A

abbrev pub log_of : {A : Type 0} → Outcome A → List LogRow
log_of (Go a m log) = log
log_of (Halt c log) = log
log_of (Spent log) = log

-- with rows that came before
abbrev pub after : {A : Type 0} → List LogRow → Outcome A → Outcome A
after rows (Go a m log) = Go a m (rows ++ log)
after rows (Halt c log) = Halt c (rows ++ log)
after rows (Spent log) = Spent (rows ++ log)

abbrev pub then_do : {A B : Type 0} → Outcome A → (A → Rule B) → Outcome B
then_do (Go a m log) k = after log (k a m)
then_do (Halt c log) k = Halt c log
then_do (Spent log) k = Spent log

infixl 20 ◌>>=◌
infixl 20 ◌>>◌
-- one rule, and then another that depends on its answer
unfoldable pub ◌>>=◌ : {A B : Type 0} → Rule A → (A → Rule B) → Rule B
(p >>= k) m = then_do (p m) k

abbrev pub ◌>>◌ : {A B : Type 0} → Rule A → Rule B → Rule B
p >> q = p >>= (λ _. q)

unfoldable pub done : {A : Type 0} → A → Rule A
done a m = Go a m []

unfoldable pub halt : {A : Type 0} → Cause → Rule A
halt c m = Halt c []

-- the value, or the cause where there is none
unfoldable pub given : {A : Type 0} → Cause → Option A → Rule A
given c None = halt c
given c (Some a) = done a

-- one of two rules, by a test
unfoldable pub pick : {A : Type 0} → Bool → Rule A → Rule A → Rule A
pick true p q = p
pick false p q = q

-- ---- registers and numbers

-- a rule writes down only names that have an object. Over a whole heap this test never says no
abbrev pub is_there : Heap → Value → Bool
is_there h (Int z) = true
is_there h (Ref n) = is_some (h.at n)

unfoldable pub register : ℕ → Rule Value
register r m = Go (m.regs r) m []

abbrev pub placed : Machine → ℕ → Value → Bool → Outcome (Unit {0})
placed m r v true = Go tt (record m { regs = if nat_lt r MACHINE_REGISTERS then set_register m.regs r v else m.regs }) []
placed m r v false = Halt Shape []

unfoldable pub put_register : ℕ → Value → Rule (Unit {0})
put_register r v m = placed m r v (is_there m.heap v)

-- the registers that the test names hold 0
unfoldable pub clear : (ℕ → Bool) → Rule (Unit {0})
clear among m = Go tt (record m { regs = λ r. if among r then Int (pos 0) else m.regs r }) []

unfoldable pub numbers : Rule Cpu
numbers m = Go m.cpu m []

unfoldable pub set_numbers : Cpu → Rule (Unit {0})
set_numbers cpu m = Go tt (record m { cpu = cpu }) []

-- ---- objects: each rule is an access, with the object that a value names

-- the row of what a value names; a SmallInteger names no object
abbrev pub rows_at : Machine → Value → List LogRow
rows_at m (Int z) = []
rows_at m (Ref n) = row_of m n ∷ []

abbrev pub looked : Machine → Value → Option Object → Outcome Object
looked m v None = Halt Shape (rows_at m v)
looked m v (Some o) = Go o m (rows_at m v)

-- the object that a value names
unfoldable pub look : Value → Rule Object
look v m = looked m v (object_at m.heap v)

-- a part of the object that a value names, or a cause where it has none
unfoldable pub part : {A : Type 0} → Cause → (Object → Option A) → Value → Rule A
part c f v = look v >>= λ o. given c (f o)

-- an object by a name that the rule has of itself: it is known
unfoldable pub known : ℕ → Rule Value
known n = look (Ref n) >>= λ o. done (Ref n)

abbrev pub classed : Machine → Value → Option ℕ → Outcome Value
classed m v None = Halt Shape (row_of m (name_at v) ∷ [])
classed m v (Some class) = Go (Ref class) m (row_of m (name_at v) ∷ [])

-- fetchClassOf: (chapter 30). The class of a SmallInteger is looked at like an object
unfoldable pub class_of : Value → Rule Value
class_of v m = classed m v (class_at m.heap v)

abbrev pub stored : Machine → Value → ℕ → Value → Option Value → Bool → Outcome (Unit {0})
stored m v i w None there = Halt Shape (rows_at m v)
stored m v i w (Some old) false = Halt Shape (rows_at m v)
stored m v i w (Some old) true = Go tt (record m { heap = with_body m.heap v (λ b. with_field b i w) }) (rows_at m v)

-- storePointer:ofObject:withValue: (chapter 30)
unfoldable pub store : Value → ℕ → Value → Rule (Unit {0})
store v i w m = stored m v i w (part_at m.heap v (λ b. field_of b i)) (is_there m.heap w)

abbrev pub changed : Machine → Value → (Body → Body) → Bool → Outcome (Unit {0})
changed m v change true = Go tt (record m { heap = with_body m.heap v change }) (rows_at m v)
changed m v change false = Halt Shape (rows_at m v)

-- storeWord:ofObject:withValue: (chapter 30)
unfoldable pub store_word : Value → ℕ → ℕ → Rule (Unit {0})
store_word v i word m = changed m v (λ b. with_words b i (word ∷ [])) (is_some (part_at m.heap v (λ b. option_and_then (λ (words : List ℕ). slice_get words i) (words_of b))))

-- storeByte:ofObject:withValue: (chapter 30), of code too
unfoldable pub store_byte : Value → ℕ → ℕ → Rule (Unit {0})
store_byte v i byte m = changed m v (λ b. with_bytes b i (byte ∷ [])) (is_some (part_at m.heap v (λ b. option_and_then (λ (bytes : List ℕ). slice_get bytes i) (bytes_of b))))

-- the value is a name, and no slot has it
abbrev pub is_unpinned : (ℕ → Option ℕ) → Value → Bool
is_unpinned slots (Int z) = false
is_unpinned slots (Ref n) = if any_below SLOTS (λ i. is_pinned n (slots i)) then false else true

-- The value names an object that may change places: it is there, and not pinned, since what is pinned stays in the core. Slots have the
-- active context, its home and its method, which primitives leave in their places, so over a whole heap this test never says no
abbrev pub is_free : Machine → Value → Bool
is_free m v = is_there m.heap v && is_unpinned m.slots v

abbrev pub swapped : Machine → Value → Value → Bool → Outcome (Unit {0})
swapped m v w true = Go tt (record m { heap = with_swapped m.heap v w }) (rows_at m v ++ rows_at m w)
swapped m v w false = Halt Shape (rows_at m v ++ rows_at m w)

-- swapPointersOf:and: (chapter 30). The objects of two names change places, with class and body; of one name nothing changes
unfoldable pub swap : Value → Value → Rule (Unit {0})
swap v w m = swapped m v w (is_free m v && is_free m w)

abbrev pub object_made : Value → Making → Object
object_made class what = record { class = name_at class; body = body_made what }

abbrev pub with_object : Machine → Object → Machine
with_object m o = record m { heap = add_object m.heap o; largest = max m.largest (making_row m o).own }

abbrev pub added : Machine → Object → Bool → Outcome Value
added m o true = Go (Ref m.heap.next) (with_object m o) (making_row m o ∷ [])
added m o false = Halt Shape (making_row m o ∷ [])

abbrev pub made : Machine → Object → Bool → Outcome Value
made m o true = added m o (is_there m.heap (Ref o.class) && is_there m.heap (Ref NIL))
made m o false = Spent []

-- instantiateClass:withPointers: and its kin (chapter 30). A refused making has no row
unfoldable pub make : Value → Making → Rule Value
make class what m = made m (object_made class what) (nat_lt m.heap.next LAST_NAME)

abbrev pub unpinned : (ℕ → Option ℕ) → ℕ → Option ℕ
unpinned slots = set_slot (set_slot (set_slot slots 0 None) 1 None) 2 None

unfoldable pub unpin_all : Rule (Unit {0})
unpin_all m = Go tt (record m { slots = unpinned m.slots }) []

abbrev pub with_pin : Machine → ℕ → ℕ → Machine
with_pin m slot n = record m { slots = set_slot m.slots slot (Some n) }

abbrev pub pinned : Machine → ℕ → ℕ → Option Object → Outcome (Unit {0})
pinned m slot n None = Halt Shape (row_of m n ∷ [])
pinned m slot n (Some o) = Go tt (with_pin m slot n) (row_of m n ∷ row_of (with_pin m slot n) n ∷ [])

-- pins the object that a value names. It is in the log with the slots before and with the slots after
unfoldable pub pin : ℕ → Value → Rule (Unit {0})
pin slot (Int z) m = Halt Shape []
pin slot (Ref n) m = pinned m slot n (m.heap.at n)

abbrev pub spoken : Machine → Value → Option (List ℕ) → Outcome (Unit {0})
spoken m v None = Halt Shape (rows_at m v)
spoken m v (Some bytes) = Go tt (record m { transcript = m.transcript ++ bytes }) (rows_at m v)

-- the bytes of the object that a value names join the transcript
unfoldable pub say : Value → Rule (Unit {0})
say v m = spoken m v (part_at m.heap v text_of)

-- a rule so many times
unfoldable pub times : ℕ → Rule (Unit {0}) → Rule (Unit {0})
times zero p = done tt
times (suc n) p = times n p >> p

-- a rule for each number below n, in order
unfoldable pub each : (ℕ → Rule (Unit {0})) → ℕ → Rule (Unit {0})
each p zero = done tt
each p (suc n) = each p n >> p n
