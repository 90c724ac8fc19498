-- The state of a memory: a heap, registers, slots for pinned objects, and a transcript.
use Rattle.std.specs.Prelude.{◌≡◌, ℕ, ◌==◌, List, [], ◌∷◌, Option, Some, None, if◌then◌else◌}
use Rattle.std.specs.Option.{option_and_then}
use Rattle.long_names.specs.declared.value.Value.{Value}
use Rattle.long_names.specs.declared.value.Value.TheVariants.{Int, Ref}
use Rattle.long_names.specs.declared.object.Body.{Body}
use Rattle.long_names.specs.declared.object.Object.{Object}
use Rattle.long_names.specs.Names.{SMALL_INTEGER}
use Rattle.long_names.specs.Heap.{Heap}

-- a heap, the values of 24 registers, three slots with names or none, and the transcript
pub record State : Type 0 where
  pub heap : Heap
  pub regs : ℕ → Value
  pub slots : ℕ → Option ℕ
  pub transcript : List ℕ

-- ---- registers, by their numbers: those of the interpreter (chapter 28) and of this profile; from 10 on they are scratch

abbrev pub ACTIVE_CONTEXT : ℕ
ACTIVE_CONTEXT = 0

abbrev pub HOME : ℕ
HOME = 1

abbrev pub METHOD : ℕ
METHOD = 2

abbrev pub RECEIVER : ℕ
RECEIVER = 3

abbrev pub SELECTOR : ℕ
SELECTOR = 4

abbrev pub NEW_METHOD : ℕ
NEW_METHOD = 5

abbrev pub NEW_PROCESS : ℕ
NEW_PROCESS = 6

abbrev pub INPUT_SEMAPHORE : ℕ
INPUT_SEMAPHORE = 7

abbrev pub TIMER_SEMAPHORE : ℕ
TIMER_SEMAPHORE = 8

abbrev pub DISPLAY : ℕ
DISPLAY = 9

-- the registers of the machine, in this order
abbrev pub machine_registers : List ℕ
machine_registers =
    ACTIVE_CONTEXT ∷ HOME ∷ METHOD ∷ RECEIVER ∷ SELECTOR ∷ NEW_METHOD ∷ NEW_PROCESS ∷ INPUT_SEMAPHORE ∷ TIMER_SEMAPHORE ∷ DISPLAY ∷ []

abbrev pub set_register : (ℕ → Value) → ℕ → Value → ℕ → Value
set_register regs to v = λ r. if r == to then v else regs r

-- ---- slots, by their numbers: the active context, its home and its method are pinned there

abbrev pub set_slot : (ℕ → Option ℕ) → ℕ → Option ℕ → ℕ → Option ℕ
set_slot slots slot n = λ i. if i == slot then n else slots i

-- ---- what a value names

-- the object that a value names
abbrev pub object_at : Heap → Value → Option Object
object_at h (Int z) = None
object_at h (Ref n) = h.at n

-- the name of a value, and for a SmallInteger that of its class
abbrev pub name_at : Value → ℕ
name_at (Int z) = SMALL_INTEGER
name_at (Ref n) = n

-- a name stands there
abbrev pub IsRef : Value → Type 0
IsRef (Int z) = ⊥
IsRef (Ref n) = Unit {0}

-- the class of a value
abbrev pub class_at : Heap → Value → Option ℕ
class_at h (Int z) = Some SMALL_INTEGER
class_at h (Ref n) = option_and_then (λ (o : Object). Some o.class) (h.at n)

-- a part of the object that a value names
abbrev pub part_at : {A : Type 0} → Heap → Value → (Body → Option A) → Option A
part_at h v f = option_and_then (λ (o : Object). f o.body) (object_at h v)

-- the object that a value names has this part
abbrev pub HasPart : {A : Type 0} → Heap → Value → (Body → Option A) → (A → Type 0) → Type 0
HasPart {A} h v f P = (a : A) × (part_at h v f ≡ Some a) × P a
