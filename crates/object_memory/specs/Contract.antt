-- What a call of a memory does, and why it is refused.
use Rattle.std.specs.Prelude.{◌≡◌, ◌≢◌, ℕ, ◌+◌, ◌≤◌, ◌<◌, ◌==◌, ◌||◌, ◌⊎◌, Bool, true, false, List, [], ◌++◌, Option, Some, None, Result, Ok, Err, IsTrue, OnOk, IfOk, IfErr}
use Rattle.std.specs.Option.{option_map_or, option_and_then}
use Rattle.long_names.specs.declared.value.Value.{Value}
use Rattle.long_names.specs.declared.value.Value.TheVariants.{Int, Ref}
use Rattle.long_names.specs.declared.limits.TheConstants.{LAST_NAME, MAKINGS_BEFORE_FREEING}
use Rattle.long_names.specs.Counting.{Rose}
use Rattle.long_names.specs.Objects.{name_of, is_ref}
use Rattle.long_names.specs.Heap.{Heap, object_count}
use Rattle.long_names.specs.Kept.{kept}
use Rattle.long_names.specs.State.{set_register}
use Rattle.long_names.specs.Access.{Access, SetField, SetWord, SetByte, WriteWords, Make, Mark, Say, Swap, Answer, CanDo, HasNames, HasSlots, HasRanges, filled_by, heap_after, regs_after, slots_after, brought, said_by, answer_of}
use Rattle.long_names.specs.Need.{Fits, row_of, other_row_of, heap_of_row, words_alone}
use Rattle.long_names.specs.Thin.{IsThinner}
use Rattle.object_memory.specs.Told.{Told, Bounds, Cache, IsReady, state_of, need_of, is_root}
use Rattle.object_memory.specs.declared.fault.Need.{Need}
use Rattle.object_memory.specs.declared.fault.MemFault.{MemFault}
use Rattle.object_memory.specs.declared.fault.MemFault.TheVariants.{CoreFull, WorkFull, WorkFault, Damaged, NamesSpent, Said, Memory}

-- The calls that may be refused: an access; the settling between bytecodes, after which base and made are counted anew; and one that
-- only thins the heap.
pub data Call : Type 0 where
  Does : (access : Access) → Call
  Settles : Call
  Thins : Call

-- what the caller owes: names in registers, slots and ranges of numbers always, what the heap has only where it is told
pub record MayDo (t : Told) (a : Access) : Type 0 where
  pub heap : IsTrue t.tells → CanDo t.heap t.regs a
  pub names : HasNames t.regs a
  pub slots : HasSlots t.regs t.slots a
  pub ranges : HasRanges a

-- ---- bounds

-- the bounds are told, and this holds of them
abbrev pub ForBounds : Option Bounds → (Bounds → Type 0) → Type 0
ForBounds None P = ⊥
ForBounds (Some b) P = P b

-- this holds of the bounds, where they are told
abbrev pub IfBounds : Option Bounds → (Bounds → Type 0) → Type 0
IfBounds None P = Unit {0}
IfBounds (Some b) P = P b

-- no bounds are told
abbrev pub NoBounds : Option Bounds → Type 0
NoBounds None = Unit {0}
NoBounds (Some b) = ⊥

-- ---- what stays

-- limits stay, and counts of faults do not fall
abbrev pub SameBounds : Option Bounds → Option Bounds → Type 0
SameBounds None None = Unit {0}
SameBounds None (Some c) = ⊥
SameBounds (Some b) None = ⊥
SameBounds (Some b) (Some c) = (c.core ≡ b.core) × (c.entries ≡ b.entries) × (c.room ≡ b.room) × (b.work_faults ≤ c.work_faults) × (b.said_faults ≤ c.said_faults)

-- what is told stays told, limits stay, counts do not fall
pub record IsLater (old new : Told) : Type 0 where
  pub tells : new.tells ≡ old.tells
  pub speaks : new.speaks ≡ old.speaks
  pub bounds : SameBounds old.bounds new.bounds
  pub refusals : old.refusals ≤ new.refusals

-- base stays, and made rises by so many
abbrev pub Raised : ℕ → Option Bounds → Option Bounds → Type 0
Raised k None None = Unit {0}
Raised k None (Some c) = ⊥
Raised k (Some b) None = ⊥
Raised k (Some b) (Some c) = (c.base ≡ b.base) × (c.made ≡ b.made + k)

-- no making is counted
abbrev pub Settled : Option Bounds → Option Bounds → Type 0
Settled None None = Unit {0}
Settled None (Some c) = ⊥
Settled (Some b) None = ⊥
Settled (Some b) (Some c) = c.made ≡ 0

-- How many objects the settling found: none is said, or, where the heap is told, so many are kept with the registers and slots as
-- roots.
abbrev pub CountsKept : Told → Option ℕ → Type 0
CountsKept t None = Unit {0}
CountsKept t (Some base) = IsTrue t.tells → base ≡ object_count (kept t.heap (is_root t))

-- base after a call that was answered, of which the settling alone says something
abbrev pub BaseAfter : Call → Told → Type 0
BaseAfter (Does a) new = Unit {0}
BaseAfter Settles new = IfBounds new.bounds (λ b. CountsKept new b.base)
BaseAfter Thins new = Unit {0}

-- how many objects an access makes
abbrev pub makes : Access → ℕ
makes (Make to class what) = 1
makes _ = 0

-- base and made after a call that was answered: a making is counted, and after the settling none is
abbrev pub Counts : Call → Option Bounds → Option Bounds → Type 0
Counts (Does a) old new = Raised (makes a) old new
Counts Settles old new = Settled old new
Counts Thins old new = Raised 0 old new

-- and after one that was refused
abbrev pub CountsRefused : Call → Option Bounds → Option Bounds → Type 0
CountsRefused (Does a) old new = Raised 0 old new
CountsRefused Settles old new = Unit {0}
CountsRefused Thins old new = Raised 0 old new

-- ---- the cache

-- no name at all
abbrev pub no_names : ℕ → Bool
no_names n = false

-- marks stay, rows only leave, and no marked object was stored into
pub record IsKeptCache (touched : ℕ → Bool) (before made after : Cache) : Type 0 where
  pub marks : after.marks ≡ made.marks
  pub path : after.path ≡ made.path
  pub rows : (c s m : ℕ) → after.rows c s m ≡ true → made.rows c s m ≡ true
  pub untouched : (n : ℕ) → touched n ≡ true → before.marks n ≡ false

-- no row and no mark from before is left, of which there was one
pub record IsEmptied (marked : Option ℕ) (before after : Cache) : Type 0 where
  pub rows : (c s m : ℕ) → after.rows c s m ≡ false
  pub marks : (n : ℕ) → after.marks n ≡ true → marked ≡ Some n
  pub path : after.path ≡ false
  pub taken : ℕ
  pub was : before.marks taken ≡ true

-- A call that takes a mark away, that stores into an object marked before it, or after which the heap lacks such an object, leaves no
-- row and no mark from before it.
abbrev pub LeavesCache : (ℕ → Bool) → Option ℕ → Cache → Cache → Cache → Type 0
LeavesCache touched marked before made after = IsKeptCache touched before made after ⊎ IsEmptied marked before after

abbrev pub with_mark : Cache → Option ℕ → Cache
with_mark c None = c
with_mark c (Some n) = record c { marks = λ k. (k == n) || c.marks k }

-- whether it stores into an object
abbrev pub stores : Access → Bool
stores (SetField of i from) = true
stores (SetWord of i word) = true
stores (SetByte of i byte) = true
stores (WriteWords of at run) = true
stores (Swap a b) = true
stores _ = false

-- the names that it stores into, of a swap both, and the name that it marks
abbrev pub touched_by : (ℕ → Value) → Access → ℕ → Bool
touched_by regs (SetField of i from) n = is_ref n (regs of)
touched_by regs (SetWord of i word) n = is_ref n (regs of)
touched_by regs (SetByte of i byte) n = is_ref n (regs of)
touched_by regs (WriteWords of at run) n = is_ref n (regs of)
touched_by regs (Swap a b) n = is_ref n (regs a) || is_ref n (regs b)
touched_by regs _ n = false

abbrev pub marked_by : (ℕ → Value) → Access → Option ℕ
marked_by regs (Mark of) = name_of (regs of)
marked_by regs _ = None

abbrev pub CacheAfter : Told → Told → Call → Type 0
CacheAfter old new (Does a) = LeavesCache (touched_by old.regs a) (marked_by old.regs a) old.cache (with_mark old.cache (marked_by old.regs a)) new.cache
CacheAfter old new Settles = LeavesCache no_names None old.cache old.cache new.cache
CacheAfter old new Thins = LeavesCache no_names None old.cache old.cache new.cache

-- ---- a call that is answered

-- the value that came into a register
abbrev pub came : Access → (ℕ → Value) → Option Value
came a regs = option_and_then (λ to. Some (regs to)) (filled_by a)

abbrev pub regs_by : Call → (ℕ → Value) → (ℕ → Value) → ℕ → Value
regs_by (Does a) old new = option_map_or (λ v. regs_after old a v) (came a new) old
regs_by Settles old new = old
regs_by Thins old new = old

abbrev pub slots_by : Call → (ℕ → Value) → (ℕ → Option ℕ) → ℕ → Option ℕ
slots_by (Does a) regs slots = slots_after regs slots a
slots_by Settles regs slots = slots
slots_by Thins regs slots = slots

abbrev pub heap_by : Call → Heap → (ℕ → Value) → Heap
heap_by (Does a) h regs = heap_after h regs a
heap_by Settles h regs = h
heap_by Thins h regs = h

-- where the heap is told, what came is what the access brings
abbrev pub Brings : Call → Told → Told → Type 0
Brings (Does a) old new = IsTrue old.tells → brought old.heap old.regs a ≡ came a new.regs
Brings Settles old new = Unit {0}
Brings Thins old new = Unit {0}

-- where the transcript is told, the bytes of the object joined it, and nothing else did
abbrev pub SaysBy : Call → Told → Told → Type 0
SaysBy (Does (Say of)) old new = IsTrue old.speaks → (z : List ℕ) × (new.transcript ≡ old.transcript ++ z) × (IsTrue old.tells → said_by old.heap old.regs (Say of) ≡ Some z)
SaysBy (Does _) old new = IsTrue old.speaks → new.transcript ≡ old.transcript
SaysBy Settles old new = IsTrue old.speaks → new.transcript ≡ old.transcript
SaysBy Thins old new = IsTrue old.speaks → new.transcript ≡ old.transcript

-- an answered call: registers, slots and transcript are as it says, and the new heap is a thinning of the one that it makes
pub record Follows (old new : Told) (call : Call) : Type 0 where
  pub regs : new.regs ≡ regs_by call old.regs new.regs
  pub brings : Brings call old new
  pub slots : new.slots ≡ slots_by call old.regs old.slots
  pub transcript : SaysBy call old new
  pub heap : IsTrue old.tells → IsThinner (heap_by call old.heap old.regs) new.heap
  pub cache : CacheAfter old new call
  pub counts : Counts call old.bounds new.bounds
  pub base : BaseAfter call new
  pub refusals : new.refusals ≡ old.refusals
  pub last : new.last ≡ old.last

-- ---- a call that is refused

abbrev pub work_faults : Option Bounds → ℕ
work_faults None = 0
work_faults (Some b) = b.work_faults

abbrev pub said_faults : Option Bounds → ℕ
said_faults None = 0
said_faults (Some b) = b.said_faults

-- the need of the row of an access
abbrev pub need_of_access : Told → Access → Need
need_of_access t a = need_of (heap_of_row (state_of t) a) (row_of (state_of t) a)

-- and of the other row of a swap
abbrev pub need_of_other : Told → Access → Need
need_of_other t a = need_of (heap_of_row (state_of t) a) (other_row_of (state_of t) a)

-- the need of one of its rows: of a swap this or that, of any other access the one that it has
abbrev pub IsNeedOf : Told → Access → Need → Type 0
IsNeedOf t (Swap a b) need = (need ≡ need_of_access t (Swap a b)) ⊎ (need ≡ need_of_other t (Swap a b))
IsNeedOf t a need = need ≡ need_of_access t a

abbrev pub IsMaking : Call → Type 0
IsMaking (Does a) = 1 ≤ makes a
IsMaking Settles = ⊥
IsMaking Thins = ⊥

-- a call that takes memory of a memory without bounds: a making, a mark, and what is said
abbrev pub TakesMemory : Call → Type 0
TakesMemory (Does (Make to class what)) = Unit {0}
TakesMemory (Does (Mark of)) = Unit {0}
TakesMemory (Does (Say of)) = Unit {0}
TakesMemory (Does _) = ⊥
TakesMemory Settles = ⊥
TakesMemory Thins = ⊥

abbrev pub IsSaying : Call → Type 0
IsSaying (Does (Say of)) = Unit {0}
IsSaying (Does _) = ⊥
IsSaying Settles = ⊥
IsSaying Thins = ⊥

abbrev pub HasNeed : Told → Call → Need → Type 0
HasNeed t (Does a) need = IsTrue t.tells → IsNeedOf t a need
HasNeed t Settles need = ⊥
HasNeed t Thins need = ⊥

-- How many objects live with the one that is asked for: by base and made, or, from `MAKINGS_BEFORE_FREEING` makings on, by the heap with its
-- registers and slots as roots.
abbrev pub Lives : Told → Bounds → ℕ → Type 0
Lives t b live = ((base : ℕ) × (b.base ≡ Some base) × (live ≡ base + b.made + 1))
    ⊎ ((MAKINGS_BEFORE_FREEING ≤ b.made) × (IsTrue t.tells → live ≡ object_count (kept t.heap (is_root t)) + 1))

-- why a call is refused
abbrev pub HasCause : Told → Told → Call → MemFault → Type 0
HasCause old new call (CoreFull need) = ForBounds new.bounds (λ b. Fits b.core b.entries need.words need.entries → ⊥) × HasNeed old call need
HasCause old new call (WorkFull live room) = ForBounds new.bounds (λ b. (b.room ≡ room) × (room < live)) × ForBounds old.bounds (λ b. Lives old b live) × IsMaking call
HasCause old new call (WorkFault count) = ForBounds new.bounds (λ b. b.work_faults ≡ count) × Rose (work_faults old.bounds) (work_faults new.bounds)
HasCause old new call (Damaged place name) = IsTrue old.tells → ⊥
HasCause old new call NamesSpent = IsMaking call × (IsTrue old.tells → LAST_NAME ≤ old.heap.next)
HasCause old new call (Said count) = ForBounds new.bounds (λ b. b.said_faults ≡ count) × Rose (said_faults old.bounds) (said_faults new.bounds) × IsSaying call
HasCause old new call Memory = NoBounds new.bounds × TakesMemory call

-- what a refused call leaves: the registers, the slots, and a thinning of the heap
pub record IsLeft (old new : Told) : Type 0 where
  pub regs : new.regs ≡ old.regs
  pub slots : new.slots ≡ old.slots
  pub heap : IsTrue old.tells → IsThinner old.heap new.heap
  pub ready : IsReady new
  pub cache : LeavesCache no_names None old.cache old.cache new.cache

-- after WorkFault and Damaged nothing more is known
abbrev pub LeavesAll : MemFault → Type 0 → Type 0
LeavesAll (WorkFault count) P = Unit {0}
LeavesAll (Damaged place name) P = Unit {0}
LeavesAll (CoreFull need) P = P
LeavesAll (WorkFull live room) P = P
LeavesAll NamesSpent P = P
LeavesAll (Said count) P = P
LeavesAll Memory P = P

-- The transcript after a refusal: as before. After Said a prefix of the object's bytes joined it, maybe none or all of them, and where
-- the heap is told the object has bytes.
abbrev pub SaysRefused : Call → Told → Told → MemFault → Type 0
SaysRefused (Does (Say of)) old new (Said count) = IsTrue old.speaks → (z rest : List ℕ) × (new.transcript ≡ old.transcript ++ z) × (IsTrue old.tells → (said_by old.heap old.regs (Say of) ≡ Some (z ++ rest)) × (z ++ rest ≢ []))
SaysRefused call old new f = IsTrue old.speaks → new.transcript ≡ old.transcript

pub record Refuses (old new : Told) (call : Call) (f : MemFault) : Type 0 where
  pub rose : Rose old.refusals new.refusals
  pub last : new.last ≡ Some f
  pub cause : HasCause old new call f
  pub spent : IsMaking call → IsTrue old.tells → LAST_NAME ≤ old.heap.next → f ≡ NamesSpent
  pub counts : CountsRefused call old.bounds new.bounds
  pub transcript : SaysRefused call old new f
  pub left : LeavesAll f (IsLeft old new)

-- ---- the contract of a call

-- a call that may be refused
pub record Called {A : Type 0} (old new : Told) (call : Call) (result : Result A MemFault) : Type 0 where
  pub later : IsLater old new
  pub ok : OnOk result (Follows old new call)
  pub err : IfErr result (λ f. Refuses old new call f)

-- The core holds the object of an access: 4 and its body words are at most the core's words. Of a making that is known where the
-- heap isn't told, too.
abbrev pub HasCore : Told → Access → Bounds → Type 0
HasCore t (Make to class what) b = words_alone t.heap t.regs (Make to class what) ≤ b.core
HasCore t a b = IsTrue t.tells → words_alone t.heap t.regs a ≤ b.core

-- An access, with the answer that its result stands for. A making is answered only while names are left, and no access where its
-- object alone needs more than the core.
pub record Accessed {A : Type 0} (old new : Told) (a : Access) (spell : A → Answer) (result : Result A MemFault) : Type 0 where
  pub called : Called old new (Does a) result
  pub answer : IfOk result (λ x. IsTrue old.tells → answer_of old.heap old.regs a ≡ Some (spell x))
  pub named : OnOk result (1 ≤ makes a → IsTrue old.tells → old.heap.next < LAST_NAME)
  pub core : OnOk result (IfBounds old.bounds (HasCore old a))

-- sound after every answer but WorkFault and Damaged
abbrev pub KeepsSound : {A : Type 0} → Result A MemFault → Type 0 → Type 0
KeepsSound (Ok a) P = P
KeepsSound (Err f) P = LeavesAll f P

-- ---- the cache's own calls

-- the cache has this row of the pair that two registers hold
abbrev pub row_of_values : Cache → Value → Value → ℕ → Bool
row_of_values c (Int z) w m = false
row_of_values c (Ref n) (Int z) m = false
row_of_values c (Ref n) (Ref k) m = c.rows n k m

-- the register holds a marked name
abbrev pub is_marked : Cache → Value → Bool
is_marked c (Int z) = false
is_marked c (Ref n) = c.marks n

-- a row of the pair was found and its method put into the register
pub record IsFound (old new : Told) (to class selector : ℕ) : Type 0 where
  pub method : ℕ
  pub row : row_of_values old.cache (old.regs class) (old.regs selector) method ≡ true
  pub told : new ≡ (record old { regs = set_register old.regs to (Ref method) })

-- there is no row of the pair
pub record IsUnknown (old new : Told) (class selector : ℕ) : Type 0 where
  pub rows : (m : ℕ) → row_of_values old.cache (old.regs class) (old.regs selector) m ≡ false
  pub told : new ≡ old

-- the row was added, where the path was whole; other rows may have left
pub record IsPut (old new : Told) (class selector method : ℕ) : Type 0 where
  pub path : old.cache.path ≡ true
  pub row : (m : ℕ) → old.regs method ≡ Ref m → row_of_values new.cache (old.regs class) (old.regs selector) m ≡ true
  pub rows : (c s m : ℕ) → new.cache.rows c s m ≡ true → (old.cache.rows c s m ≡ true) ⊎ ((old.regs class ≡ Ref c) × (old.regs selector ≡ Ref s) × (old.regs method ≡ Ref m))
  pub told : new ≡ (record old { cache = record old.cache { rows = new.cache.rows } })
