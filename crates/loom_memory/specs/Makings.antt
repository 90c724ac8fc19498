-- What a making leaves of what is told, and what goes before it.
use Rattle.std.specs.Prelude.{◌≡◌, ℕ, ◌+◌, ◌≤◌, ◌<◌, Option, None, IsTrue, true}
use Rattle.long_names.specs.declared.value.Value.TheVariants.{Ref}
use Rattle.long_names.specs.declared.limits.TheConstants.{LAST_NAME}
use Rattle.long_names.specs.Heap.{Has}
use Rattle.long_names.specs.Kept.{kept}
use Rattle.long_names.specs.Objects.{Making, body_made, body_words}
use Rattle.long_names.specs.State.{set_register}
use Rattle.long_names.specs.Access.{Make, heap_after}
use Rattle.long_names.specs.Thin.{IsThinning}
use Rattle.object_memory.specs.declared.fault.MemFault.{MemFault}
use Rattle.object_memory.specs.declared.fault.MemFault.TheVariants.{CoreFull, NamesSpent, Damaged, WorkFull}
use Rattle.object_memory.specs.Told.{Told, is_root}
use Rattle.object_memory.specs.Contract.{Call, CountsKept, IfBounds, IsLater, LeavesAll, LeavesCache, Raised, Refuses, SameBounds, Settled, no_names}
use Rattle.loom_memory.specs.Memory.{IsRefused}

-- Dead objects went: the heap is a thinning of the one before. Nothing else of what is told changed but counts of faults, and that all marks
-- may be gone.
pub record HasThinned (old new : Told) : Type 0 where
  pub same : new ≡ (record old { heap = new.heap; bounds = new.bounds; cache = new.cache })
  pub thinning : IsTrue old.tells → IsThinning old.heap new.heap old.regs old.slots
  pub marked : IsTrue old.tells → (n : ℕ) → new.cache.marks n ≡ true → Has new.heap n
  pub cache : LeavesCache no_names None old.cache old.cache new.cache
  pub bounds : SameBounds old.bounds new.bounds
  pub counts : Raised 0 old.bounds new.bounds

-- a new object came into the heap at the next name, and its name into a register
pub record HasMade (old new : Told) (to class : ℕ) (what : Making) : Type 0 where
  pub name : ℕ
  pub same : new ≡ (record old { heap = new.heap; bounds = new.bounds; cache = new.cache; regs = set_register old.regs to (Ref name) })
  pub heap : IsTrue old.tells → new.heap ≡ heap_after old.heap old.regs (Make to class what)
  pub next : IsTrue old.tells → name ≡ old.heap.next
  pub cache : LeavesCache no_names None old.cache old.cache new.cache
  pub bounds : SameBounds old.bounds new.bounds
  pub counts : Raised 1 old.bounds new.bounds

-- what is kept with the registers and slots as roots is all that there is
abbrev pub HasKept : Told → Told → Type 0
HasKept old new = IsTrue old.tells → new.heap ≡ kept old.heap (is_root old)

-- a call was refused
abbrev pub IsRefusedCall : Told → Told → Call → MemFault → Type 0
IsRefusedCall t u call f = IsLater t u × Refuses t u call f

-- for each making, where names are left
abbrev pub IsRefusedMaking : Told → Told → MemFault → Type 0
IsRefusedMaking t u f = (to class : ℕ) (what : Making) → (IsTrue t.tells → t.heap.next < LAST_NAME) → IsRefused t u (Make to class what) f

-- an object of a class joined the heap at the next name, and nothing else of what is told changed but its counts, and that marks may be gone
pub record HasAdded (old new : Told) (class : ℕ) (what : Making) : Type 0 where
  pub same : new ≡ (record old { heap = new.heap; bounds = new.bounds; cache = new.cache })
  pub heap : IsTrue old.tells → new.heap ≡ heap_after old.heap old.regs (Make 0 class what)
  pub cache : LeavesCache no_names None old.cache old.cache new.cache
  pub bounds : SameBounds old.bounds new.bounds
  pub counts : Raised 1 old.bounds new.bounds

-- for each making of an object of so many words, where names are left
abbrev pub IsFullMaking : Told → Told → ℕ → MemFault → Type 0
IsFullMaking t u words f = (to class : ℕ) (what : Making) → words ≡ 4 + body_words (body_made what) → (IsTrue t.tells → t.heap.next < LAST_NAME) → IsRefused t u (Make to class what) f

-- there is no name for a new object: no name is left, or, which no heap that is told comes to, the next one isn't one
abbrev pub IsNameless : Told → MemFault → Type 0
IsNameless t NamesSpent = IsTrue t.tells → LAST_NAME ≤ t.heap.next
IsNameless t (Damaged place name) = IsTrue t.tells → ⊥
IsNameless t _ = ⊥

-- so each making is refused
abbrev pub IfNameless : Told → Told → MemFault → Type 0
IfNameless t u f = (to class : ℕ) (what : Making) → IsRefused t u (Make to class what) f

-- this making was refused, where names are left
abbrev pub IsRefusedAs : Told → Told → ℕ → ℕ → Making → MemFault → Type 0
IsRefusedAs t u to class what f = (IsTrue t.tells → t.heap.next < LAST_NAME) → IsRefused t u (Make to class what) f

-- for another cause than that the disk is full
abbrev pub IsNotFull : MemFault → Type 0
IsNotFull (WorkFull live room) = ⊥
IsNotFull _ = Unit {0}

-- where a call was refused for want of core
abbrev pub OnCoreFull : MemFault → Type 0 → Type 0
OnCoreFull (CoreFull need) P = P
OnCoreFull _ P = Unit {0}

-- ---- settling

-- no making is counted, and so many objects were there, if that is known; nothing else of what is told changed
pub record HasBegun (old new : Told) (base : Option ℕ) : Type 0 where
  pub same : new ≡ (record old { bounds = new.bounds })
  pub bounds : SameBounds old.bounds new.bounds
  pub settled : Settled old.bounds new.bounds
  pub base_is : IfBounds new.bounds (λ b. b.base ≡ base)

-- dead objects went, if any, and makings are counted anew: from none, or from all that are kept
pub record HasSettled (old new : Told) : Type 0 where
  pub same : new ≡ (record old { heap = new.heap; bounds = new.bounds; cache = new.cache })
  pub thinning : IsTrue old.tells → IsThinning old.heap new.heap old.regs old.slots
  pub marked : IsTrue old.tells → (n : ℕ) → new.cache.marks n ≡ true → Has new.heap n
  pub cache : LeavesCache no_names None old.cache old.cache new.cache
  pub bounds : SameBounds old.bounds new.bounds
  pub settled : Settled old.bounds new.bounds
  pub base : IfBounds new.bounds (λ b. CountsKept new b.base)

-- a fault, after which nothing more is known
abbrev pub IsLost : MemFault → Type 0
IsLost f = LeavesAll f ⊥
