-- What a memory with bounds tells, what it keeps of its own, and why it refuses.
use Rattle.std.specs.Prelude.{◌≡◌, ℕ, ◌≤◌, ◌<◌, ◌⊎◌, Option, Some, None, Result}
use Rattle.long_names.specs.Counting.{counted}
use Rattle.long_names.specs.declared.limits.TheConstants.{LAST_NAME}
use Rattle.long_names.specs.Heap.{Heap}
use Rattle.long_names.specs.State.{name_at}
use Rattle.long_names.specs.Need.{Fits, words_at, entries_at}
use Rattle.object_memory.specs.Told.{Told, Bounds, need_of}
use Rattle.object_memory.specs.Contract.{ForBounds, Lives}
use Rattle.object_memory.specs.Fit.{MayCall, StaysCallable}
use Rattle.object_memory.specs.Plain.{plain_told}
use Rattle.object_memory.specs.declared.fault.Need.{Need}
use Rattle.object_memory.specs.declared.fault.MemFault.{MemFault}
use Rattle.object_memory.specs.declared.fault.MemFault.TheVariants.{CoreFull, WorkFull, WorkFault, NamesSpent}
use Rattle.bounded_memory.specs.Limits.{bounds_of}
use Rattle.bounded_memory.specs.Row.{with_row}
use Rattle.bounded_memory.specs.Pins.{pin_at, words_with, entries_with}
use Rattle.bounded_memory.specs.declared.pins.Pin.{Pin}
use Rattle.bounded_memory.specs.declared.pins.Pins.{Pins}
use Rattle.bounded_memory.specs.declared.bounded.BoundedMemory.{BoundedMemory}

-- what is told with bounds, and with refusals of one's own, where this is told without
abbrev pub over : Told → ℕ → Option MemFault → Bounds → Told
over t refusals last bounds = record t { refusals = refusals; last = last; bounds = Some bounds }

-- what the memory below tells, with the row
abbrev pub row_told : BoundedMemory → Told
row_told m = with_row (plain_told m.memory) m.row

-- all but the row, the refusals and the bounds is that of the memory below
abbrev pub bounded_told : BoundedMemory → Told
bounded_told m = over (row_told m) m.refusals m.last (bounds_of m.limits)

-- what is told once a fault of Work was counted
abbrev pub faulted : Told → ℕ → Bounds → Told
faulted t refusals b = over t (counted refusals) (Some (WorkFault (counted b.work_faults))) (record b { work_faults = counted b.work_faults })

-- what is kept of a slot is the name there and the size of its object, or nothing
abbrev pub IsPinnedAs : Heap → Option ℕ → Option Pin → Type 0
IsPinnedAs h None None = Unit {0}
IsPinnedAs h None (Some p) = ⊥
IsPinnedAs h (Some n) None = ⊥
IsPinnedAs h (Some n) (Some p) = (p.name ≡ n) × (p.size.words ≡ words_at h n) × (p.size.entries ≡ entries_at h n)

abbrev pub ArePinned : Told → Pins → Type 0
ArePinned t pins = (i : ℕ) → IsPinnedAs t.heap (t.slots i) (pin_at pins i)

-- the kept sizes are those of the pinned objects
pub record IsSound (m : BoundedMemory) : Type 0 where
  pub pinned : ArePinned (bounded_told m) m.pins

-- it may be called
abbrev pub IsBoundedFit : BoundedMemory → Type 0
IsBoundedFit m = MayCall IsSound bounded_told m

-- it may be called again; it has no host
abbrev pub StaysBoundedFit : {A : Type 0} → BoundedMemory → BoundedMemory → Result A MemFault → Type 0
StaysBoundedFit old new answer = StaysCallable IsSound bounded_told (λ (_ : BoundedMemory). 0) (λ (_ : BoundedMemory). tt {0}) old new answer

-- ---- why it refuses

-- what an access to the object of a register needs
abbrev pub need_at : Told → ℕ → Need
need_at t of = need_of t.heap (record { object = name_at (t.regs of); slots = t.slots })

-- what an object of so many words needs beside the pinned ones
abbrev pub need_with : Pins → ℕ → ℕ → Need
need_with pins object words = record { object = object; words = words_with pins object words; entries = entries_with pins }

-- the core has room for the need
abbrev pub FitsCore : Told → Need → Type 0
FitsCore t need = ForBounds t.bounds (λ b. Fits b.core b.entries need.words need.entries)

-- the core has no room for it
abbrev pub IsFull : Told → Need → MemFault → Type 0
IsFull t need f = (f ≡ CoreFull need) × ForBounds t.bounds (λ b. Fits b.core b.entries need.words need.entries → ⊥)

-- no object more may live
abbrev pub IsCrowded : Told → MemFault → Type 0
IsCrowded t f = ForBounds t.bounds (λ b. (live : ℕ) × Lives t b live × (b.room < live) × (f ≡ WorkFull live b.room))

-- an object of this need can't be made: the names are spent, or no object more may live, or the core has no room for it
abbrev pub CannotMake : Told → Need → MemFault → Type 0
CannotMake t need f = ((f ≡ NamesSpent) × (LAST_NAME ≤ t.heap.next)) ⊎ ((t.heap.next < LAST_NAME) × (IsCrowded t f ⊎ IsFull t need f))
