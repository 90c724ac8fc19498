-- A name comes into a register without its object, and what it needs where it has no entry.
use Rattle.std.specs.Prelude.{◌≡◌, ℕ, ◌+◌, ◌||◌, true, None, IsTrue}
use Rattle.long_names.specs.declared.value.Value.TheVariants.{Ref}
use Rattle.long_names.specs.declared.limits.TheConstants.{ENTRIES_OF_A_CALL}
use Rattle.long_names.specs.Names.{is_known}
use Rattle.long_names.specs.Heap.{Heap, Has}
use Rattle.long_names.specs.Access.{Access, object_of, is_held}
use Rattle.long_names.specs.State.{set_register}
use Rattle.object_memory.specs.declared.fault.Need.{Need}
use Rattle.object_memory.specs.declared.fault.MemFault.{MemFault}
use Rattle.object_memory.specs.Told.{Told}
use Rattle.object_memory.specs.Contract.{SameBounds, Raised, LeavesCache, no_names, makes}
use Rattle.object_table.specs.Entries.{is_short, is_used}
use Rattle.core_view.specs.Core.{Core}
use Rattle.purger.specs.declared.room.Pinned.{Pinned}
use Rattle.loom_memory.specs.Memory.{words_beside, entries_beside, IsSilent, IsRefused}

-- A name that may get an entry: its object is held, and the name is known, or an object has it. So it doesn't wait to be freed.
abbrev pub IsNameable : Heap → ℕ → Type 0
IsNameable h n = Has h n × IsTrue (is_known n || is_held h n)

-- a short word is that of the entry of a name
pub record IsEntryOf (c : Core) (s name : ℕ) : Type 0 where
  pub short : is_short s ≡ true
  pub used : is_used (c.entries s).state ≡ true
  pub named : (c.entries s).name ≡ name

-- a name has no entry, and none is free
pub record IsSpent (c : Core) (free name : ℕ) : Type 0 where
  pub away : c.find name ≡ None
  pub none : free ≡ 0

-- the need of the row of an object of so many words that has no entry
pub record IsNeedBeside (c : Core) (pins : Pinned) (name words : ℕ) (need : Need) : Type 0 where
  pub object : need.object ≡ name
  pub all : need.words ≡ words + words_beside c pins
  pub entries : need.entries ≡ ENTRIES_OF_A_CALL + entries_beside c pins

-- a call was refused, for every silent access whose row has this object
abbrev pub IsRefusedOf : Told → Told → ℕ → MemFault → Type 0
IsRefusedOf t u n f = (a : Access) → object_of t.heap t.regs a ≡ n → IsSilent a → makes a ≡ 0 → IsRefused t u a f

-- a name came into a register, and nothing else changed but counts of faults, and that all marks and rows may be gone
pub record IsNaming (t u : Told) (to name : ℕ) : Type 0 where
  pub same : u ≡ (record t { bounds = u.bounds; cache = u.cache; regs = set_register t.regs to (Ref name) })
  pub cache : LeavesCache no_names None t.cache t.cache u.cache
  pub bounds : SameBounds t.bounds u.bounds
  pub counts : Raised 0 t.bounds u.bounds
