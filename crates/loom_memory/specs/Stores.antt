-- What a store leaves of what is told.
use Rattle.std.specs.Prelude.{◌≡◌, ℕ, None, IsTrue}
use Rattle.loom_host.specs.declared.outside.Host.{Ghosts}
use Rattle.long_names.specs.Heap.{Heap}
use Rattle.long_names.specs.Access.{Access, heap_after}
use Rattle.object_memory.specs.Told.{Told}
use Rattle.object_memory.specs.Contract.{SameBounds, Raised, LeavesCache, touched_by}
use Rattle.object_table.specs.Entries.{place_of}
use Rattle.core_view.specs.Core.{Core}
use Rattle.core_view.specs.Counts.{outside}
use Rattle.core_view.specs.Kept.{Stays}
use Rattle.core_view.specs.LevelSteps.{with_change}
use Rattle.loom_memory.specs.declared.memory.LoomMemory.{LoomMemory}
use Rattle.loom_memory.specs.Memory.{word_in, loom_core}

-- changes of counts differ in entries, and nothing else does
pub record IsRecount (old new : Core) : Type 0 where
  pub find : new.find ≡ old.find
  pub bound : new.bound ≡ old.bound
  pub chunks : new.chunks ≡ old.chunks
  pub entries : (s : ℕ) → new.entries s ≡ with_change (old.entries s) (new.entries s).change
  pub stays : Stays old new
  pub outside : (t : ℕ) → outside new t ≡ outside old t

-- An access stored: the heap changed as it says, the cache as it may, and calls on the disk may have failed.
pub record IsStored (t u : Told) (a : Access) : Type 0 where
  pub heap : Heap
  pub same : u ≡ (record t { heap = heap; bounds = u.bounds; cache = u.cache })
  pub bounds : SameBounds t.bounds u.bounds
  pub counts : Raised 0 t.bounds u.bounds
  pub cache : LeavesCache (touched_by t.regs a) None t.cache t.cache u.cache
  pub stored : IsTrue t.tells → heap ≡ heap_after t.heap t.regs a

-- the object of a register has no body in the core
abbrev pub IsAway : {H : Type 0} {host : Ghosts H} → LoomMemory H host → ℕ → Type 0
IsAway m of = place_of ((loom_core m).entries (word_in m.regs of)).state ≡ None
