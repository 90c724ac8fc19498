-- What is dead goes first: nothing dead is left where a call found too little room, and was to look for what is dead.
use Rattle.std.specs.Prelude.{◌≡◌, ◌⊎◌, ℕ, ◌+◌, ◌≤◌, false, IsTrue}
use Rattle.long_names.specs.Heap.{Heap}
use Rattle.long_names.specs.Kept.{kept}
use Rattle.long_names.specs.Thin.{IsThinning}
use Rattle.long_names.specs.Access.{Access, Known, Class, Field, SetField, Make, Pin, Swap, heap_after}
use Rattle.long_names.specs.Need.{words_at}
use Rattle.long_names.specs.Objects.{Making, body_made, body_words}
use Rattle.loom_host.specs.declared.outside.Host.{Ghosts}
use Rattle.loom_host.specs.declared.outside.Role.TheVariants.{Work}
use Rattle.object_memory.specs.Told.{Told, is_root}
use Rattle.purger.specs.Purge.{HasRoom}
use Rattle.loom_memory.specs.declared.load.TheConstants.{SPARE_ENTRIES}
use Rattle.loom_memory.specs.declared.memory.LoomMemory.{LoomMemory}
use Rattle.loom_memory.specs.Memory.{loom_told, pin_in, word_in, loom_parts, loom_pins}
use Rattle.loom_memory.specs.Residents.{is_resident}
use Rattle.loom_memory.specs.Thinned.{KeepsThinned, StaysThinned}

-- Where the heap is told, nothing of it is dead: all that is there is kept, with the registers and slots as roots.
abbrev pub IsAlive : Told → Type 0
IsAlive t = IsTrue t.tells → kept t.heap (is_root t) ≡ t.heap

-- Where so many words and entries weren't free, and the next name had come to that from which on what is dead is looked for, nothing is dead.
abbrev pub IsFreed : {H : Type 0} (host : Ghosts H) → LoomMemory H host → LoomMemory H host → ℕ → ℕ → Type 0
IsFreed host old new words entries = (HasRoom (loom_parts old) words entries → ⊥) → old.due ≤ old.ledger.next → IsAlive (loom_told host new)

-- The next search isn't put off; or nothing is dead, since that was looked for.
abbrev pub IsOnTime : {H : Type 0} (host : Ghosts H) → LoomMemory H host → LoomMemory H host → Type 0
IsOnTime host old new = (new.due ≤ old.due) ⊎ IsAlive (loom_told host new)

-- The object of a name was reached.
pub record IsFreedFor {H : Type 0} (host : Ghosts H) (old new : LoomMemory H host) (n : ℕ) : Type 0 where
  -- Where it came in, 27 entries and the words that it takes weren't free before, and what is dead was to be looked for, nothing is dead.
  pub gone : IsTrue (host.tells Work) → is_resident old n ≡ false → IsFreed host old new (words_at (loom_told host old).heap n) SPARE_ENTRIES
  pub due : IsOnTime host old new
  -- A memory that said that nothing is dead says so still.
  pub stays : KeepsThinned old new

-- An access was done to a heap in which nothing is dead, a thinning of the one before: what it left is what it does to this heap.
pub record IsDoneOfLiving (old new : Told) (a : Access) : Type 0 where
  pub heap : Heap
  pub thinning : IsThinning old.heap heap old.regs old.slots
  pub alive : kept heap (is_root old) ≡ heap
  pub left : new.heap ≡ heap_after heap old.regs a

-- Behind an access it is said still that nothing is dead, where no word went, or the core names what the word of a register or a slot named. Of
-- fields that are stored into `stays` of `set_field` says it.
abbrev pub StaysBy : {H : Type 0} {host : Ghosts H} → LoomMemory H host → LoomMemory H host → Access → Type 0
StaysBy old new (Known to name) = StaysThinned old new (word_in old.regs to)
StaysBy old new (Class to of) = StaysThinned old new (word_in old.regs to)
StaysBy old new (Field to of i) = StaysThinned old new (word_in old.regs to)
StaysBy old new (Pin slot of) = StaysThinned old new (pin_in (loom_pins old) slot)
StaysBy old new (SetField of i from) = Unit {0}
StaysBy old new (Make to class what) = Unit {0}
StaysBy old new (Swap a b) = Unit {0}
StaysBy old new _ = KeepsThinned old new

-- An access was done to the object of a name.
pub record IsFreedBy {H : Type 0} (host : Ghosts H) (old new : LoomMemory H host) (n : ℕ) (a : Access) : Type 0 where
  -- Where it came in, 27 entries and the words that it takes weren't free before, and what is dead was to be looked for, the access was done to a
  -- heap in which nothing is dead.
  pub gone : IsTrue (host.tells Work) → is_resident old n ≡ false → (HasRoom (loom_parts old) (words_at (loom_told host old).heap n) SPARE_ENTRIES → ⊥) → old.due ≤ old.ledger.next → IsDoneOfLiving (loom_told host old) (loom_told host new) a
  -- The next search isn't put off; or it was done to such a heap.
  pub due : IsTrue (host.tells Work) → (new.due ≤ old.due) ⊎ IsDoneOfLiving (loom_told host old) (loom_told host new) a
  pub stays : StaysBy old new a

-- An access asked for 27 entries. Where they weren't free before, and what is dead was to be looked for, it was done to a heap in which nothing is
-- dead.
abbrev pub IsFreedShort : {H : Type 0} (host : Ghosts H) → LoomMemory H host → LoomMemory H host → Access → Type 0
IsFreedShort host old new a = IsTrue (host.tells Work) → (HasRoom (loom_parts old) 0 SPARE_ENTRIES → ⊥) → old.due ≤ old.ledger.next → IsDoneOfLiving (loom_told host old) (loom_told host new) a

-- An object was made.
pub record IsFreedMaking {H : Type 0} (host : Ghosts H) (old new : LoomMemory H host) (to class : ℕ) (what : Making) : Type 0 where
  -- Where 27 entries and the words that it takes weren't free before, and what is dead was to be looked for, it was made in a heap in which nothing
  -- is dead.
  pub gone : IsTrue (host.tells Work) → (HasRoom (loom_parts old) (4 + body_words (body_made what)) SPARE_ENTRIES → ⊥) → old.due ≤ old.ledger.next → IsDoneOfLiving (loom_told host old) (loom_told host new) (Make to class what)
  -- The next search isn't put off; or it was made in such a heap.
  pub due : IsTrue (host.tells Work) → (new.due ≤ old.due) ⊎ IsDoneOfLiving (loom_told host old) (loom_told host new) (Make to class what)
