-- What a call within a memory of two levels leaves: whatever it answers (`Leaves`, `LeavesBeside`); where it is refused for a fault of the disk
-- (`IsFaulted`); and where it is done, by what it may touch, from the least on:
--
--     Enters   a name may get an entry
--     Reads    Work is read, into the buffer
--     Peeks    Work is read, and fields that stand for the record in the core
--     Gains    an object comes in
--     Pages    objects leave, and Work is written
--     Frees    what is dead goes
--     MayThin  what is dead may go, objects may leave, and one may come in
--
-- Each but the last two leaves all that is told but counts of faults, and marks.
use Rattle.std.specs.Prelude.{◌≡◌, ◌+◌, ◌≤◌, ◌<◌, ℕ, true, false, None, Some, Result, Err, IsTrue, OnOk, IfErr}
use Rattle.long_names.specs.declared.limits.TheConstants.{LAST_NAME, MAKINGS_BEFORE_FREEING}
use Rattle.long_names.specs.declared.value.Value.TheVariants.{Ref}
use Rattle.long_names.specs.Access.{Access, Make, Nothing, heap_after, target_of}
use Rattle.long_names.specs.Heap.{object_count}
use Rattle.long_names.specs.Kept.{kept}
use Rattle.long_names.specs.Names.{IsLongName}
use Rattle.long_names.specs.Objects.{Making, body_made, body_words}
use Rattle.long_names.specs.State.{IsRef, name_at}
use Rattle.loom_host.specs.declared.outside.Host.{Ghosts}
use Rattle.loom_host.specs.declared.outside.Role.TheVariants.{Work}
use Rattle.object_memory.specs.declared.fault.MemFault.{MemFault}
use Rattle.object_memory.specs.Told.{Told, is_root}
use Rattle.object_memory.specs.Contract.{Accessed, Called, ForBounds, HasCore, IfBounds, KeepsSound, Settles, Thins, makes}
use Rattle.object_table.specs.Entries.{place_of}
use Rattle.core_segment.specs.Segment.{free_of}
use Rattle.disk_objects.specs.Disk.{disk_room}
use Rattle.leaf_lambda.specs.Parts.{spare_of}
use Rattle.purger.specs.Draining.{KeepsHeld}
use Rattle.purger.specs.Purge.{HasRoom}
use Rattle.loom_memory.specs.declared.load.TheConstants.{SPARE_ENTRIES}
use Rattle.loom_memory.specs.declared.memory.LoomMemory.{LoomMemory}
use Rattle.loom_memory.specs.Memory.{loom_told, loom_outside, loom_core, loom_lender, loom_parts, loom_pins, loom_rest, word_in, IsRefused, IsSilent, IsSound}
use Rattle.loom_memory.specs.Gentle.{IsCalm, IsQuiet}
use Rattle.loom_memory.specs.Calls.{IsLoaded}
use Rattle.loom_memory.specs.Known.{IsEntryOf}
use Rattle.loom_memory.specs.Residents.{fetched, is_resident, words_resident}
use Rattle.loom_memory.specs.Own.{HasAllFor, HasSpaceFor, IsAskedLast, IsSparingMaking, MindsCache}
use Rattle.loom_memory.specs.Gentle.{IsIdle, KeepsCache}
use Rattle.loom_memory.specs.Gentle.{IsGentle, IsPeek, IsResting, IsSpared, IsSteady, Remains}
use Rattle.loom_memory.specs.Thinned.{is_thinned, KeepsThinned}
use Rattle.loom_memory.specs.Freed.{IsFreed, IsFreedMaking, IsOnTime}
use Rattle.loom_memory.specs.Makings.{HasAdded, HasKept, HasMade, HasSettled, HasThinned, IsLost, IsRefusedCall, IsRefusedMaking, OnCoreFull}

-- ---- whatever it answers

-- It is sound, but after a fault that leaves nothing known. Its loan and what it leaves of its host are as before, and no object came in.
pub record Leaves {A H : Type 0} (host : Ghosts H) (old new : LoomMemory H host) (answer : Result A MemFault) : Type 0 where
  pub sound : KeepsSound answer (IsSound host new)
  pub fetches : fetched new ≡ fetched old
  pub lender : loom_lender new ≡ loom_lender old
  pub outside : loom_outside host new ≡ loom_outside host old

-- the same of a call that answers by a refusal alone
abbrev pub LeavesRefused : {H : Type 0} (host : Ghosts H) → LoomMemory H host → LoomMemory H host → MemFault → Type 0
LeavesRefused host old new f = Leaves {A = Unit {0}} host old new (Err f)

-- the same of a call by which an object may have come in
pub record LeavesBeside {A H : Type 0} (host : Ghosts H) (old new : LoomMemory H host) (answer : Result A MemFault) : Type 0 where
  pub sound : KeepsSound answer (IsSound host new)
  pub lender : loom_lender new ≡ loom_lender old
  pub outside : loom_outside host new ≡ loom_outside host old

-- ---- refused

-- for a fault of the disk, which refuses each call that makes room alike
pub record IsFaulted (old new : Told) (f : MemFault) : Type 0 where
  pub access : (a : Access) → IsSilent a → makes a ≡ 0 → IsRefused old new a f
  pub making : IsRefusedMaking old new f
  pub settling : IsRefusedCall old new Settles f
  pub purging : Called {A = Unit {0}} old new Thins (Err f)
  pub lost : IsLost f

-- ---- done

-- Objects may have left, none came in, and nothing of what is told changed but that their marks may be gone, and counts of faults. Registers and
-- pins are as before, and so is all that the memory counts.
pub record Pages {H : Type 0} (host : Ghosts H) (old new : LoomMemory H host) : Type 0 where
  pub quiet : IsQuiet (loom_told host old) (loom_told host new)
  pub calm : IsCalm (loom_pins old) (loom_core old) (loom_core new)
  pub leaf : (t : ℕ) → place_of ((loom_core old).entries t).state ≡ None → place_of ((loom_core new).entries t).state ≡ None
  pub minds : MindsCache host None old new (λ k. ⊥)
  pub regs : new.regs ≡ old.regs
  pub pins : loom_pins new ≡ loom_pins old
  pub ledger : new.ledger ≡ old.ledger
  pub limit : disk_room (loom_rest new) ≡ disk_room (loom_rest old)
  pub due : new.due ≡ old.due
  pub flag : new.thinned ≡ old.thinned

-- What is dead may have gone, and objects that this is about may have come in; else nothing of what is told changed. The next search for what is
-- dead isn't put off, or nothing is dead; and it is said still that nothing is, where it was.
pub record MayThin {H : Type 0} (host : Ghosts H) (about : ℕ → Type 0) (old new : LoomMemory H host) : Type 0 where
  pub thinned : HasThinned (loom_told host old) (loom_told host new)
  pub minds : MindsCache host None old new about
  pub regs : new.regs ≡ old.regs
  pub pins : loom_pins new ≡ loom_pins old
  pub next : new.ledger.next ≡ old.ledger.next
  pub due : IsOnTime host old new
  pub flag : KeepsThinned old new

-- What is dead may have gone, and nothing else did: no object of the heap that is left leaves the core, and there is no less room.
pub record Frees {H : Type 0} (host : Ghosts H) (old new : LoomMemory H host) : Type 0 where
  pub thins : MayThin host (λ k. ⊥) old new
  pub calm : IsCalm (loom_pins old) (loom_core old) (loom_core new)
  pub ledger : new.ledger ≡ (record old.ledger { held = new.ledger.held })
  pub less : new.ledger.held ≤ old.ledger.held
  pub limit : disk_room (loom_rest new) ≡ disk_room (loom_rest old)
  pub bodies : IsTrue (host.tells Work) → KeepsHeld (loom_core old) (loom_core new) (loom_told host new).heap
  pub entries : spare_of (loom_parts old) ≤ spare_of (loom_parts new)
  pub words : free_of (loom_parts old).segment ≤ free_of (loom_parts new).segment

-- nothing is dead: what is held is what was kept, and it says so
pub record HasSwept {H : Type 0} (host : Ghosts H) (old new : LoomMemory H host) : Type 0 where
  pub is_kept : HasKept (loom_told host old) (loom_told host new)
  pub count : IsTrue (host.tells Work) → object_count (loom_told host new).heap ≡ new.ledger.held
  pub again : IsTrue (host.tells Work) → kept (loom_told host new).heap (is_root (loom_told host new)) ≡ (loom_told host new).heap
  pub set : is_thinned new ≡ true

-- A record was read into the buffer, and nothing else differs but what Work was asked, and counts of faults.
pub record Reads {H : Type 0} (host : Ghosts H) (old new : LoomMemory H host) : Type 0 where
  pub quiet : IsQuiet (loom_told host old) (loom_told host new)
  pub gentle : IsGentle host old new
  pub parts : loom_parts new ≡ loom_parts old
  pub regs : new.regs ≡ old.regs
  pub pins : loom_pins new ≡ loom_pins old
  pub ledger : new.ledger ≡ old.ledger
  pub due : new.due ≡ old.due
  pub flag : new.thinned ≡ old.thinned

-- A record was read, and fields that stand for it; no object came or left.
pub record Peeks {H : Type 0} (host : Ghosts H) (old new : LoomMemory H host) : Type 0 where
  pub quiet : IsQuiet (loom_told host old) (loom_told host new)
  pub peek : IsPeek host old new
  pub regs : new.regs ≡ old.regs
  pub due : new.due ≡ old.due
  pub flag : new.thinned ≡ old.thinned

-- A name may have got an entry, and nothing else differs.
pub record Enters {H : Type 0} (host : Ghosts H) (old new : LoomMemory H host) : Type 0 where
  pub told : loom_told host new ≡ loom_told host old
  pub steady : IsSteady host old new
  pub regs : new.regs ≡ old.regs
  pub pins : loom_pins new ≡ loom_pins old
  pub ledger : new.ledger ≡ old.ledger
  pub due : new.due ≡ old.due
  pub flag : new.thinned ≡ old.thinned

-- An object came in, and none left.
pub record Gains {H : Type 0} (host : Ghosts H) (old new : LoomMemory H host) : Type 0 where
  pub quiet : IsQuiet (loom_told host old) (loom_told host new)
  pub gentle : IsGentle host old new
  pub regs : new.regs ≡ old.regs
  pub pins : loom_pins new ≡ loom_pins old
  pub next : new.ledger.next ≡ old.ledger.next
  pub due : new.due ≡ old.due
  pub flag : new.thinned ≡ old.thinned

-- An object of so many words came in. Where there was no room for it, and what is dead was to be looked for, nothing is dead; where there was, no
-- object left, and Work was at most read.
pub record Comes {H : Type 0} (host : Ghosts H) (words : ℕ) (old new : LoomMemory H host) : Type 0 where
  pub gone : IsFreed host old new words SPARE_ENTRIES
  pub gentle : HasRoom (loom_parts old) words SPARE_ENTRIES → IsGentle host old new

-- ---- the object of a call

-- An entry is that of a register, and has its body. So an access to it that makes nothing has its row's core, as was told before.
pub record IsHere {H : Type 0} (host : Ghosts H) (told : Told) (m : LoomMemory H host) (of s : ℕ) : Type 0 where
  pub word : s ≡ word_in m.regs of
  pub loaded : IsLoaded host m of s
  pub core : (a : Access) → target_of a ≡ Some of → makes a ≡ 0 → IfBounds told.bounds (HasCore told a)
  pub bounded : ForBounds (loom_told host m).bounds (λ b. words_resident m ≤ b.core)
  pub there : IsTrue (is_resident m (name_at (told.regs of)))

-- An entry is that of a register, and has a body that may be stored into: it isn't marked.
pub record IsOpen {H : Type 0} {host : Ghosts H} (told : Told) (m : LoomMemory H host) (of s : ℕ) : Type 0 where
  pub word : s ≡ word_in m.regs of
  pub there : (at : ℕ) × (place_of ((loom_core m).entries s).state ≡ Some at)
  pub unmarked : ((loom_core m).entries s).flags.marked ≡ false
  pub core : (a : Access) → target_of a ≡ Some of → makes a ≡ 0 → IfBounds told.bounds (HasCore told a)

-- ---- making

-- a name is the next one, and no object has it
pub record IsNext {H : Type 0} {host : Ghosts H} (m : LoomMemory H host) (name : ℕ) : Type 0 where
  pub next : m.ledger.next ≡ name
  pub long : IsLongName name
  pub low : name < LAST_NAME

-- The disk has room for one object more. What is dead may have gone for that, and nothing else did.
pub record Asks {H : Type 0} (host : Ghosts H) (old new : LoomMemory H host) : Type 0 where
  pub thinned : HasThinned (loom_told host old) (loom_told host new)
  pub held : new.ledger.held < disk_room (loom_rest new)
  pub next : new.ledger.next ≡ old.ledger.next
  pub minds : IsTrue (host.tells Work) → MindsCache host None old new (λ k. ⊥)
  pub bodies : IsTrue (host.tells Work) → KeepsHeld (loom_core old) (loom_core new) (loom_told host new).heap
  pub room : (words : ℕ) → HasRoom (loom_parts old) words SPARE_ENTRIES → HasRoom (loom_parts new) words SPARE_ENTRIES

-- An object was made, and is in the core; its name is in a register.
pub record Puts {H : Type 0} (host : Ghosts H) (old new : LoomMemory H host) (to class : ℕ) (what : Making) : Type 0 where
  pub made : HasMade (loom_told host old) (loom_told host new) to class what
  pub there : IsTrue (is_resident new (name_at ((loom_told host new).regs to)))
  pub minds : MindsCache host None old new (λ k. (loom_told host new).regs to ≡ Ref k)

-- No object left, Work wasn't touched, and the method cache is as it was.
pub record Rests {H : Type 0} (host : Ghosts H) (old new : LoomMemory H host) : Type 0 where
  pub resting : IsResting old new
  pub cached : KeepsCache host old new

-- An object of this name was made, and s is its entry.
pub record Adds {H : Type 0} (host : Ghosts H) (old new : LoomMemory H host) (class : ℕ) (what : Making) (name s : ℕ) : Type 0 where
  pub added : HasAdded (loom_told host old) (loom_told host new) class what
  pub entry : IsEntryOf (loom_core new) s name
  pub there : IsTrue (is_resident new name)
  pub remains : Remains (loom_core old) (loom_core new)
  pub minds : MindsCache host None old new (λ k. k ≡ name)

-- A making, whatever it answers but for what `fit` says. Where it is refused for want of core, there was a name, and room on the disk; where there was
-- all that it asks for, it isn't refused.
pub record Makes {H : Type 0} (host : Ghosts H) (old new : LoomMemory H host) (to class : ℕ) (what : Making) (result : Result (Unit {0}) MemFault) : Type 0 where
  pub access : Accessed (loom_told host old) (loom_told host new) (Make to class what) (λ _. Nothing) result
  pub name : OnOk result (IsRef ((loom_told host new).regs to))
  pub there : OnOk result (IsTrue (is_resident new (name_at ((loom_told host new).regs to))))
  pub fetches : fetched new ≡ fetched old
  -- A making before the eighth after a settling frees nothing where the core has room for it.
  pub early : IsTrue (host.tells Work) → IfBounds (loom_told host old).bounds (λ b. b.made < MAKINGS_BEFORE_FREEING
      → HasRoom (loom_parts old) (4 + body_words (body_made what)) SPARE_ENTRIES
      → OnOk result ((loom_told host new).heap ≡ heap_after (loom_told host old).heap (loom_told host old).regs (Make to class what)))
  pub own : OnOk result (IsSparingMaking host old new what)
  pub minds : OnOk result (IsTrue (host.tells Work) → MindsCache host None old new (λ k. (loom_told host new).regs to ≡ Ref k))
  pub full : IfErr result (λ f. OnCoreFull f (IsAskedLast host old new))
  pub spared : IfErr result (λ f. HasSpaceFor old what → IsSpared host old new)
  pub sure : IfErr result (λ f. HasAllFor host old what → ⊥)
  pub gone : OnOk result (IsFreedMaking host old new to class what)

-- ---- settling

-- Dead objects went, if any, and nothing else did; makings are counted anew.
pub record CountsAnew {H : Type 0} (host : Ghosts H) (old new : LoomMemory H host) : Type 0 where
  pub settled : HasSettled (loom_told host old) (loom_told host new)
  pub none : new.ledger.made ≡ 0
  pub minds : IsTrue (host.tells Work) → MindsCache host None old new (λ k. ⊥)
  pub bodies : IsTrue (host.tells Work) → KeepsHeld (loom_core old) (loom_core new) (loom_told host new).heap
  pub entries : spare_of (loom_parts old) ≤ spare_of (loom_parts new)
  pub due : IsOnTime host old new
  pub flag : KeepsThinned old new

-- Makings are counted anew. Marks and rows went only with an object that was marked; the next search for what is dead isn't put off, or nothing is
-- dead; and it is said still that nothing is, where it was.
pub record HasEnded {H : Type 0} (host : Ghosts H) (old new : LoomMemory H host) : Type 0 where
  pub none : new.ledger.made ≡ 0
  pub minds : IsTrue (host.tells Work) → MindsCache host None old new (λ k. ⊥)
  pub due : IsOnTime host old new
  pub flag : KeepsThinned old new

-- Nothing of the heap went, Work wasn't touched, no object came in, and the method cache is as it was.
pub record IsUntouched {H : Type 0} (host : Ghosts H) (old new : LoomMemory H host) : Type 0 where
  pub whole : (loom_told host new).heap ≡ (loom_told host old).heap
  pub idle : IsIdle old new
  pub cached : KeepsCache host old new
