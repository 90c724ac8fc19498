-- A memory in which nothing is dead says so, until something may be.
use Rattle.std.specs.Prelude.{◌≡◌, ℕ, Bool, true, Some, Result, IsOk}
use Rattle.loom_host.specs.declared.outside.Host.{Ghosts}
use Rattle.object_table.specs.Entries.{is_short}
use Rattle.object_memory.specs.declared.fault.MemFault.{MemFault}
use Rattle.loom_memory.specs.declared.memory.LoomMemory.{LoomMemory}
use Rattle.loom_memory.specs.Memory.{loom_core, IsNamedIn}

-- it says that nothing is dead
unfoldable pub is_thinned : {H : Type 0} {host : Ghosts H} → LoomMemory H host → Bool
is_thinned m = m.thinned

-- A settling found nothing dead: it is answered, nothing is looked for, and nothing changed but that makings are counted anew, from all that
-- are held.
pub record HasLasted {H : Type 0} {host : Ghosts H} (old new : LoomMemory H host) (result : Result (Unit {0}) MemFault) : Type 0 where
  pub ok : IsOk result
  pub same : new ≡ (record old { ledger = record old.ledger { base = Some old.ledger.held; made = 0 } })

-- It says so still.
abbrev pub KeepsThinned : {H : Type 0} {host : Ghosts H} → LoomMemory H host → LoomMemory H host → Type 0
KeepsThinned old new = old.thinned ≡ true → new.thinned ≡ true

-- A word went: it says so still if the word is a number, or the core names what the word named, or that is known.
abbrev pub StaysThinned : {H : Type 0} {host : Ghosts H} → LoomMemory H host → LoomMemory H host → ℕ → Type 0
StaysThinned old new w = old.thinned ≡ true → (is_short w ≡ true → IsNamedIn (loom_core new) w) → new.thinned ≡ true
