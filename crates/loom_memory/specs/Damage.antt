-- Where a Damaged points, over every host: it names the object of the access, unless something had to leave the core for that.
use Rattle.std.specs.Prelude.{◌≡◌, ◌⊎◌, ℕ, ◌+◌, Result, IfErr}
use Rattle.loom_host.specs.declared.outside.Host.{Ghosts}
use Rattle.long_names.specs.Objects.{body_words}
use Rattle.object_memory.specs.declared.fault.MemFault.{MemFault}
use Rattle.object_memory.specs.declared.fault.MemFault.TheVariants.{Damaged}
use Rattle.object_record.specs.Buffer.{raw_of}
use Rattle.object_record.specs.Objects.{object_in}
use Rattle.disk_objects.specs.declared.rest.DiskRest.{DiskRest}
use Rattle.disk_objects.specs.Places.{IsReadPlace}
use Rattle.purger.specs.declared.eviction.TheConstants.{NOWHERE}
use Rattle.purger.specs.Purge.{HasRoom}
use Rattle.loom_memory.specs.declared.load.TheConstants.{SPARE_ENTRIES}
use Rattle.loom_memory.specs.declared.memory.LoomMemory.{LoomMemory}
use Rattle.loom_memory.specs.Memory.{loom_parts, loom_rest}

-- a Damaged names this object, and has the place of its slot or its record, or none
abbrev pub IsDamageOf : DiskRest → ℕ → MemFault → Type 0
IsDamageOf rest name (Damaged place about) = (IsReadPlace rest place ⊎ (place ≡ NOWHERE)) × (about ≡ name)
IsDamageOf rest name f = Unit {0}

-- the words that the object of the buffer's record takes
abbrev pub words_read : {H : Type 0} {host : Ghosts H} → LoomMemory H host → ℕ
words_read m = 4 + body_words (object_in (raw_of m.buf)).body

-- so does that of an access to an object for whose words, and as many entries as a call asks for, there was room
abbrev pub IsDamaged : {A H : Type 0} {host : Ghosts H} → LoomMemory H host → LoomMemory H host → ℕ → Result A MemFault → Type 0
IsDamaged old new name result = IfErr result (λ f. HasRoom (loom_parts old) (words_read new) SPARE_ENTRIES → IsDamageOf (loom_rest new) name f)

-- no Damaged
abbrev pub IsUndamaged : MemFault → Type 0
IsUndamaged (Damaged place about) = ⊥
IsUndamaged f = Unit {0}
