-- Names that are below the next one, as the name of each object is. What a record holds is tested for it when the record is read.
use Rattle.std.specs.Prelude.{◌≡◌, ℕ, ◌<◌, true}
use Rattle.loom_host.specs.declared.outside.Host.{Ghosts}
use Rattle.long_names.specs.declared.value.Value.{Value}
use Rattle.long_names.specs.declared.value.Value.TheVariants.{Ref}
use Rattle.long_names.specs.declared.object.Object.{Object}
use Rattle.long_names.specs.Objects.{holds}
use Rattle.object_record.specs.Buffer.{raw_of, HasRecord}
use Rattle.object_record.specs.Objects.{object_in}
use Rattle.loom_memory.specs.declared.memory.LoomMemory.{LoomMemory}

-- a value that is a name is below the next one
abbrev pub IsBelow : ℕ → Value → Type 0
IsBelow next v = (n : ℕ) → v ≡ Ref n → n < next

-- each name that an object holds, as its class or in a field, is below the next one
abbrev pub HoldsBelow : ℕ → Object → Type 0
HoldsBelow next o = (n : ℕ) → holds o n ≡ true → n < next

-- the buffer has the record of a name, and each name in it is below the next one
pub record IsTested {H : Type 0} {host : Ghosts H} (m : LoomMemory H host) (name : ℕ) : Type 0 where
  pub record_there : HasRecord m.buf
  pub named : (raw_of m.buf).name ≡ name
  pub below : HoldsBelow m.ledger.next (object_in (raw_of m.buf))
