-- What a call finds of the object of its register, once it is in the core.
use Rattle.std.specs.Prelude.{◌≡◌, ℕ, Bool, true, false, Some, IsTrue}
use Rattle.long_names.specs.Access.{Access, KindOf, Length, Header, Word, Byte, ReadWords, ReadBytes}
use Rattle.long_names.specs.State.{object_at as object_of_value}
use Rattle.loom_host.specs.declared.outside.Host.{Ghosts}
use Rattle.loom_host.specs.declared.outside.Role.TheVariants.{Work}
use Rattle.object_table.specs.Entries.{place_of}
use Rattle.disk_objects.specs.Function.{disk_of}
use Rattle.core_view.specs.Held.{object_at}
use Rattle.loom_memory.specs.declared.memory.LoomMemory.{LoomMemory}
use Rattle.loom_memory.specs.Memory.{loom_told, loom_core, loom_now, loom_rest}

-- an access that only reads its object, and fills no register
abbrev pub is_read : Access → Bool
is_read (KindOf of) = true
is_read (Length of) = true
is_read (Header of) = true
is_read (Word of i) = true
is_read (Byte of i) = true
is_read (ReadWords of at count) = true
is_read (ReadBytes of at count) = true
is_read _ = false

-- The entry of a register's object has a body, and where the heap is told, what the heap has under the register's name is what that body
-- means.
pub record IsLoaded {H : Type 0} (host : Ghosts H) (m : LoomMemory H host) (of s : ℕ) : Type 0 where
  pub at : ℕ
  pub place : place_of ((loom_core m).entries s).state ≡ Some at
  pub object : IsTrue (host.tells Work) → object_of_value (loom_told host m).heap ((loom_told host m).regs of)
      ≡ Some (object_at (loom_core m) (disk_of host (loom_now m) (loom_rest m)) ((loom_core m).entries s) at)
