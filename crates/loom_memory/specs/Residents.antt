-- Which objects are in the core, how many words they take, and how many came in.
use Rattle.std.specs.Prelude.{ℕ, Bool, false, Option, Some, None}
use Rattle.loom_host.specs.declared.outside.Host.{Ghosts}
use Rattle.std.specs.Option.{is_some}
use Rattle.object_table.specs.Entries.{place_of, sum_below}
use Rattle.core_view.specs.Core.{Core}
use Rattle.core_view.specs.Room.{room_for}
use Rattle.loom_memory.specs.declared.memory.LoomMemory.{LoomMemory}
use Rattle.loom_memory.specs.Memory.{loom_core}

abbrev pub has_body : Core → Option ℕ → Bool
has_body c None = false
has_body c (Some s) = is_some (place_of (c.entries s).state)

-- the object of a name is in the core
unfoldable pub is_resident : {H : Type 0} {host : Ghosts H} → LoomMemory H host → ℕ → Bool
is_resident m n = has_body (loom_core m) ((loom_core m).find n)

-- the sum of 4 and the body words over the objects in the core
unfoldable pub words_resident : {H : Type 0} {host : Ghosts H} → LoomMemory H host → ℕ
words_resident m = sum_below (loom_core m).bound (room_for (loom_core m))

-- how many objects were brought in so far
unfoldable pub fetched : {H : Type 0} {host : Ghosts H} → LoomMemory H host → ℕ
fetched m = m.ledger.fetches
