-- What a store holds for each role, and its files.
use Rattle.std.specs.Prelude.{ℕ, List, Bool, true, false, ◌==◌, Option, None, Some, slice_index, vec_capacity}
use Rattle.std.specs.Option.{option_map}
use Rattle.loom_outside.specs.Files.{names, contents, rooms, bytes_at, newest}
use Rattle.loom_host.specs.Outside.{RoleState, at_start}
use Rattle.loom_outside.specs.Reading.{reading, writing}
use Rattle.loom_outside.specs.Rooms.{Room}
use Rattle.loom_host.specs.declared.outside.Role.{Role}
use Rattle.loom_host.specs.declared.outside.Role.TheVariants.{Image, Events, Work, Saved, Display, Transcript, Notes}
use Rattle.loom_outside.specs.declared.store.Store.{Store}

-- what a role holds, under the name of its file
unfoldable pub held_of : Store → Role → RoleState
held_of s Image = reading (names s.files.items) (contents s.files.items) s.image
held_of s Events = reading (names s.files.items) (contents s.files.items) s.events
held_of s Work = record at_start { name = Some s.work.name.items; contents = s.work.bytes.items }
held_of s Saved = writing (names s.files.items) (contents s.files.items) s.saved.file
held_of s Display = writing (names s.files.items) (contents s.files.items) s.display.file
held_of s Transcript = record at_start { put = s.transcript.items }
held_of s Notes = record at_start { put = s.notes.items }

-- the bytes of the file of this name
unfoldable pub file_in : Store → List ℕ → Option (List ℕ)
file_in s name = option_map (bytes_at (contents s.files.items)) (newest (names s.files.items) name)

abbrev pub is_place : Option ℕ → ℕ → Bool
is_place None place = false
is_place (Some found) place = found == place

-- the file of this name is the one that the role writes
unfoldable pub shows : Store → Role → List ℕ → Bool
shows s Saved name = is_place (newest (names s.files.items) name) s.saved.file
shows s Display name = is_place (newest (names s.files.items) name) s.display.file
shows s _ name = false

-- the room of a role
unfoldable pub room_in : Store → Role → Room
room_in s Work = record { bytes = vec_capacity s.work.bytes; next_bytes = vec_capacity s.work.bytes; next_name = vec_capacity s.work.name; next_place = true }
room_in s Saved = record { bytes = slice_index (rooms s.files.items) s.saved.file; next_bytes = vec_capacity s.saved.bytes; next_name = vec_capacity s.saved.name; next_place = s.saved.place }
room_in s Display = record { bytes = slice_index (rooms s.files.items) s.display.file; next_bytes = vec_capacity s.display.bytes; next_name = vec_capacity s.display.name; next_place = s.display.place }
room_in s Transcript = record { bytes = vec_capacity s.transcript; next_bytes = 0; next_name = 0; next_place = false }
room_in s Notes = record { bytes = vec_capacity s.notes; next_bytes = 0; next_name = 0; next_place = false }
room_in s _ = record { bytes = 0; next_bytes = 0; next_name = 0; next_place = false }
