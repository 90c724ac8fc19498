-- Files that are read, and files that are written.
use Rattle.std.specs.Prelude.{ℕ, ◌<◌, ◌≤◌, List, length, take, drop, slice_index_or, Option, None}
use Rattle.loom_outside.specs.Files.{bytes_at}
use Rattle.loom_host.specs.Outside.{RoleState, at_start}
use Rattle.loom_outside.specs.declared.reader.Reader.{Reader}

-- the bytes of its file that a reader comes to: those that were there at the attach
abbrev pub shown : List (List ℕ) → Reader → List ℕ
shown all r = take r.end (bytes_at all r.file)

-- the file is there, and as long as it was
abbrev pub Stands : List (List ℕ) → Reader → Type 0
Stands all r = (r.file < length all) × (r.end ≤ length (bytes_at all r.file))

-- what a reader holds
abbrev pub reading : List (Option (List ℕ)) → List (List ℕ) → Reader → RoleState
reading own all r = record at_start { name = slice_index_or own r.file None; taken = take r.taken (shown all r); left = drop r.taken (shown all r) }

-- what the writer of the file at a place holds
abbrev pub writing : List (Option (List ℕ)) → List (List ℕ) → ℕ → RoleState
writing own all place = record at_start { name = slice_index_or own place None; put = bytes_at all place }
