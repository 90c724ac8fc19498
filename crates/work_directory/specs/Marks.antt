-- Marks of blocks of slots, a bit for each.
use Rattle.std.specs.Prelude.{ℕ, ◌/◌, ◌%◌, ◌==◌, Bool, slice_index}
use Rattle.std.specs.Int.{bit_at}
use Rattle.work_directory.specs.declared.marks.Marks.{Marks}

-- a block has a mark
unfoldable pub has_mark : Marks → ℕ → Bool
has_mark m block = bit_at (slice_index m.words (block / 64)) (block % 64) == 1
