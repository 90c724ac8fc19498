-- Slots that were read at once.
use Rattle.std.specs.Prelude.{◌≡◌, ℕ, List}
use Rattle.work_directory.specs.declared.piece.Piece.{Piece}
use Rattle.work_directory.specs.Inside.{HasSlot, piece_bytes}
use Rattle.work_directory.specs.Slots.{bytes_of}

-- the slots of a piece are as they stand in these contents of Work
unfoldable pub IsPieceOf : List ℕ → Piece → Type 0
IsPieceOf work p = (i : ℕ) → HasSlot p i → piece_bytes p i ≡ bytes_of work i
