-- The front of an image's bytes that tells what the whole is.
use Rattle.std.specs.Prelude.{◌≡◌, ◌⊎◌, ℕ, List, None}
use Rattle.image_format.specs.Rules.{first_break}
use Rattle.image_reader.specs.Loaded.{IsUnread, full_of}

-- No image can be read of the front, and it is refused as the whole is: for the objects that both state, where there is no room for so many; and else
-- for the first rule that both break, at one place.
pub record IsRefusedAs (room : ℕ) (front whole : List ℕ) : Type 0 where
  pub unread : IsUnread front
  pub full : full_of room front ≡ full_of room whole
  pub breaks : full_of room whole ≡ None → first_break front ≡ first_break whole

-- it is the whole, or is refused as that is
abbrev pub TellsOf : ℕ → List ℕ → List ℕ → Type 0
TellsOf room front whole = (front ≡ whole) ⊎ IsRefusedAs room front whole
