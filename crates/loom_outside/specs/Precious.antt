-- What a file begins with that people keep: an image, an image's text or a picture, each by its whole head.
use Rattle.std.specs.Prelude.{ℕ, ◌==◌, ◌&&◌, Bool, false, List, [], ◌∷◌, take, drop, codes, bytes_eq, Option, Some, None, is_some, is_ok, option_and_then, if◌then◌else◌}
use Rattle.std.specs.List.{slice_split}
use Rattle.image_format.specs.Heads.{head_at}
use Rattle.text_lines.specs.Grammar.{line_head}
use Rattle.text_lines.specs.Parts.{is_space, long_of}
use Rattle.loom_outside.specs.declared.precious.Precious.{Precious}
use Rattle.loom_outside.specs.declared.precious.Precious.TheVariants.{Image, Text, Picture}

abbrev pub is_newline : ℕ → Bool
is_newline b = b == 10

-- the first of several lines: it is the one that a newline ends
abbrev pub ended : List (List ℕ) → Option (List ℕ)
ended (line ∷ next ∷ lines) = Some line
ended lines = None

-- what stands before the first newline, if there is one
abbrev pub first_line : List ℕ → Option (List ℕ)
first_line bytes = ended (slice_split is_newline bytes)

-- the head of an image of either version, in which none of the rules 1 to 3, 9 and 13 breaks
abbrev pub begins_image : List ℕ → Bool
begins_image bytes = is_ok (head_at bytes)

-- a line that states a next name and a state
abbrev pub begins_text : List ℕ → Bool
begins_text bytes = is_some (option_and_then line_head (first_line bytes))

-- P4 on a line of its own, and a line with a width and a height
abbrev pub are_two_numbers : List (List ℕ) → Bool
are_two_numbers (width ∷ height ∷ []) = is_some (long_of width) && is_some (long_of height)
are_two_numbers parts = false

abbrev pub is_extent : Option (List ℕ) → Bool
is_extent None = false
is_extent (Some line) = are_two_numbers (slice_split is_space line)

abbrev pub begins_picture : List ℕ → Bool
begins_picture bytes = bytes_eq (take 3 bytes) (codes "P4\n") && is_extent (first_line (drop 3 bytes))

abbrev pub precious_in : List ℕ → Option Precious
precious_in bytes = if begins_image bytes then Some Image else (if begins_text bytes then Some Text else (if begins_picture bytes then Some Picture else None))
