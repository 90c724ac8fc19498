-- What is kept of an event list, and how far a file is read.
use Rattle.std.specs.Prelude.{◌≡◌, ℕ, ◌≤◌, ◌+◌, ◌*◌, List, length}
use Rattle.blue_model.specs.declared.event.Line.{Line}
use Rattle.blue_model.specs.Devices.{input_words}
use Rattle.event_file.specs.declared.limits.TheConstants.{MOST_LINES, LONGEST}
use Rattle.event_file.specs.Reading.{Begun, begun_text}

-- lines, and their words
pub record IsList (lines : List Line) (words : List ℕ) : Type 0 where
  pub few : length lines ≤ MOST_LINES
  pub words_are : words ≡ input_words lines

-- the most bytes that are taken of a file before a line is seen to be bad
abbrev pub most_text : ℕ
most_text = (LONGEST + 1) * MOST_LINES + LONGEST

-- so many bytes more were read, and there may be no more than right lines have
pub record IsLonger (by : ℕ) (old new : Begun) : Type 0 where
  pub longer : length (begun_text new) ≡ length (begun_text old) + by
  pub most : length (begun_text new) ≤ most_text
