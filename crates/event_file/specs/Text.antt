-- The text of an event file: a line for each event, with the number of bytecodes after which it comes. The counts never fall.
use Rattle.std.specs.Prelude.{◌≡◌, ◌≢◌, ℕ, ◌≤◌, ◌+◌, List, [], ◌∷◌, ◌++◌, length, All, codes, decimal}
use Rattle.std.specs.List.{flat_map}
use Rattle.blue_model.specs.declared.event.Event.{Event}
use Rattle.blue_model.specs.declared.event.Event.TheVariants.{Word, Purge, Compact}
use Rattle.blue_model.specs.declared.event.Line.{Line}
use Rattle.blue_model.specs.Devices.{AreRising}
use Rattle.event_file.specs.declared.limits.TheConstants.{MOST_COUNT, MOST_WORD, MOST_LINES}

abbrev pub event_text : Event → List ℕ
event_text (Word word) = codes "word " ++ decimal word
event_text Purge = codes "purge"
event_text Compact = codes "compact"

-- what stands on a line: numbers are plain decimal, and a single space (32) stands behind the count
abbrev pub line_body : Line → List ℕ
line_body line = decimal line.count ++ 32 ∷ event_text line.event

-- with its end
abbrev pub line_text : Line → List ℕ
line_text line = line_body line ++ 10 ∷ []

abbrev pub events_text : List Line → List ℕ
events_text lines = flat_map line_text lines

-- a word is an input word
abbrev pub IsEvent : Event → Type 0
IsEvent (Word word) = word ≤ MOST_WORD
IsEvent Purge = Unit {0}
IsEvent Compact = Unit {0}

-- a count is as many bytecodes as a run may have
pub record IsLine (line : Line) : Type 0 where
  pub count : line.count ≤ MOST_COUNT
  pub event : IsEvent line.event

-- the lines of a right file
pub record AreRight (lines : List Line) : Type 0 where
  pub lines_are : All IsLine lines
  pub rising : AreRising 0 lines
  pub few : length lines ≤ MOST_LINES

-- no right file goes on like this behind these lines
abbrev pub EndsThere : List Line → List ℕ → Type 0
EndsThere lines rest = (line : Line) (tail : List ℕ) → AreRight (lines ++ line ∷ []) → rest ≢ line_text line ++ tail

-- the first bad line of a text is this one, counted from 1: right lines come before it, and what comes then is no line behind them
pub record IsBadAt (number : ℕ) (text : List ℕ) : Type 0 where
  pub lines : List Line
  pub rest : List ℕ
  pub split : text ≡ events_text lines ++ rest
  pub right : AreRight lines
  pub place : number ≡ length lines + 1
  pub some : rest ≢ []
  pub bad : EndsThere lines rest
