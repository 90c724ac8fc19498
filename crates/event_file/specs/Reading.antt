-- What reading an event file does with its host, and how far it reads.
use Rattle.std.specs.Prelude.{◌≡◌, ◌≢◌, ℕ, ◌<◌, ◌≤◌, ◌+◌, ◌%◌, ◌==◌, List, [], ◌++◌, length, min, All, if◌then◌else◌}
use Rattle.std.specs.List.{position_or_len}
use Rattle.loom_host.specs.Outside.{RoleState, SameBut, TookSome}
use Rattle.loom_host.specs.declared.outside.Host.{Ghosts}
use Rattle.loom_host.specs.declared.outside.Role.TheVariants.{Events}
use Rattle.blue_model.specs.declared.event.Line.{Line}
use Rattle.event_file.specs.Text.{AreRight, events_text}
use Rattle.event_file.specs.declared.limits.TheConstants.{MOST_LINES, LONGEST, PIECE}

-- nothing was done but with Events, and its count of faults didn't fall
pub record IsEventsOnly {H : Type 0} (host : Ghosts H) (old new : H) : Type 0 where
  pub others : SameBut Events (host.roles old) (host.roles new)
  pub other_faults : SameBut Events (host.faults old) (host.faults new)
  pub writes : host.writes new ≡ host.writes old
  pub later : host.faults old Events ≤ host.faults new Events

-- the lines that were read, and the bytes of one that has not ended
pub record Begun : Type 0 where
  pub lines : List Line
  pub line : List ℕ

-- what was read
abbrev pub begun_text : Begun → List ℕ
begun_text b = events_text b.lines ++ b.line

-- right lines, and behind them no end of a line. Behind the last line that there may be nothing stands
pub record IsBegun (b : Begun) : Type 0 where
  pub right : AreRight b.lines
  pub unended : All (λ byte. byte ≢ 10) b.line
  pub room : b.line ≢ [] → length b.lines < MOST_LINES
  pub short : length b.line ≤ LONGEST

-- Reading stopped at a bad line: nothing was taken behind the piece that shows it. What was taken before that piece is whole pieces and
-- shows none: right lines, and bytes of one more that has not ended and is no longer than the longest.
pub record StopsInPiece (old new : RoleState) : Type 0 where
  pub before : Begun
  pub before_is : IsBegun before
  pub aligned : length (begun_text before) % PIECE ≡ 0
  pub rest : List ℕ
  pub split : old.left ≡ begun_text before ++ rest
  pub taken : TookSome (length (begun_text before) + PIECE) old new

-- how many bytes of a bad line behind so many right ones stand before the byte that shows it bad: none where no line may come any more,
-- else those before its end, or as many as the longest line has
abbrev pub unseen : ℕ → List ℕ → ℕ
unseen lines rest = if lines == MOST_LINES then 0 else min LONGEST (position_or_len (λ byte. byte == 10) rest)
