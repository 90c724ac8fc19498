-- A text line by line, as it is read: what comes next of it, what a line states, and why it is refused.
use Rattle.std.specs.Prelude.{◌≡◌, ◌<◌, ◌≤◌, ℕ, ◌+◌, ◌&&◌, ◌==◌, nat_lt, nat_le, not, if◌then◌else◌, Bool, List, [], ◌∷◌, ◌++◌, length, take, drop, Result, Ok, Err}
use Rattle.std.specs.List.{slice_split}
use Rattle.long_names.specs.declared.object.Rec.{Rec}
use Rattle.image_format.specs.declared.fault.Break.{Break}
use Rattle.image_format.specs.Heads.{is_next}
use Rattle.image_format.specs.Rules.{break}
use Rattle.text_lines.specs.Breaks.{◌>>=◌, broken, keeping, keeps_count, keeps_order, keeps_size, keeps_state, lines_at, objects_at}
use Rattle.text_lines.specs.Grammar.{Head}
use Rattle.text_lines.specs.declared.limits.TheConstants.{LONGEST_LINE}
use Rattle.text_lines.specs.declared.line.Head.{Head as HeadRead}
use Rattle.image_text.specs.declared.fault.TextFault.{TextFault}
use Rattle.image_text.specs.declared.fault.TextFault.TheVariants.{Bad, Read, Disk, Memory}
use Rattle.image_text.specs.declared.lines.Line.{Line}
use Rattle.image_text.specs.declared.lines.Line.TheVariants.{Whole, End, Broken}

-- ---- what comes next

abbrev pub is_newline : ℕ → Bool
is_newline b = b == 10

-- what newlines (10) end, and what stands behind the last
abbrev pub lines_of : List ℕ → List (List ℕ)
lines_of text = slice_split is_newline text

-- of so many bytes so many stand before the first newline, and more bytes may decide what comes next
abbrev pub is_open : ℕ → ℕ → Bool → Bool
is_open count len ended = len == count && (nat_le len LONGEST_LINE && not ended)

-- what comes next, where they decide it
abbrev pub line_in : ℕ → ℕ → Line
line_in count len = if nat_lt LONGEST_LINE len then Broken else (if nat_lt len count then Whole len else (if len == 0 then End else Broken))

-- no text goes on like this: the next line is too long, or no newline is behind it
pub record IsNoLine (text : List ℕ) : Type 0 where
  pub first : lines_at (lines_of text) ≡ broken 0 1
  pub other : (number last next : ℕ) → objects_at number last next (lines_of text) ≡ broken 0 number

-- this comes next of a text that begins with these bytes, and has others behind them
abbrev pub Comes : List ℕ → List ℕ → Line → Type 0
Comes bytes behind (Whole len) = lines_of (bytes ++ behind) ≡ take len bytes ∷ lines_of (drop (len + 1) bytes ++ behind)
Comes bytes behind End = (bytes ≡ []) × (behind ≡ [])
Comes bytes behind Broken = IsNoLine (bytes ++ behind)

-- a line is one of these bytes, with its newline, and not too long
abbrev pub IsWithin : List ℕ → Line → Type 0
IsWithin bytes (Whole len) = (len < length bytes) × (len ≤ LONGEST_LINE)
IsWithin bytes End = Unit {0}
IsWithin bytes Broken = Unit {0}

-- ---- what it states

abbrev pub head_read : HeadRead → Head
head_read h = record { next = h.next; state = h.state }

-- the rules that are judged of one line
abbrev pub head_kept : Head → Result Head Break
head_kept head = do
  next ← keeping 3 1 (is_next head.next)
  state ← keeping 13 1 (keeps_state head)
  Ok head

abbrev pub object_kept : ℕ → ℕ → ℕ → Rec → Result Rec Break
object_kept number last next object = do
  count ← keeping 3 number (keeps_count number)
  order ← keeping 4 number (keeps_order last next object.name)
  size ← keeping 7 number (keeps_size object.body)
  Ok object

-- a refusal is where this reading breaks, or there was no memory
abbrev pub IsBreak : {X : Type 0} → Result X Break → TextFault → Type 0
IsBreak read (Bad line rule) = read ≡ Err (break rule line)
IsBreak read (Read count) = ⊥
IsBreak read (Disk f) = ⊥
IsBreak read Memory = Unit {0}
