-- The piece that a text begins with: its kind and how many characters it has, or why no rule takes it. The text has a first character.
use Rattle.std.specs.Prelude.{ℕ, ◌+◌, ◌<◌, ◌≤◌, ◌==◌, ◌&&◌, nat_le, nat_lt, not, Bool, false, List, length, drop, slice_index, Option, Some, None, Result, Ok, Err, if◌then◌else◌}
use Rattle.st80_syntax.specs.declared.bytes.Class.{Class}
use Rattle.st80_syntax.specs.declared.bytes.Class.TheVariants.{Blank, Remark, Word, Digit, Figure, Path}
use Rattle.st80_syntax.specs.declared.bytes.Start.{Start}
use Rattle.st80_syntax.specs.declared.bytes.Start.TheVariants as start
use Rattle.st80_syntax.specs.declared.token.Kind.{Kind}
use Rattle.st80_syntax.specs.declared.token.Kind.TheVariants as kind
use Rattle.st80_syntax.specs.declared.token.Fault.{Fault}
use Rattle.st80_syntax.specs.declared.token.Fault.TheVariants as fault
use Rattle.st80_syntax.specs.Bytes.{is_digit, is_special, quoted_by, run_of, start_of}

abbrev pub Piece : Type 0
Piece = Kind × ℕ

-- a piece has a character, and is in its text
abbrev pub IsWithin : List ℕ → ℕ → Type 0
IsWithin text len = (0 < len) × (len ≤ length text)

abbrev pub Fits : List ℕ → Result Piece Fault → Type 0
Fits text (Ok piece) = IsWithin text piece.1
Fits text (Err f) = Unit {0}

-- how many characters a text begins with, the first and those of a class behind it
unfoldable pub head_run : Class → List ℕ → ℕ
head_run c text = 1 + run_of c (drop 1 text)

-- ---- words

-- a colon (58) stands there, and no = (61) behind it
abbrev pub is_keyword_end : List ℕ → ℕ → Bool
is_keyword_end text at = slice_index text at == 58 && not (slice_index text (at + 1) == 61)

unfoldable pub word : List ℕ → Piece
word text = if is_keyword_end text (head_run Word text) then (kind.Keyword, head_run Word text + 1) else (kind.Name, head_run Word text)

-- ---- numbers

unfoldable pub has_digit : List ℕ → ℕ → Bool
has_digit text at = is_digit (slice_index text at)

-- behind so many digits and an r
unfoldable pub radix : List ℕ → ℕ → Result Piece Fault
radix text len = if run_of Figure (drop (len + 1) text) == 0 then Err fault.Radix else Ok (kind.Integer, len + 1 + run_of Figure (drop (len + 1) text))

-- behind so many digits: r (114), e (101), a point (46) and a digit, or anything else
abbrev pub number_behind : List ℕ → ℕ → Result Piece Fault
number_behind text len =
    if slice_index text len == 114 then radix text len else (if slice_index text len == 101 then Err fault.Float else (
    if slice_index text len == 46 && has_digit text (len + 1) then Err fault.Float else Ok (kind.Integer, len)))

unfoldable pub number : List ℕ → Result Piece Fault
number text = number_behind text (head_run Digit text)

-- ---- selectors and symbols

-- one or two special characters, of which the second is no minus (45)
unfoldable pub selector_len : List ℕ → ℕ → ℕ
selector_len text at =
    if nat_lt (at + 1) (length text) then (if not (slice_index text (at + 1) == 45) && is_special (slice_index text (at + 1)) then 2 else 1) else 1

-- a minus by itself is a kind of its own
unfoldable pub selector : List ℕ → Piece
selector text = if selector_len text 0 == 1 && slice_index text 0 == 45 then (kind.Minus, selector_len text 0) else (kind.Binary, selector_len text 0)

abbrev pub symbol_by : List ℕ → Start → Result Piece Fault
symbol_by text start.Letter = Ok (kind.Symbol, 1 + run_of Path (drop 1 text))
symbol_by text start.Special = Ok (kind.Symbol, 1 + selector_len text 1)
symbol_by text (start.Single kind.Open) = Ok (kind.OpenArray, 2)
symbol_by text (start.Single kind.Bar) = Ok (kind.Symbol, 2)
symbol_by text _ = Err fault.Symbol

unfoldable pub symbol : List ℕ → Result Piece Fault
symbol text = if nat_lt 1 (length text) then symbol_by text (start_of (slice_index text 1)) else Err fault.Symbol

-- ---- strings, remarks, characters, colons

abbrev pub string_by : Option ℕ → Result Piece Fault
string_by (Some len) = Ok (kind.Text, 1 + len)
string_by None = Err fault.Text

unfoldable pub string : List ℕ → Result Piece Fault
string text = string_by (quoted_by false (drop 1 text))

unfoldable pub remark : List ℕ → Result Piece Fault
remark text = if nat_lt (run_of Remark (drop 1 text) + 1) (length text) then Ok (kind.Space, run_of Remark (drop 1 text) + 2) else Err fault.Remark

unfoldable pub character : List ℕ → Result Piece Fault
character text = if nat_lt 1 (length text) then Ok (kind.Character, 2) else Err fault.Character

unfoldable pub colon : List ℕ → Piece
colon text = if slice_index text 1 == 61 then (kind.Assign, 2) else (kind.Colon, 1)

-- ---- all of them

abbrev pub piece_by : List ℕ → Start → Result Piece Fault
piece_by text start.Blank = Ok (kind.Space, head_run Blank text)
piece_by text start.Remark = remark text
piece_by text start.Letter = Ok (word text)
piece_by text start.Digit = number text
piece_by text start.Special = Ok (selector text)
piece_by text start.Dollar = character text
piece_by text start.Quote = string text
piece_by text start.Hash = symbol text
piece_by text start.Colon = Ok (colon text)
piece_by text (start.Single k) = Ok (k, 1)
piece_by text start.Foreign = Err fault.Foreign

unfoldable pub piece : List ℕ → Result Piece Fault
piece text = piece_by text (start_of (slice_index text 0))
