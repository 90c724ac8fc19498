-- The words of a command. Those of a run are `run`, the files of the image and of the events, the work file, the files of the saved image and
-- of the picture, the words and the entries of the core, for how many objects there is room, and the number of bytecodes. Those of a making
-- are `make`, the number of an image, and the file that it is written to. Those of a listing are `list`, and of an assembling `asm`: the file
-- that is read, the work file, and the file that is written. Those of a trace are `trace`, the files of the image and of the events, the work
-- file, the file of the lines, and the numbers of a run.
use Rattle.std.specs.Prelude.{◌≡◌, ◌≢◌, ℕ, ◌+◌, ◌≤◌, decimal, Bool, true, false, List, [], ◌∷◌, ◌++◌, map, codes, Option, Some, None, Result, Ok, Err, if◌then◌else◌, ◌&&◌, nat_lt, nat_le, slice_index_or, string_bytes, String}
use Rattle.std.specs.Char.{is_ascii_digit}
use Rattle.std.specs.Str.{bytes_eq, all_ascii_digits}
use Rattle.std.specs.Str.Parse.{digits_value}
use Rattle.loom_gen.specs.declared.generator.TheConstants.{LAST_NUMBER}
use Rattle.loom_words.specs.declared.words.TheConstants.{LEAST_CORE, MOST_CORE, LEAST_ENTRIES, MOST_ENTRIES, LEAST_ROOM, MOST_ROOM, MOST_STEPS}

-- the words as bytes
abbrev pub texts_of : {Z : Type 0} → List (String Z) → List (List ℕ)
texts_of words = map string_bytes words

-- decimal digits with no sign, and no zero in front of others
abbrev pub is_plain_number : List ℕ → Bool
is_plain_number [] = false
is_plain_number (digit ∷ []) = is_ascii_digit digit
is_plain_number (digit ∷ digits) = nat_lt 48 digit && all_ascii_digits (digit ∷ digits)

-- such a number from the least to the most
abbrev pub is_number : ℕ → ℕ → List ℕ → Bool
is_number least most word = is_plain_number word && (nat_le least (digits_value 10 word) && nat_le (digits_value 10 word) most)

-- ---- the rows of words

-- Whether a word may stand at its place, behind these that stand before it.
abbrev pub Check : Type 0
Check = List (List ℕ) → List ℕ → Bool

abbrev pub anything : Check
anything earlier word = true

abbrev pub is_run : Check
is_run earlier word = bytes_eq word (codes "run")

abbrev pub is_make : Check
is_make earlier word = bytes_eq word (codes "make")

abbrev pub is_list : Check
is_list earlier word = bytes_eq word (codes "list")

abbrev pub is_asm : Check
is_asm earlier word = bytes_eq word (codes "asm")

abbrev pub is_trace : Check
is_trace earlier word = bytes_eq word (codes "trace")

-- the word is none of those at these positions, counted from 0
abbrev pub is_none_at : List ℕ → Check
is_none_at [] earlier word = true
is_none_at (i ∷ is) earlier word = if bytes_eq word (slice_index_or earlier i []) then false else is_none_at is earlier word

abbrev pub is_from : ℕ → ℕ → Check
is_from least most earlier word = is_number least most word

-- `IMAGE EVENTS WORK SAVED DISPLAY`, behind the word of the command. The work file is none of the other files, and the picture goes to none that
-- comes before it; the saved image may go to the file of the image.
abbrev pub file_checks : List Check
file_checks = anything ∷ anything ∷ is_none_at (1 ∷ 2 ∷ []) ∷ is_none_at (3 ∷ []) ∷ is_none_at (1 ∷ 2 ∷ 3 ∷ 4 ∷ []) ∷ []

-- `CORE ENTRIES ROOM STEPS`
abbrev pub number_checks : List Check
number_checks = is_from LEAST_CORE MOST_CORE ∷ is_from LEAST_ENTRIES MOST_ENTRIES ∷ is_from LEAST_ROOM MOST_ROOM ∷ is_from 0 MOST_STEPS ∷ []

-- `run IMAGE EVENTS WORK SAVED DISPLAY CORE ENTRIES ROOM STEPS`
abbrev pub run_checks : List Check
run_checks = file_checks ++ number_checks

abbrev pub run_row : List Check
run_row = is_run ∷ run_checks

-- `make NUMBER FILE`
abbrev pub make_row : List Check
make_row = is_make ∷ is_from 0 LAST_NUMBER ∷ anything ∷ []

-- `SOURCE WORK TARGET`, behind the word of the command. The work file is none of the others; what is written may go to the file that was read.
abbrev pub path_checks : List Check
path_checks = anything ∷ is_none_at (1 ∷ []) ∷ is_none_at (2 ∷ []) ∷ []

-- `list IMAGE WORK TEXT`
abbrev pub list_row : List Check
list_row = is_list ∷ path_checks

-- `asm TEXT WORK IMAGE`
abbrev pub asm_row : List Check
asm_row = is_asm ∷ path_checks

-- `trace IMAGE EVENTS WORK TEXT CORE ENTRIES ROOM STEPS`. The work file is none of the other files, and the lines go to none that is read.
abbrev pub trace_checks : List Check
trace_checks = anything ∷ anything ∷ is_none_at (1 ∷ 2 ∷ []) ∷ is_none_at (1 ∷ 2 ∷ 3 ∷ []) ∷ number_checks

abbrev pub trace_row : List Check
trace_row = is_trace ∷ trace_checks

-- the position, counted from this one on, of the first bad, missing or extra word; none where the words are right
abbrev pub bad_from : ℕ → List Check → List (List ℕ) → List (List ℕ) → Option ℕ
bad_from at [] all [] = None
bad_from at [] all (extra ∷ words) = Some at
bad_from at (check ∷ checks) all [] = Some at
bad_from at (check ∷ checks) all (word ∷ words) = if check all word then bad_from (at + 1) checks all words else Some at

-- counted from 1, against this row
abbrev pub bad_in : List Check → List (List ℕ) → Option ℕ
bad_in row words = bad_from 1 row words words

-- What words ask for.
pub data Verb : Type 0 where
  ToRun : Verb
  ToMake : Verb
  ToList : Verb
  ToAssemble : Verb
  ToTrace : Verb

-- the first word is this one
abbrev pub begins_with : List ℕ → List (List ℕ) → Bool
begins_with text [] = false
begins_with text (word ∷ words) = bytes_eq word text

-- The first word decides which row the others are compared with: that of a run, unless it is the word of another command.
abbrev pub verb_of : List (List ℕ) → Verb
verb_of words = if begins_with (codes "make") words then ToMake else (if begins_with (codes "list") words then ToList else (if begins_with (codes "asm") words then ToAssemble else (if begins_with (codes "trace") words then ToTrace else ToRun)))

abbrev pub row_asked : Verb → List Check
row_asked ToRun = run_row
row_asked ToMake = make_row
row_asked ToList = list_row
row_asked ToAssemble = asm_row
row_asked ToTrace = trace_row

abbrev pub bad_word : List (List ℕ) → Option ℕ
bad_word words = bad_in (row_asked (verb_of words)) words

-- ---- what the words ask for

pub record Row : Type 0 where
  pub image : List ℕ
  pub events : List ℕ
  pub work : List ℕ
  pub saved : List ℕ
  pub display : List ℕ
  pub core : ℕ
  pub entries : ℕ
  pub room : ℕ
  pub steps : ℕ

abbrev pub word_at : List (List ℕ) → ℕ → List ℕ
word_at words i = slice_index_or words i []

abbrev pub number_at : List (List ℕ) → ℕ → ℕ
number_at words i = digits_value 10 (word_at words i)

abbrev pub row_of : List (List ℕ) → Row
row_of words = record {
  image = word_at words 1;
  events = word_at words 2;
  work = word_at words 3;
  saved = word_at words 4;
  display = word_at words 5;
  core = number_at words 6;
  entries = number_at words 7;
  room = number_at words 8;
  steps = number_at words 9;
}

-- a trace has no picture, and its lines go to the file `saved`
abbrev pub trace_row_of : List (List ℕ) → Row
trace_row_of words = record {
  image = word_at words 1;
  events = word_at words 2;
  work = word_at words 3;
  saved = word_at words 4;
  display = [];
  core = number_at words 5;
  entries = number_at words 6;
  room = number_at words 7;
  steps = number_at words 8;
}

-- the number of an image, and the file that it is written to
pub record MakeRow : Type 0 where
  pub number : ℕ
  pub file : List ℕ

abbrev pub make_of : List (List ℕ) → MakeRow
make_of words = record { number = number_at words 1; file = word_at words 2 }

-- the file that is read, the work file, and the file that is written
pub record Paths : Type 0 where
  pub source : List ℕ
  pub work : List ℕ
  pub target : List ℕ

abbrev pub paths_of : List (List ℕ) → Paths
paths_of words = record { source = word_at words 1; work = word_at words 2; target = word_at words 3 }

-- these are the words of a run
pub record IsRow (words : List (List ℕ)) (row : Row) : Type 0 where
  pub words_are : words ≡ codes "run" ∷ row.image ∷ row.events ∷ row.work ∷ row.saved ∷ row.display
      ∷ decimal row.core ∷ decimal row.entries ∷ decimal row.room ∷ decimal row.steps ∷ []
  pub core : (LEAST_CORE ≤ row.core) × (row.core ≤ MOST_CORE)
  pub entries : (LEAST_ENTRIES ≤ row.entries) × (row.entries ≤ MOST_ENTRIES)
  pub room : (LEAST_ROOM ≤ row.room) × (row.room ≤ MOST_ROOM)
  pub steps : row.steps ≤ MOST_STEPS
  pub work_apart : (row.work ≢ row.image) × (row.work ≢ row.events) × (row.work ≢ row.saved) × (row.work ≢ row.display)
  pub display_apart : (row.display ≢ row.image) × (row.display ≢ row.events) × (row.display ≢ row.saved)

-- these are the words of a trace
pub record IsTrace (words : List (List ℕ)) (row : Row) : Type 0 where
  pub words_are : words ≡ codes "trace" ∷ row.image ∷ row.events ∷ row.work ∷ row.saved ∷ decimal row.core ∷ decimal row.entries ∷ decimal row.room ∷ decimal row.steps ∷ []
  pub undrawn : row.display ≡ []
  pub core : (LEAST_CORE ≤ row.core) × (row.core ≤ MOST_CORE)
  pub entries : (LEAST_ENTRIES ≤ row.entries) × (row.entries ≤ MOST_ENTRIES)
  pub room : (LEAST_ROOM ≤ row.room) × (row.room ≤ MOST_ROOM)
  pub steps : row.steps ≤ MOST_STEPS
  pub work_apart : (row.work ≢ row.image) × (row.work ≢ row.events) × (row.work ≢ row.saved)
  pub saved_apart : (row.saved ≢ row.image) × (row.saved ≢ row.events)

-- these are the words of a making
pub record IsMake (words : List (List ℕ)) (row : MakeRow) : Type 0 where
  pub words_are : words ≡ codes "make" ∷ decimal row.number ∷ row.file ∷ []
  pub number : row.number ≤ LAST_NUMBER

-- these are this word and such files
pub record ArePaths (command : List ℕ) (words : List (List ℕ)) (row : Paths) : Type 0 where
  pub words_are : words ≡ command ∷ row.source ∷ row.work ∷ row.target ∷ []
  pub apart : (row.work ≢ row.source) × (row.work ≢ row.target)

-- the position that a refusal names
abbrev pub error_of : {T : Type 0} → Result T ℕ → Option ℕ
error_of (Ok command) = None
error_of (Err word) = Some word
