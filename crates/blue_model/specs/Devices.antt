-- Input, the timer, the display and the transcript (chapter 29, input/output primitives). The ticks of the clock are bytecodes in this
-- profile, and the transcript is this profile's own.
use Rattle.std.specs.Prelude.{ℕ, pos, ◌+◌, ◌*◌, ◌/◌, ◌%◌, ◌==◌, ◌≤◌, Bool, true, false, nat_lt, nat_le, min, List, [], ◌∷◌, drop, filter, slice_get, Option, Some, None, if◌then◌else◌}
use Rattle.std.specs.Option.{option_and_then}
use Rattle.long_names.specs.declared.value.Value.{Value}
use Rattle.long_names.specs.declared.value.Value.TheVariants.{Int}
use Rattle.long_names.specs.declared.object.Object.{Object}
use Rattle.long_names.specs.Names.{STRING}
use Rattle.long_names.specs.Objects.{is_ref, text_of}
use Rattle.long_names.specs.State.{INPUT_SEMAPHORE, TIMER_SEMAPHORE, DISPLAY}
use Rattle.blue_model.specs.declared.answer.Answer.{Answer}
use Rattle.blue_model.specs.declared.answer.Answer.TheVariants.{Done, Keep}
use Rattle.blue_model.specs.declared.cause.Cause.TheVariants.{Shape}
use Rattle.blue_model.specs.declared.cpu.Cpu.{Cpu}
use Rattle.blue_model.specs.declared.event.Event.{Event}
use Rattle.blue_model.specs.declared.event.Event.TheVariants.{Word, Purge, Compact}
use Rattle.blue_model.specs.declared.event.Line.{Line}
use Rattle.blue_model.specs.declared.indexes.TheConstants.{SEMAPHORE_SIZE}
use Rattle.blue_model.specs.declared.limits.TheConstants.{GREATEST_COUNT}
use Rattle.blue_model.specs.declared.primitives.TheConstants.{PRIMITIVE_INPUT_SEMAPHORE, PRIMITIVE_INPUT_WORD, PRIMITIVE_SNAPSHOT, PRIMITIVE_TIME_WORDS_INTO, PRIMITIVE_SIGNAL_AT_TICK, PRIMITIVE_BE_DISPLAY, PRIMITIVE_SAY_STRING}
use Rattle.blue_model.specs.Machine.{Rule, ◌>>=◌, ◌>>◌, done, given, pick, register, put_register, numbers, set_numbers, part, class_of, store_byte, say}
use Rattle.blue_model.specs.Parts.{is_nil, size}
use Rattle.blue_model.specs.Contexts.{stack, pop}
use Rattle.blue_model.specs.Trials.{where_some, where_true, ◌>>?◌, peek, answer, Primitive}
use Rattle.blue_model.specs.Elements.{number_object}
use Rattle.blue_model.specs.Storage.{row}
use Rattle.blue_model.specs.Processes.{signal}
use Rattle.blue_model.specs.Forms.{Form, form_of, row_bytes, picture_text}
use Rattle.blue_model.specs.BitBlt.{words_in}

-- ---- semaphores that events and the timer signal

-- Whether a value is a semaphore, where it is one or nil, which stands for none
unfoldable pub semaphore_or_nil : Value → Rule (Option Bool)
semaphore_or_nil v = pick (is_nil v) (done (Some false)) (do
  n ← peek (size SEMAPHORE_SIZE) v
  done (option_and_then (λ fields. Some true) n))

-- the register holds the semaphore, and the number 0 where there is none
unfoldable pub put_semaphore : ℕ → Value → Bool → Rule (Unit {0})
put_semaphore r v there = put_register r (if there then v else Int (pos 0))

-- ---- input

-- a count of lines or words, which stands still at the greatest number
abbrev pub raised : ℕ → ℕ
raised n = min (n + 1) GREATEST_COUNT

-- the words of an event list, in order
abbrev pub words_before : Event → List ℕ → List ℕ
words_before (Word word) words = word ∷ words
words_before Purge words = words
words_before Compact words = words

abbrev pub input_words : List Line → List ℕ
input_words [] = []
input_words (line ∷ lines) = words_before line.event (input_words lines)

-- the first word of the queue: of those that joined it, the first that wasn't taken out
abbrev pub next_word : List Line → Cpu → Option ℕ
next_word events cpu = if nat_lt cpu.words_out cpu.words_in then slice_get (input_words events) cpu.words_out else None

-- primitiveInputSemaphore
unfoldable pub set_input : Value → Bool → Rule Answer
set_input semaphore there = do
  put_semaphore INPUT_SEMAPHORE semaphore there
  cpu ← numbers
  set_numbers (record cpu { input = there })
  pop 1
  done Done

unfoldable pub input_semaphore : Rule Answer
input_semaphore = do
  semaphore ← stack 0
  semaphore_or_nil semaphore >>? λ there. set_input semaphore there

-- primitiveInputWord: the first word of the queue is taken out
unfoldable pub take_word : ℕ → Rule Answer
take_word word = do
  v ← number_object word
  cpu ← numbers
  set_numbers (record cpu { words_out = raised cpu.words_out })
  answer 0 v

unfoldable pub input_word : List Line → Rule Answer
input_word events = do
  cpu ← numbers
  where_some (next_word events cpu) take_word

-- ---- the clock

-- the bytecodes of earlier runs, and those of this one, which stand still at the greatest number
abbrev pub clock : Cpu → ℕ
clock cpu = min (cpu.base + cpu.ran) GREATEST_COUNT

abbrev pub four_bytes : List ℕ → Option ℕ
four_bytes (a ∷ b ∷ c ∷ d ∷ rest) = Some (a + 256 * b + 65536 * c + 16777216 * d)
four_bytes _ = None

-- the number that the first four bytes of an object of bytes are, lowest first
unfoldable pub tick_of : Object → Option ℕ
tick_of o = option_and_then four_bytes (text_of o.body)

-- the first four bytes of an object
unfoldable pub put_tick : Value → ℕ → Rule (Unit {0})
put_tick v tick = do
  store_byte v 0 (tick % 256)
  store_byte v 1 (tick / 256 % 256)
  store_byte v 2 (tick / 65536 % 256)
  store_byte v 3 (tick / 16777216 % 256)

-- primitiveTickWordsInto: the clock before this bytecode
unfoldable pub tick_words : Rule Answer
tick_words = do
  bytes ← stack 0
  peek tick_of bytes >>? λ old. (do
    cpu ← numbers
    put_tick bytes (clock cpu)
    pop 1
    done Done)

abbrev pub timer_at : Bool → ℕ → Option ℕ
timer_at there tick = if there then Some tick else None

unfoldable pub set_timer : Value → Bool → ℕ → Rule Answer
set_timer semaphore there tick = do
  put_semaphore TIMER_SEMAPHORE semaphore there
  cpu ← numbers
  set_numbers (record cpu { timer = timer_at there tick })
  pop 2
  done Done

-- primitiveSignalAtTick: nil clears the timer, whatever the tick is
unfoldable pub signal_at_tick : Rule Answer
signal_at_tick = do
  semaphore ← stack 1
  bytes ← stack 0
  semaphore_or_nil semaphore >>? λ there. peek tick_of bytes >>? λ tick. set_timer semaphore there tick

-- ---- checkpoints

-- The machine is to be kept as it is, where a checkpoint may be made (primitiveSnapshot; what it is kept in is this profile's own)
unfoldable pub keep_machine : Rule Answer
keep_machine = do
  stack 0
  cpu ← numbers
  where_true cpu.vault (done Keep)

-- ---- display and transcript

-- primitiveBeDisplay
unfoldable pub show_form : Value → Rule Answer
show_form form = do
  put_register DISPLAY form
  cpu ← numbers
  set_numbers (record cpu { display = true })
  done Done

unfoldable pub be_display : Rule Answer
be_display = do
  form ← stack 0
  form_of form >>? λ shape. show_form form

-- an object of bytes whose class is String
unfoldable pub string_text : Value → Rule (Option (List ℕ))
string_text v = do
  class ← class_of v
  pick (is_ref STRING class) (peek (λ o. text_of o.body) v) (done None)

-- the bytes of a String join the transcript, last of all
unfoldable pub say_string : Rule Answer
say_string = do
  string ← stack 0
  string_text string >>? λ bytes. (do
    pop 1
    say string
    done Done)

unfoldable pub device_primitives : List Line → List Primitive
device_primitives events =
    row PRIMITIVE_INPUT_SEMAPHORE 1 input_semaphore
    ∷ row PRIMITIVE_INPUT_WORD 0 (input_word events)
    ∷ row PRIMITIVE_SNAPSHOT 0 keep_machine
    ∷ row PRIMITIVE_TIME_WORDS_INTO 1 tick_words
    ∷ row PRIMITIVE_SIGNAL_AT_TICK 2 signal_at_tick
    ∷ row PRIMITIVE_BE_DISPLAY 0 be_display
    ∷ row PRIMITIVE_SAY_STRING 1 say_string
    ∷ []

-- ---- events and the timer, before a bytecode

-- a word joins the queue
unfoldable pub join_queue : Rule (Unit {0})
join_queue = do
  cpu ← numbers
  set_numbers (record cpu { words_in = raised cpu.words_in })
  semaphore ← register INPUT_SEMAPHORE
  pick cpu.input (signal semaphore) (done tt)

-- what a line brings. That a memory purges or compacts itself changes nothing
abbrev pub take_event : Event → Rule (Unit {0})
take_event (Word word) = join_queue
take_event Purge = done tt
take_event Compact = done tt

unfoldable pub take_line : Line → Rule (Unit {0})
take_line line = do
  cpu ← numbers
  set_numbers (record cpu { line = raised cpu.line })
  take_event line.event

-- the lines from the first on, as long as they are due at this count
abbrev pub take_lines : ℕ → List Line → Rule (Unit {0})
take_lines count [] = done tt
take_lines count (line ∷ lines) = pick (line.count == count) (take_line line >> take_lines count lines) (done tt)

-- the lines of a count, and all of a list in order; the counts of an event file never fall, and then these are the lines that are taken
abbrev pub lines_at : ℕ → List Line → List Line
lines_at count lines = filter (λ (line : Line). line.count == count) lines

abbrev pub take_all : List Line → Rule (Unit {0})
take_all [] = done tt
take_all (line ∷ lines) = take_line line >> take_all lines

abbrev pub AreRising : ℕ → List Line → Type 0
AreRising count [] = Unit {0}
AreRising count (line ∷ lines) = (count ≤ line.count) × AreRising line.count lines

-- the lines that come at the number of bytecodes that were run
unfoldable pub events_due : List Line → Rule (Unit {0})
events_due events = do
  cpu ← numbers
  take_lines cpu.ran (drop cpu.line events)

abbrev pub is_reached : Option ℕ → ℕ → Bool
is_reached None now = false
is_reached (Some tick) now = nat_le tick now

-- the timer signals its semaphore, and is cleared
unfoldable pub fire : Rule (Unit {0})
fire = do
  semaphore ← register TIMER_SEMAPHORE
  signal semaphore
  put_register TIMER_SEMAPHORE (Int (pos 0))
  cpu ← numbers
  set_numbers (record cpu { timer = None })

unfoldable pub check_timer : Rule (Unit {0})
check_timer = do
  cpu ← numbers
  pick (is_reached cpu.timer (clock cpu)) fire (done tt)

-- lines and then the timer
unfoldable pub due : List Line → Rule (Unit {0})
due events = do
  events_due events
  check_timer

-- ---- the picture

-- the form that is the display, where it still has a form's shape
unfoldable pub display_form : Rule (Option Form)
display_form = do
  cpu ← numbers
  form ← register DISPLAY
  pick cpu.display (form_of form) (done None)

-- the bytes of a row of the display
unfoldable pub display_row : ℕ → Rule (List ℕ)
display_row y = do
  shape ← display_form
  form ← given Shape shape
  words ← part Shape words_in form.bits
  done (row_bytes form.width words y)

abbrev pub picture_of : Option Form → Rule (List ℕ)
picture_of None = done []
picture_of (Some form) = part Shape words_in form.bits >>= λ words. done (picture_text form words)

-- the display as a file: nothing where no form is the display
unfoldable pub picture : Rule (List ℕ)
picture = do
  form ← display_form
  picture_of form
