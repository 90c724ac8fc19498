-- What calls found, as the rules of the model say it, and rows that are read.
use Rattle.std.specs.Prelude.{◌==◌, ◌+◌, ℕ, Bool, false, nat_le, ◌<◌, ◌≤◌, ◌*◌, length, List, [], ◌∷◌, take, drop, Option, Some, None, unwrap_or, Result, Ok, Err}
use Rattle.long_names.specs.declared.limits.TheConstants.{SMALL_INTEGERS}
use Rattle.long_names.specs.declared.value.Value.{Value}
use Rattle.long_names.specs.declared.object.Kind.{Kind}
use Rattle.long_names.specs.declared.object.Kind.TheVariants as kind
use Rattle.long_names.specs.Objects.{text_of, words_of}
use Rattle.long_names.specs.State.{part_at}
use Rattle.object_memory.specs.Told.{Told}
use Rattle.object_memory.specs.Shape.{HasPartAt, Looks}
use Rattle.object_memory.specs.Contract.{IsLater}
use Rattle.blue_model.specs.declared.cause.Cause.TheVariants.{Shape}
use Rattle.blue_model.specs.declared.cpu.Cpu.{Cpu}
use Rattle.blue_model.specs.Machine.{part}
use Rattle.blue_model.specs.BitBlt.{words_in}
use Rattle.blue_model.specs.Forms.{row_words}
use Rattle.contexts.specs.Serves.{Serves, SaidNothing}
use Rattle.devices.specs.declared.fault.PictureFault.{PictureFault}
use Rattle.devices.specs.declared.fault.PictureFault.TheVariants as fault
use Rattle.blue_model.specs.Forms as model
use Rattle.contexts.specs.declared.stop.Stop.{Stop}
use Rattle.blue_model.specs.declared.event.Line.{Line}

-- the bytes of the object of bytes that a register names
abbrev pub text_in : Told → ℕ → List ℕ
text_in t r = unwrap_or (part_at t.heap (t.regs r) text_of) []

-- an object of this kind and length has a tick
abbrev pub found_tick : Option (Kind × ℕ) → Bool
found_tick (Some (kind.Pointers, n)) = false
found_tick (Some (kind.Words, n)) = false
found_tick (Some (kind.Bytes, n)) = nat_le 4 n
found_tick (Some (kind.Method, n)) = false
found_tick None = false

-- the first line comes at this count
abbrev pub is_first : ℕ → List Line → Bool
is_first count [] = false
is_first count (line ∷ lines) = line.count == count

-- the line at a place is there, and comes at this count
abbrev pub due_at : List Line → ℕ → ℕ → Bool
due_at events place count = is_first count (drop place events)

-- ---- forms

-- a form of so many columns and rows, with these bits
abbrev pub form_in : Option (ℕ × ℕ) → Value → Option model.Form
form_in None bits = None
form_in (Some e) bits = Some (record { bits = bits; width = e.0; height = e.1 })

abbrev pub form_found : Result (Option (ℕ × ℕ)) Stop → Value → Result (Option model.Form) Stop
form_found (Ok e) bits = Ok (form_in e bits)
form_found (Err stop) bits = Err stop

-- columns and rows that a SmallInteger says
abbrev pub IsSmall : ℕ × ℕ → Type 0
IsSmall e = (e.0 < SMALL_INTEGERS) × (e.1 < SMALL_INTEGERS)

-- the words in a register have all rows
abbrev pub HasRows : Told → ℕ → ℕ × ℕ → Type 0
HasRows t r e = HasPartAt t r words_of (λ words. model.row_words e.0 * e.1 ≤ length words)

-- ---- rows

-- the words of the object of words that a register names
abbrev pub words_told : Told → ℕ → List ℕ
words_told t r = unwrap_or (part_at t.heap (t.regs r) words_of) []

-- the words of a row
abbrev pub row_at : ℕ → List ℕ → ℕ → List ℕ
row_at width words y = take (row_words width) (drop (row_words width * y) words)

-- the words in R13 have this row
abbrev pub HasWords : Told → ℕ → ℕ → Type 0
HasWords t width y = HasPartAt t 13 words_of (λ words. row_words width * y + row_words width ≤ length words)

-- the bits that a row was taken of
abbrev pub bits_found : Result ℕ Stop → List ℕ → Result (List ℕ) Stop
bits_found (Ok n) words = Ok words
bits_found (Err e) words = Err e

-- a row was read, or the stop is that of a look at the bits
abbrev pub ReadsRow : Told → Told → Result (Unit {0}) PictureFault → Type 0
ReadsRow old new (Ok u) = Looks [] old new
ReadsRow old new (Err (fault.Stop stop)) = (cpu : Cpu) → Serves old cpu new cpu (part Shape words_in (old.regs 13)) (Err stop)
ReadsRow old new (Err fault.Memory) = IsLater old new × SaidNothing old new
