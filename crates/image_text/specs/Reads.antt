-- What reading a text, line by line, does with a host and its disk.
use Rattle.std.specs.Prelude.{◌≡◌, ◌<◌, ◌≤◌, ℕ, ◌+◌, ◌*◌, nat_le, true, IsTrue, All, List, [], ◌∷◌, ◌++◌, length, take, drop, Option, Some, None, Result, Ok, Err}
use Rattle.long_names.specs.Counting.{Rose}
use Rattle.long_names.specs.Objects.{IsRecord}
use Rattle.long_names.specs.declared.object.Rec.{Rec}
use Rattle.loom_host.specs.declared.outside.Host.{Ghosts}
use Rattle.loom_host.specs.declared.outside.Role.TheVariants.{Image, Work}
use Rattle.object_record.specs.Buffer.{HasRecord, raw_of}
use Rattle.object_record.specs.Raw.{raw_record}
use Rattle.disk_objects.specs.declared.rest.DiskRest.{DiskRest}
use Rattle.disk_objects.specs.Disk.{disk_held}
use Rattle.image_format.specs.declared.fault.Break.{Break}
use Rattle.image_format.specs.declared.head.TheConstants.{FEWEST_OBJECTS, MOST_OBJECTS}
use Rattle.image_format.specs.Heads.{is_next}
use Rattle.image_format.specs.Rules.{Image as WholeImage, break, rec_in}
use Rattle.image_reader.specs.Inside.{AreListed}
use Rattle.image_reader.specs.Loaded.{IsStored, names_of}
use Rattle.image_reader.specs.Window.{Ahead, unused}
use Rattle.text_lines.specs.Breaks.{◌>>=◌, head_at, image_of, keeping, keeps_state, lines_at, object_at, objects_at}
use Rattle.text_lines.specs.Grammar.{Head}
use Rattle.text_lines.specs.declared.limits.TheConstants.{LONGEST_LINE}
use Rattle.text_lines.specs.declared.line.Head.{Head as HeadRead}
use Rattle.image_text.specs.declared.fault.TextFault.{TextFault}
use Rattle.image_text.specs.declared.fault.TextFault.TheVariants.{Bad, Read, Disk, Memory}
use Rattle.image_text.specs.declared.lines.Line.{Line}
use Rattle.image_text.specs.declared.lines.Line.TheVariants.{Whole, End, Broken}
use Rattle.image_text.specs.Lines.{IsBreak, head_read, lines_of}

-- ---- why it broke off

-- no bytes came
abbrev pub IsPieceFault : {H : Type 0} → Ghosts H → H → H → TextFault → Type 0
IsPieceFault host old new (Bad line rule) = ⊥
IsPieceFault host old new (Read count) = (count ≡ host.faults new Image) × Rose (host.faults old Image) (host.faults new Image)
IsPieceFault host old new (Disk f) = ⊥
IsPieceFault host old new Memory = Unit {0}

-- Bad is where this reading breaks
abbrev pub IsBad : {X : Type 0} → Result X Break → TextFault → Type 0
IsBad read (Bad line rule) = read ≡ Err (break rule line)
IsBad read (Read count) = Unit {0}
IsBad read (Disk f) = Unit {0}
IsBad read Memory = Unit {0}

-- ---- the first line

-- the first line was taken, of the bytes that it begins
pub record TakesHead (w v : Ahead) (line : Line) (head : HeadRead) : Type 0 where
  pub len : ℕ
  pub is : line ≡ Whole len
  pub short : len ≤ LONGEST_LINE
  pub read : head_at (take len w.bytes) ≡ Ok (head_read head)
  pub left : v.bytes ≡ drop (len + 1) w.bytes
  pub place : v.place ≡ w.place + (len + 1)

abbrev pub IsHeadRefused : List ℕ → Line → TextFault → Type 0
IsHeadRefused bytes (Whole len) f = IsBreak (head_at (take len bytes)) f
IsHeadRefused bytes End f = f ≡ Bad 1 0
IsHeadRefused bytes Broken f = f ≡ Bad 1 0

-- what a text is read as, by its first line and the lines behind it
abbrev pub after_head : Head → Result (List Rec) Break → Result WholeImage Break
after_head head objects = do
  recs ← objects
  enough ← keeping 3 1 (nat_le FEWEST_OBJECTS (length recs))
  Ok (image_of head recs)

-- the first line was read
pub record ReadsHead {H : Type 0} (host : Ghosts H) (old new : H) (w v : Ahead) (head : HeadRead) : Type 0 where
  pub next : is_next head.next ≡ true
  pub state : keeps_state (head_read head) ≡ true
  pub read : IsTrue (host.tells Image) → lines_at (lines_of (unused w (host.roles old Image))) ≡ after_head (head_read head) (objects_at 2 0 head.next (lines_of (unused v (host.roles new Image))))
  pub near : v.place ≤ w.place + (LONGEST_LINE + 1)

-- ---- the line of an object

-- the buffer has the record of the object of this line, and this is its name
pub record IsObject (line buffer : List ℕ) (number last next name : ℕ) : Type 0 where
  pub rec : Rec
  pub is : IsRecord rec
  pub named : name ≡ rec.name
  pub above : last < rec.name
  pub below : rec.name < next
  pub uncounted : rec.count ≡ 0
  pub few : number ≤ MOST_OBJECTS + 1
  pub read : object_at number last next line ≡ Ok rec
  pub has_record : HasRecord buffer
  pub raw_is : raw_of buffer ≡ raw_record rec

-- a line was taken, of the bytes that it begins
pub record TakesObject (w v : Ahead) (buffer : List ℕ) (number last next : ℕ) (line : Line) (name : ℕ) : Type 0 where
  pub len : ℕ
  pub is : line ≡ Whole len
  pub short : len ≤ LONGEST_LINE
  pub object : IsObject (take len w.bytes) buffer number last next name
  pub left : v.bytes ≡ drop (len + 1) w.bytes
  pub place : v.place ≡ w.place + (len + 1)

-- it has this name, or the end came
abbrev pub IsTaken : Ahead → Ahead → List ℕ → ℕ → ℕ → ℕ → Line → Option ℕ → Type 0
IsTaken w v buffer number last next line (Some name) = TakesObject w v buffer number last next line name
IsTaken w v buffer number last next line None = (line ≡ End) × (v.bytes ≡ w.bytes)

abbrev pub IsRefused : List ℕ → ℕ → ℕ → ℕ → Line → TextFault → Type 0
IsRefused bytes number last next (Whole len) f = IsBreak (object_at number last next (take len bytes)) f
IsRefused bytes number last next End f = ⊥
IsRefused bytes number last next Broken f = f ≡ Bad number 0

-- these records, and then what this reading gives
abbrev pub after_records : List Rec → Result (List Rec) Break → Result (List Rec) Break
after_records recs (Ok others) = Ok (recs ++ others)
after_records recs (Err b) = Err b

-- the next line was read and its object put to the disk; this is its name
pub record TakesLine {H : Type 0} (host : Ghosts H) (old new : H) (rest after : DiskRest) (w v : Ahead) (number last next name : ℕ) : Type 0 where
  pub rec : Rec
  pub is : IsRecord rec
  pub named : name ≡ rec.name
  pub above : last < rec.name
  pub below : rec.name < next
  pub uncounted : rec.count ≡ 0
  pub few : number ≤ MOST_OBJECTS + 1
  pub read : IsTrue (host.tells Image) → objects_at number last next (lines_of (unused w (host.roles old Image))) ≡ after_records (rec ∷ []) (objects_at (number + 1) rec.name next (lines_of (unused v (host.roles new Image))))
  pub near : v.place ≤ w.place + (LONGEST_LINE + 1)
  pub stored : IsTrue (host.tells Work) → (recs : List Rec) → rec_in recs rec.name ≡ None → IsStored host old rest recs → IsStored host new after (recs ++ rec ∷ [])
  pub held : disk_held after ≤ disk_held rest + 1

-- the text was at its end
pub record TakesEnd {H : Type 0} (host : Ghosts H) (old new : H) (rest after : DiskRest) (w : Ahead) : Type 0 where
  pub read : IsTrue (host.tells Image) → unused w (host.roles old Image) ≡ []
  pub end : IsTrue (host.tells Image) → (host.roles new Image).left ≡ []
  pub rest_is : after ≡ rest
  pub work : host.roles new Work ≡ host.roles old Work

abbrev pub TakesNext : {H : Type 0} → Ghosts H → H → H → DiskRest → DiskRest → Ahead → Ahead → ℕ → ℕ → ℕ → Option ℕ → Type 0
TakesNext host old new rest after w v number last next (Some name) = TakesLine host old new rest after w v number last next name
TakesNext host old new rest after w v number last next None = TakesEnd host old new rest after w

-- ---- the lines of objects

-- they were read to the end of the text, and their objects put to the disk; these are their names
pub record ReadsObjects {H : Type 0} (host : Ghosts H) (old new : H) (after : DiskRest) (w : Ahead) (next : ℕ) (names : List ℕ) : Type 0 where
  pub recs : List Rec
  pub last : ℕ
  pub names_are : names ≡ names_of recs
  pub few : length names ≤ MOST_OBJECTS
  pub listed : AreListed recs last next
  pub uncounted : All (λ (r : Rec). r.count ≡ 0) recs
  pub read : IsTrue (host.tells Image) → objects_at 2 0 next (lines_of (unused w (host.roles old Image))) ≡ Ok recs
  pub end : IsTrue (host.tells Image) → (host.roles new Image).left ≡ []
  pub held : disk_held after ≤ length names
  pub stored : IsTrue (host.tells Work) → IsStored host new after recs

-- the lines up to this number were read and their objects put, and these are their names
pub record IsReading {H : Type 0} (host : Ghosts H) (old new : H) (after : DiskRest) (w v : Ahead) (number last next : ℕ) (names : List ℕ) : Type 0 where
  pub recs : List Rec
  pub names_are : names ≡ names_of recs
  pub many : number ≡ length names + 2
  pub few : length names ≤ MOST_OBJECTS
  pub listed : AreListed recs last next
  pub uncounted : All (λ (r : Rec). r.count ≡ 0) recs
  pub read : IsTrue (host.tells Image) → objects_at 2 0 next (lines_of (unused w (host.roles old Image))) ≡ after_records recs (objects_at number last next (lines_of (unused v (host.roles new Image))))
  pub near : v.place ≤ (LONGEST_LINE + 1) * (length names + 1)
  pub held : disk_held after ≤ length names
  pub stored : IsTrue (host.tells Work) → IsStored host new after recs
