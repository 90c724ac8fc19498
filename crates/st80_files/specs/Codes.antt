-- The exit codes: those of `loom`, and those of st80 alone, from 20 on.
use Rattle.std.specs.Prelude.{◌≡◌, ◌⊎◌, ℕ, List, [], ◌∷◌, codes}
use Rattle.st80_files.specs.declared.codes.Code.{Code}
use Rattle.st80_files.specs.declared.codes.Code.TheVariants.{Well, NoStreams, Words, ImageBad, EventsBad, Stuck, CoreFull, NamesSpent, WorkFull, ReadFault, WorkFault, WriteFault, OutOfMemory, Damaged, VaultFault, NoCheckpoint, VaultBad, TextBad, CantWrite, CantRead, NoTemporary, NotThere, Differs, SourceBad}
use Rattle.st80_files.specs.declared.failure.Failure.{Failure}
use Rattle.st80_files.specs.declared.failure.Failure.TheVariants.{Memory, Told}

abbrev pub number_of : Code → ℕ
number_of Well = 0
number_of NoStreams = 1
number_of Words = 2
number_of ImageBad = 3
number_of EventsBad = 4
number_of Stuck = 5
number_of CoreFull = 6
number_of NamesSpent = 7
number_of WorkFull = 8
number_of ReadFault = 9
number_of WorkFault = 10
number_of WriteFault = 11
number_of OutOfMemory = 12
number_of Damaged = 13
number_of VaultFault = 15
number_of NoCheckpoint = 16
number_of VaultBad = 17
number_of TextBad = 18
number_of CantWrite = 20
number_of CantRead = 21
number_of NoTemporary = 22
number_of NotThere = 23
number_of Differs = 24
number_of SourceBad = 25

-- all of them, by rising number
abbrev pub all_codes : List Code
all_codes = Well ∷ NoStreams ∷ Words ∷ ImageBad ∷ EventsBad ∷ Stuck ∷ CoreFull ∷ NamesSpent ∷ WorkFull ∷ ReadFault ∷ WorkFault ∷ WriteFault ∷ OutOfMemory ∷ Damaged ∷ VaultFault ∷ NoCheckpoint ∷ VaultBad ∷ TextBad ∷ CantWrite ∷ CantRead ∷ NoTemporary ∷ NotThere ∷ Differs ∷ SourceBad ∷ []

-- when each comes
abbrev pub when_of : Code → List ℕ
when_of Well = codes "it went well"
when_of NoStreams = codes "the null device can't be opened"
when_of Words = codes "the words are wrong, or help was asked for by none; nothing was done"
when_of ImageBad = codes "the image breaks a rule: st80 check IMAGE says where"
when_of EventsBad = codes "a line of the event file is wrong"
when_of Stuck = codes "the machine was stopped by an error: st80 run IMAGE --on-stop FILE keeps it as it was before"
when_of CoreFull = codes "the core is too small: give --core and --entries"
when_of NamesSpent = codes "the image has no name left for a new object"
when_of WorkFull = codes "there is room for fewer objects than live: give --room"
when_of ReadFault = codes "the image or the events can't be read"
when_of WorkFault = codes "the work file can't be read or written"
when_of WriteFault = codes "what is saved, drawn or said can't be written"
when_of OutOfMemory = codes "memory was refused"
when_of Damaged = codes "the work file has other bytes than were put there"
when_of VaultFault = codes "the vault can't be read or written"
when_of NoCheckpoint = codes "the vault has no checkpoint yet"
when_of VaultBad = codes "the vault is none, or is damaged"
when_of TextBad = codes "a line of the text is wrong: st80 check TEXT says where"
when_of CantWrite = codes "a file can't be written where it was to go; nothing was run"
when_of CantRead = codes "a file can't be read, or is of another kind"
when_of NoTemporary = codes "the temporary folder can't be used"
when_of NotThere = codes "what was to be shown isn't in the image"
when_of Differs = codes "the images differ"
when_of SourceBad = codes "a source file is wrong: what is said names the file, the line and the column"

-- ---- failures

-- a failure with this code, unless it is for want of memory
abbrev pub IsToldBy : Code → Failure → Type 0
IsToldBy code Memory = Unit {0}
IsToldBy code (Told c text) = c ≡ code

-- with one of two
abbrev pub IsToldByOneOf : Code → Code → Failure → Type 0
IsToldByOneOf a b f = IsToldBy a f ⊎ IsToldBy b f
