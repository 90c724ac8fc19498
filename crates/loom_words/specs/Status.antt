-- How a run ends, the line that says so, and the exit status.
use Rattle.std.specs.Prelude.{ℕ, List, ◌++◌, codes, decimal, Option, Some, None}
use Rattle.loom_host.specs.declared.outside.Role.{Role}
use Rattle.loom_host.specs.declared.outside.Role.TheVariants.{Image, Events, Work, Saved, Display, Transcript, Notes}
use Rattle.loom_words.specs.declared.status.Status.{Status}
use Rattle.loom_words.specs.declared.status.Status.TheVariants.{Done, Quit, Made, Listed, Assembled, Usage, ImageBad, EventsBad, TextBad, Stuck, CoreFull, NamesSpent, WorkFull, ReadFault, WorkFault, WriteFault, OutOfMemory, Damaged, VaultFault, NoCheckpoint, VaultBad}

-- what a role is called
abbrev pub role_text : Role → List ℕ
role_text Image = codes "Image"
role_text Events = codes "Events"
role_text Work = codes "Work"
role_text Saved = codes "Saved"
role_text Display = codes "Display"
role_text Transcript = codes "Transcript"
role_text Notes = codes "Notes"

-- what is said of a status, with no newline
abbrev pub text_of_status : Status → List ℕ
text_of_status (Done ran) = codes "ran " ++ decimal ran
text_of_status (Quit ran) = codes "quit after " ++ decimal ran
text_of_status (Made objects) = codes "made " ++ decimal objects ++ codes " objects"
text_of_status (Listed objects) = codes "listed " ++ decimal objects ++ codes " objects"
text_of_status (Assembled objects) = codes "assembled " ++ decimal objects ++ codes " objects"
text_of_status (Usage word) = codes "usage: word " ++ decimal word
text_of_status (ImageBad rule place) = codes "image: rule " ++ decimal rule ++ codes " at " ++ decimal place
text_of_status (EventsBad line) = codes "events: line " ++ decimal line
text_of_status (TextBad line rule) = codes "text: line " ++ decimal line ++ codes ", rule " ++ decimal rule
text_of_status (Stuck cause ran) = codes "stuck: cause " ++ decimal cause ++ codes " after " ++ decimal ran
text_of_status (CoreFull ran need) =
    codes "core full after " ++ decimal ran ++ codes ": object " ++ decimal need.object ++ codes ", " ++ decimal need.words ++ codes " words, " ++ decimal need.entries ++ codes " entries"
text_of_status (NamesSpent ran) = codes "names spent after " ++ decimal ran
text_of_status (WorkFull live room) = codes "work full: " ++ decimal live ++ codes " objects, room " ++ decimal room
text_of_status (ReadFault role count) = codes "read fault: " ++ role_text role
text_of_status (WorkFault count) = codes "work fault"
text_of_status (WriteFault role count) = codes "write fault: " ++ role_text role
text_of_status OutOfMemory = codes "out of memory"
text_of_status (Damaged place name) = codes "work damaged at " ++ decimal place ++ codes ": object " ++ decimal name
text_of_status (VaultFault count) = codes "vault fault"
text_of_status NoCheckpoint = codes "no checkpoint"
text_of_status (VaultBad place) = codes "vault bad at " ++ decimal place

-- the last line on Notes
abbrev pub line_of : Status → List ℕ
line_of status = text_of_status status ++ codes "\n"

-- the exit status of the program
abbrev pub code_of : Status → ℕ
code_of (Done ran) = 0
code_of (Quit ran) = 0
code_of (Made objects) = 0
code_of (Listed objects) = 0
code_of (Assembled objects) = 0
code_of (Usage word) = 2
code_of (ImageBad rule place) = 3
code_of (EventsBad line) = 4
code_of (Stuck cause ran) = 5
code_of (CoreFull ran need) = 6
code_of (NamesSpent ran) = 7
code_of (WorkFull live room) = 8
code_of (ReadFault role count) = 9
code_of (WorkFault count) = 10
code_of (WriteFault role count) = 11
code_of OutOfMemory = 12
code_of (Damaged place name) = 13
code_of (VaultFault count) = 15
code_of NoCheckpoint = 16
code_of (VaultBad place) = 17
code_of (TextBad line rule) = 18

-- the word that a status finds fault with
abbrev pub usage_of : Status → Option ℕ
usage_of (Usage word) = Some word
usage_of _ = None
