-- What an answer says of the calls that came before it, and of the files that it leaves.
use Rattle.std.specs.Prelude.{Bool, IfSome, IsTrue}
use Rattle.loom_host.specs.declared.outside.Role.{Role}
use Rattle.loom_host.specs.declared.outside.Role.TheVariants.{Image, Events, Work, Saved, Display, Transcript, Notes}
use Rattle.loom_run.specs.Ends.{AttachedOnce, word_for}
use Rattle.loom_run.specs.Meanings.{Meanings, IsLeft}
use Rattle.loom_run.specs.Traced.{traced_word}
use Rattle.loom_words.specs.Words.{Row}
use Rattle.loom_words.specs.declared.status.Status.{Status}
use Rattle.loom_words.specs.declared.status.Status.TheVariants.{Done, Quit, Made, Listed, Assembled, Usage, ImageBad, EventsBad, TextBad, Stuck, CoreFull, NamesSpent, WorkFull, ReadFault, WorkFault, WriteFault, OutOfMemory, Damaged, VaultFault, NoCheckpoint, VaultBad}

-- ---- no answer comes at once

-- the role that an answer is about, or the last one that a run attaches before it can come to the answer
abbrev pub role_of : Status → Role
role_of (Done ran) = Display
role_of (Quit ran) = Display
role_of (Made objects) = Saved
role_of (Listed objects) = Saved
role_of (Assembled objects) = Saved
role_of (Usage word) = Notes
role_of (ImageBad rule place) = Image
role_of (EventsBad line) = Events
role_of (TextBad line rule) = Image
role_of (Stuck cause ran) = Events
role_of (CoreFull ran need) = Events
role_of (NamesSpent ran) = Events
role_of (WorkFull live room) = Image
role_of (ReadFault role count) = role
role_of (WorkFault count) = Work
role_of (WriteFault Saved count) = Saved
role_of (WriteFault Transcript count) = Events
role_of (WriteFault role count) = Display
role_of OutOfMemory = Image
role_of (Damaged place name) = Image
role_of (VaultFault count) = Notes
role_of NoCheckpoint = Notes
role_of (VaultBad place) = Notes

-- it was attached, by its word
abbrev pub CameTo : (Role → Bool) → Meanings → Meanings → Row → Role → Type 0
CameTo tells before now row role = IsTrue (tells role) → IfSome (word_for row role) (λ text. AttachedOnce text (before.roles role) (now.roles role))

-- the same of a trace, which attaches Saved before its machine starts
abbrev pub traced_role_of : Status → Role
traced_role_of (Done ran) = Saved
traced_role_of (Quit ran) = Saved
traced_role_of (Stuck cause ran) = Saved
traced_role_of (CoreFull ran need) = Saved
traced_role_of (NamesSpent ran) = Saved
traced_role_of (WriteFault role count) = Saved
traced_role_of status = role_of status

abbrev pub CameToTraced : (Role → Bool) → Meanings → Meanings → Row → Role → Type 0
CameToTraced tells before now row role = IsTrue (tells role) → IfSome (traced_word row role) (λ text. AttachedOnce text (before.roles role) (now.roles role))

-- ---- what a refusal leaves

-- Saved and Display are as they were, where the answer came before the two or is about neither; Display where it came in saving. A run that went
-- through, and one that was refused in drawing or in its last line, has written to both. A making, a listing and an assembling have nothing to do with Display.
abbrev pub LeavesFiles : Status → Meanings → Meanings → Type 0
LeavesFiles (Done ran) before now = Unit {0}
LeavesFiles (Quit ran) before now = Unit {0}
LeavesFiles (Made objects) before now = IsLeft Display before now
LeavesFiles (Listed objects) before now = IsLeft Display before now
LeavesFiles (Assembled objects) before now = IsLeft Display before now
LeavesFiles (WriteFault Saved count) before now = IsLeft Display before now
LeavesFiles (WriteFault Display count) before now = Unit {0}
LeavesFiles (WriteFault Notes count) before now = Unit {0}
LeavesFiles (WorkFault count) before now = IsLeft Display before now
LeavesFiles (Damaged place name) before now = IsLeft Display before now
LeavesFiles OutOfMemory before now = IsLeft Display before now
LeavesFiles _ before now = IsLeft Saved before now × IsLeft Display before now

-- A trace has nothing to do with Display. Saved is as it was, where the answer comes at no stage but before it is attached for the lines.
abbrev pub LeavesTraced : Status → Meanings → Meanings → Type 0
LeavesTraced (Usage word) before now = IsLeft Saved before now × IsLeft Display before now
LeavesTraced (ImageBad rule place) before now = IsLeft Saved before now × IsLeft Display before now
LeavesTraced (EventsBad line) before now = IsLeft Saved before now × IsLeft Display before now
LeavesTraced (ReadFault role count) before now = IsLeft Saved before now × IsLeft Display before now
LeavesTraced _ before now = IsLeft Display before now
