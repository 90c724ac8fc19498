-- What the parts of a run answer.
use Rattle.std.specs.Prelude.{◌≡◌, ℕ, Bool, ◌⊎◌, IsTrue}
use Rattle.long_names.specs.Counting.{Rose}
use Rattle.blue_model.specs.Cause.{cause_number}
use Rattle.object_memory.specs.declared.fault.MemFault.{MemFault}
use Rattle.object_memory.specs.declared.fault.MemFault.TheVariants as fault
use Rattle.contexts.specs.declared.stop.Stop.TheVariants as stop
use Rattle.loom_host.specs.Outside.{PutPrefix, puts}
use Rattle.loom_host.specs.declared.outside.DiskFault.{DiskFault}
use Rattle.loom_host.specs.declared.outside.DiskFault.TheVariants as disk
use Rattle.loom_host.specs.declared.outside.Role.TheVariants.{Notes, Transcript}
use Rattle.machine_run.specs.declared.running.Reason.{Reason}
use Rattle.machine_run.specs.declared.running.Reason.TheVariants.{ByStop, NoMemory}
use Rattle.loom_run.specs.Meanings.{Meanings}
use Rattle.loom_words.specs.Status.{line_of}
use Rattle.loom_words.specs.declared.status.Status.{Status}
use Rattle.loom_words.specs.declared.status.Status.TheVariants.{Done, Quit, Made, Listed, Assembled, Stuck, CoreFull, NamesSpent, WorkFull, WorkFault, WriteFault, OutOfMemory, Damaged}

-- ---- faults as answers

-- a fault of the memory after so many bytecodes
abbrev pub status_by_fault : MemFault → ℕ → Status
status_by_fault (fault.CoreFull need) ran = CoreFull ran need
status_by_fault (fault.WorkFull live room) ran = WorkFull live room
status_by_fault (fault.WorkFault count) ran = WorkFault count
status_by_fault (fault.Damaged place name) ran = Damaged place name
status_by_fault fault.NamesSpent ran = NamesSpent ran
status_by_fault (fault.Said count) ran = WriteFault Transcript count
status_by_fault fault.Memory ran = OutOfMemory

-- why a run halted after so many bytecodes
abbrev pub status_by : Reason → ℕ → Status
status_by (ByStop (stop.Stuck cause)) ran = Stuck (cause_number cause) ran
status_by (ByStop (stop.Mem f)) ran = status_by_fault f ran
status_by NoMemory ran = OutOfMemory

-- a fault of the disk
abbrev pub status_by_disk : DiskFault → Status
status_by_disk (disk.Work count) = WorkFault count
status_by_disk (disk.Full held room) = WorkFull held room
status_by_disk (disk.Damaged place name) = Damaged place name

-- the answer of a run that went through
abbrev pub IsFinished : Status → Type 0
IsFinished (Done ran) = Unit {0}
IsFinished (Quit ran) = Unit {0}
IsFinished _ = ⊥

-- ---- the last line

-- the answer once the last line couldn't be written
abbrev pub unsaid : Status → ℕ → Status
unsaid (Done ran) now = WriteFault Notes now
unsaid (Quit ran) now = WriteFault Notes now
unsaid (Made objects) now = WriteFault Notes now
unsaid (Listed objects) now = WriteFault Notes now
unsaid (Assembled objects) now = WriteFault Notes now
unsaid status now = status

-- the last line was put whole, or failed, where Notes is told or not
pub record IsWhole (told : Bool) (status result : Status) (before now : Meanings) : Type 0 where
  pub answer : result ≡ status
  pub put : IsTrue told → now.roles Notes ≡ puts (line_of status) (before.roles Notes)

pub record IsCut (told : Bool) (status result : Status) (before now : Meanings) : Type 0 where
  pub answer : result ≡ unsaid status (now.faults Notes)
  pub rose : Rose (before.faults Notes) (now.faults Notes)
  pub put : IsTrue told → PutPrefix (line_of status) (before.roles Notes) (now.roles Notes)

abbrev pub IsTold : Bool → Status → Status → Meanings → Meanings → Type 0
IsTold told status result before now = IsWhole told status result before now ⊎ IsCut told status result before now
