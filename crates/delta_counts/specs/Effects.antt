-- What a call owes of the two levels: before it (`HasSound`), whatever it answers (`Leaves`), and where it is done (`Keeps`). `Counts` and `Frees` are
-- the last two and the cause, by the answer.
use Rattle.std.specs.Prelude.{◌≡◌, ℕ, List, [], IsTrue, Result, OnOk, IfErr}
use Rattle.long_names.specs.declared.value.Value.{Value}
use Rattle.long_names.specs.Heap.{Heap, without}
use Rattle.long_names.specs.Thin.{IsThinner}
use Rattle.loom_host.specs.declared.outside.DiskFault.{DiskFault}
use Rattle.loom_host.specs.declared.outside.Host.{Ghosts}
use Rattle.loom_host.specs.declared.outside.Role.TheVariants.{Work}
use Rattle.disk_objects.specs.Calls.{IsSlotsFault}
use Rattle.disk_objects.specs.Disk.{disk_held}
use Rattle.disk_objects.specs.Stays.{StaysOnWork}
use Rattle.core_segment.specs.Segment.{chunk_at}
use Rattle.core_view.specs.Core.{Core}
use Rattle.leaf_lambda.specs.Parts.{core_of}
use Rattle.core_view.specs.Levels.{Levels, heap_of}
use Rattle.core_view.specs.Counted.{IsSound}
use Rattle.delta_counts.specs.At.{IsAt}
use Rattle.delta_counts.specs.Giving.{IsGiving}
use Rattle.delta_counts.specs.Faults.{IsFreeFault}
use Rattle.delta_counts.specs.declared.two_levels.TwoLevels.{TwoLevels}

abbrev pub core_in : {H : Type 0} {host : Ghosts H} → TwoLevels H host → Core
core_in l = core_of l.parts

-- ---- what they stand for

abbrev pub StandsFor : {H : Type 0} {host : Ghosts H} → TwoLevels H host → Levels → Type 0
StandsFor {H} {host} l t = IsAt host (chunk_at l.parts.segment) l.parts.names l.disk.host.now l.disk.rest t

-- where the host tells Work, they stand for sound levels, of which these words are owed
abbrev pub HasSound : {H : Type 0} {host : Ghosts H} → TwoLevels H host → List Value → Type 0
HasSound {H} {host} l owed = IsTrue (host.tells Work) → (t : Levels) × StandsFor l t × IsSound t owed

-- ---- what becomes of the heap

-- all objects stay, one goes, or some that nothing reaches do
pub data HeapStep : Type 0 where
  Same : HeapStep
  Without : (name : ℕ) → HeapStep
  Thinner : HeapStep

abbrev pub IsHeapStep : HeapStep → Heap → Heap → Type 0
IsHeapStep Same old new = new ≡ old
IsHeapStep (Without name) old new = new ≡ without old name
IsHeapStep Thinner old new = IsThinner old new

-- how many names the disk holds, also behind a fault: nothing is said of that where one may have gone
abbrev pub IsHeldStep : HeapStep → ℕ → ℕ → Type 0
IsHeldStep Same old new = new ≡ old
IsHeldStep (Without name) old new = Unit {0}
IsHeldStep Thinner old new = Unit {0}

-- sound levels, reached from others by this step, of which these words are owed
pub record Reaches {H : Type 0} {host : Ghosts H} (step : HeapStep) (now : TwoLevels H host) (t : Levels) (owed : List Value) : Type 0 where
  pub levels : Levels
  pub at : StandsFor now levels
  pub sound : IsSound levels owed
  pub heap : IsHeapStep step (heap_of t) (heap_of levels)

-- ---- calls

-- Whatever a call answers: of the host only Work is written, the loan and the room stay; no body moves, comes or goes, entries of idle leaves
-- may be free, and changes of counts differ.
pub record Leaves {H : Type 0} {host : Ghosts H} (step : HeapStep) (old new : TwoLevels H host) : Type 0 where
  pub disk : StaysOnWork host old.disk new.disk
  pub held : IsHeldStep step (disk_held old.disk.rest) (disk_held new.disk.rest)
  pub segment : new.parts.segment ≡ old.parts.segment
  pub giving : IsGiving old.parts.names new.parts.names

-- Where it is done: from all sound levels that stand there with the first words owed, sound levels are reached with the second.
abbrev pub Keeps : {H : Type 0} {host : Ghosts H} → HeapStep → List Value → List Value → TwoLevels H host → TwoLevels H host → Type 0
Keeps {H} {host} step owed after old new = IsTrue (host.tells Work) → (t : Levels) → StandsFor old t → IsSound t owed → Reaches step new t after

pub record Counts {T H : Type 0} {host : Ghosts H} (step : HeapStep) (owed after : List Value) (old new : TwoLevels H host) (result : Result T DiskFault) : Type 0 where
  pub leaves : Leaves step old new
  pub keeps : OnOk result (Keeps step owed after old new)
  pub fault : IfErr result (IsSlotsFault (host.tells Work) (host.faults old.disk.host.now Work) (host.faults new.disk.host.now Work) old.disk.rest)

-- the same of calls that free what is dead
pub record Frees {T H : Type 0} {host : Ghosts H} (old new : TwoLevels H host) (result : Result T DiskFault) : Type 0 where
  pub leaves : Leaves Thinner old new
  pub keeps : OnOk result (Keeps Thinner [] [] old new)
  pub fault : IfErr result (IsFreeFault (host.tells Work) (host.faults old.disk.host.now Work) (host.faults new.disk.host.now Work) old.disk.rest)
