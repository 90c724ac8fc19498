-- What a call owes of a pager that frees what is dead: whatever it answers (`LeavesNamed`), and where it is done (`ThinsHeap`). `FreesDead` is the two
-- and the cause, by the answer. Before it nothing but sound levels is asked for.
use Rattle.std.specs.Prelude.{◌≡◌, ◌<◌, Bool, false, IsTrue, Result, OnOk, IfErr}
use Rattle.loom_host.specs.declared.outside.DiskFault.{DiskFault}
use Rattle.loom_host.specs.declared.outside.Host.{Ghosts}
use Rattle.loom_host.specs.declared.outside.Role.TheVariants.{Work}
use Rattle.object_record.specs.Buffer.{HasRecord}
use Rattle.core_segment.specs.Segment.{free_of}
use Rattle.disk_objects.specs.Stays.{StaysOnWork}
use Rattle.core_view.specs.Levels.{Levels}
use Rattle.purger.specs.Draining.{DrainsBare, DrainsDead, KeepsLevels, LeavesRest, Thins}
use Rattle.purger.specs.Marks.{MindsMarks}
use Rattle.purger.specs.Pager.{core_in}
use Rattle.purger.specs.Purge.{IsReadFault}
use Rattle.purger.specs.declared.pager.Pager.{Pager}

-- Of the host only Work is written; the loan, the room, sizes and the pinned three stay; and so does what is named from outside.
pub record LeavesNamed {H : Type 0} {host : Ghosts H} (old new : Pager H host) : Type 0 where
  pub disk : StaysOnWork host old.levels.disk new.levels.disk
  pub pinned : new.pinned ≡ old.pinned
  pub rest : LeavesRest old.levels.parts new.levels.parts

-- The heap is thinner, what stays keeps its body, and marks went only with an object that was marked.
pub record ThinsHeap {H : Type 0} {host : Ghosts H} (old new : Pager H host) : Type 0 where
  pub keeps : IsTrue (host.tells Work) → Thins host old.levels.parts old.levels.disk.host.now old.levels.disk.rest new.levels.parts new.levels.disk.host.now new.levels.disk.rest
  pub minds : MindsMarks (core_in old) (core_in new)

pub record FreesDead {T H : Type 0} {host : Ghosts H} (old new : Pager H host) (result : Result T DiskFault) : Type 0 where
  pub leaves : LeavesNamed old new
  pub keeps : OnOk result (ThinsHeap old new)
  pub fault : IfErr result (IsReadFault (host.tells Work) (host.faults old.levels.disk.host.now Work) (host.faults new.levels.disk.host.now Work))

-- whether an object went whose record is in the buffer then; else the buffer is as it was
pub record HasTold {H : Type 0} {host : Ghosts H} (old new : Pager H host) (told : Bool) : Type 0 where
  pub wider : IsTrue told → free_of old.levels.parts.segment < free_of new.levels.parts.segment
  pub there : IsTrue told → HasRecord new.out
  pub still : told ≡ false → new.out ≡ old.out

-- where the host tells Work: all sound levels still stand there, each body is there, and this is so of the levels
abbrev pub KeepsAll : {H : Type 0} {host : Ghosts H} → Pager H host → Pager H host → (Levels → Type 0) → Type 0
KeepsAll {H} {host} old new P = KeepsLevels host old.levels.parts old.levels.disk.host.now old.levels.disk.rest new.levels.parts new.levels.disk.host.now new.levels.disk.rest P

-- and no name without a body is dead then, or nothing at all
abbrev pub FreesBare : {H : Type 0} {host : Ghosts H} → Pager H host → Pager H host → Type 0
FreesBare {H} {host} old new = DrainsBare host old.levels.parts old.levels.disk.host.now old.levels.disk.rest new.levels.parts new.levels.disk.host.now new.levels.disk.rest

abbrev pub FreesAll : {H : Type 0} {host : Ghosts H} → Pager H host → Pager H host → Type 0
FreesAll {H} {host} old new = DrainsDead host old.levels.parts old.levels.disk.host.now old.levels.disk.rest new.levels.parts new.levels.disk.host.now new.levels.disk.rest
