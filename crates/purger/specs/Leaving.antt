-- What the steps owe by which one object leaves a pager: it is written back and evicted, or it is dead and goes without being written.
use Rattle.std.specs.Prelude.{◌≡◌, ℕ, ◌<◌, ◌≤◌, [], false, Some, IsTrue, Result, OnOk, IfErr}
use Rattle.loom_host.specs.declared.outside.DiskFault.{DiskFault}
use Rattle.loom_host.specs.declared.outside.Host.{Ghosts}
use Rattle.loom_host.specs.declared.outside.Role.TheVariants.{Work}
use Rattle.object_table.specs.Entries.{place_of}
use Rattle.core_segment.specs.Segment.{free_of, size_of}
use Rattle.disk_objects.specs.Disk.{disk_held}
use Rattle.disk_objects.specs.Stays.{IsRead, StaysOnWork}
use Rattle.core_view.specs.Counts.{outside}
use Rattle.core_view.specs.Held.{object_at}
use Rattle.core_view.specs.Kept.{Stays}
use Rattle.leaf_lambda.specs.Parts.{spare_of, IsWithin}
use Rattle.core_view.specs.Levels.{Levels, records_of}
use Rattle.core_view.specs.Counted.{IsSound, words_of}
use Rattle.core_view.specs.Dead.{IsDead}
use Rattle.delta_counts.specs.Effects.{Keeps, Reaches, Same, StandsFor, Without}
use Rattle.purger.specs.Draining.{HasDead, IsForgotten, IsThinned}
use Rattle.purger.specs.Freeing.{LeavesNamed}
use Rattle.purger.specs.Marks.{IsOut, IsUnmarking, LeavesMarks, MindsMarks}
use Rattle.purger.specs.Pager.{core_in}
use Rattle.purger.specs.Purge.{IsPurgeFault, IsReadFault}
use Rattle.purger.specs.declared.pager.Pager.{Pager}

-- Work is read at most.
pub record Reads {T H : Type 0} {host : Ghosts H} (old new : Pager H host) (result : Result T DiskFault) : Type 0 where
  pub disk : IsRead host old.levels.disk new.levels.disk
  pub parts : new.levels.parts ≡ old.levels.parts
  pub pinned : new.pinned ≡ old.pinned
  pub fault : IfErr result (IsReadFault (host.tells Work) (host.faults old.levels.disk.host.now Work) (host.faults new.levels.disk.host.now Work))

-- All marks go where the object of s has one. Nothing else differs.
pub record Unmarks {H : Type 0} {host : Ghosts H} (s : ℕ) (old new : Pager H host) : Type 0 where
  pub disk : new.levels.disk ≡ old.levels.disk
  pub out : new.out ≡ old.out
  pub pinned : new.pinned ≡ old.pinned
  pub segment : new.levels.parts.segment ≡ old.levels.parts.segment
  pub spare : spare_of new.levels.parts ≡ spare_of old.levels.parts
  pub step : IsUnmarking (core_in old) (core_in new)
  pub stays : Stays (core_in old) (core_in new)
  pub outside : (t : ℕ) → outside (core_in new) t ≡ outside (core_in old) t
  pub marks : LeavesMarks (core_in old) (core_in new)
  pub gone : ((core_in new).entries s).flags.marked ≡ false
  pub idle : ((core_in old).entries s).flags.marked ≡ false → core_in new ≡ core_in old

-- ---- an object that is written back, and evicted

-- Whatever is answered: of the host only Work is written; the loan, the room, sizes and the pinned three stay; and so do all other objects and
-- entries, and of this one the name, the references from outside, the change of its count and its mark.
pub record LeavesOthers {H : Type 0} {host : Ghosts H} (s : ℕ) (old new : Pager H host) : Type 0 where
  pub disk : StaysOnWork host old.levels.disk new.levels.disk
  pub pinned : new.pinned ≡ old.pinned
  pub size : size_of new.levels.parts.segment ≡ size_of old.levels.parts.segment
  pub spare : spare_of new.levels.parts ≡ spare_of old.levels.parts
  pub within : IsWithin s (core_in old) (core_in new)

pub record Evicts {T H : Type 0} {host : Ghosts H} (s : ℕ) (old new : Pager H host) (result : Result T DiskFault) : Type 0 where
  pub leaves : LeavesOthers s old new
  pub keeps : OnOk result (Keeps Same [] [] old.levels new.levels)
  pub fault : IfErr result (IsPurgeFault host old.levels.disk.host.now new.levels.disk.host.now)

-- ---- an object that is dead, and goes

-- it has a body and no mark, nothing refers to its entry, and it is dead
pub record MayGo {H : Type 0} {host : Ghosts H} (s : ℕ) (p : Pager H host) : Type 0 where
  pub body : (at : ℕ) × (place_of ((core_in p).entries s).state ≡ Some at)
  pub unmarked : ((core_in p).entries s).flags.marked ≡ false
  pub none : ((core_in p).entries s).refs ≡ 0
  pub dead : HasDead host p.levels.parts p.levels.disk.host.now p.levels.disk.rest s

-- Its record, its body and its entry go, and its words are owed then.
pub record TakesOut {T H : Type 0} {host : Ghosts H} (s : ℕ) (old new : Pager H host) (result : Result T DiskFault) : Type 0 where
  pub leaves : LeavesNamed old new
  pub out : new.out ≡ old.out
  pub gone : OnOk result (IsForgotten s (core_in old) (core_in new))
  pub wider : OnOk result (free_of old.levels.parts.segment < free_of new.levels.parts.segment)
  pub held : OnOk result (disk_held new.levels.disk.rest ≤ disk_held old.levels.disk.rest)
  pub owed : IsTrue (host.tells Work) → (t : Levels) (at : ℕ) → StandsFor old.levels t → IsSound t [] → IsDead t (t.core.entries s).name → place_of ((core_in old).entries s).state ≡ Some at
      → OnOk result (Reaches (Without ((core_in old).entries s).name) new.levels t (words_of (object_at (core_in old) (records_of t) ((core_in old).entries s) at)))
  pub fault : IfErr result (IsReadFault (host.tells Work) (host.faults old.levels.disk.host.now Work) (host.faults new.levels.disk.host.now Work))

-- It goes, and what it held has a word less: from all sound levels in which it was dead a thinner heap is reached.
pub record FreesOne {T H : Type 0} {host : Ghosts H} (s : ℕ) (old new : Pager H host) (result : Result T DiskFault) : Type 0 where
  pub leaves : LeavesNamed old new
  pub freed : IsTrue (host.tells Work) → (t : Levels) → StandsFor old.levels t → IsSound t [] → IsDead t (t.core.entries s).name
      → OnOk result (IsThinned host old.levels.parts new.levels.parts new.levels.disk.host.now new.levels.disk.rest t)
  pub minds : OnOk result (MindsMarks (core_in old) (core_in new))
  pub gone : OnOk result (IsOut (core_in new) ((core_in old).entries s).name)
  pub wider : OnOk result (free_of old.levels.parts.segment < free_of new.levels.parts.segment)
  pub held : OnOk result (disk_held new.levels.disk.rest ≤ disk_held old.levels.disk.rest)
  pub fault : IfErr result (IsReadFault (host.tells Work) (host.faults old.levels.disk.host.now Work) (host.faults new.levels.disk.host.now Work))
