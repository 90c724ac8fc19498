-- What a call owes of a pager: before it (`IsReady`), whatever it answers (`Spares`), and where it is done (`Preserves`). `Purges` and `Clears` are the
-- last two and the cause, by the answer. `Moves` is the case in which no object leaves and the disk isn't touched, and that implies both.
use Rattle.std.specs.Prelude.{◌≡◌, ℕ, pos, ◌+◌, ◌≤◌, true, None, [], IsTrue, Result, OnOk, IfOk, IfErr}
use Rattle.loom_host.specs.declared.outside.DiskFault.{DiskFault}
use Rattle.loom_host.specs.declared.outside.Host.{Ghosts}
use Rattle.loom_host.specs.declared.outside.Role.TheVariants.{Work}
use Rattle.object_table.specs.Entries.{is_used, place_of}
use Rattle.core_segment.specs.Segment.{free_of, largest_of, size_of}
use Rattle.disk_objects.specs.Disk.{disk_held, disk_room}
use Rattle.disk_objects.specs.Stays.{StaysOnWork}
use Rattle.core_view.specs.Core.{Core}
use Rattle.core_view.specs.Kept.{Stays}
use Rattle.core_view.specs.Purge.{IsPurged}
use Rattle.leaf_lambda.specs.Parts.{core_of, spare_of}
use Rattle.delta_counts.specs.Effects.{HasSound, Keeps, Same}
use Rattle.purger.specs.Counts.{KeepsCounts}
use Rattle.purger.specs.Marks.{KeepsMarks, LeavesMarks, MindsMarks}
use Rattle.purger.specs.Purge.{IsPurgeFault, IsShort, OnDisk, OnShort, Undisturbed}
use Rattle.purger.specs.Rounds.{HasCounted, HasNoLess, HasOnlyOf, IsFewBehind, KeepsAllBut}
use Rattle.core_view.specs.Purge.{fresh_of}
use Rattle.purger.specs.declared.room.Behind.{Behind}
use Rattle.purger.specs.declared.room.RoomFault.{RoomFault}
use Rattle.purger.specs.declared.pager.Pager.{Pager}

abbrev pub core_in : {H : Type 0} {host : Ghosts H} → Pager H host → Core
core_in p = core_of p.levels.parts

-- it stands for sound levels, where the host tells Work, and there is room on the disk for each object that has no record
pub record IsReady {H : Type 0} {host : Ghosts H} (p : Pager H host) : Type 0 where
  pub sound : HasSound p.levels []
  pub counted : IsTrue (host.tells Work) → disk_held p.levels.disk.rest + fresh_of (core_in p) ≤ disk_room p.levels.disk.rest

-- Whatever a call that purges answers: of the host only Work is written; the loan, the room, sizes and the pinned three stay; what goes are bodies
-- that aren't pinned and leaves to which nothing refers; and all marks stay, or all go.
pub record Spares {H : Type 0} {host : Ghosts H} (old new : Pager H host) : Type 0 where
  pub disk : StaysOnWork host old.levels.disk new.levels.disk
  pub size : size_of new.levels.parts.segment ≡ size_of old.levels.parts.segment
  pub pinned : new.pinned ≡ old.pinned
  pub purged : IsPurged old.pinned.a old.pinned.b old.pinned.d (core_in old) (core_in new)
  pub marks : LeavesMarks (core_in old) (core_in new)

-- Where it is done: the heap is the same, marks went only with an object that was marked, what has a body had the same before, and no fewer words
-- and entries are free.
pub record Preserves {H : Type 0} {host : Ghosts H} (old new : Pager H host) : Type 0 where
  pub keeps : Keeps Same [] [] old.levels new.levels
  pub minds : MindsMarks (core_in old) (core_in new)
  pub only : HasOnlyOf (core_in old) (core_in new)
  pub less : HasNoLess old.levels.parts new.levels.parts

pub record Purges {T H : Type 0} {host : Ghosts H} (old new : Pager H host) (result : Result T DiskFault) : Type 0 where
  pub leaves : Spares old new
  pub keeps : OnOk result (Preserves old new)
  pub fault : IfErr result (IsPurgeFault host old.levels.disk.host.now new.levels.disk.host.now)

pub record Clears {T H : Type 0} {host : Ghosts H} (old new : Pager H host) (result : Result T RoomFault) : Type 0 where
  pub leaves : Spares old new
  pub keeps : Undisturbed result (Preserves old new)
  pub fault : IfErr result (λ f. OnDisk f (IsPurgeFault host old.levels.disk.host.now new.levels.disk.host.now))

-- bodies lie elsewhere, and the hand and flags of what was used may differ; nothing else does
pub record Moves {H : Type 0} {host : Ghosts H} (old new : Pager H host) : Type 0 where
  pub disk : new.levels.disk ≡ old.levels.disk
  pub pinned : new.pinned ≡ old.pinned
  pub stays : Stays (core_in old) (core_in new)
  pub purged : (a b d : ℕ) → IsPurged a b d (core_in old) (core_in new)
  pub marks : KeepsMarks (core_in old) (core_in new)
  pub counts : KeepsCounts (core_in old) (core_in new)
  pub size : size_of new.levels.parts.segment ≡ size_of old.levels.parts.segment
  pub free : free_of new.levels.parts.segment ≡ free_of old.levels.parts.segment
  pub spare : spare_of new.levels.parts ≡ spare_of old.levels.parts

-- so many words, as one chunk, and entries are free; or nothing more can go, and that many aren't free
pub record MakesRoom {T H : Type 0} {host : Ghosts H} (words entries : ℕ) (new : Pager H host) (result : Result T RoomFault) : Type 0 where
  pub room : OnOk result ((words ≤ largest_of new.levels.parts.segment) × (entries ≤ spare_of new.levels.parts))
  pub short : IfErr result (λ f. OnShort f (IsShort new.levels.parts new.pinned.a new.pinned.b new.pinned.d words entries))

-- the object of s has no body, its entry is in use only where something refers to it, and no change waits in it
pub record HasLeft {H : Type 0} {host : Ghosts H} (s : ℕ) (p : Pager H host) : Type 0 where
  pub gone : place_of ((core_in p).entries s).state ≡ None
  pub none : is_used ((core_in p).entries s).state ≡ true → 1 ≤ ((core_in p).entries s).refs
  pub folded : IsTrue (host.tells Work) → ((core_in p).entries s).change ≡ pos 0

-- The search for what goes comes to an entry: its body goes, or none does. What left since the table was swept is counted, from so many on, and
-- where it was more than a part of the table, there was room or words were wanting.
pub record Passes {H : Type 0} {host : Ghosts H} (s part words entries left : ℕ) (old new : Pager H host) (result : Result Behind DiskFault) : Type 0 where
  pub purges : Purges old new result
  pub one : KeepsAllBut s (core_in old) (core_in new)
  pub behind : IfOk result (λ b. HasCounted left b.left (core_in old) (core_in new))
  pub few : IfOk result (λ b. IsFewBehind part words entries old.levels.parts left → IsFewBehind part words entries new.levels.parts b.left)
