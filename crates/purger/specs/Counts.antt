-- Exact counts while objects leave a core.
--
-- An eviction changes no word of the held heap: it moves an object from the segment to its record. So it owes no count, and levels that were
-- sound stay sound, with the same heap (`KeepsSound`). What changes is where a count stands: the change of an entry is folded into the count on
-- disk before the entry goes, and a record that is written keeps the count that its name has there, or has 0 where it is the first.
use Rattle.std.specs.Prelude.{◌≡◌, ◌⊎◌, ℕ, [], IsTrue, false, Some}
use Rattle.long_names.specs.declared.object.Object.{Object}
use Rattle.loom_host.specs.declared.outside.Host.{Ghosts}
use Rattle.loom_host.specs.declared.outside.Role.TheVariants.{Work}
use Rattle.disk_objects.specs.declared.rest.DiskRest.{DiskRest}
use Rattle.object_table.specs.Entries.{is_used, place_of}
use Rattle.core_segment.specs.Segment.{chunk_at}
use Rattle.core_view.specs.Core.{Core}
use Rattle.core_view.specs.Counts.{outside, change_of}
use Rattle.leaf_lambda.specs.declared.parts.Parts.{Parts}
use Rattle.core_view.specs.Levels.{Stored, Levels}
use Rattle.core_view.specs.Counted.{IsSound}
use Rattle.core_view.specs.LevelSteps.{with_change}
use Rattle.delta_counts.specs.At.{IsAt, IsReached}

-- parts and a disk stand for these levels
abbrev pub StandsFor : {H : Type 0} → Ghosts H → Parts → H → DiskRest → Levels → Type 0
StandsFor host p now rest t = IsAt host (chunk_at p.segment) p.names now rest t

-- where the host tells Work, they stand for sound levels, in which no word is owed
abbrev pub HasSound : {H : Type 0} → Ghosts H → Parts → H → DiskRest → Type 0
HasSound host p now rest = IsTrue (host.tells Work) → (t : Levels) × StandsFor host p now rest t × IsSound t []

-- from all levels that stand there and are sound, sound levels are reached, with the same heap
abbrev pub KeepsSound : {H : Type 0} → Ghosts H → Parts → H → DiskRest → Parts → H → DiskRest → Type 0
KeepsSound host old before rest new now after = (t : Levels) → StandsFor host old before rest t → IsSound t []
    → IsReached host (chunk_at new.segment) new.names now after t []

-- no name gains or loses its entry, and no change of a count differs
pub record KeepsCounts (old new : Core) : Type 0 where
  pub find : new.find ≡ old.find
  pub changes : (m : ℕ) → change_of new m ≡ change_of old m

-- what a disk has of a name: this object and this count
abbrev pub stored_as : Object → ℕ → Stored
stored_as o n = record { object = o; count = n }

-- entries of idle leaves may be free now, and changes of counts differ; nothing else does
pub record IsGivingUp (old new : Core) : Type 0 where
  pub bound : new.bound ≡ old.bound
  pub chunks : new.chunks ≡ old.chunks
  pub entries : (s : ℕ) → (new.entries s ≡ with_change (old.entries s) (new.entries s).change) ⊎ (is_used (new.entries s).state ≡ false)
  pub bodies : (s p : ℕ) → place_of (old.entries s).state ≡ Some p → new.entries s ≡ with_change (old.entries s) (new.entries s).change
  pub same_outside : (t : ℕ) → outside new t ≡ outside old t
