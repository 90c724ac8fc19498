-- Dead objects that go: the heap is thinner by them, and nothing else goes.
use Rattle.std.specs.Prelude.{◌≡◌, ℕ, ◌<◌, ◌≤◌, Bool, true, false, List, [], Option, None, Some, IsTrue, IsSome}
use Rattle.long_names.specs.Heap.{Heap, Has}
use Rattle.long_names.specs.Thin.{IsThinner}
use Rattle.loom_host.specs.declared.outside.Host.{Ghosts}
use Rattle.loom_host.specs.declared.outside.Role.TheVariants.{Work}
use Rattle.work_space.specs.Blocks.{times}
use Rattle.object_table.specs.Entries.{put, place_of}
use Rattle.disk_objects.specs.declared.rest.DiskRest.{DiskRest}
use Rattle.core_segment.specs.Segment.{free_of, size_of}
use Rattle.core_view.specs.Core.{Core, with_entry, without_leaf}
use Rattle.core_view.specs.Counts.{outside}
use Rattle.core_view.specs.Kept.{IsCore, IsTight, Stays}
use Rattle.core_view.specs.Purge.{IsPurged, IsSameBody}
use Rattle.core_view.specs.Room.{is_among}
use Rattle.core_view.specs.Steps.{IsIdle, written}
use Rattle.leaf_lambda.specs.declared.parts.Parts.{Parts}
use Rattle.leaf_lambda.specs.Parts.{core_of, spare_of, IsParts, IsWithin}
use Rattle.core_view.specs.Levels.{Stored, Levels, heap_of}
use Rattle.core_view.specs.Counted.{IsSound}
use Rattle.core_view.specs.Dead.{IsDead, NoneBareDead, NoneDead}
use Rattle.purger.specs.Counts.{StandsFor}
use Rattle.purger.specs.Marks.{AreHere, LeavesMarks, MindsMarks}
use Rattle.purger.specs.Purge.{KeepsBodies}

-- ---- what stays

-- three entries are named from outside, those of them that have bodies
abbrev pub AreNamed : ℕ → ℕ → ℕ → Core → Type 0
AreNamed a b d c = (s p : ℕ) → is_among a b d s ≡ true → place_of (c.entries s).state ≡ Some p → 1 ≤ outside c s

-- What is left of parts where dead objects went.
pub record LeavesRest (old new : Parts) : Type 0 where
  -- they are parts with as many entries, each chunk with an owner is a body, and each marked object has one
  pub parts : IsParts new
  pub tight : IsTight (core_of new)
  pub here : AreHere (core_of new)
  pub bound : (core_of new).bound ≡ (core_of old).bound
  -- references from outside and the names of what they name stay, and so do the bodies of three entries that they name
  pub same_outside : (t : ℕ) → outside (core_of new) t ≡ outside (core_of old) t
  pub purged : (a b d : ℕ) → AreNamed a b d (core_of old) → IsPurged a b d (core_of old) (core_of new)
  -- all marks stay, or all went
  pub marks : LeavesMarks (core_of old) (core_of new)
  -- no less is free than before
  pub size : size_of new.segment ≡ size_of old.segment
  pub words : free_of old.segment ≤ free_of new.segment
  pub entries : spare_of old ≤ spare_of new

-- each object of a heap that had a body still has it
abbrev pub KeepsHeld : Core → Core → Heap → Type 0
KeepsHeld old new h = (s p : ℕ) → place_of (old.entries s).state ≡ Some p → Has h (old.entries s).name → IsSameBody old new s p

-- ---- what is reached

-- Levels that are reached from others: sound, with a thinner heap, of which each object that had a body still has it. Marks go only where one
-- that was marked left the core.
pub record IsThinned {H : Type 0} (host : Ghosts H) (old new : Parts) (now : H) (rest : DiskRest) (t : Levels) : Type 0 where
  pub levels : Levels
  pub at : StandsFor host new now rest levels
  pub sound : IsSound levels []
  pub thinner : IsThinner (heap_of t) (heap_of levels)
  pub bodies : KeepsHeld (core_of old) (core_of new) (heap_of levels)
  pub minds : MindsMarks (core_of old) (core_of new)

-- and no name without a body is dead there
pub record IsBareThinned {H : Type 0} (host : Ghosts H) (old new : Parts) (now : H) (rest : DiskRest) (t : Levels) : Type 0 where
  pub thinned : IsThinned host old new now rest t
  pub none : NoneBareDead thinned.levels

-- and nothing is dead there
pub record IsDrainedOf {H : Type 0} (host : Ghosts H) (old new : Parts) (now : H) (rest : DiskRest) (t : Levels) : Type 0 where
  pub thinned : IsThinned host old new now rest t
  pub none : NoneDead thinned.levels

-- from all sound levels that stand there
abbrev pub Thins : {H : Type 0} → Ghosts H → Parts → H → DiskRest → Parts → H → DiskRest → Type 0
Thins host old before rest new now after = (t : Levels) → StandsFor host old before rest t → IsSound t [] → IsThinned host old new now after t

abbrev pub DrainsBare : {H : Type 0} → Ghosts H → Parts → H → DiskRest → Parts → H → DiskRest → Type 0
DrainsBare host old before rest new now after = (t : Levels) → StandsFor host old before rest t → IsSound t [] → IsBareThinned host old new now after t

abbrev pub DrainsDead : {H : Type 0} → Ghosts H → Parts → H → DiskRest → Parts → H → DiskRest → Type 0
DrainsDead host old before rest new now after = (t : Levels) → StandsFor host old before rest t → IsSound t [] → IsDrainedOf host old new now after t

-- all sound levels still stand there, each body is there, and this is so of the levels
abbrev pub KeepsLevels : {H : Type 0} → Ghosts H → Parts → H → DiskRest → Parts → H → DiskRest → (Levels → Type 0) → Type 0
KeepsLevels host old before rest new now after P = (t : Levels) → StandsFor host old before rest t → IsSound t [] → StandsFor host new now after t × KeepsBodies (core_of old) (core_of new) × P t

-- ---- which objects with a body are dead

abbrev pub NotDeadAt : ℕ → Levels → Type 0
NotDeadAt s t = (p : ℕ) → place_of (t.core.entries s).state ≡ Some p → IsDead t (t.core.entries s).name → ⊥

abbrev pub IsDeadBy : Bool → ℕ → Levels → Type 0
IsDeadBy true s t = IsDead t (t.core.entries s).name
IsDeadBy false s t = NotDeadAt s t

abbrev pub NoneDeadBelow : ℕ → Levels → Type 0
NoneDeadBelow n t = (s : ℕ) → s < n → NotDeadAt s t

abbrev pub NoBodyDead : Levels → Type 0
NoBodyDead t = (s : ℕ) → NotDeadAt s t

-- parts and a disk stand for sound levels in which the object of s is dead
abbrev pub HasDead : {H : Type 0} → Ghosts H → Parts → H → DiskRest → ℕ → Type 0
HasDead host p now rest s = IsTrue (host.tells Work) → (t : Levels) × StandsFor host p now rest t × IsSound t [] × IsDead t (t.core.entries s).name

-- ---- one object goes

-- The object of s went without being written, and then its entry: as if it had been written, evicted and given up.
pub record IsForgotten (s : ℕ) (old new : Core) : Type 0 where
  pub middle : Core
  pub core : IsCore middle
  pub stays : Stays (with_entry old s (written (old.entries s))) middle
  pub step : IsWithin s (with_entry old s (written (old.entries s))) middle
  pub within : IsWithin s old middle
  pub find : middle.find ≡ old.find
  pub idle : IsIdle middle s (old.entries s).name
  pub is : new ≡ without_leaf middle s (old.entries s).name

-- levels without the object of s, whose name n is
abbrev pub forgotten : Levels → Core → ℕ → ℕ → Levels
forgotten t c s n = record { core = without_leaf c s n; stored = put t.stored n None; pending = t.pending; next = t.next }

-- a name has no record, where its object is fresh, or one that may go
abbrev pub MayDrop : Bool → (ℕ → Option Stored) → List ℕ → ℕ → Type 0
MayDrop true stored pending name = stored name ≡ None
MayDrop false stored pending name = IsSome (stored name) × (times name pending ≡ 0)
