-- What is left on disk where everything left a core from which nothing is named.
use Rattle.std.specs.Prelude.{ℕ, [], Option}
use Rattle.long_names.specs.Heap.{Heap}
use Rattle.long_names.specs.Kept.{kept, no_roots}
use Rattle.loom_host.specs.declared.outside.Host.{Ghosts}
use Rattle.disk_objects.specs.declared.rest.DiskRest.{DiskRest}
use Rattle.leaf_lambda.specs.declared.parts.Parts.{Parts}
use Rattle.core_view.specs.Levels.{Stored, Levels, heap_of}
use Rattle.core_view.specs.Counted.{IsSound}
use Rattle.core_view.specs.Dead.{IsImage}
use Rattle.delta_counts.specs.At.{IsStoredAt}
use Rattle.purger.specs.Counts.{StandsFor}

-- The disk has just the kept objects of a heap, with nothing as a root; each with its exact count, and none is pending.
pub record HasKept {H : Type 0} (host : Ghosts H) (now : H) (rest : DiskRest) (h : Heap) : Type 0 where
  pub stored : ℕ → Option Stored
  pub at : IsStoredAt host now rest stored []
  pub image : IsImage stored (kept h no_roots)

-- from all sound levels that stand there
abbrev pub LeavesKept : {H : Type 0} → Ghosts H → Parts → H → DiskRest → H → DiskRest → Type 0
LeavesKept host old before rest now after = (t : Levels) → StandsFor host old before rest t → IsSound t [] → HasKept host now after (heap_of t)
