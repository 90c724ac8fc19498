-- When a guarded or a resumed run comes to the model's own end.
use Rattle.std.specs.Prelude.{ℕ, List}
use Rattle.long_names.specs.Counting.{Rose}
use Rattle.long_names.specs.Heap.{Heap}
use Rattle.loom_host.specs.declared.outside.Role.{Role}
use Rattle.image_format.specs.declared.opening.ImageHead.{ImageHead}
use Rattle.blue_model.specs.declared.event.Line.{Line}
use Rattle.machine_run.specs.States.{model_state}
use Rattle.guarded_run.specs.Course.{guarded_course}
use Rattle.loom_run.specs.Completes.{HasRoom}
use Rattle.loom_run.specs.Ends.{AreEvents, IsImageOf, IsRightImage}
use Rattle.loom_run.specs.Meanings.{Meanings}
use Rattle.loom_words.specs.Words.{Row}
use Rattle.loom_guard.specs.Vaults.{VaultMeanings}

-- The image is right and its objects have room, the events are right, what the model's guarded run does with them has room, and no call on a role or on the
-- vault failed. The checkpoint that it begins with has this serial, or 0 where there is none.
pub record CanEndKept (image events : List ℕ) (row : Row) (first : ℕ) (before now : Meanings) (old new : VaultMeanings) : Type 0 where
  pub right_image : IsRightImage row.room image
  pub right_events : (lines : List Line) × AreEvents events lines
  pub roomy : (head : ImageHead) (heap : Heap) (lines : List Line) → IsImageOf image head heap → AreEvents events lines → HasRoom row (guarded_course lines row.steps first (model_state head.state) heap)
  pub still : (role : Role) → Rose (before.faults role) (now.faults role) → ⊥
  pub vault_still : Rose old.faults new.faults → ⊥
