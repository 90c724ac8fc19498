-- When a run or a trace comes to the model's own end, a making to its image, and a listing or an assembling to what it writes.
use Rattle.std.specs.Prelude.{◌≡◌, ℕ, ◌≤◌, List}
use Rattle.long_names.specs.Counting.{Rose}
use Rattle.long_names.specs.Heap.{Heap, object_count}
use Rattle.long_names.specs.Need.{Fits}
use Rattle.loom_host.specs.declared.outside.Role.{Role}
use Rattle.image_format.specs.declared.opening.ImageHead.{ImageHead}
use Rattle.object_memory.specs.declared.fault.Need.{Need}
use Rattle.blue_model.specs.declared.event.Line.{Line}
use Rattle.blue_model.specs.Logs.{Course, IsLive, course}
use Rattle.contexts.specs.Serves.{IsLogged}
use Rattle.machine_run.specs.States.{model_state}
use Rattle.image_format.specs.Rules.{IsValidImage}
use Rattle.text_lines.specs.Texts.{IsImageText}
use Rattle.loom_run.specs.declared.converting.Way.{Way}
use Rattle.loom_run.specs.declared.converting.Way.TheVariants.{Listing, Assembling}
use Rattle.loom_run.specs.Ends.{AreEvents, IsImageOf, IsRightImage}
use Rattle.loom_words.specs.Words.{Row}
use Rattle.loom_words.specs.declared.status.Status.{Status}
use Rattle.loom_gen.specs.Generated.{generated}
use Rattle.loom_words.specs.declared.status.Status.TheVariants.{Done, Quit, Made, Listed, Assembled, Stuck, NamesSpent, OutOfMemory}

-- each row of a course fits the core, and at each of its makings as many objects live as there is room for
pub record HasRoom (row : Row) (c : Course) : Type 0 where
  pub rows : (k : ℕ) (need : Need) → IsLogged need (c.rows k) → Fits row.core row.entries need.words need.entries
  pub lives : (k live : ℕ) → IsLive live (c.lives k) → live ≤ row.room

-- The image is right and its objects have room, the events are right, what the model does with them has room, and no call on a role failed.
pub record CanEnd (image events : List ℕ) (row : Row) (before now : Role → ℕ) : Type 0 where
  pub right_image : IsRightImage row.room image
  pub right_events : (lines : List Line) × AreEvents events lines
  pub roomy : (head : ImageHead) (heap : Heap) (lines : List Line) → IsImageOf image head heap → AreEvents events lines → HasRoom row (course lines row.steps (model_state head.state) heap)
  pub still : (role : Role) → Rose (before role) (now role) → ⊥

-- the model's own end, or want of memory
abbrev pub IsOwnEnd : Status → Type 0
IsOwnEnd (Done ran) = Unit {0}
IsOwnEnd (Quit ran) = Unit {0}
IsOwnEnd (Stuck cause ran) = Unit {0}
IsOwnEnd (NamesSpent ran) = Unit {0}
IsOwnEnd OutOfMemory = Unit {0}
IsOwnEnd _ = ⊥

-- Made, with as many objects as the image of the number has, or want of memory
abbrev pub IsMadeOf : ℕ → Status → Type 0
IsMadeOf number (Made objects) = objects ≡ object_count (generated number)
IsMadeOf number OutOfMemory = Unit {0}
IsMadeOf number _ = ⊥

-- the bytes are an image, or the text of one
abbrev pub IsSource : Way → List ℕ → Type 0
IsSource Listing bytes = IsValidImage bytes
IsSource Assembling bytes = IsImageText bytes

abbrev pub IsListed : Status → Type 0
IsListed (Listed objects) = Unit {0}
IsListed OutOfMemory = Unit {0}
IsListed _ = ⊥

abbrev pub IsAssembled : Status → Type 0
IsAssembled (Assembled objects) = Unit {0}
IsAssembled OutOfMemory = Unit {0}
IsAssembled _ = ⊥

-- Listed, or Assembled, or want of memory
abbrev pub IsConverted : Way → Status → Type 0
IsConverted Listing status = IsListed status
IsConverted Assembling status = IsAssembled status
