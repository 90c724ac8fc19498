-- The checkpoints of a guarded run.
use Rattle.std.specs.Prelude.{◌≡◌, ℕ, ◌+◌, ◌<◌, List, []}
use Rattle.long_names.specs.Heap.{Heap}
use Rattle.long_names.specs.Kept.{kept, no_roots}
use Rattle.image_format.specs.declared.opening.ImageHead.{ImageHead}
use Rattle.blue_model.specs.declared.event.Line.{Line}
use Rattle.blue_model.specs.declared.step.Step.TheVariants.{Next, Keep}
use Rattle.blue_model.specs.Machine.{Machine, LogRow, Go}
use Rattle.blue_model.specs.Contexts.{park}
use Rattle.blue_model.specs.Cycle.{cycle}
use Rattle.blue_model.specs.Guarded.{Guarded, Going, guarded_on}
use Rattle.guarded_run.specs.Legs.{guarded_first}
use Rattle.machine_run.specs.States.{model_state}
use Rattle.loom_run.specs.Ends.{AreEvents, IsImageOf, head_of, image_of}

-- The guarded run came to a bytecode that did 97, one of so many. The machine was kept under this serial, and this is the image of what is kept of it,
-- parked.
pub record IsCheckpoint (events : List Line) (steps : ℕ) (g : Guarded) (serial : ℕ) (image : List ℕ) : Type 0 where
  pub earlier : ℕ
  pub few : earlier < steps
  pub before : Machine
  pub last : ℕ
  pub rows : List LogRow
  pub was : guarded_on events earlier g ≡ Going Next before last rows
  pub machine : Machine
  pub log : List LogRow
  pub did : cycle events before ≡ Go Keep machine log
  pub parked : Machine
  pub more : List LogRow
  pub parks : park machine ≡ Go tt parked more
  pub next : serial ≡ last + 1
  pub is : image ≡ image_of parked
  -- and it is one: a resumed run may read it
  pub right : IsImageOf image (head_of parked) (kept parked.heap no_roots)

-- So many bytecodes of the guarded run were run, and the last of them did 97.
pub record HasDoneKeep (events : List Line) (g : Guarded) (ran : ℕ) : Type 0 where
  pub earlier : ℕ
  pub ran_is : ran ≡ earlier + 1
  pub before : Machine
  pub last : ℕ
  pub rows : List LogRow
  pub was : guarded_on events earlier g ≡ Going Next before last rows
  pub machine : Machine
  pub log : List LogRow
  pub did : cycle events before ≡ Go Keep machine log

-- These bytes are an image and an event list, and this is a checkpoint of the guarded run that they begin, where the last checkpoint before it had such a
-- serial.
pub record IsCheckpointOf (image events : List ℕ) (steps first : ℕ) (serial : ℕ) (kept : List ℕ) : Type 0 where
  pub head : ImageHead
  pub heap : Heap
  pub is : IsImageOf image head heap
  pub lines : List Line
  pub list : AreEvents events lines
  pub checkpoint : IsCheckpoint lines steps (guarded_first first [] (model_state head.state) heap) serial kept
