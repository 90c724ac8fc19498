-- What a guarded or a resumed run comes to that answers Done or Quit: the promise in eight lines, over a host that tells what Work and the roles of these lines
-- hold, and that its files are those of its words. The clauses `guarded` and `resumed` of `loom_kept` say so.
use Rattle.std.specs.Prelude.{◌≡◌, ℕ, ◌<◌, Bool, true, List, [], ◌++◌, None, Some, IfSome, IsTrue}
use Rattle.long_names.specs.Heap.{Heap}
use Rattle.loom_host.specs.declared.outside.Role.{Role}
use Rattle.loom_host.specs.declared.outside.Role.TheVariants.{Image, Events, Work, Saved, Display, Transcript}
use Rattle.image_format.specs.declared.opening.ImageHead.{ImageHead}
use Rattle.blue_model.specs.declared.event.Line.{Line}
use Rattle.blue_model.specs.declared.step.Step.{Step}
use Rattle.blue_model.specs.declared.step.Step.TheVariants as step
use Rattle.blue_model.specs.Cycle.{Parked}
use Rattle.blue_model.specs.Guarded.{guarded_on}
use Rattle.blue_model.specs.Machine.{Machine}
use Rattle.machine_run.specs.States.{model_state}
use Rattle.checkpoint.specs.Layout.{found, image_in}
use Rattle.checkpoint.specs.Vault.{VaultState, contents_of}
use Rattle.checkpoint.specs.declared.point.Point.{Point}
use Rattle.guarded_run.specs.Course.{guarded_course, serial_at}
use Rattle.guarded_run.specs.Legs.{guarded_first}
use Rattle.loom_words.specs.Words.{Row}
use Rattle.loom_words.specs.declared.status.Status.{Status}
use Rattle.loom_words.specs.declared.status.Status.TheVariants.{Done, Quit}
use Rattle.loom_run.specs.Ends.{AreEvents, IsImageOf, IsWhole, WasRead, bytes_of, image_of}
use Rattle.loom_run.specs.Headline.{HasFiles}
use Rattle.loom_run.specs.Meanings.{Meanings}
use Rattle.loom_guard.specs.Checkpoints.{IsCheckpointOf}
use Rattle.loom_guard.specs.Vaults.{HasLast}
use Rattle.loom_guard.specs.Ways.{Way, Guarding, Resuming}

-- The vault has the checkpoint of this serial, and a stop leaves it. The run began with an image, and its last checkpoint before that had the serial `first`: where
-- the serial is above it, the vault's image is that checkpoint of the model's run; where it is the same, the one that the run began with. At 0 there is none.
pub record HasCheckpoint (image events : List ℕ) (steps first : ℕ) (vault : VaultState) (serial : ℕ) : Type 0 where
  pub last : HasLast vault serial
  pub kept : first < serial → (point : Point) × (found (contents_of vault) ≡ Some point) × IsCheckpointOf image events steps first serial (image_in (contents_of vault) point)
  pub same : serial ≡ first → IfSome (found (contents_of vault)) (λ point. image_in (contents_of vault) point ≡ image)
  pub none : serial ≡ 0 → found (contents_of vault) ≡ None

-- Of a heap with the head of its image, lines of events, a machine and a picture: this is what a run of this row of words began with and wrote, whose last
-- checkpoint before it had the serial `first`, 0 where there was none.
pub record GuardedHeadline (way : Way) (image : List ℕ) (first : ℕ) (told : Bool) (before now : Meanings) (vault : VaultState) (row : Row) (end : Step) (ran : ℕ) (head : ImageHead) (heap : Heap) (lines : List Line) (machine : Machine) (picture : List ℕ) : Type 0 where
  -- Its files are those of its words: Image, which a guarded run has and read to its end, and the others.
  pub read : way ≡ Guarding → WasRead row.image (now.roles Image)
  pub files : HasFiles row now
  -- The bytes that it began with are the image of the heap, of either version.
  pub began : IsImageOf image head heap
  -- Events holds the lines.
  pub events : AreEvents (bytes_of (now.roles Events)) lines
  -- The Blue Book's machine over one unbounded memory of long names, started on this heap with the image's state under these lines, and loaded of itself behind
  -- each bytecode that did 97, comes after so many bytecodes, or after the one that ends it, to the machine, which is parked, with the picture on its display.
  pub ending : (guarded_course lines row.steps first (model_state head.state) heap).ending ≡ Parked end machine picture
  -- It has counted as many as the answer says.
  pub count : machine.cpu.ran ≡ ran
  -- Transcript has what it said, behind what stood there before.
  pub transcript : (now.roles Transcript).put ≡ (before.roles Transcript).put ++ machine.transcript
  -- Saved holds the image of what is kept of its heap, with exact counts, and of its state, and is ended.
  pub saved : IsWhole (image_of machine) (now.roles Saved)
  -- Display holds the picture.
  pub display : (now.roles Display).put ≡ picture
  -- The vault, where it tells what it holds, has the last checkpoint that this run kept, or the one that it began with, and a stop leaves it.
  pub kept : IsTrue told → HasCheckpoint image (bytes_of (now.roles Events)) row.steps first vault (serial_at (guarded_on lines row.steps (guarded_first first [] (model_state head.state) heap)))

-- there are such a heap, lines, machine and picture
abbrev pub HasGuardedHeadline : Way → List ℕ → ℕ → Bool → Meanings → Meanings → VaultState → Row → Step → ℕ → Type 0
HasGuardedHeadline way image first told before now vault row end ran =
    (head : ImageHead) × (heap : Heap) × (lines : List Line) × (machine : Machine) × (picture : List ℕ) × GuardedHeadline way image first told before now vault row end ran head heap lines machine picture

-- Done says that all bytecodes were run, and Quit that the last one ended the machine; of other answers nothing is said
abbrev pub GuardedHeadlineBy : Status → List ℕ → Bool → Meanings → Meanings → VaultState → Row → Type 0
GuardedHeadlineBy (Done ran) image told before now vault row = HasGuardedHeadline Guarding image 0 told before now vault row step.Next ran
GuardedHeadlineBy (Quit ran) image told before now vault row = HasGuardedHeadline Guarding image 0 told before now vault row step.Quit ran
GuardedHeadlineBy _ image told before now vault row = Unit {0}

-- A resumed run began with the checkpoint that its vault held, and goes on from its serial.
abbrev pub HasResumedHeadline : VaultState → Meanings → Meanings → VaultState → Row → Step → ℕ → Type 0
HasResumedHeadline old before now new row end ran = (point : Point) × (found (contents_of old) ≡ Some point) × HasGuardedHeadline Resuming (image_in (contents_of old) point) point.serial true before now new row end ran

abbrev pub ResumedHeadlineBy : Status → VaultState → Meanings → Meanings → VaultState → Row → Type 0
ResumedHeadlineBy (Done ran) old before now new row = HasResumedHeadline old before now new row step.Next ran
ResumedHeadlineBy (Quit ran) old before now new row = HasResumedHeadline old before now new row step.Quit ran
ResumedHeadlineBy _ old before now new row = Unit {0}

-- the host tells what Work and the roles of the headline hold, but for Image, which a resumed run doesn't have
pub record TellsGuarded (tells : Role → Bool) : Type 0 where
  pub events : IsTrue (tells Events)
  pub work : IsTrue (tells Work)
  pub transcript : IsTrue (tells Transcript)
  pub saved : IsTrue (tells Saved)
  pub display : IsTrue (tells Display)
