-- What a run comes to that answers Done or Quit: the promise in seven lines, over a host that tells what Work and the five roles of these lines
-- hold, and that its files are those of its words. The clause `headline` of `loom` says so.
use Rattle.std.specs.Prelude.{◌≡◌, ℕ, List, ◌++◌, IsTrue, Bool, Some}
use Rattle.long_names.specs.Heap.{Heap}
use Rattle.loom_host.specs.declared.outside.Role.{Role}
use Rattle.loom_host.specs.declared.outside.Role.TheVariants.{Image, Events, Work, Saved, Display, Transcript}
use Rattle.image_format.specs.declared.opening.ImageHead.{ImageHead}
use Rattle.blue_model.specs.declared.event.Line.{Line}
use Rattle.blue_model.specs.declared.step.Step.{Step}
use Rattle.blue_model.specs.declared.step.Step.TheVariants as step
use Rattle.blue_model.specs.Machine.{Machine}
use Rattle.blue_model.specs.Cycle.{Parked, ending}
use Rattle.blue_model.specs.Logs.{AreWithin}
use Rattle.machine_run.specs.States.{model_state}
use Rattle.loom_run.specs.Ends.{AreEvents, IsImageOf, IsWhole, RunOf, WasRead, bytes_of, image_of}
use Rattle.loom_run.specs.Meanings.{Meanings}
use Rattle.loom_words.specs.Words.{Row}
use Rattle.loom_words.specs.declared.status.Status.{Status}
use Rattle.loom_words.specs.declared.status.Status.TheVariants.{Done, Quit}

-- Each role has the file of its word: Events was read to its end, and Work, Saved and Display were attached by theirs.
pub record HasFiles (row : Row) (now : Meanings) : Type 0 where
  pub events : WasRead row.events (now.roles Events)
  pub work : (now.roles Work).name ≡ Some row.work
  pub saved : (now.roles Saved).name ≡ Some row.saved
  pub display : (now.roles Display).name ≡ Some row.display

-- Of a heap with the head of its image, lines of events, a machine and a picture: this is what a run of this row of words read and wrote.
pub record Headline (before now : Meanings) (row : Row) (end : Step) (ran : ℕ) (head : ImageHead) (heap : Heap) (lines : List Line) (machine : Machine) (picture : List ℕ) : Type 0 where
  -- Its files are those of its words: Image, which was read to its end, and the others.
  pub read : WasRead row.image (now.roles Image)
  pub files : HasFiles row now
  -- Image holds the image of the heap, of either version.
  pub image : IsImageOf (bytes_of (now.roles Image)) head heap
  -- Events holds the lines.
  pub events : AreEvents (bytes_of (now.roles Events)) lines
  -- The Blue Book's machine over one unbounded memory of long names, started on this heap with the image's state under these lines, comes after
  -- so many bytecodes, or after the one that ends it, to the machine, which is parked, with the picture on its display.
  pub ending : ending lines row.steps (model_state head.state) heap ≡ Parked end machine picture
  -- It has counted as many as the answer says.
  pub count : machine.cpu.ran ≡ ran
  -- Transcript has what it said, behind what stood there before.
  pub transcript : (now.roles Transcript).put ≡ (before.roles Transcript).put ++ machine.transcript
  -- Saved holds the image of what is kept of its heap, with exact counts, and of its state, and is ended.
  pub saved : IsWhole (image_of machine) (now.roles Saved)
  -- Display holds the picture.
  pub display : (now.roles Display).put ≡ picture

-- there are such a heap, lines, machine and picture
abbrev pub HasHeadline : Meanings → Meanings → Row → Step → ℕ → Type 0
HasHeadline before now row end ran = (head : ImageHead) × (heap : Heap) × (lines : List Line) × (machine : Machine) × (picture : List ℕ) × Headline before now row end ran head heap lines machine picture

-- Done says that all bytecodes were run, and Quit that the last one ended the machine; of other answers nothing is said
abbrev pub HeadlineBy : Status → Meanings → Meanings → Row → Type 0
HeadlineBy (Done ran) before now row = HasHeadline before now row step.Next ran
HeadlineBy (Quit ran) before now row = HasHeadline before now row step.Quit ran
HeadlineBy _ before now row = Unit {0}

-- Two runs came to the same: the answer, what each put to Transcript, the saved image, and the picture.
pub record IsSameRun (old new before now : Meanings) (result status : Status) : Type 0 where
  pub answer : result ≡ status
  pub said : List ℕ
  pub first_said : (new.roles Transcript).put ≡ (old.roles Transcript).put ++ said
  pub second_said : (now.roles Transcript).put ≡ (before.roles Transcript).put ++ said
  pub saved : (new.roles Saved).put ≡ (now.roles Saved).put
  pub ended : (new.roles Saved).ended ≡ (now.roles Saved).ended
  pub display : (new.roles Display).put ≡ (now.roles Display).put

-- No object that the model makes in the run takes more words than the core has.
abbrev pub HasSmall : Meanings → Row → Type 0
HasSmall now row = RunOf (bytes_of (now.roles Image)) (bytes_of (now.roles Events)) row.steps (λ c. (k : ℕ) → AreWithin row.core (c.rows k))

-- Done and Quit say so
abbrev pub SmallBy : Status → Meanings → Row → Type 0
SmallBy (Done ran) now row = HasSmall now row
SmallBy (Quit ran) now row = HasSmall now row
SmallBy _ now row = Unit {0}

-- the host tells what Work and the five roles of the headline hold
pub record TellsHeadline (tells : Role → Bool) : Type 0 where
  pub image : IsTrue (tells Image)
  pub events : IsTrue (tells Events)
  pub work : IsTrue (tells Work)
  pub transcript : IsTrue (tells Transcript)
  pub saved : IsTrue (tells Saved)
  pub display : IsTrue (tells Display)
