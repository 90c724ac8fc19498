-- What a trace shows that answers Done or Quit: the model's run, a line for each of its bytecodes, over a host that tells what Work and the four roles
-- of it hold. `a_trace_shows_the_run` of `laws` says that `Promise` gives it.
use Rattle.std.specs.Prelude.{◌≡◌, ℕ, List, ◌++◌, Bool, true, IsTrue}
use Rattle.long_names.specs.Heap.{Heap}
use Rattle.loom_host.specs.declared.outside.Role.{Role}
use Rattle.loom_host.specs.declared.outside.Role.TheVariants.{Image, Events, Work, Saved, Transcript}
use Rattle.image_format.specs.declared.opening.ImageHead.{ImageHead}
use Rattle.blue_model.specs.declared.event.Line.{Line}
use Rattle.blue_model.specs.declared.step.Step.{Step}
use Rattle.blue_model.specs.declared.step.Step.TheVariants as step
use Rattle.blue_model.specs.Machine.{LogRow, Machine, Go, at_rest}
use Rattle.blue_model.specs.State.{begin}
use Rattle.blue_model.specs.Cycle.{Ran, run}
use Rattle.blue_model.specs.Logs.{said_after}
use Rattle.machine_run.specs.States.{model_state}
use Rattle.loom_run.specs.Ends.{AreEvents, IsImageOf, MadeBy, bytes_of}
use Rattle.loom_run.specs.Meanings.{Meanings}
use Rattle.loom_run.specs.Traces.{trace_of}
use Rattle.loom_words.specs.Words.{Row}
use Rattle.loom_words.specs.declared.status.Status.{Status}
use Rattle.loom_words.specs.declared.status.Status.TheVariants.{Done, Quit}

-- Of a heap with the head of its image, lines of events, and the machine before its first bytecode and after so many: this is what a trace read and
-- wrote.
pub record Shows (before now : Meanings) (row : Row) (end : Step) (ran : ℕ) (head : ImageHead) (heap : Heap) (lines : List Line) (first last : Machine) : Type 0 where
  -- Image holds the image of the heap, of either version.
  pub image : IsImageOf (bytes_of (now.roles Image)) head heap
  -- Events holds the lines.
  pub events : AreEvents (bytes_of (now.roles Events)) lines
  -- The Blue Book's machine over one unbounded memory of long names, started on this heap with the image's state, is the first one.
  pub starts : (log : List LogRow) × (begin (model_state head.state) (at_rest heap) ≡ Go tt first log)
  -- Under these lines it comes after all the bytecodes that were asked for, or after the one that ends it, to the last one.
  pub runs : run lines row.steps first ≡ Ran end last
  -- That has counted as many as the answer says.
  pub count : last.cpu.ran ≡ ran
  -- Saved was attached by its word, has a line for each of them, in order, and no other byte, and is ended.
  pub trace : MadeBy true row.saved (trace_of lines ran first) (before.roles Saved) (now.roles Saved)
  -- Transcript has what the machine said in them, behind what stood there before.
  pub transcript : (now.roles Transcript).put ≡ (before.roles Transcript).put ++ said_after lines (model_state head.state) heap ran

-- there are such a heap, lines and machines
abbrev pub HasShown : Meanings → Meanings → Row → Step → ℕ → Type 0
HasShown before now row end ran = (head : ImageHead) × (heap : Heap) × (lines : List Line) × (first : Machine) × (last : Machine) × Shows before now row end ran head heap lines first last

-- Done says that all bytecodes were run, and Quit that the last one ended the machine; of other answers nothing is said
abbrev pub ShowsBy : Status → Meanings → Meanings → Row → Type 0
ShowsBy (Done ran) before now row = HasShown before now row step.Next ran
ShowsBy (Quit ran) before now row = HasShown before now row step.Quit ran
ShowsBy _ before now row = Unit {0}

-- the host tells what Work and these four roles hold
pub record TellsTrace (tells : Role → Bool) : Type 0 where
  pub image : IsTrue (tells Image)
  pub events : IsTrue (tells Events)
  pub work : IsTrue (tells Work)
  pub saved : IsTrue (tells Saved)
  pub transcript : IsTrue (tells Transcript)
