-- What a trace leaves of the roles of its host, by the stage at which it ended and its answer. It comes as far as a run does until the memory
-- is made; before that Saved is attached, for its lines. It saves no image and draws nothing.
use Rattle.std.specs.Prelude.{◌≡◌, ◌≢◌, ◌⊎◌, ℕ, ◌+◌, ◌≤◌, ◌<◌, Bool, true, false, not, List, [], ◌++◌, length, Option, None, Some, IfSome, IsTrue}
use Rattle.long_names.specs.Counting.{Rose}
use Rattle.long_names.specs.Heap.{Heap}
use Rattle.image_format.specs.declared.opening.ImageHead.{ImageHead}
use Rattle.loom_host.specs.Outside.{PutPrefix, RoleState, ends}
use Rattle.loom_host.specs.declared.outside.Role.{Role}
use Rattle.loom_host.specs.declared.outside.Role.TheVariants.{Image, Events, Work, Saved, Display, Transcript, Notes}
use Rattle.blue_model.specs.declared.event.Line.{Line}
use Rattle.blue_model.specs.declared.step.Step.{Step}
use Rattle.blue_model.specs.declared.step.Step.TheVariants as step
use Rattle.blue_model.specs.Machine.{Machine, Outcome, Go, Halt, Spent, at_rest, log_of}
use Rattle.blue_model.specs.State.{State, begin}
use Rattle.blue_model.specs.Cycle.{Ran}
use Rattle.blue_model.specs.Cycle as model
use Rattle.blue_model.specs.Logs.{Course, IsLive, course}
use Rattle.machine_run.specs.States.{model_state}
use Rattle.contexts.specs.Serves.{IsLogged}
use Rattle.loom_words.specs.Status.{line_of}
use Rattle.loom_words.specs.Words.{Row}
use Rattle.loom_words.specs.declared.status.Status.{Status}
use Rattle.loom_words.specs.declared.status.Status.TheVariants.{Done, Quit, Stuck, CoreFull, NamesSpent, WorkFull, WorkFault, WriteFault, OutOfMemory, Damaged}
use Rattle.loom_run.specs.Ends.{AreEvents, AttachedOnce, IsAnswered, IsImageOf, MadeBy, ReadsAt, Stops, WasBegun, WasRefused, WasWritten, bytes_of}
use Rattle.loom_run.specs.Meanings.{Meanings, IsLeft}
use Rattle.loom_run.specs.Stages.{Stage, Opening, Reading, Listening, Making, Running, Finishing, Saving, Drawing, Telling, EndsListening, EndsOpening, EndsReading, EndsTelling, passes, reaches}
use Rattle.loom_run.specs.Traces.{trace_of}

-- ---- the roles

-- where a role is first used
abbrev pub traced_stage : Role → Stage
traced_stage Work = Opening
traced_stage Image = Reading
traced_stage Events = Listening
traced_stage Saved = Making
traced_stage Transcript = Running
traced_stage Display = Drawing
traced_stage Notes = Telling

-- the word by which it is attached
abbrev pub traced_word : Row → Role → Option (List ℕ)
traced_word row Image = Some row.image
traced_word row Events = Some row.events
traced_word row Work = Some row.work
traced_word row Saved = Some row.saved
traced_word row Display = None
traced_word row Transcript = None
traced_word row Notes = None

-- nothing is done with a role by this stage
abbrev pub is_untraced : Role → Stage → Bool
is_untraced Image stage = not (reaches Reading stage)
is_untraced Events stage = not (reaches Listening stage)
is_untraced Work stage = not (reaches Opening stage)
is_untraced Saved stage = not (reaches Making stage)
is_untraced Display stage = true
is_untraced Transcript stage = not (reaches Running stage)
is_untraced Notes stage = false

-- ---- the answers of a stage

abbrev pub EndsPreparing : Status → Type 0
EndsPreparing (WriteFault Saved count) = Unit {0}
EndsPreparing OutOfMemory = Unit {0}
EndsPreparing _ = ⊥

abbrev pub EndsFollowing : Status → Type 0
EndsFollowing (Stuck cause ran) = Unit {0}
EndsFollowing (CoreFull ran need) = Unit {0}
EndsFollowing (NamesSpent ran) = Unit {0}
EndsFollowing (WorkFull live room) = Unit {0}
EndsFollowing (WorkFault count) = Unit {0}
EndsFollowing (WriteFault Transcript count) = Unit {0}
EndsFollowing (WriteFault Saved count) = Unit {0}
EndsFollowing (Damaged place name) = Unit {0}
EndsFollowing _ = ⊥

abbrev pub EndsTrace : Stage → Status → Type 0
EndsTrace Opening status = EndsOpening status
EndsTrace Reading status = EndsReading status
EndsTrace Listening status = EndsListening status
EndsTrace Making status = EndsPreparing status
EndsTrace Running status = EndsFollowing status
EndsTrace Finishing status = ⊥
EndsTrace Saving status = ⊥
EndsTrace Drawing status = ⊥
EndsTrace Telling status = EndsTelling status

-- ---- the machine

-- the machine starts with this state over a heap at rest
abbrev pub started : State → Heap → Outcome (Unit {0})
started state heap = begin state (at_rest heap)

-- and comes to so many bytecodes, of at most this many: the last of them gave this step
abbrev pub ComesTo : List Line → ℕ → Step → ℕ → Outcome (Unit {0}) → Type 0
ComesTo events steps end ran (Go a m log) = (n : Machine) × (model.run events steps m ≡ Ran end n) × (n.cpu.ran ≡ ran)
ComesTo events steps end ran (Halt c log) = ⊥
ComesTo events steps end ran (Spent log) = ⊥

-- the lines of so many of its bytecodes
abbrev pub lines_from : List Line → ℕ → Outcome (Unit {0}) → List ℕ
lines_from events k (Go a m log) = trace_of events k m
lines_from events k (Halt c log) = []
lines_from events k (Spent log) = []

-- as many bytecodes were run as the answer says; of a want of room, that so many objects live at a making of the next one
abbrev pub CountsRun : Status → Course → ℕ → Type 0
CountsRun (Done ran) c completed = completed ≡ ran
CountsRun (Quit ran) c completed = completed ≡ ran
CountsRun (Stuck cause ran) c completed = completed ≡ ran
CountsRun (CoreFull ran need) c completed = completed ≡ ran
CountsRun (NamesSpent ran) c completed = completed ≡ ran
CountsRun (WorkFull live room) c completed = IsLive live (c.lives completed)
CountsRun _ c completed = Unit {0}

-- it went through: to its last bytecode with Done, to the one that ended it with Quit
abbrev pub GoesAlong : Status → List Line → ℕ → ℕ → Outcome (Unit {0}) → Type 0
GoesAlong (Done ran) events steps completed o = ComesTo events steps step.Next completed o
GoesAlong (Quit ran) events steps completed o = ComesTo events steps step.Quit completed o
GoesAlong _ events steps completed o = (end : Step) × ComesTo events steps end completed o

-- What stopped it is the start, or the next of the bytecodes that were asked for: parking and drawing, which a run does behind its last one, are no
-- part of a trace.
abbrev pub IsWithin : List Line → ℕ → ℕ → Outcome (Unit {0}) → Type 0
IsWithin events steps completed (Go a m log) = (completed < steps) × ComesTo events completed step.Next completed (Go a m log)
IsWithin events steps completed (Halt c log) = completed ≡ 0
IsWithin events steps completed (Spent log) = completed ≡ 0

abbrev pub StopsWithin : Status → List Line → ℕ → ℕ → Outcome (Unit {0}) → Type 0
StopsWithin (Stuck cause ran) events steps completed o = IsWithin events steps completed o
StopsWithin (NamesSpent ran) events steps completed o = IsWithin events steps completed o
StopsWithin (CoreFull ran need) events steps completed o = IsLogged need (log_of o) ⊎ IsWithin events steps completed o
StopsWithin _ events steps completed o = Unit {0}

-- The bytes put to Transcript are what the machine said in them. Where Transcript failed, the next one says something, and a part of that stands
-- there too.
abbrev pub SaysTraced : Status → Row → Course → ℕ → List ℕ → List ℕ → Type 0
SaysTraced (WriteFault Transcript count) row c completed old new = (part : List ℕ) × (rest : List ℕ) × (completed < row.steps) × (new ≡ old ++ (c.said completed ++ part)) × (c.said (completed + 1) ≡ (c.said completed ++ part) ++ rest) × (c.said (completed + 1) ≢ c.said completed)
SaysTraced status row c completed old new = new ≡ old ++ c.said completed

-- Their lines stand behind one another, and Saved is ended where the trace went through. A first part of them stands there where one couldn't be
-- put whole, or Saved couldn't be ended. After a stop it is ended too, unless that failed.
abbrev pub HasLines : Status → ℕ → ℕ → List ℕ → List ℕ → RoleState → RoleState → Type 0
HasLines (Done ran) before now text lines old new = MadeBy true text lines old new
HasLines (Quit ran) before now text lines old new = MadeBy true text lines old new
HasLines (WriteFault Saved count) before now text lines old new = WasBegun text lines old new
HasLines (WriteFault Notes count) before now text lines old new = MadeBy true text lines old new
HasLines _ before now text lines old new = (put : RoleState) × WasWritten text lines old put × ((new ≡ ends put) ⊎ ((new ≡ put) × Rose before now))

-- but for the last of them their lines were put whole, behind so many bytes: so nothing was run behind a line that couldn't be put
abbrev pub AreWhole : List Line → ℕ → Outcome (Unit {0}) → ℕ → ℕ → Type 0
AreWhole events completed o before bytes = (earlier : ℕ) × (completed ≤ earlier + 1) × (before + length (lines_from events earlier o) ≤ bytes)

-- the last line, where it couldn't be written, is that of this end, with its count
abbrev pub CutsTraced : Status → List Line → ℕ → ℕ → Outcome (Unit {0}) → RoleState → RoleState → Type 0
CutsTraced (WriteFault Notes count) events steps completed o old new = (ComesTo events steps step.Next completed o × PutPrefix (line_of (Done completed)) old new) ⊎ (ComesTo events steps step.Quit completed o × PutPrefix (line_of (Quit completed)) old new)
CutsTraced _ events steps completed o old new = Unit {0}

-- What a trace came to, as far as it came: that is the model's, of the run with the same image, events and words. So many of its bytecodes were
-- run, what they said is in Transcript, and their lines are in Saved.
pub record TracesTo (tells : Role → Bool) (before now : Meanings) (row : Row) (stage : Stage) (status : Status) (events : List Line) (state : State) (heap : Heap) : Type 0 where
  pub completed : ℕ
  pub few : completed ≤ row.steps
  -- It stopped for the reason that the answer says, in the start or in the next bytecode, or went through.
  pub counts : CountsRun status (course events row.steps state heap) completed
  pub stops : stage ≡ Running → Stops status row (course events row.steps state heap)
  pub within : StopsWithin status events row.steps completed (started state heap)
  pub goes : IsTrue (passes Running stage) → GoesAlong status events row.steps completed (started state heap)
  -- What they said, and their lines, stand on their roles; and the last line, where it couldn't be written, is begun.
  pub says : IsTrue (tells Transcript) → SaysTraced status row (course events row.steps state heap) completed (before.roles Transcript).put (now.roles Transcript).put
  pub lines : IsTrue (tells Saved) → HasLines status (before.faults Saved) (now.faults Saved) row.saved (lines_from events completed (started state heap)) (before.roles Saved) (now.roles Saved)
  pub whole : IsTrue (tells Saved) → AreWhole events completed (started state heap) 0 (length (now.roles Saved).put)
  pub cuts : IsTrue (tells Notes) → CutsTraced status events row.steps completed (started state heap) (before.roles Notes) (now.roles Notes)

-- The bytes of the image and of the events are those of an image and of an event list, and P holds of the lines, the state and the heap.
pub record TraceOf (image events : List ℕ) (P : List Line → State → Heap → Type 0) : Type 0 where
  pub head : ImageHead
  pub heap : Heap
  pub is : IsImageOf image head heap
  pub lines : List Line
  pub list : AreEvents events lines
  pub trace : P lines (model_state head.state) heap

-- where the memory isn't made, Saved has nothing: it couldn't be attached, or nothing was put
abbrev pub IsUnmade : Status → List ℕ → RoleState → RoleState → Type 0
IsUnmade (WriteFault Saved count) text old new = WasRefused text old new
IsUnmade _ text old new = WasWritten text [] old new

-- A trace of right words ended at this stage, with this answer. What it says is what `EndsAt` says of a run, as far as a trace comes.
pub record TracesAt (tells : Role → Bool) (before now : Meanings) (row : Row) (stage : Stage) (result : Status) : Type 0 where
  pub answer : EndsTrace stage result
  pub answered : IsAnswered tells before now row result
  pub attached : (role : Role) → IsTrue (tells role) → IsTrue (reaches (traced_stage role) stage) → IfSome (traced_word row role) (λ text. AttachedOnce text (before.roles role) (now.roles role))
  pub unused : (role : Role) → IsTrue (is_untraced role stage) → IsLeft role before now
  pub reads : ReadsAt tells now row stage result
  -- Where it ended before the memory was made, Saved has no line.
  pub unmade : IsTrue (tells Saved) → stage ≡ Making → IsUnmade result row.saved (before.roles Saved) (now.roles Saved)
  -- And then what comes of the machine is the model's, and so are the bytes of Transcript and Saved: `TracesTo` says how.
  pub trace : IsTrue (tells Image) → IsTrue (tells Events) → IsTrue (tells Work) → IsTrue (reaches Running stage)
      → TraceOf (bytes_of (now.roles Image)) (bytes_of (now.roles Events)) (TracesTo tells before now row stage result)
