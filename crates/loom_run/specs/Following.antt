-- What the steps of a trace do, one after the other.
use Rattle.std.specs.Prelude.{◌≡◌, ℕ, ◌≤◌, Bool, true, false, List, length, Some, IfSome, IsTrue}
use Rattle.long_names.specs.Heap.{Heap}
use Rattle.image_format.specs.declared.opening.State.{State as Words}
use Rattle.loom_host.specs.Outside.{PutPrefix, RoleState, puts}
use Rattle.loom_host.specs.declared.outside.Role.{Role}
use Rattle.loom_host.specs.declared.outside.Role.TheVariants.{Notes, Saved, Transcript, Work}
use Rattle.object_memory.specs.Told.{Told}
use Rattle.blue_model.specs.declared.event.Line.{Line}
use Rattle.blue_model.specs.declared.step.Step.{Step}
use Rattle.blue_model.specs.declared.step.Step.TheVariants as step
use Rattle.blue_model.specs.State.{State}
use Rattle.blue_model.specs.Logs.{course}
use Rattle.machine_run.specs.States.{model_state}
use Rattle.loom_words.specs.Words.{Row}
use Rattle.loom_words.specs.declared.status.Status.{Status}
use Rattle.loom_words.specs.declared.status.Status.TheVariants.{Done, Quit, WriteFault}
use Rattle.loom_run.specs.Ends.{AttachedOnce, HasRun, IsCaused, IsDamaged, IsPastLimits, Stops, WasBegun, WasWritten}
use Rattle.loom_run.specs.Meanings.{IsLeft, Meanings}
use Rattle.loom_run.specs.Parts.{IsFinished}
use Rattle.loom_run.specs.Stages.{Opening, Running, Stage, passes, reaches}
use Rattle.loom_run.specs.Steps.{HasHeard, HasRead, IsOfRun}
use Rattle.loom_run.specs.Traced.{AreWhole, CountsRun, EndsFollowing, GoesAlong, SaysTraced, StopsWithin, TracesAt, is_untraced, lines_from, started, traced_stage, traced_word}

-- A trace came to this stage, or through it: each role up to it was attached once, by its word, and with the others nothing was done.
pub record UsesTrace (tells : Role → Bool) (before now : Meanings) (row : Row) (stage : Stage) : Type 0 where
  pub attached : (role : Role) → IsTrue (tells role) → IsTrue (reaches (traced_stage role) stage) → IfSome (traced_word row role) (λ text. AttachedOnce text (before.roles role) (now.roles role))
  pub named : IsTrue (tells Work) → IsTrue (passes Opening stage) → (now.roles Work).name ≡ Some row.work
  pub unused : (role : Role) → IsTrue (is_untraced role stage) → IsLeft role before now
  pub untold : IsLeft Notes before now
  pub later : (role : Role) → before.faults role ≤ now.faults role

-- Why a step was refused: by one of these answers, with its cause.
pub record IsTraceRefusal (tells : Role → Bool) (before now : Meanings) (row : Row) (Answers : Status → Type 0) (status : Status) : Type 0 where
  pub answer : Answers status
  pub of_run : IsOfRun status
  pub ran : HasRun status row.steps
  pub cause : IsCaused status before.faults now.faults
  pub whole : IsTrue (tells Work) → IsDamaged status → ⊥
  pub limits : IsPastLimits row status

-- how a machine that was traced came to its end
abbrev pub EndsFollowed : Status → Type 0
EndsFollowed (Done ran) = Unit {0}
EndsFollowed (Quit ran) = Unit {0}
EndsFollowed status = EndsFollowing status

abbrev pub status_along : Step → ℕ → Status
status_along step.Next ran = Done ran
status_along step.Quit ran = Quit ran
status_along step.Keep ran = Quit ran

-- its lines were put; a first part of them, where one couldn't be put whole
abbrev pub PutsBy : Status → List ℕ → RoleState → RoleState → Type 0
PutsBy (WriteFault Saved count) lines old new = PutPrefix lines old new
PutsBy _ lines old new = new ≡ puts lines old

-- What came of the machine over a memory is the model's, and so are the lines that were put to Saved, where that is told.
pub record FollowsAs (old new : Told) (row : Row) (status : Status) (events : List Line) (state : State) (heap : Heap) (tells : Bool) (first last : RoleState) : Type 0 where
  pub completed : ℕ
  pub few : completed ≤ row.steps
  pub counts : CountsRun status (course events row.steps state heap) completed
  pub stops : EndsFollowing status → Stops status row (course events row.steps state heap)
  pub within : StopsWithin status events row.steps completed (started state heap)
  pub goes : IsFinished status → GoesAlong status events row.steps completed (started state heap)
  pub says : IsTrue new.speaks → SaysTraced status row (course events row.steps state heap) completed old.transcript new.transcript
  pub lines : IsTrue tells → PutsBy status (lines_from events completed (started state heap)) first last
  pub whole : IsTrue tells → AreWhole events completed (started state heap) (length first.put) (length last.put)

-- Saved was attached once more, for them
abbrev pub WrittenSo : Status → List ℕ → List ℕ → RoleState → RoleState → Type 0
WrittenSo (WriteFault Saved count) text lines old new = WasBegun text lines old new
WrittenSo _ text lines old new = WasWritten text lines old new

-- the same of the roles of a host
pub record FollowsTo (tells : Role → Bool) (before now : Meanings) (row : Row) (status : Status) (events : List Line) (state : State) (heap : Heap) : Type 0 where
  pub completed : ℕ
  pub few : completed ≤ row.steps
  pub counts : CountsRun status (course events row.steps state heap) completed
  pub stops : EndsFollowing status → Stops status row (course events row.steps state heap)
  pub within : StopsWithin status events row.steps completed (started state heap)
  pub goes : IsFinished status → GoesAlong status events row.steps completed (started state heap)
  pub says : IsTrue (tells Transcript) → SaysTraced status row (course events row.steps state heap) completed (before.roles Transcript).put (now.roles Transcript).put
  pub lines : IsTrue (tells Saved) → WrittenSo status row.saved (lines_from events completed (started state heap)) (before.roles Saved) (now.roles Saved)
  pub whole : IsTrue (tells Saved) → AreWhole events completed (started state heap) 0 (length (now.roles Saved).put)

-- a line couldn't be put whole
abbrev pub is_cut : Status → Bool
is_cut (WriteFault Saved count) = true
is_cut _ = false

-- the machine went through
abbrev pub is_through : Status → Bool
is_through (Done ran) = true
is_through (Quit ran) = true
is_through _ = false

-- The machine of a trace came to its end, and Saved isn't ended yet.
pub record Followed (tells : Role → Bool) (before now : Meanings) (row : Row) (status : Status) (events : List Line) (words : Words) (heap : Heap) : Type 0 where
  pub uses : UsesTrace tells before now row Running
  pub read : HasRead tells now row words heap
  pub heard : HasHeard tells now row events
  pub refusal : IsTraceRefusal tells before now row EndsFollowed status
  pub follows : IsTrue (tells Work) → FollowsTo tells before now row status events (model_state words) heap

-- It ended at one of its stages, and nothing was put to Notes.
pub record TraceEnds (tells : Role → Bool) (before now : Meanings) (row : Row) (result : Status) : Type 0 where
  pub stage : Stage
  pub at : TracesAt tells before now row stage result
  pub of_run : IsOfRun result
  pub untold : IsLeft Notes before now
  pub later : (role : Role) → before.faults role ≤ now.faults role
