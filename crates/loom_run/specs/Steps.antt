-- What the steps of a run do, one after the other: which roles were used by then, what was read, and what came of the machine.
use Rattle.std.specs.Prelude.{◌≡◌, ◌≢◌, ℕ, ◌≤◌, List, [], ◌++◌, Bool, Some, IfSome, IsTrue, IsFalse, Result, Ok, Err}
use Rattle.loom_host.specs.Outside.{RoleState, holds}
use Rattle.loom_host.specs.declared.outside.Role.{Role}
use Rattle.loom_host.specs.declared.outside.Role.TheVariants.{Image, Events, Work, Saved, Notes, Transcript}
use Rattle.long_names.specs.Heap.{Heap, object_count}
use Rattle.long_names.specs.Kept.{kept, no_roots}
use Rattle.long_names.specs.Thin.{IsThinner}
use Rattle.image_format.specs.declared.opening.ImageHead.{ImageHead}
use Rattle.image_format.specs.declared.opening.State.{State as Words}
use Rattle.image_format.specs.Valid.{IsImageHeap}
use Rattle.image_writer.specs.Saved.{saved_text}
use Rattle.image_reader.specs.Loaded.{IsLoadedHeap}
use Rattle.disk_objects.specs.Disk.{IsDisk, Objects}
use Rattle.disk_objects.specs.declared.rest.DiskRest.{DiskRest}
use Rattle.loom_host.specs.Work.{work_of}
use Rattle.loom_host.specs.declared.outside.Host.{Ghosts}
use Rattle.image_memory.specs.Image.{BeginsWith, IsStateOf}
use Rattle.object_memory.specs.Contract.{ForBounds}
use Rattle.object_memory.specs.Told.{Told}
use Rattle.blue_model.specs.declared.event.Line.{Line}
use Rattle.blue_model.specs.Logs.{Course}
use Rattle.blue_model.specs.Endings.{OnParked, OnDrawn, IsParkedBy, said_in}
use Rattle.machine_run.specs.States.{model_state, state_held}
use Rattle.machine_run.specs.declared.running.Finished.{Finished}
use Rattle.loom_run.specs.Ends.{AreEvents, AttachedOnce, HasRun, IsCaused, IsDamaged, IsImageOf, IsPastLimits, ReadsAt, RunsTo, SaysStopped, Stops, WasRead, WasWritten, bytes_of, head_of, image_of, word_for}
use Rattle.loom_run.specs.Converts.{ConvertsAt, IsAboveRoom, Reads, bytes_by, is_unused, path_for}
use Rattle.loom_run.specs.Makes.{Makes}
use Rattle.loom_run.specs.Meanings.{Meanings, IsLeft, LeavesBut}
use Rattle.loom_run.specs.Promise.{EndsAt}
use Rattle.loom_run.specs.declared.converting.Way.{Way}
use Rattle.loom_run.specs.Stages.{Stage, Opening, Reading, Making, Running, Finishing, Saving, Ends, passes, reaches, roles_at, stage_of}
use Rattle.loom_words.specs.Words.{MakeRow, Paths, Row}
use Rattle.loom_words.specs.declared.status.Status.{Status}
use Rattle.loom_words.specs.declared.status.Status.TheVariants.{Made, Listed, Assembled, Usage, ReadFault, WriteFault}

-- ---- the roles

-- of a role only the contents changed
abbrev pub IsSameFile : RoleState → RoleState → Type 0
IsSameFile old new = new ≡ holds new.contents old

-- A run came to this stage, or through it: each role up to it was attached once, by its word, and with the others nothing was done. Behind its
-- attach Work has its word as its name.
pub record Uses (tells : Role → Bool) (before now : Meanings) (row : Row) (stage : Stage) : Type 0 where
  pub attached : (role : Role) → IsTrue (tells role) → IsTrue (reaches (stage_of role) stage)
      → IfSome (word_for row role) (λ text. AttachedOnce text (before.roles role) (now.roles role))
  pub named : IsTrue (tells Work) → IsTrue (passes Opening stage) → (now.roles Work).name ≡ Some row.work
  pub unused : (role : Role) → IsFalse (reaches (stage_of role) stage) → IsLeft role before now
  pub later : (role : Role) → before.faults role ≤ now.faults role

-- an answer of a run that isn't about the words or the last line
abbrev pub IsOfRun : Status → Type 0
IsOfRun (Usage word) = ⊥
IsOfRun (Made objects) = ⊥
IsOfRun (Listed objects) = ⊥
IsOfRun (Assembled objects) = ⊥
IsOfRun (ReadFault role count) = role ≢ Notes
IsOfRun (WriteFault role count) = role ≢ Notes
IsOfRun _ = Unit {0}

-- Why a step was refused: by an answer of its stage, with its cause.
pub record IsRefusal (tells : Role → Bool) (before now : Meanings) (row : Row) (stage : Stage) (status : Status) : Type 0 where
  pub answer : Ends stage status
  pub of_run : IsOfRun status
  pub ran : HasRun status row.steps
  pub cause : IsCaused status before.faults now.faults
  pub whole : IsTrue (tells Work) → IsDamaged status → ⊥
  pub limits : IsPastLimits row status

-- at reading, of any run with this room; at another stage of any run
abbrev pub IsReadRefusal : (Role → Bool) → Meanings → Meanings → ℕ → Status → Type 0
IsReadRefusal tells before now room status = (row : Row) → row.room ≡ room → IsRefusal tells before now row Reading status

abbrev pub IsRefusalAt : (Role → Bool) → Meanings → Meanings → Stage → Status → Type 0
IsRefusalAt tells before now stage status = (row : Row) → IsRefusal tells before now row stage status

-- Image couldn't be attached
abbrev pub IsUnopened : Status → Type 0
IsUnopened (ReadFault Image count) = Unit {0}
IsUnopened _ = ⊥

-- nor Saved
abbrev pub IsUnsaved : Status → Type 0
IsUnsaved (WriteFault Saved count) = Unit {0}
IsUnsaved _ = ⊥

-- ---- what was read

-- The bytes of Image are those of an image of this heap, with this state, whose objects have room.
pub record IsRead (bytes : List ℕ) (room : ℕ) (state : Words) (heap : Heap) : Type 0 where
  pub head : ImageHead
  pub image : IsImageOf bytes head heap
  pub roomy : head.opening.objects ≤ room
  pub state_is : head.state ≡ state

-- Image was read to its end.
abbrev pub HasRead : (Role → Bool) → Meanings → Row → Words → Heap → Type 0
HasRead tells now row state heap = IsTrue (tells Image) → WasRead row.image (now.roles Image) × (IsTrue (tells Work) → IsRead (bytes_of (now.roles Image)) row.room state heap)

-- Events was read to its end, and its bytes are these lines.
abbrev pub HasHeard : (Role → Bool) → Meanings → Row → List Line → Type 0
HasHeard tells now row lines = IsTrue (tells Events) → WasRead row.events (now.roles Events) × AreEvents (bytes_of (now.roles Events)) lines

-- A run came to a stage, over a host from one moment to another. The bytes of Image are those of an image of this heap, with this state, and
-- those of Events are these lines.
pub record Came (tells : Role → Bool) (before now : Meanings) (row : Row) (stage : Stage) (state : Words) (heap : Heap) (lines : List Line) : Type 0 where
  pub uses : Uses tells before now row stage
  pub read : HasRead tells now row state heap
  pub heard : HasHeard tells now row lines

-- It ended at one of the stages before the memory is made, through which a run and a trace go alike.
pub record ReadEnds (tells : Role → Bool) (before now : Meanings) (row : Row) (result : Status) : Type 0 where
  pub stage : Stage
  pub early : IsTrue (passes stage Making)
  pub uses : Uses tells before now row stage
  pub refusal : IsRefusal tells before now row stage result
  pub reads : ReadsAt tells now row stage result

-- ---- the machine

-- A memory begins with the heap of an image, whose state this is.
pub record BeginsImage (h : Heap) (state : Words) (t : Told) : Type 0 where
  pub image : IsImageHeap h
  pub state_is : IsStateOf h state
  pub begins : BeginsWith h t

-- a memory has the bounds that the words state
abbrev pub HasBounds : Row → Told → Type 0
HasBounds row t = ForBounds t.bounds (λ b. (b.core ≡ row.core) × (b.entries ≡ row.entries) × (b.room ≡ row.room))

-- The machine's run went through over a memory, as the model's. What it said joined what had been said, and no object that it made is larger than
-- the core.
pub record WentThrough (old new : Told) (row : Row) (finished : Finished) (c : Course) : Type 0 where
  pub parked : IsParkedBy finished.end finished.ran c.ending
  pub heap : OnParked c.ending (λ m. IsThinner m.heap new.heap)
  pub drawn : OnDrawn c.ending (λ picture. finished.picture ≡ picture)
  pub state : OnParked c.ending (λ m. model_state finished.state ≡ state_held m.regs m.cpu)
  pub said : IsTrue new.speaks → new.transcript ≡ old.transcript ++ said_in c.ending
  pub fits : OnParked c.ending (λ m. m.largest ≤ row.core)

-- It was stopped, as the model's or by a fault that may come there.
pub record WasStopped (old new : Told) (row : Row) (status : Status) (c : Course) : Type 0 where
  pub stops : Stops status row c
  pub says : IsTrue new.speaks → SaysStopped status row c old.transcript new.transcript

-- A run came through its machine, as the model's over this course, and its memory is wound up; this heap is what it was left with. What is
-- kept of it, with the state, is the image that the model says.
pub record CameThrough (tells : Role → Bool) (before now : Meanings) (row : Row) (finished : Finished) (left : Heap) (c : Course) : Type 0 where
  pub parked : IsParkedBy finished.end finished.ran c.ending
  pub drawn : OnDrawn c.ending (λ picture. finished.picture ≡ picture)
  pub saves : OnParked c.ending (λ m. saved_text (kept left no_roots) finished.state ≡ image_of m)
  pub image : OnParked c.ending (λ m. IsImageOf (image_of m) (head_of m) (kept m.heap no_roots))
  pub said : IsTrue (tells Transcript) → (now.roles Transcript).put ≡ (before.roles Transcript).put ++ said_in c.ending
  pub fits : OnParked c.ending (λ m. m.largest ≤ row.core)

abbrev pub RunsAs : Told → Told → Row → Result Finished Status → Course → Type 0
RunsAs old new row (Ok finished) c = WentThrough old new row finished c
RunsAs old new row (Err status) c = WasStopped old new row status c

-- ---- the end of a run, before its last line

-- It ended at the machine's run or later, by what came of that over this course, and nothing was put to Notes.
pub record LateEnds (tells : Role → Bool) (before now : Meanings) (row : Row) (result : Status) (c : Course) : Type 0 where
  pub stage : Stage
  pub late : IsTrue (reaches Running stage)
  pub uses : Uses tells before now row stage
  pub refusal : IsRefusal tells before now row stage result
  pub untold : IsLeft Notes before now
  pub runs : IsTrue (tells Work) → RunsTo tells before now row stage result c

-- where it went through, and its memory was wound up
abbrev pub WrittenEnds : (Role → Bool) → Meanings → Meanings → Row → Status → Course → Type 0
WrittenEnds tells before now row result c = (end : LateEnds tells before now row result c) × IsTrue (passes Finishing end.stage)

-- It ended at one of its stages, and nothing was put to Notes.
pub record RunEnds (tells : Role → Bool) (before now : Meanings) (row : Row) (result : Status) : Type 0 where
  pub stage : Stage
  pub at : EndsAt tells before now row stage result
  pub of_run : IsOfRun result
  pub untold : IsLeft Notes before now
  pub later : (role : Role) → before.faults role ≤ now.faults role

-- ---- the end of a making, before its last line

-- an answer that isn't about the last line
abbrev pub IsOfMaking : Status → Type 0
IsOfMaking (WriteFault role count) = role ≢ Notes
IsOfMaking _ = Unit {0}

-- It ended with this answer, and nothing was put to Notes.
pub record MakeEnds (tells : Role → Bool) (before now : Meanings) (row : MakeRow) (result : Status) : Type 0 where
  pub makes : Makes tells before now row result
  pub of_making : IsOfMaking result
  pub untold : IsLeft Notes before now

-- ---- the end of a conversion, before its last line

-- Work was attached by its word, and nothing else was done.
pub record HasOpened (tells : Role → Bool) (before now : Meanings) (work : List ℕ) : Type 0 where
  pub attached : IsTrue (tells Work) → AttachedOnce work (before.roles Work) (now.roles Work)
  pub named : IsTrue (tells Work) → (now.roles Work).name ≡ Some work
  pub others : LeavesBut (roles_at Opening) before now

-- The disk is the heap of an image with exact counts, and nothing is pending.
pub record HasSource {H : Type 0} (host : Ghosts H) (now : H) (rest : DiskRest) (next : ℕ) : Type 0 where
  pub heap : IsTrue (host.tells Work) → IsLoadedHeap host now rest next
  pub idle : IsTrue (host.tells Work) → (objects : Objects) × IsDisk rest (work_of host now) objects []

-- an answer that isn't about the words or the last line
abbrev pub IsOfConversion : Status → Type 0
IsOfConversion (Usage word) = ⊥
IsOfConversion (ReadFault role count) = role ≢ Notes
IsOfConversion (WriteFault role count) = role ≢ Notes
IsOfConversion _ = Unit {0}

-- Why a step of a conversion was refused: by one of these answers, with its cause.
pub record IsRefusedBy (tells : Role → Bool) (before now : Meanings) (Answers : Status → Type 0) (status : Status) : Type 0 where
  pub answer : Answers status
  pub of_conversion : IsOfConversion status
  pub cause : IsCaused status before.faults now.faults
  pub whole : IsTrue (tells Work) → IsDamaged status → ⊥
  pub room : IsAboveRoom status

-- It ended at one of its stages, and nothing was put to Notes.
pub record ConversionEnds (tells : Role → Bool) (before now : Meanings) (way : Way) (paths : Paths) (result : Status) : Type 0 where
  pub stage : Stage
  pub at : ConvertsAt tells before now way paths stage result
  pub of_conversion : IsOfConversion result
  pub untold : IsLeft Notes before now
  pub later : (role : Role) → before.faults role ≤ now.faults role

-- A conversion came to this stage, or through it: each role up to it was attached once, by its word, and with the others nothing was done.
pub record UsesPaths (tells : Role → Bool) (before now : Meanings) (paths : Paths) (stage : Stage) : Type 0 where
  pub attached : (role : Role) → IsTrue (tells role) → IsTrue (reaches (stage_of role) stage) → IfSome (path_for paths role) (λ text. AttachedOnce text (before.roles role) (now.roles role))
  pub named : IsTrue (tells Work) → IsTrue (passes Opening stage) → (now.roles Work).name ≡ Some paths.work
  pub unused : (role : Role) → IsTrue (is_unused role stage) → IsLeft role before now
  pub untold : IsLeft Notes before now
  pub later : (role : Role) → before.faults role ≤ now.faults role

-- All was put, and Saved isn't ended yet: a heap and a state were read, and their bytes stand there.
pub record HasPut (tells : Role → Bool) (before now : Meanings) (way : Way) (paths : Paths) (objects : ℕ) : Type 0 where
  pub uses : UsesPaths tells before now paths Saving
  pub whole : IsTrue (tells Image) → WasRead paths.source (now.roles Image)
  pub heap : Heap
  pub state : Words
  pub read : IsTrue (tells Image) → IsTrue (tells Work) → Reads way (bytes_of (now.roles Image)) heap state × (objects ≡ object_count heap)
  pub put : IsTrue (tells Image) → IsTrue (tells Work) → IsTrue (tells Saved) → WasWritten paths.target (bytes_by way heap state) (before.roles Saved) (now.roles Saved)
