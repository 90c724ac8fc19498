-- How far a run comes. The order of the stages is the order of the run; a run ends at one of them, with one of its answers.
use Rattle.std.specs.Prelude.{ℕ, Bool, List, [], ◌∷◌, nat_le, nat_lt}
use Rattle.loom_host.specs.declared.outside.Role.{Role}
use Rattle.loom_host.specs.declared.outside.Role.TheVariants.{Image, Events, Work, Saved, Display, Transcript, Notes}
use Rattle.loom_words.specs.declared.status.Status.{Status}
use Rattle.loom_words.specs.declared.status.Status.TheVariants.{Done, Quit, ImageBad, EventsBad, Stuck, CoreFull, NamesSpent, WorkFull, ReadFault, WorkFault, WriteFault, OutOfMemory, Damaged}

pub data Stage : Type 0 where
  -- Work is attached.
  Opening : Stage
  -- Image is attached, and read to its end into Work.
  Reading : Stage
  -- Events is attached, and read to its end.
  Listening : Stage
  -- The memory is made.
  Making : Stage
  -- The machine starts, runs and parks, and its picture is drawn.
  Running : Stage
  -- Nothing is named from outside any more: what is dead is freed, and the rest is on the disk.
  Finishing : Stage
  -- Saved is attached and written.
  Saving : Stage
  -- Display is attached and written.
  Drawing : Stage
  -- The last line goes to Notes.
  Telling : Stage

abbrev pub place_of : Stage → ℕ
place_of Opening = 0
place_of Reading = 1
place_of Listening = 2
place_of Making = 3
place_of Running = 4
place_of Finishing = 5
place_of Saving = 6
place_of Drawing = 7
place_of Telling = 8

-- a run that ended at the second came to the first
abbrev pub reaches : Stage → Stage → Bool
reaches this last = nat_le (place_of this) (place_of last)

-- and went through it
abbrev pub passes : Stage → Stage → Bool
passes this last = nat_lt (place_of this) (place_of last)

-- where a role is first used; Notes is used at each end
abbrev pub stage_of : Role → Stage
stage_of Work = Opening
stage_of Image = Reading
stage_of Events = Listening
stage_of Transcript = Running
stage_of Saved = Saving
stage_of Display = Drawing
stage_of Notes = Telling

-- the roles with which something is done at a stage; where the machine is wound up nothing more is said, but its memory still holds Transcript
abbrev pub roles_at : Stage → List Role
roles_at Opening = Work ∷ []
roles_at Reading = Image ∷ Work ∷ []
roles_at Listening = Events ∷ []
roles_at Making = []
roles_at Running = Transcript ∷ Work ∷ []
roles_at Finishing = Transcript ∷ Work ∷ []
roles_at Saving = Saved ∷ Work ∷ []
roles_at Drawing = Display ∷ []
roles_at Telling = Notes ∷ []

-- those with which something is done where a run that went through is written
abbrev pub written_roles : List Role
written_roles = Saved ∷ Display ∷ Work ∷ []

-- ---- the answers of a stage

abbrev pub EndsReading : Status → Type 0
EndsReading (ImageBad rule place) = Unit {0}
EndsReading (ReadFault Image count) = Unit {0}
EndsReading (WorkFull live room) = Unit {0}
EndsReading (WorkFault count) = Unit {0}
EndsReading (Damaged place name) = Unit {0}
EndsReading OutOfMemory = Unit {0}
EndsReading _ = ⊥

abbrev pub EndsListening : Status → Type 0
EndsListening (EventsBad line) = Unit {0}
EndsListening (ReadFault Events count) = Unit {0}
EndsListening OutOfMemory = Unit {0}
EndsListening _ = ⊥

abbrev pub EndsRunning : Status → Type 0
EndsRunning (Stuck cause ran) = Unit {0}
EndsRunning (CoreFull ran need) = Unit {0}
EndsRunning (NamesSpent ran) = Unit {0}
EndsRunning (WorkFull live room) = Unit {0}
EndsRunning (WorkFault count) = Unit {0}
EndsRunning (WriteFault Transcript count) = Unit {0}
EndsRunning (Damaged place name) = Unit {0}
EndsRunning OutOfMemory = Unit {0}
EndsRunning _ = ⊥

abbrev pub EndsOpening : Status → Type 0
EndsOpening (WorkFault count) = Unit {0}
EndsOpening _ = ⊥

abbrev pub EndsFinishing : Status → Type 0
EndsFinishing (WorkFault count) = Unit {0}
EndsFinishing (Damaged place name) = Unit {0}
EndsFinishing _ = ⊥

abbrev pub EndsSaving : Status → Type 0
EndsSaving (WriteFault Saved count) = Unit {0}
EndsSaving (WorkFault count) = Unit {0}
EndsSaving (Damaged place name) = Unit {0}
EndsSaving OutOfMemory = Unit {0}
EndsSaving _ = ⊥

abbrev pub EndsDrawing : Status → Type 0
EndsDrawing (WriteFault Display count) = Unit {0}
EndsDrawing _ = ⊥

-- a run that went through, or whose last line couldn't be written
abbrev pub EndsTelling : Status → Type 0
EndsTelling (Done ran) = Unit {0}
EndsTelling (Quit ran) = Unit {0}
EndsTelling (WriteFault Notes count) = Unit {0}
EndsTelling _ = ⊥

abbrev pub EndsMaking : Status → Type 0
EndsMaking OutOfMemory = Unit {0}
EndsMaking _ = ⊥

abbrev pub Ends : Stage → Status → Type 0
Ends Opening status = EndsOpening status
Ends Reading status = EndsReading status
Ends Listening status = EndsListening status
Ends Making status = EndsMaking status
Ends Running status = EndsRunning status
Ends Finishing status = EndsFinishing status
Ends Saving status = EndsSaving status
Ends Drawing status = EndsDrawing status
Ends Telling status = EndsTelling status
