-- The trace of a run: a line for each of its bytecodes.
use Rattle.std.specs.Prelude.{zero, suc, ◌≡◌, ℕ, ◌+◌, ◌≤◌, List, [], ◌++◌, Result, Ok, Err, OnOk, IsTrue}
use Rattle.long_names.specs.Counting.{Rose}
use Rattle.loom_host.specs.Outside.{RoleState, PutPrefix, SameBut, puts}
use Rattle.loom_host.specs.declared.outside.Host.{Ghosts}
use Rattle.loom_host.specs.declared.outside.Role.TheVariants.{Saved}
use Rattle.object_memory.specs.Told.{Told, IsReady}
use Rattle.blue_model.specs.declared.cpu.Cpu.{Cpu}
use Rattle.blue_model.specs.declared.event.Line.{Line}
use Rattle.blue_model.specs.declared.step.Step.{Step}
use Rattle.blue_model.specs.declared.step.Step.TheVariants.{Next, Quit, Keep}
use Rattle.blue_model.specs.Cycle.{Run, Ran, Stopped, cycle}
use Rattle.blue_model.specs.Cycle as model
use Rattle.blue_model.specs.Machine.{Machine, Outcome, Go, Halt, Spent}
use Rattle.contexts.specs.Serves.{Stands, StaysSound}
use Rattle.loom_memory.specs.Memory.{IsSound, loom_lender, loom_outside, loom_told}
use Rattle.loom_memory.specs.declared.memory.LoomMemory.{LoomMemory}
use Rattle.machine_run.specs.Run.{FaultsBy, Reaches, RunsAs}
use Rattle.machine_run.specs.Sights.{sight_in}
use Rattle.machine_run.specs.declared.tracing.Sight.{Sight}
use Rattle.loom_words.specs.Trace.{trace_text}
use Rattle.loom_run.specs.declared.tracing.TraceStop.{TraceStop}
use Rattle.loom_run.specs.declared.tracing.TraceStop.TheVariants.{Stop, Write}

-- ---- the lines of a run

-- the line of a cycle, by where the machine stood before its bytecode
abbrev pub line_by : ℕ → Outcome Sight → List ℕ
line_by k (Go s m log) = trace_text k s.context s.ip s.byte
line_by k (Halt c log) = []
line_by k (Spent log) = []

-- the line of a machine's next cycle, where that comes to this: none where its bytecode isn't completed. Bytecodes are counted from the start
abbrev pub line_in : List Line → Machine → Outcome Step → List ℕ
line_in events m (Go end n log) = line_by (m.cpu.ran + 1) (sight_in events m)
line_in events m (Halt c log) = []
line_in events m (Spent log) = []

-- the line of the cycle after a run, which has none where it ended or stopped
abbrev pub line_after : List Line → Run → List ℕ
line_after events (Ran Next m) = line_in events m (cycle events m)
line_after events (Ran Quit m) = []
line_after events (Ran Keep m) = []
line_after events (Stopped m why log) = []

-- the lines of so many cycles, in order
unfoldable pub trace_of : List Line → ℕ → Machine → List ℕ
trace_of events zero m = []
trace_of events (suc n) m = trace_of events n m ++ line_after events (model.run events n m)

-- ---- what a trace that ended has to do with the model's run

-- The line of the last of so many bytecodes couldn't be put whole. They were all run, and the memory stands for the machine after them.
pub record CutsIn (events : List Line) (new : Told) (now : Cpu) (cycles : ℕ) (m : Machine) : Type 0 where
  pub done : ℕ
  pub end : Step
  pub machine : Machine
  pub few : done ≤ cycles
  pub ran : model.run events done m ≡ Ran end machine
  pub stands : Stands new now machine

-- a trace of at most so many cycles, with this answer, is that of the model's run
abbrev pub TracesAs : List Line → Told → Told → Cpu → ℕ → Machine → Result Step TraceStop → Type 0
TracesAs events old new now cycles m (Ok end) = Reaches events new now end cycles m
TracesAs events old new now cycles m (Err (Stop stop)) = RunsAs events old new now cycles m (Err stop)
TracesAs events old new now cycles m (Err (Write count)) = CutsIn events new now cycles m

-- these bytes were put; or a first part of them, where that failed
abbrev pub PutsText : {A : Type 0} → Result A TraceStop → List ℕ → RoleState → RoleState → Type 0
PutsText (Ok a) text old new = new ≡ puts text old
PutsText (Err (Stop stop)) text old new = new ≡ puts text old
PutsText (Err (Write count)) text old new = PutPrefix text old new

-- The lines of so many bytecodes were put. Where the last one couldn't be put whole, those before it were, and a first part of it.
abbrev pub PutsLines : List Line → Machine → Result Step TraceStop → ℕ → RoleState → RoleState → Type 0
PutsLines events m (Ok end) completed old new = new ≡ puts (trace_of events completed m) old
PutsLines events m (Err (Stop stop)) completed old new = new ≡ puts (trace_of events completed m) old
PutsLines events m (Err (Write count)) completed old new = (whole : ℕ) × (completed ≡ whole + 1) × PutPrefix (line_after events (model.run events whole m)) (puts (trace_of events whole m) old) new

-- the lines of a machine's bytecodes were put, as many as were run since so many before
pub record HasTraced (events : List Line) (result : Result Step TraceStop) (before now : ℕ) (m : Machine) (old new : RoleState) : Type 0 where
  pub completed : ℕ
  pub count : now ≡ before + completed
  pub lines : PutsLines events m result completed old new

-- why it ended before its end: a refusal as a run's, or a call on Saved that failed, whose faults were so many before it
abbrev pub EndsBy : Told → Told → ℕ → ℕ → TraceStop → Type 0
EndsBy old new before now (Stop stop) = FaultsBy old new stop
EndsBy old new before now (Write count) = (count ≡ now) × Rose before now

-- it did by a line that couldn't be put
abbrev pub IsUnwritten : ℕ → ℕ → TraceStop → Type 0
IsUnwritten before now (Stop stop) = ⊥
IsUnwritten before now (Write count) = (count ≡ now) × Rose before now

-- sound after every answer but a fault that leaves nothing known
abbrev pub TraceSound : {A : Type 0} → Result A TraceStop → Type 0 → Type 0
TraceSound (Ok a) P = P
TraceSound (Err (Stop stop)) P = StaysSound {A = Unit {0}} (Err stop) P
TraceSound (Err (Write count)) P = P

-- of a role nothing but what was put changed
abbrev pub OnlyPut : RoleState → RoleState → Type 0
OnlyPut old new = new ≡ record old { put = new.put }

-- The memory may be called again, but after a fault that leaves nothing known. Its loan is as before, and all that it leaves of its host but
-- Saved, whose faults don't fall.
pub record TraceFit {H A : Type 0} (host : Ghosts H) (old new : LoomMemory H host) (answer : Result A TraceStop) : Type 0 where
  pub sound : TraceSound answer (IsSound host new)
  pub ready : OnOk answer (IsReady (loom_told host new))
  pub lender : loom_lender new ≡ loom_lender old
  pub others : SameBut Saved (loom_outside host old) (loom_outside host new)
  pub faults : (loom_outside host old Saved).faults ≤ (loom_outside host new Saved).faults
  pub only : IsTrue (host.tells Saved) → OnlyPut (loom_outside host old Saved).role (loom_outside host new Saved).role
