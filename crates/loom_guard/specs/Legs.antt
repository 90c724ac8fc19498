-- What the legs of a guarded run leave, one after the other: of a memory, and then of a host and a disk.
use Rattle.std.specs.Prelude.{◌≡◌, ◌⊎◌, ℕ, ◌+◌, ◌^◌, ◌<◌, ◌≤◌, Bool, true, false, List, ◌++◌, Result, Ok, Err, OnOk, IsTrue}
use Rattle.long_names.specs.Heap.{Heap}
use Rattle.long_names.specs.Kept.{kept, no_roots}
use Rattle.loom_host.specs.declared.outside.Role.{Role}
use Rattle.loom_host.specs.declared.outside.Role.TheVariants.{Work, Transcript}
use Rattle.image_format.specs.declared.opening.State.{State as Words}
use Rattle.image_writer.specs.Saved.{saved_text}
use Rattle.object_memory.specs.Told.{Told, IsReady}
use Rattle.object_memory.specs.declared.memory.ObjectMemory.{Ghosts}
use Rattle.blue_model.specs.declared.cpu.Cpu.{Cpu}
use Rattle.blue_model.specs.declared.event.Line.{Line}
use Rattle.blue_model.specs.Earlier.{course_with_earlier}
use Rattle.blue_model.specs.Endings.{HasCounted, IsParked, OnParked, said_in}
use Rattle.blue_model.specs.Guarded.{Guarded, guarded_on}
use Rattle.blue_model.specs.Logs.{Course}
use Rattle.blue_model.specs.Machine.{Machine}
use Rattle.blue_model.specs.State.{State, state_of}
use Rattle.contexts.specs.Keeping.{is_kept}
use Rattle.machine_run.specs.Run.{HaltsAs, GoesThrough}
use Rattle.machine_run.specs.States.{model_state, state_held, state_left}
use Rattle.machine_run.specs.declared.running.Halted.{Halted}
use Rattle.machine_run.specs.declared.running.Reason.{Reason}
use Rattle.machine_run.specs.declared.running.Reason.TheVariants.{ByStop, NoMemory}
use Rattle.guarded_run.specs.Course.{course_on, serial_at}
use Rattle.guarded_run.specs.Legs.{HasWhole, IsToKeep, KeepsSerial, guarded_first}
use Rattle.loom_words.specs.Words.{Row}
use Rattle.loom_words.specs.declared.status.Status.{Status}
use Rattle.loom_words.specs.declared.status.Status.TheVariants.{OutOfMemory}
use Rattle.loom_run.specs.Ends.{IsImageOf, SaysStopped, Stops, head_of, image_of}
use Rattle.loom_run.specs.Meanings.{Meanings}
use Rattle.loom_run.specs.Stages.{Stage, Running, Finishing}
use Rattle.loom_run.specs.Steps.{BeginsImage, CameThrough, IsRefusal, WasStopped, WentThrough}
use Rattle.loom_guard.specs.Checkpoints.{HasDoneKeep}
use Rattle.loom_guard.specs.Moments.{StopsAt}
use Rattle.loom_guard.specs.declared.legs.Leg.{Leg}
use Rattle.loom_guard.specs.declared.legs.Leg.TheVariants.{Kept, Ended}

-- ---- where a leg sets out

-- A later leg, with this serial: of the machine that is to be kept under it the memory before had kept all, and its state. This has been said by then.
pub record GoesOn (events : List Line) (g : Guarded) (serial : ℕ) (cpu : Cpu) (speaks : Bool) (said : List ℕ) (core : ℕ) (state : State) (h : Heap) : Type 0 where
  pub last : ℕ
  pub before : Told
  pub parked : Machine
  pub keep : IsToKeep events g last before cpu parked
  pub next : serial ≡ last + 1
  pub heap : h ≡ kept parked.heap no_roots
  pub state_is : state ≡ state_of parked
  pub said_is : IsTrue speaks → said ≡ parked.transcript
  pub fits : parked.largest ≤ core

-- A leg of a guarded run sets out from a heap and a state: the first at its beginning, any other from what was kept. The core has so many words.
abbrev pub SetsOut : Bool → List Line → Guarded → ℕ → Cpu → Bool → List ℕ → ℕ → State → Heap → Type 0
SetsOut true events g serial cpu speaks said core state h = g ≡ guarded_first serial said state h
SetsOut false events g serial cpu speaks said core state h = GoesOn events g serial cpu speaks said core state h

-- ---- over a memory

-- the memory of a leg, where no more than this had been said when the run began
abbrev pub told_since : List ℕ → Told → Told
told_since said t = record t { transcript = said }

-- The machine is to be kept: it was parked, the memory stands for it, and this is its state.
pub record IsToGoOn (events : List Line) (g : Guarded) (serial : ℕ) (new : Told) (now : Cpu) (state : Words) : Type 0 where
  pub parked : Machine
  pub keep : IsToKeep events g serial new now parked
  pub state_is : model_state state ≡ state_held parked.regs parked.cpu

-- What a leg came to, over any memory that tells its heap: c is the course of the guarded run, behind all that was said before it. Where it is the last, the
-- serial stays to the end.
abbrev pub LegAs : List Line → ℕ → Guarded → ℕ → Told → Cpu → Result Leg Halted → Course → Type 0
LegAs events steps g serial new now (Ok (Kept state)) c = IsToGoOn events g serial new now state
LegAs events steps g serial new now (Ok (Ended finished)) c = GoesThrough new finished c × (serial_at (guarded_on events steps g) ≡ serial)
LegAs events steps g serial new now (Err halted) c = HaltsAs halted.why halted.ran steps new c

-- Where a leg stopped, its serial is that of the model's last checkpoint, or the checkpoint after it wasn't kept. Where there was no memory for the picture, all that
-- the machine says was said.
abbrev pub KeepsSerialBy : List Line → Guarded → ℕ → ℕ → Reason → Type 0
KeepsSerialBy events g serial ran (ByStop stop) = KeepsSerial events g serial ran (Err stop)
KeepsSerialBy events g serial ran NoMemory = serial_at (guarded_on events ran g) ≡ serial

pub record LegStops (events : List Line) (steps : ℕ) (g : Guarded) (serial : ℕ) (new : Told) (halted : Halted) : Type 0 where
  pub serial_is : KeepsSerialBy events g serial halted.ran halted.why
  pub says : halted.why ≡ NoMemory → IsTrue new.speaks → new.transcript ≡ (course_on events steps g).said halted.ran

-- and over that of two levels: c is its course with nothing said before, and this had been said when it began
abbrev pub LegComes : List Line → Guarded → ℕ → Told → Cpu → Row → Result Leg Status → List ℕ → Course → Type 0
LegComes events g serial new now row (Ok (Kept state)) said c = IsToGoOn events g serial new now state
LegComes events g serial new now row (Ok (Ended finished)) said c = WentThrough (told_since said new) new row finished c × (serial_at (guarded_on events row.steps g) ≡ serial)
LegComes events g serial new now row (Err status) said c = WasStopped (told_since said new) new row status c

-- of so many bytecodes as many were run as are to be, unless the last one ended the machine; and it isn't to be kept
abbrev pub IsCounted : ℕ → Leg → Type 0
IsCounted steps (Kept state) = Unit {0}
IsCounted steps (Ended finished) = HasCounted finished.end finished.ran steps × (is_kept finished.end ≡ false)

-- the tick that its state has is of 32 bits
abbrev pub HasTick : Leg → Type 0
HasTick (Kept state) = state.tick < 2 ^ 32
HasTick (Ended finished) = finished.state.tick < 2 ^ 32

-- the machine is to be kept only where this is so
abbrev pub KeepsWhere : Type 0 → Leg → Type 0
KeepsWhere P (Kept state) = P
KeepsWhere P (Ended finished) = Unit {0}

-- what it leaves of its memory beside what it does
pub record LegFit {M : Type 0} (memory : Ghosts M) (old new : M) (answer : Result Leg Halted) : Type 0 where
  pub sound : OnOk answer (memory.sound new)
  pub ready : OnOk answer (IsReady (memory.told new))
  pub lender : memory.lender new ≡ memory.lender old
  pub outside : memory.outside new ≡ memory.outside old

-- ---- over a host and a disk

-- A machine is to be kept, and its memory is wound up: what is kept of this heap, with this state, is what is kept of the machine. It was parked, and what
-- the run had said by then was said.
pub record IsKeptIn (tells : Role → Bool) (now : Meanings) (core : ℕ) (events : List Line) (g : Guarded) (serial : ℕ) (cpu : Cpu) (state : Words) (left : Heap) : Type 0 where
  pub told : Told
  pub parked : Machine
  pub keep : IsToKeep events g serial told cpu parked
  pub heap : kept left no_roots ≡ kept parked.heap no_roots
  pub state_is : model_state state ≡ state_held parked.regs parked.cpu
  pub kept_state : state_left (kept left no_roots) (model_state state) ≡ state_of parked
  pub saves : saved_text (kept left no_roots) state ≡ image_of parked
  pub image : IsImageOf (image_of parked) (head_of parked) (kept parked.heap no_roots)
  pub said_is : IsTrue (tells Transcript) → (now.roles Transcript).put ≡ parked.transcript
  pub fits : parked.largest ≤ core

-- what a leg left, whose memory is wound up and was left with this heap
abbrev pub LegLeaves : (Role → Bool) → Meanings → Meanings → Row → List Line → Guarded → ℕ → Cpu → Leg → Heap → Course → Type 0
LegLeaves tells before now row events g serial cpu (Kept state) left c = IsKeptIn tells now row.core events g serial cpu state left
LegLeaves tells before now row events g serial cpu (Ended finished) left c = CameThrough tells before now row finished left c × (serial_at (guarded_on events row.steps g) ≡ serial)

-- A leg sets out in a guarded run that began with a whole machine: c is the course of that run with nothing said before it, and what was put to Transcript by
-- the first of these moments stands in front of it.
pub record IsUnderWay (tells : Role → Bool) (before : Meanings) (row : Row) (first : Bool) (events : List Line) (serial : ℕ) (cpu : Cpu) (said : List ℕ) (state : State) (h : Heap) (g : Guarded) (c : Course) : Type 0 where
  pub whole : HasWhole g
  pub course_is : course_on events row.steps g ≡ course_with_earlier (before.roles Transcript).put c
  pub sets_out : SetsOut first events g serial cpu (tells Transcript) said row.core state h

-- ---- why the run ended before its end

-- the machine stopped, or a fault came while it ran
pub record StopsRunning (tells : Role → Bool) (before now : Meanings) (row : Row) (status : Status) (c : Course) : Type 0 where
  pub stops : Stops status row c
  pub says : IsTrue (tells Transcript) → SaysStopped status row c (before.roles Transcript).put (now.roles Transcript).put

-- There was no memory for a checkpoint, behind a bytecode that did 97, or for a memory, there or before the first: what the machine had said by then was said.
pub record WantsMemory (tells : Role → Bool) (before now : Meanings) (row : Row) (lines : List Line) (g : Guarded) (status : Status) (c : Course) : Type 0 where
  pub status_is : status ≡ OutOfMemory
  pub ran : ℕ
  pub few : ran ≤ row.steps
  pub at : (ran ≡ 0) ⊎ HasDoneKeep lines g ran
  pub says : IsTrue (tells Transcript) → (now.roles Transcript).put ≡ (before.roles Transcript).put ++ c.said ran

-- the run went through, and then its memory couldn't be wound up
pub record StopsFinishing (tells : Role → Bool) (before now : Meanings) (row : Row) (c : Course) : Type 0 where
  pub parked : IsParked c.ending
  pub fits : OnParked c.ending (λ m. m.largest ≤ row.core)
  pub said : IsTrue (tells Transcript) → (now.roles Transcript).put ≡ (before.roles Transcript).put ++ said_in c.ending

-- to which bytecode the checkpoint of this serial belongs, by what was put to Transcript
abbrev pub StopsBetween : (Role → Bool) → Meanings → Meanings → Row → List Line → Guarded → ℕ → Status → Course → Type 0
StopsBetween tells before now row lines g serial status c = StopsAt (tells Transcript) row.steps lines g c (before.roles Transcript).put (now.roles Transcript).put serial status

-- What is said of the run, by the stage at which it ended, where this is the serial of its last checkpoint.
abbrev pub HaltsAt : Stage → (Role → Bool) → Meanings → Meanings → Row → List Line → Guarded → ℕ → Status → Course → Type 0
HaltsAt Running tells before now row lines g serial status c = (StopsRunning tells before now row status c ⊎ WantsMemory tells before now row lines g status c) × StopsBetween tells before now row lines g serial status c
HaltsAt Finishing tells before now row lines g serial status c = StopsFinishing tells before now row c × (serial_at (guarded_on lines row.steps g) ≡ serial)
HaltsAt _ tells before now row lines g serial status c = ⊥

-- A run from one moment to another ended at one of these two stages, with this answer. Where P says of which guarded run, it is what becomes of that,
-- whose last checkpoint has this serial.
pub record Halts (tells : Role → Bool) (old now : Meanings) (row : Row) (lines : List Line) (P : Meanings → Guarded → Course → Type 0) (serial : ℕ) (status : Status) : Type 0 where
  pub stage : Stage
  pub late : (stage ≡ Running) ⊎ (stage ≡ Finishing)
  pub refusal : IsRefusal tells old now row stage status
  pub of_run : (before : Meanings) (g : Guarded) (c : Course) → P before g c → HaltsAt stage tells before now row lines g serial status c

-- one that set out in a leg over a memory that tells this, or over a host that tells Work, from this heap
abbrev pub FromMemory : (Role → Bool) → Row → Bool → List Line → ℕ → Cpu → Told → Words → Meanings → Guarded → Course → Type 0
FromMemory tells row first events serial cpu t state before g c = (h : Heap) × IsTrue (tells Work) × BeginsImage h state t × IsUnderWay tells before row first events serial cpu t.transcript (model_state state) h g c

abbrev pub FromDisk : (Role → Bool) → Row → Bool → List Line → ℕ → Cpu → List ℕ → Words → Heap → Meanings → Guarded → Course → Type 0
FromDisk tells row first events serial cpu said state h before g c = IsTrue (tells Work) × IsUnderWay tells before row first events serial cpu said (model_state state) h g c
