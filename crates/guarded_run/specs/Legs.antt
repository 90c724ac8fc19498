-- A guarded run over memories, leg by leg: each leg has a memory of its own, and goes from a start to the next checkpoint or to the end.
use Rattle.std.specs.Prelude.{◌≡◌, ◌⊎◌, ℕ, ◌+◌, ◌≤◌, nat_lt, List, Result, Ok, Err, IsTrue}
use Rattle.long_names.specs.Heap.{Heap}
use Rattle.long_names.specs.Kept.{kept, no_roots}
use Rattle.object_memory.specs.Told.{Told}
use Rattle.object_memory.specs.Contract.{IfBounds}
use Rattle.object_memory.specs.declared.fault.MemFault.TheVariants.{CoreFull, WorkFull, WorkFault, Damaged, NamesSpent, Said, Memory}
use Rattle.blue_model.specs.declared.cpu.Cpu.{Cpu}
use Rattle.blue_model.specs.declared.event.Line.{Line}
use Rattle.blue_model.specs.declared.limits.TheConstants.{LAST_SERIAL}
use Rattle.blue_model.specs.declared.step.Step.{Step}
use Rattle.blue_model.specs.declared.step.Step.TheVariants.{Next, Quit, Keep}
use Rattle.blue_model.specs.Machine.{Machine, LogRow, Go, log_of}
use Rattle.blue_model.specs.Contexts.{park}
use Rattle.blue_model.specs.Cycle.{cycle}
use Rattle.blue_model.specs.State.{State, begin, state_of}
use Rattle.blue_model.specs.Earlier.{at_rest_after}
use Rattle.blue_model.specs.Guarded.{Guarded, Going, Broken, guarded_on, kept_after}
use Rattle.blue_model.specs.Law.{IsWholeMachine}
use Rattle.blue_model.specs.Loaded.{loaded}
use Rattle.contexts.specs.declared.stop.Stop.{Stop}
use Rattle.contexts.specs.declared.stop.Stop.TheVariants.{Stuck, Mem}
use Rattle.contexts.specs.Serves.{IsLogged, Stands}
use Rattle.machine_run.specs.Run.{Awaits, Begins, IsHalt, IsSettled}
use Rattle.guarded_run.specs.Course.{begun, course_on, serial_at}

-- The guarded run before its first bytecode, over a heap and a state, behind what had been said before.
abbrev pub guarded_first : ℕ → List ℕ → State → Heap → Guarded
guarded_first serial said state h = begun serial (at_rest_after said h) (begin state (at_rest_after said h))

-- the machine that a guarded run goes on with, or at which it ended or broke, is whole
abbrev pub HasWhole : Guarded → Type 0
HasWhole (Going end m serial rows) = IsWholeMachine m
HasWhole (Broken stage m serial why log) = IsWholeMachine m

-- After as many bytecodes as the processor says the guarded run is at a machine for which the memory stands, and the last checkpoint has
-- this serial. The memory has settled.
pub record IsAt (events : List Line) (g : Guarded) (serial : ℕ) (t : Told) (cpu : Cpu) : Type 0 where
  pub machine : Machine
  pub rows : List LogRow
  pub is : guarded_on events cpu.ran g ≡ Going Next machine serial rows
  pub stands : Stands t cpu machine
  pub settled : IsSettled t

-- After as many bytecodes as the processor says a machine is to be kept, under the serial after this one: the last of them did 97. It was
-- parked, and for the parked machine the memory stands. Where the guarded run began with a whole machine, it is whole.
pub record IsToKeep (events : List Line) (g : Guarded) (serial : ℕ) (t : Told) (cpu : Cpu) (parked : Machine) : Type 0 where
  -- the machine before the bytecode that did 97
  pub earlier : ℕ
  pub ran : cpu.ran ≡ earlier + 1
  pub before : Machine
  pub behind : List LogRow
  pub was : guarded_on events earlier g ≡ Going Next before serial behind
  -- and what it became
  pub machine : Machine
  pub log : List LogRow
  pub did : cycle events before ≡ Go Keep machine log
  pub rows : List LogRow
  pub is : guarded_on events cpu.ran g ≡ kept_after serial machine (loaded machine)
  pub parks : park machine ≡ Go tt parked rows
  pub stands : Stands t cpu parked
  pub whole : HasWhole g → IsWholeMachine machine

-- What a leg came to: the run's end is a machine whose picture is still to be drawn, and what was kept last has this serial; or one is to be
-- kept; or it stopped as the guarded run does.
abbrev pub Leaves : List Line → ℕ → Guarded → ℕ → Told → Cpu → Result Step Stop → Type 0
Leaves events steps g serial new now (Ok Next) = Awaits new now Next (course_on events steps g) × (serial_at (guarded_on events steps g) ≡ serial)
Leaves events steps g serial new now (Ok Quit) = Awaits new now Quit (course_on events steps g) × (serial_at (guarded_on events steps g) ≡ serial)
Leaves events steps g serial new now (Ok Keep) = (parked : Machine) × IsToKeep events g serial new now parked
Leaves events steps g serial new now (Err stop) = IsHalt stop now.ran steps new (course_on events steps g)

-- The memory refused a machine that is to be parked: no machine's own stop is this, and parking makes and says nothing.
abbrev pub RefusesParking : Stop → Machine → Type 0
RefusesParking (Stuck cause) m = ⊥
RefusesParking (Mem (CoreFull need)) m = IsLogged need (log_of (park m))
RefusesParking (Mem (WorkFull live room)) m = ⊥
RefusesParking (Mem (WorkFault count)) m = Unit {0}
RefusesParking (Mem (Damaged place name)) m = ⊥
RefusesParking (Mem NamesSpent) m = ⊥
RefusesParking (Mem (Said count)) m = ⊥
RefusesParking (Mem Memory) m = Unit {0}

-- The last of so many bytecodes did 97, and what it asked for, a checkpoint under the serial after this one, wasn't kept: the memory refused parking, or settling
-- before it.
pub record StopsUnkept (events : List Line) (g : Guarded) (serial ran : ℕ) (stop : Stop) : Type 0 where
  pub earlier : ℕ
  pub ran_is : ran ≡ earlier + 1
  pub before : Machine
  pub behind : List LogRow
  pub was : guarded_on events earlier g ≡ Going Next before serial behind
  pub machine : Machine
  pub log : List LogRow
  pub did : cycle events before ≡ Go Keep machine log
  pub refuses : RefusesParking stop machine
  pub next : serial_at (guarded_on events ran g) ≡ serial + 1

-- The serial of a leg is that of the model's last checkpoint after so many bytecodes, where the leg came to the run's end or stopped; or the checkpoint after it
-- wasn't kept.
abbrev pub KeepsSerial : List Line → Guarded → ℕ → ℕ → Result Step Stop → Type 0
KeepsSerial events g serial ran (Ok Next) = serial_at (guarded_on events ran g) ≡ serial
KeepsSerial events g serial ran (Ok Quit) = serial_at (guarded_on events ran g) ≡ serial
KeepsSerial events g serial ran (Ok Keep) = serial_at (guarded_on events ran g) ≡ serial + 1
KeepsSerial events g serial ran (Err stop) = (serial_at (guarded_on events ran g) ≡ serial) ⊎ StopsUnkept events g serial ran stop

-- what a start came to: the machine is there, or it stopped as the guarded run does
abbrev pub Starts : List Line → ℕ → Guarded → ℕ → Told → Cpu → Result (Unit {0}) Stop → Type 0
Starts events steps g serial new now (Ok u) = IsAt events g serial new now
Starts events steps g serial new now (Err stop) = IsHalt stop now.ran steps new (course_on events steps g)

-- A memory with which nothing was done yet, and a state, are what was kept of a parked machine: the objects that are kept with no roots,
-- and its state. What was said is what the machine had said, and where bounds are told, the core has the words of the largest object that
-- it made.
pub record GoesOnFrom (parked : Machine) (words : State) (t : Told) : Type 0 where
  pub begins : Begins (kept parked.heap no_roots) t
  pub state : words ≡ state_of parked
  pub said : IsTrue t.speaks → t.transcript ≡ parked.transcript
  pub fits : IfBounds t.bounds (λ b. parked.largest ≤ b.core)

-- The numbers after a start, with those of the leg before where the run goes on with them. A checkpoint may be made as long as there are
-- serials.
abbrev pub numbers_before : ℕ → Cpu → Cpu → Cpu
numbers_before serial before now = record now {
  base = before.base;
  ran = before.ran;
  line = before.line;
  words_in = before.words_in;
  words_out = before.words_out;
  vault = nat_lt serial LAST_SERIAL;
}
