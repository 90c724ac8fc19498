-- What a run over a memory has to do with a run of the model.
use Rattle.std.specs.Prelude.{◌≡◌, ◌≢◌, ◌⊎◌, ℕ, ◌+◌, ◌<◌, ◌≤◌, Bool, true, false, List, [], ◌++◌, Option, Some, None, Result, Ok, Err, IsTrue, OnOk}
use Rattle.long_names.specs.Counting.{Rose}
use Rattle.long_names.specs.Heap.{Heap, object_count}
use Rattle.long_names.specs.Kept.{kept}
use Rattle.long_names.specs.Need.{Fits}
use Rattle.long_names.specs.Thin.{IsThinner}
use Rattle.object_memory.specs.Told.{Told, IsReady}
use Rattle.object_memory.specs.declared.memory.ObjectMemory.{Ghosts}
use Rattle.object_memory.specs.Contract.{ForBounds, IfBounds, NoBounds, CountsKept, Lives, work_faults, said_faults}
use Rattle.object_memory.specs.declared.fault.Need.{Need}
use Rattle.object_memory.specs.declared.fault.MemFault.{MemFault}
use Rattle.object_memory.specs.declared.fault.MemFault.TheVariants.{CoreFull, WorkFull, WorkFault, Damaged, NamesSpent, Said, Memory}
use Rattle.blue_model.specs.declared.cpu.Cpu.{Cpu}
use Rattle.blue_model.specs.declared.step.Step.{Step}
use Rattle.blue_model.specs.declared.step.Step.TheVariants.{Next}
use Rattle.blue_model.specs.declared.event.Line.{Line}
use Rattle.blue_model.specs.Machine.{Machine, LogRow, log_of, after}
use Rattle.blue_model.specs.Devices.{picture}
use Rattle.blue_model.specs.Cycle.{Ran, ByCause, BySpentNames, Ending, cycle, parked}
use Rattle.blue_model.specs.Logs.{Course, IsLive, lives, made_in}
use Rattle.blue_model.specs.Endings.{OnParked, OnDrawn, said_in, IsParked, IsStuckBy, IsParkedBy}
use Rattle.blue_model.specs.Cycle as model
use Rattle.contexts.specs.declared.stop.Stop.{Stop}
use Rattle.contexts.specs.declared.stop.Stop.TheVariants.{Stuck, Mem}
use Rattle.contexts.specs.Serves.{Stands, GivesAs, Serves, IsLogged, IsCaused}
use Rattle.contexts.specs.Serves as serves
use Rattle.devices.specs.Pictures.{IsUndrawn}
use Rattle.machine_run.specs.States.{model_state, state_held}
use Rattle.machine_run.specs.declared.running.Finished.{Finished}
use Rattle.machine_run.specs.declared.running.Halted.{Halted}
use Rattle.machine_run.specs.declared.running.Reason.{Reason}
use Rattle.machine_run.specs.declared.running.Reason.TheVariants.{ByStop, NoMemory}

-- ---- runs

-- the memory stands for the machine after so many cycles, or after the one that ended it
pub record Reaches (events : List Line) (new : Told) (now : Cpu) (end : Step) (cycles : ℕ) (m : Machine) : Type 0 where
  pub machine : Machine
  pub ran : model.run events cycles m ≡ Ran end machine
  pub stands : Stands new now machine

-- What was said when a call stopped: what had been said before it, and where its own saying failed a part of that.
abbrev pub HasSaid : Stop → List ℕ → List ℕ → Type 0
HasSaid (Mem (Said count)) before now = (z : List ℕ) × (now ≡ before ++ z)
HasSaid _ before now = now ≡ before

-- The memory has settled, and made nothing since then. Where it says how many objects lived, so many are kept, with its registers and
-- slots as roots.
abbrev pub IsSettled : Told → Type 0
IsSettled t = IfBounds t.bounds (λ b. (b.made ≡ 0) × CountsKept t b.base)

-- Where there was no room for an object in the cycle after so many, from old to new. In the first cycle that has the cause that one call
-- has. After a settling, and so in every other cycle, as many objects live as the model says at one of the cycle's makings.
abbrev pub IsFullIn : List Line → Told → Told → Stop → ℕ → Machine → Type 0
IsFullIn events old new (Mem (WorkFull live room)) done m = (done ≡ 0 → IsCaused old new (WorkFull live room)) × (((0 < done) ⊎ IsSettled old) → IsLive live (lives events m))
IsFullIn events old new _ done m = Unit {0}

-- The run stopped in the cycle after so many: the model's machine there comes to this stop, or allows the fault. So many bytecodes
-- were run, and what was said is what that machine had said. Each cycle before it ended with a settling.
pub record StopsIn (events : List Line) (old new : Told) (now : Cpu) (stop : Stop) (cycles : ℕ) (m : Machine) : Type 0 where
  pub done : ℕ
  pub machine : Machine
  pub few : done < cycles
  pub ran : model.run events done m ≡ Ran Next machine
  pub count : machine.cpu.ran ≡ now.ran
  pub said : IsTrue new.speaks → HasSaid stop machine.transcript new.transcript
  pub gives : GivesAs (Some (Next, machine.transcript)) new now (Err stop) (cycle events machine)
  pub full : IsFullIn events old new stop done machine

abbrev pub IsWorkFault : Stop → Type 0
IsWorkFault (Mem (WorkFault count)) = Unit {0}
IsWorkFault _ = ⊥

-- the memory couldn't settle after a cycle
pub record StopsAfter (events : List Line) (new : Told) (now : Cpu) (stop : Stop) (cycles : ℕ) (m : Machine) : Type 0 where
  pub done : ℕ
  pub end : Step
  pub machine : Machine
  pub few : done ≤ cycles
  pub ran : model.run events done m ≡ Ran end machine
  pub count : machine.cpu.ran ≡ now.ran
  pub said : IsTrue new.speaks → new.transcript ≡ machine.transcript
  pub fault : IsWorkFault stop

-- a run of at most so many cycles, with this answer, is the model's
abbrev pub RunsAs : List Line → Told → Told → Cpu → ℕ → Machine → Result Step Stop → Type 0
RunsAs events old new now cycles m (Ok end) = Reaches events new now end cycles m
RunsAs events old new now cycles m (Err stop) = StopsIn events old new now stop cycles m ⊎ StopsAfter events new now stop cycles m

-- ---- why a memory refused, as far as no row is named

abbrev pub HasFault : Told → Told → MemFault → Type 0
HasFault old new (CoreFull need) = ForBounds new.bounds (λ b. Fits b.core b.entries need.words need.entries → ⊥)
HasFault old new (WorkFull live room) = ForBounds new.bounds (λ b. (b.room ≡ room) × (room < live) × Lives new b live)
HasFault old new (WorkFault count) = ForBounds new.bounds (λ b. b.work_faults ≡ count) × Rose (work_faults old.bounds) (work_faults new.bounds)
HasFault old new (Damaged place name) = IsTrue old.tells → ⊥
HasFault old new NamesSpent = Unit {0}
HasFault old new (Said count) = ForBounds new.bounds (λ b. b.said_faults ≡ count) × Rose (said_faults old.bounds) (said_faults new.bounds)
HasFault old new Memory = NoBounds new.bounds

-- a refusal was counted since then, it is the last one, and it has its cause
pub record IsFaulted (old new : Told) (f : MemFault) : Type 0 where
  pub rose : Rose old.refusals new.refusals
  pub last : new.last ≡ Some f
  pub cause : HasFault old new f

-- only a memory that refused answers a fault
abbrev pub FaultsBy : Told → Told → Stop → Type 0
FaultsBy old new (Mem f) = IsFaulted old new f
FaultsBy old new (Stuck cause) = Unit {0}

-- ---- whole runs

-- so many of a heap's objects are kept, whatever the roots are, where it is said how many
abbrev pub CountsAll : Heap → Option ℕ → Type 0
CountsAll h None = Unit {0}
CountsAll h (Some base) = (root : ℕ → Bool) → object_count (kept h root) ≡ base

-- A memory with which nothing was done yet, of this heap or of one that is thinner: nothing is pinned, no row is cached, and nothing
-- made. Where it says how many objects live, they are those of the heap. What was said before stays in front of what a run says.
pub record Begins (h : Heap) (t : Told) : Type 0 where
  pub heap : IsThinner h t.heap
  pub slots : (i : ℕ) → t.slots i ≡ None
  pub rows : (class selector method : ℕ) → t.cache.rows class selector method ≡ false
  pub base : IfBounds t.bounds (λ b. (b.made ≡ 0) × CountsAll h b.base)

-- A fault of the memory after so many bytecodes: names are spent where the model's run says so. A need is that of a row of the next
-- bytecode, and for so many living objects there was no room at one of its makings. A memory that tells its heap is never damaged.
-- Faults of the outside and want of memory may come at any time.
abbrev pub FaultsAs : MemFault → ℕ → Course → Type 0
FaultsAs NamesSpent ran c = IsStuckBy BySpentNames ran c.ending
FaultsAs (CoreFull need) ran c = IsLogged need (c.rows ran)
FaultsAs (WorkFull live room) ran c = IsLive live (c.lives ran)
FaultsAs (WorkFault count) ran c = Unit {0}
FaultsAs (Damaged place name) ran c = ⊥
FaultsAs (Said count) ran c = Unit {0}
FaultsAs Memory ran c = Unit {0}

-- the stop is the one that ended the model's run after so many bytecodes, or a fault that may come then
abbrev pub StopsAs : Stop → ℕ → Course → Type 0
StopsAs (Stuck cause) ran c = IsStuckBy (ByCause cause) ran c.ending
StopsAs (Mem fault) ran c = FaultsAs fault ran c

-- What was said is the model's transcript after so many bytecodes. Where its own saying failed, the next bytecode says something, and a part
-- of that joined it.
abbrev pub SaysAs : Stop → ℕ → Told → Course → Type 0
SaysAs (Mem (Said count)) ran new c = (z rest : List ℕ) × (new.transcript ≡ c.said ran ++ z) × (c.said (ran + 1) ≡ new.transcript ++ rest) × (c.said (ran + 1) ≢ c.said ran)
SaysAs _ ran new c = new.transcript ≡ c.said ran

-- the stop is one of the machine, and no fault of a memory beside spent names
abbrev pub is_own : Stop → Bool
is_own (Stuck cause) = true
is_own (Mem NamesSpent) = true
is_own (Mem _) = false

-- of so many bytecodes one is still to come, where a machine's own saying failed
abbrev pub ComesBefore : Stop → ℕ → ℕ → Type 0
ComesBefore (Mem (Said count)) ran steps = ran < steps
ComesBefore _ ran steps = Unit {0}

-- a whole run of at most so many bytecodes stopped so after so many
pub record IsHalt (stop : Stop) (ran steps : ℕ) (new : Told) (c : Course) : Type 0 where
  pub stops : StopsAs stop ran c
  pub before : ComesBefore stop ran steps
  pub says : IsTrue new.speaks → SaysAs stop ran new c
  -- of a stop of the machine that is all that the run says
  pub own : IsTrue (is_own stop) → IsTrue new.speaks → new.transcript ≡ said_in c.ending

-- The memory stands for the machine that was parked after a run, whose picture is still to be drawn: what the run comes to is what
-- drawing it comes to. The rows of park and of the picture are rows of the next bytecode, and none of them makes anything.
pub record Awaits (new : Told) (now : Cpu) (end : Step) (c : Course) : Type 0 where
  pub machine : Machine
  pub stands : Stands new now machine
  pub last : Machine
  pub log : List LogRow
  pub count : last.cpu.ran ≡ now.ran
  pub said : IsTrue new.speaks → new.transcript ≡ last.transcript
  pub ends : c.ending ≡ parked end last (after log (picture machine))
  pub told : c.said now.ran ≡ last.transcript
  pub rows : (need : Need) → IsLogged need (log_of (after log (picture machine))) → IsLogged need (c.rows now.ran)
  pub unmade : made_in (log_of (after log (picture machine))) ≡ []

-- the run up to the picture went as the model's, or stopped as it
abbrev pub GoesAs : Told → Cpu → ℕ → Result Step Stop → Course → Type 0
GoesAs new now steps (Ok end) c = Awaits new now end c
GoesAs new now steps (Err stop) c = IsHalt stop now.ran steps new c

-- The memory stands for the heap of the parked machine, whose picture and state these are, and said what the run said. Where bounds are told,
-- the core has the words of the largest object that the run made.
pub record GoesThrough (new : Told) (finished : Finished) (c : Course) : Type 0 where
  pub parked : IsParkedBy finished.end finished.ran c.ending
  pub heap : OnParked c.ending (λ m. IsThinner m.heap new.heap)
  pub drawn : OnDrawn c.ending (λ picture. finished.picture ≡ picture)
  pub state : OnParked c.ending (λ m. model_state finished.state ≡ state_held m.regs m.cpu)
  pub said : IsTrue new.speaks → new.transcript ≡ said_in c.ending
  pub fits : IfBounds new.bounds (λ b. OnParked c.ending (λ m. m.largest ≤ b.core))

-- drawing comes to the model's picture, or to its stop, or no memory was found for a picture that the model has
abbrev pub DrawsAs : Told → Cpu → Told → Result (List ℕ) Reason → Type 0
DrawsAs old cpu new (Ok bytes) = Serves old cpu new cpu picture (Ok bytes)
DrawsAs old cpu new (Err (ByStop stop)) = Serves old cpu new cpu picture (Err stop)
DrawsAs old cpu new (Err NoMemory) = IsUndrawn old cpu new

-- Why a whole run halted, by what became of the model's. Memory is wanted for the picture of a machine that went through and was parked.
abbrev pub HaltsAs : Reason → ℕ → ℕ → Told → Course → Type 0
HaltsAs (ByStop stop) ran steps new c = IsHalt stop ran steps new c
HaltsAs NoMemory ran steps new c = IsParked c.ending × (IsTrue new.speaks → new.transcript ≡ said_in c.ending)

abbrev pub EndsAs : Told → ℕ → Result Finished Halted → Course → Type 0
EndsAs new steps (Ok finished) c = GoesThrough new finished c
EndsAs new steps (Err halted) c = HaltsAs halted.why halted.ran steps new c

-- only a memory that refused answers a fault
abbrev pub HaltsBy : Told → Told → Reason → Type 0
HaltsBy old new (ByStop stop) = FaultsBy old new stop
HaltsBy old new NoMemory = Unit {0}

-- the memory is sound after every end but a fault that leaves nothing known
abbrev pub SoundBy : Reason → Type 0 → Type 0
SoundBy (ByStop stop) P = serves.StaysSound {A = Unit {0}} (Err stop) P
SoundBy NoMemory P = P

abbrev pub DrawsSound : {A : Type 0} → Result A Reason → Type 0 → Type 0
DrawsSound (Ok bytes) P = P
DrawsSound (Err why) P = SoundBy why P

abbrev pub EndsSound : Result Finished Halted → Type 0 → Type 0
EndsSound (Ok finished) P = P
EndsSound (Err halted) P = SoundBy halted.why P

-- what `StaysFit` says of a call, of one that draws the display of a parked machine
pub record DrawsFit {M A : Type 0} (memory : Ghosts M) (old new : M) (answer : Result A Reason) : Type 0 where
  pub sound : DrawsSound answer (memory.sound new)
  pub ready : OnOk answer (IsReady (memory.told new))
  pub lender : memory.lender new ≡ memory.lender old
  pub outside : memory.outside new ≡ memory.outside old

-- and of a whole run
pub record EndsFit {M : Type 0} (memory : Ghosts M) (old new : M) (answer : Result Finished Halted) : Type 0 where
  pub sound : EndsSound answer (memory.sound new)
  pub ready : OnOk answer (IsReady (memory.told new))
  pub lender : memory.lender new ≡ memory.lender old
  pub outside : memory.outside new ≡ memory.outside old
