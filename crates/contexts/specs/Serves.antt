-- When what a memory did serves a rule of the model: read this first.
use Rattle.std.specs.Prelude.{◌≡◌, ◌≢◌, ℕ, ◌+◌, ◌*◌, ◌<◌, ◌≤◌, ◌⊎◌, pos, Bool, true, false, List, [], ◌∷◌, ◌++◌, Option, Some, None, Result, Ok, Err, IsTrue, OnOk}
use Rattle.std.specs.Option.{option_map}
use Rattle.long_names.specs.Counting.{Rose}
use Rattle.long_names.specs.Need.{Fits}
use Rattle.long_names.specs.State.{RECEIVER}
use Rattle.long_names.specs.declared.limits.TheConstants.{MACHINE_REGISTERS, REGISTERS}
use Rattle.long_names.specs.declared.value.Value.TheVariants.{Int}
use Rattle.long_names.specs.Thin.{IsThinner}
use Rattle.object_memory.specs.declared.fault.Need.{Need}
use Rattle.object_memory.specs.declared.fault.MemFault.{MemFault}
use Rattle.object_memory.specs.declared.fault.MemFault.TheVariants.{CoreFull, WorkFull, WorkFault, Damaged, NamesSpent, Said, Memory}
use Rattle.object_memory.specs.Told.{Told, IsReady}
use Rattle.object_memory.specs.Contract.{ForBounds, IfBounds, NoBounds, IsLater, Raised, Lives, work_faults, said_faults, LeavesAll}
use Rattle.blue_model.specs.declared.cpu.Cpu.{Cpu}
use Rattle.blue_model.specs.Cycle.{is_message}
use Rattle.blue_model.specs.Machine.{Machine, LogRow, Outcome, Go, Halt, Spent, Rule, log_of}
use Rattle.contexts.specs.Cache.{IsSound}
use Rattle.contexts.specs.declared.stop.Stop.{Stop}
use Rattle.contexts.specs.declared.stop.Stop.TheVariants.{Stuck, Mem}

-- ---- the machine that a memory stands for

-- A memory and the numbers of the processor stand for this machine: its heap is thinner, registers, slots, numbers and, where it is
-- told, the transcript are the machine's, each row of the cache is a lookup in the memory's heap, and where bounds are told, each object
-- that the machine made fits in the core.
pub record Stands (t : Told) (cpu : Cpu) (m : Machine) : Type 0 where
  pub heap : IsThinner m.heap t.heap
  pub regs : (r : ℕ) → r < MACHINE_REGISTERS → m.regs r ≡ t.regs r
  pub slots : m.slots ≡ t.slots
  pub numbers : m.cpu ≡ cpu
  pub transcript : IsTrue t.speaks → t.transcript ≡ m.transcript
  pub cache : IsSound t.heap t.cache
  pub fits : IfBounds t.bounds (λ b. m.largest ≤ b.core)

-- ---- what the rule's outcome has to do with the answer

-- the row needs this
pub record HasNeed (need : Need) (row : LogRow) : Type 0 where
  pub object : row.object ≡ need.object
  pub words : row.words ≡ need.words
  pub entries : row.entries ≡ need.entries

-- a row of this need is in the log
abbrev pub IsLogged : Need → List LogRow → Type 0
IsLogged need [] = ⊥
IsLogged need (row ∷ rows) = HasNeed need row ⊎ IsLogged need rows

-- the log has the making of this name
abbrev pub HasMaking : ℕ → List LogRow → Type 0
HasMaking n [] = ⊥
HasMaking n (row ∷ rows) = ((row.makes ≡ true) × (row.object ≡ n)) ⊎ HasMaking n rows

-- the rule went on, with this answer, to a machine of which P holds
abbrev pub IsGo : {A : Type 0} → A → (Machine → Type 0) → Outcome A → Type 0
IsGo a P (Go b m log) = (b ≡ a) × P m
IsGo a P (Halt c log) = ⊥
IsGo a P (Spent log) = ⊥

abbrev pub IsSpent : {A : Type 0} → Outcome A → Type 0
IsSpent (Go a m log) = ⊥
IsSpent (Halt c log) = ⊥
IsSpent (Spent log) = Unit {0}

-- the rule came to a stop that no memory has a part in
abbrev pub IsStop : {A : Type 0} → Stop → Outcome A → Type 0
IsStop (Stuck c) (Halt d log) = d ≡ c
IsStop _ _ = ⊥

-- The rule had said what it says, and went on with this answer: of what it has said by then, the memory has said the first part. It has
-- said something, since the transcript before was another.
abbrev pub WasSaying : {A : Type 0} → A → List ℕ → Told → Outcome A → Type 0
WasSaying b before new (Go a m log) = (a ≡ b) × (IsTrue new.speaks → (rest : List ℕ) × (m.transcript ≡ new.transcript ++ rest) × (m.transcript ≢ before))
WasSaying b before new (Halt c log) = ⊥
WasSaying b before new (Spent log) = ⊥

-- only where a rule says something can a memory refuse to say it
abbrev pub MaySay : {A : Type 0} → Option (A × List ℕ) → Told → Outcome A → Type 0
MaySay None new o = ⊥
MaySay (Some (b, before)) new o = WasSaying b before new o

-- The rule allows a fault, after which this is told: a need that doesn't fit is that of a row of its log, room is missing for an
-- object that it makes, and names are spent where it says so. Faults of the outside and want of memory may come anywhere. A memory
-- that tells its heap is never damaged. The first argument is None for a rule that says nothing. For one that may say something as the last
-- thing that it does it has the answer that the rule gives then, and the transcript before it.
abbrev pub AllowsAs : {A : Type 0} → Option (A × List ℕ) → Told → MemFault → Outcome A → Type 0
AllowsAs w new (CoreFull need) o = IsLogged need (log_of o)
AllowsAs w new (WorkFull live room) o = HasMaking new.heap.next (log_of o)
AllowsAs w new (WorkFault count) o = Unit {0}
AllowsAs w new (Damaged place name) o = ⊥
AllowsAs w new NamesSpent o = IsSpent o
AllowsAs w new (Said count) o = MaySay w new o
AllowsAs w new Memory o = Unit {0}

abbrev pub Allows : {A : Type 0} → Told → MemFault → Outcome A → Type 0
Allows new f o = AllowsAs None new f o

-- the answer is the rule's, and what is told now stands for its machine; or it is the rule's stop, or a fault that it allows
abbrev pub GivesAs : {A : Type 0} → Option (A × List ℕ) → Told → Cpu → Result A Stop → Outcome A → Type 0
GivesAs w new now (Ok a) o = IsGo a (Stands new now) o
GivesAs w new now (Err (Stuck c)) o = IsStop (Stuck c) o
GivesAs w new now (Err (Mem f)) o = AllowsAs w new f o

abbrev pub Gives : {A : Type 0} → Told → Cpu → Result A Stop → Outcome A → Type 0
Gives new now answer o = GivesAs None new now answer o

-- ---- why a memory refused, as far as no row is named

-- base stays, made rises by so many makings, and the next name by two for each
pub record IsCounted (makings : ℕ) (old new : Told) : Type 0 where
  pub counts : Raised makings old.bounds new.bounds
  pub next : IsTrue old.tells → new.heap.next ≡ old.heap.next + 2 * makings

-- Where there was no room, the objects that live are counted in what the refused making left, and so many makings came before it.
abbrev pub IsCaused : Told → Told → MemFault → Type 0
IsCaused old new (CoreFull need) = ForBounds new.bounds (λ b. Fits b.core b.entries need.words need.entries → ⊥)
IsCaused old new (WorkFull live room) = ForBounds new.bounds (λ b. (b.room ≡ room) × (room < live) × Lives new b live) × ((makings : ℕ) × IsCounted makings old new)
IsCaused old new (WorkFault count) = ForBounds new.bounds (λ b. b.work_faults ≡ count) × Rose (work_faults old.bounds) (work_faults new.bounds)
IsCaused old new (Damaged place name) = IsTrue old.tells → ⊥
IsCaused old new NamesSpent = Unit {0}
IsCaused old new (Said count) = ForBounds new.bounds (λ b. b.said_faults ≡ count) × Rose (said_faults old.bounds) (said_faults new.bounds)
IsCaused old new Memory = NoBounds new.bounds

-- a refusal was counted, it is the last one, and it has its cause
pub record IsRefused (old new : Told) (f : MemFault) : Type 0 where
  pub rose : Rose old.refusals new.refusals
  pub last : new.last ≡ Some f
  pub cause : IsCaused old new f

abbrev pub HasReason : {A : Type 0} → Told → Told → Result A Stop → Type 0
HasReason old new (Ok a) = Unit {0}
HasReason old new (Err (Stuck c)) = Unit {0}
HasReason old new (Err (Mem f)) = IsRefused old new f

-- ---- what was said

-- the transcript is as before, as far as it is told
abbrev pub SaidNothing : Told → Told → Type 0
SaidNothing old new = IsTrue old.speaks → new.transcript ≡ old.transcript

-- what a call said that may say something, and answers b after that
abbrev pub SaysLast : {A : Type 0} → A → Told → Told → Result A Stop → Type 0
SaysLast b old new (Ok a) = (a ≡ b) ⊎ SaidNothing old new
SaysLast b old new (Err (Stuck c)) = SaidNothing old new
SaysLast b old new (Err (Mem (Said count))) = IsTrue old.speaks → (z : List ℕ) × (new.transcript ≡ old.transcript ++ z)
SaysLast b old new (Err (Mem f)) = SaidNothing old new

-- what a call said, which says nothing, or may say something and answers this then
abbrev pub Says : {A : Type 0} → Option A → Told → Told → Result A Stop → Type 0
Says None old new answer = SaidNothing old new
Says (Some b) old new answer = SaysLast b old new answer

-- ---- serving

-- what a rule that may say something answers then, with the transcript before it
abbrev pub with_before : {A : Type 0} → Option A → List ℕ → Option (A × List ℕ)
with_before None before = None
with_before (Some b) before = Some (b, before)

-- What was done from old to new, with this answer, serves a rule: for each machine that the memory stood for, the answer is the
-- rule's, and the memory stands for the rule's next machine. No access was made whose row isn't in the log, since it might have been
-- refused. A memory that tells no heap serves every rule as far as its own counts and causes go. The first argument is None for what
-- says nothing, and Some b for what may say something as the last thing that it does, and answers b then.
pub record ServesAs {A : Type 0} (w : Option A) (old : Told) (cpu : Cpu) (new : Told) (now : Cpu) (rule : Rule A) (answer : Result A Stop) : Type 0 where
  pub later : IsLater old new
  pub ready : OnOk answer (IsReady new)
  pub reason : HasReason old new answer
  pub counts : OnOk answer ((makings : ℕ) × IsCounted makings old new)
  -- no rule opens the vault
  pub vault : OnOk answer (IsTrue now.vault → IsTrue cpu.vault)
  pub silent : Says w old new answer
  pub model : IsTrue old.tells → (m : Machine) → Stands old cpu m → GivesAs (with_before w old.transcript) new now answer (rule m)

-- it serves a rule that says nothing
abbrev pub Serves : {A : Type 0} → Told → Cpu → Told → Cpu → Rule A → Result A Stop → Type 0
Serves old cpu new now rule answer = ServesAs None old cpu new now rule answer

-- it serves a rule that may say something as the last thing that it does, and answers b then
abbrev pub Speaks : {A : Type 0} → A → Told → Cpu → Told → Cpu → Rule A → Result A Stop → Type 0
Speaks b old cpu new now rule answer = ServesAs (Some b) old cpu new now rule answer

-- the answer of a call, with what it left in a register as its value
abbrev pub with_value : {A E : Type 0} → Result (Unit {0}) E → A → Result A E
with_value (Ok u) a = Ok a
with_value (Err e) a = Err e

-- the answer of a call that tells whether it found something, with what it left in a register as what it found
abbrev pub with_found : {A E : Type 0} → Result Bool E → A → Result (Option A) E
with_found (Ok true) a = Ok (Some a)
with_found (Ok false) a = Ok None
with_found (Err e) a = Err e

-- the answer of a call that tells what it found, in the words of the model
abbrev pub found_by : {A B : Type 0} → (A → B) → Result (Option A) Stop → Result (Option B) Stop
found_by f (Ok found) = Ok (option_map f found)
found_by f (Err e) = Err e

-- sound after every answer but a fault that leaves nothing known
abbrev pub StaysSound : {A : Type 0} → Result A Stop → Type 0 → Type 0
StaysSound (Ok a) P = P
StaysSound (Err (Stuck c)) P = P
StaysSound (Err (Mem f)) P = LeavesAll f P

-- ---- registers

-- the registers behind those of the context and below this one are as before
abbrev pub KeepsOthers : ℕ → Told → Told → Type 0
KeepsOthers high old new = (r : ℕ) → RECEIVER < r → r < high → new.regs r ≡ old.regs r

-- no message is in its registers, and no value in a scratch register
pub record HasRest (t : Told) : Type 0 where
  pub message : (r : ℕ) → IsTrue (is_message r) → t.regs r ≡ Int (pos 0)
  pub scratch : (r : ℕ) → MACHINE_REGISTERS ≤ r → r < REGISTERS → t.regs r ≡ Int (pos 0)
