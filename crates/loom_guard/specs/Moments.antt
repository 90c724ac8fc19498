-- To which bytecode a checkpoint belongs. Where a guarded run stops while its machine runs, one number of bytecodes says what was said by then and which checkpoint
-- the vault has: `last` is the serial that it answered last. So no checkpoint is kept early or late, and nothing is said behind a bytecode whose checkpoint isn't kept.
use Rattle.std.specs.Prelude.{◌≡◌, ◌≢◌, ◌⊎◌, ℕ, ◌+◌, ◌<◌, ◌≤◌, Bool, List, ◌++◌, IsTrue}
use Rattle.blue_model.specs.declared.event.Line.{Line}
use Rattle.blue_model.specs.Contexts.{park}
use Rattle.blue_model.specs.Guarded.{Guarded, guarded_on}
use Rattle.blue_model.specs.Logs.{Course, IsLive}
use Rattle.blue_model.specs.Machine.{log_of}
use Rattle.contexts.specs.Serves.{IsLogged}
use Rattle.guarded_run.specs.Course.{serial_at}
use Rattle.loom_words.specs.declared.status.Status.{Status}
use Rattle.loom_words.specs.declared.status.Status.TheVariants.{Stuck, CoreFull, NamesSpent, WorkFull, WorkFault, WriteFault, OutOfMemory, Damaged, VaultFault}
use Rattle.loom_guard.specs.Checkpoints.{HasDoneKeep}

-- Of a guarded run g, with its course, under these lines and in at most so many bytecodes: `old` stood on Transcript when it began, and `new` stands there where it
-- stopped, if that is told.
module _ (speaks : Bool) (steps : ℕ) (lines : List Line) (g : Guarded) (c : Course) (old new : List ℕ) (last : ℕ) where
  -- By so many bytecodes the run had kept the checkpoint that the vault answered last, and said this.
  pub record IsAfter (ran : ℕ) : Type 0 where
    pub few : ran ≤ steps
    pub said : IsTrue speaks → new ≡ old ++ c.said ran
    pub kept : serial_at (guarded_on lines ran g) ≡ last

  -- The last of so many bytecodes did 97. The checkpoint that it asked for is the one after that which the vault answered last, and nothing was said since.
  pub record IsKeeping (ran : ℕ) : Type 0 where
    pub few : ran ≤ steps
    pub said : IsTrue speaks → new ≡ old ++ c.said ran
    pub done : HasDoneKeep lines g ran
    pub next : serial_at (guarded_on lines ran g) ≡ last + 1

  -- The next bytecode says something, a first part of which stands there.
  pub record IsSaying (ran : ℕ) : Type 0 where
    pub few : ran < steps
    pub said : IsTrue speaks → (part : List ℕ) × (rest : List ℕ) × (new ≡ old ++ (c.said ran ++ part)) × (c.said (ran + 1) ≡ (c.said ran ++ part) ++ rest) × (c.said (ran + 1) ≢ c.said ran)
    pub kept : serial_at (guarded_on lines ran g) ≡ last

  abbrev pub IsEither : Type 0
  IsEither = (ran : ℕ) × (IsAfter ran ⊎ IsKeeping ran)

  -- By the answer. A row for which there was no room is one of the next bytecode, or of parking behind one that did 97. A fault of Work, damage and want of memory
  -- may come at any bytecode. A fault of the vault comes at one that asked for a checkpoint.
  abbrev pub StopsAt : Status → Type 0
  StopsAt (Stuck cause ran) = IsAfter ran
  StopsAt (NamesSpent ran) = IsAfter ran
  StopsAt (CoreFull ran need) = IsAfter ran ⊎ ((k : IsKeeping ran) × IsLogged need (log_of (park k.done.machine)))
  StopsAt (WorkFull live room) = (ran : ℕ) × IsLive live (c.lives ran) × IsAfter ran
  StopsAt (WorkFault count) = IsEither
  StopsAt (Damaged place name) = IsEither
  StopsAt OutOfMemory = IsEither
  StopsAt (WriteFault role count) = (ran : ℕ) × IsSaying ran
  StopsAt (VaultFault count) = (ran : ℕ) × IsKeeping ran
  StopsAt _ = Unit {0}
