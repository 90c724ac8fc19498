-- What the steps of a run with checkpoints answer, before its last line.
use Rattle.std.specs.Prelude.{◌≡◌, ◌⊎◌, ℕ, ◌≤◌, Bool, List, [], ◌∷◌, IsTrue}
use Rattle.loom_host.specs.declared.outside.Role.{Role}
use Rattle.loom_host.specs.declared.outside.Role.TheVariants.{Image, Work, Saved, Display, Transcript, Notes}
use Rattle.image_reader.specs.declared.fault.LoadFault.{LoadFault}
use Rattle.image_reader.specs.declared.fault.LoadFault.TheVariants as load
use Rattle.blue_model.specs.declared.event.Line.{Line}
use Rattle.blue_model.specs.Guarded.{Guarded, guarded_on}
use Rattle.blue_model.specs.Logs.{Course}
use Rattle.checkpoint.specs.History.{Keeps}
use Rattle.checkpoint.specs.Vault.{VaultState}
use Rattle.guarded_run.specs.Course.{serial_at}
use Rattle.loom_run.specs.Ends.{HasRun, IsAnswered, IsRightImage, JudgesImage}
use Rattle.loom_run.specs.Meanings.{Meanings, IsLeft, LeavesBut}
use Rattle.loom_run.specs.Parts.{status_by_disk}
use Rattle.loom_run.specs.Stages.{Stage, Reading, Running, Finishing, passes, reaches}
use Rattle.loom_run.specs.Steps.{IsOfRun, ReadEnds, Uses}
use Rattle.loom_words.specs.Words.{Row}
use Rattle.loom_words.specs.declared.status.Status.{Status}
use Rattle.loom_words.specs.declared.status.Status.TheVariants.{ImageBad, OutOfMemory, ReadFault}
use Rattle.loom_guard.specs.Checkpoints.{IsCheckpoint}
use Rattle.loom_guard.specs.Legs.{HaltsAt}
use Rattle.loom_guard.specs.Promise.{ComesTo, EndsKept, HasMoment, KeptAt}
use Rattle.loom_guard.specs.Vaults.{HasLast, IsVaultCaused, IsVaultRefusal, KeepsLast, LeavesVault, OpenedOnce, VaultMeanings}
use Rattle.loom_guard.specs.Ways.{Way, imageless}

-- ---- what was read

-- an image that couldn't be loaded
abbrev pub status_by_load : LoadFault → Status
status_by_load (load.Bad rule place) = ImageBad rule place
status_by_load (load.Read count) = ReadFault Image count
status_by_load (load.Disk fault) = status_by_disk fault
status_by_load load.Memory = OutOfMemory

-- A run that reads these bytes as its image ended before its memory was made. They are judged as those of Image are, and no read of them fails.
pub record KeptReadEnds (tells : Role → Bool) (before now : Meanings) (row : Row) (image : List ℕ) (result : Status) : Type 0 where
  pub ends : ReadEnds (imageless tells) before now row result
  pub judges : ends.stage ≡ Reading → JudgesImage (tells Work) result row.room image
  pub right : IsTrue (tells Work) → IsTrue (passes Reading ends.stage) → IsRightImage row.room image
  pub never : (count : ℕ) → result ≡ ReadFault Image count → ⊥

-- ---- from the machine on

-- with which a run has to do from then on
abbrev pub later_roles : List Role
later_roles = Transcript ∷ Saved ∷ Display ∷ Work ∷ []

-- Why the legs of a guarded run ended before its end, of which c is the course: while the machine ran, or where its last memory was wound up. A fault of the
-- vault, or want of memory for a checkpoint, may come while it runs. The last checkpoint has this serial.
pub record LegsStop (tells : Role → Bool) (before now : Meanings) (faults later : ℕ) (row : Row) (lines : List Line) (g : Guarded) (c : Course) (last : ℕ) (status : Status) : Type 0 where
  pub stage : Stage
  pub late : (stage ≡ Running) ⊎ (stage ≡ Finishing)
  pub answer : EndsKept stage status
  pub of_run : IsOfRun status
  pub answered : IsAnswered tells before now row status
  pub caused : IsVaultCaused status faults later
  pub halts : IsTrue (tells Work) → HaltsAt stage tells before now row lines g last status c

-- The legs of a guarded run went through: the checkpoint of this serial is the last that the run came to, and the vault has it.
pub record LegsKeep (work told : Bool) (vault : VaultState) (lines : List Line) (steps : ℕ) (g : Guarded) (last : ℕ) : Type 0 where
  pub has : IsTrue told → HasLast vault last
  pub serial : IsTrue work → serial_at (guarded_on lines steps g) ≡ last

-- A guarded run g, of which c is the course, ended while its machine ran or later, and nothing was put to Notes. The vault was at first as `old` says.
pub record GuardedEnds (tells : Role → Bool) (told : Bool) (before now : Meanings) (old new : VaultMeanings) (row : Row) (lines : List Line) (g : Guarded) (c : Course) (result : Status) : Type 0 where
  pub stage : Stage
  pub late : IsTrue (reaches Running stage)
  pub uses : Uses tells before now row stage
  pub answer : EndsKept stage result
  pub of_run : IsOfRun result
  pub answered : IsAnswered tells before now row result
  pub caused : IsVaultCaused result old.faults new.faults
  pub untold : IsLeft Notes before now
  pub comes : IsTrue (tells Work) → ComesTo tells before now row lines g stage result c
  pub last : ℕ
  pub moment : IsTrue (tells Work) → HasMoment tells before now row lines g c stage last result
  pub stays : IsTrue told → KeepsLast new.state last result
  pub stops : IsTrue told → Keeps old.state new.state last (λ serial kept. IsTrue (tells Work) → IsCheckpoint lines row.steps g serial kept)

-- ---- the whole, before its last line

-- the vault was refused, and nothing else was done; or the run ended at one of its stages
abbrev pub EndsBefore : Way → (Role → Bool) → Bool → Meanings → Meanings → VaultMeanings → VaultMeanings → Row → Status → Type 0
EndsBefore way tells told before now old new row result =
    (IsVaultRefusal way told old new result × LeavesBut [] before now × (IsTrue told → LeavesVault way old.state new.state)) ⊎ ((stage : Stage) × KeptAt way tells told before now old new row stage result)

-- A guarded or resumed run ended, and nothing was put to Notes.
pub record KeptRunEnds (way : Way) (tells : Role → Bool) (told : Bool) (before now : Meanings) (old new : VaultMeanings) (row : Row) (vault : List ℕ) (result : Status) : Type 0 where
  pub opened : IsTrue told → OpenedOnce vault old.state new.state
  pub ends : EndsBefore way tells told before now old new row result
  pub of_run : IsOfRun result
  pub ran : HasRun result row.steps
  pub untold : IsLeft Notes before now
  pub later : (role : Role) → before.faults role ≤ now.faults role
  pub vault_later : old.faults ≤ new.faults
