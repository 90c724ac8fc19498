-- Why a guarded run ended before its end, and what a turn of it leaves: a leg, and the checkpoint behind it.
use Rattle.std.specs.Prelude.{◌≡◌, ◌⊎◌, ℕ, ◌+◌, ◌<◌, Bool, false, List, Option, Some, Result, Ok, Err, IsTrue}
use Rattle.long_names.specs.Heap.{Heap}
use Rattle.loom_host.specs.declared.outside.Host.{Ghosts}
use Rattle.loom_host.specs.declared.outside.Role.{Role}
use Rattle.loom_host.specs.declared.outside.Role.TheVariants.{Work, Transcript}
use Rattle.disk_objects.specs.Disk.{disk_room}
use Rattle.image_reader.specs.Loaded.{heap_on}
use Rattle.image_memory.specs.Image.{HasEnded, HasImage}
use Rattle.blue_model.specs.declared.cpu.Cpu.{Cpu}
use Rattle.blue_model.specs.declared.event.Line.{Line}
use Rattle.blue_model.specs.declared.limits.TheConstants.{LAST_SERIAL}
use Rattle.blue_model.specs.Endings.{HasCounted}
use Rattle.blue_model.specs.Guarded.{Guarded as Run, guarded_on}
use Rattle.blue_model.specs.Logs.{Course}
use Rattle.contexts.specs.Keeping.{is_kept}
use Rattle.guarded_run.specs.Course.{serial_at}
use Rattle.checkpoint.specs.History.{Keeps}
use Rattle.checkpoint.specs.Keeping.{HasSame, IsLast, serial_of}
use Rattle.checkpoint.specs.Vault.{MayLeave, VaultState, contents_of}
use Rattle.checkpoint.specs.declared.point.Point.{Point}
use Rattle.checkpoint.specs.declared.fault.VaultFault.{VaultFault as Fault}
use Rattle.checkpoint.specs.declared.fault.VaultFault.TheVariants as fault
use Rattle.loom_words.specs.Words.{Row}
use Rattle.loom_words.specs.declared.status.Status.{Status}
use Rattle.loom_words.specs.declared.status.Status.TheVariants.{OutOfMemory, VaultBad, VaultFault, WorkFault, Damaged}
use Rattle.loom_run.specs.Ends.{IsAnswered, IsCaused, IsDamaged}
use Rattle.loom_run.specs.Meanings.{Meanings, meanings}
use Rattle.loom_run.specs.Parts.{status_by_disk}
use Rattle.loom_run.specs.Stages.{Stage, Running, Finishing}
use Rattle.loom_run.specs.Steps.{CameThrough, IsOfRun}
use Rattle.loom_guard.specs.Checkpoints.{IsCheckpoint}
use Rattle.loom_guard.specs.Legs.{FromDisk, HaltsAt}
use Rattle.loom_guard.specs.Promise.{EndsKept}
use Rattle.loom_guard.specs.Vaults.{IsVaultCaused, IsVaultFault, KeepsLast}
use Rattle.loom_guard.specs.declared.guarded.Turn.{Turn}
use Rattle.loom_guard.specs.declared.guarded.Turn.TheVariants as turn

-- ---- no checkpoint was kept

abbrev pub status_by_vault : Fault → Status
status_by_vault (fault.Failed count) = VaultFault count
status_by_vault (fault.Bad place) = VaultBad place
status_by_vault (fault.Disk f) = status_by_disk f
status_by_vault fault.Memory = OutOfMemory

abbrev pub EndsKeeping : Status → Type 0
EndsKeeping (VaultFault count) = Unit {0}
EndsKeeping (WorkFault count) = Unit {0}
EndsKeeping (Damaged place name) = Unit {0}
EndsKeeping OutOfMemory = Unit {0}
EndsKeeping _ = ⊥

-- by one of these answers, with its cause: the vault's faults were so many before, and are so many now
pub record IsKeepRefusal (tells : Role → Bool) (old now : Meanings) (before after : ℕ) (status : Status) : Type 0 where
  pub ends : EndsKeeping status
  pub cause : IsCaused status old.faults now.faults
  pub whole : IsTrue (tells Work) → IsDamaged status → ⊥
  pub caused : IsVaultCaused status before after

-- Where it wasn't a failure of the vault, a stop leaves the checkpoint that was there before, whole, and no other.
abbrev pub LeavesChecked : VaultState → VaultState → Status → Type 0
LeavesChecked old new status = (IsVaultFault status → ⊥) → (bytes : List ℕ) → MayLeave new bytes → HasSame (contents_of old) bytes

-- ---- the run ended

-- Why a run from one moment to another ended, while the machine ran or where its last memory was wound up: by an answer of its stage, with its cause. Where P says
-- of which guarded run, it is what becomes of that, whose last checkpoint has this serial.
pub record KeptHalts (tells : Role → Bool) (old now : Meanings) (before after : ℕ) (row : Row) (lines : List Line) (P : Meanings → Run → Course → Type 0) (serial : ℕ) (status : Status) : Type 0 where
  pub stage : Stage
  pub late : (stage ≡ Running) ⊎ (stage ≡ Finishing)
  pub answer : EndsKept stage status
  pub of_run : IsOfRun status
  pub answered : IsAnswered tells old now row status
  pub caused : IsVaultCaused status before after
  pub halts : (first : Meanings) (g : Run) (c : Course) → P first g c → HaltsAt stage tells first now row lines g serial status c

-- ---- a turn

-- where the host tells Work, an image of this serial is that of the run's checkpoint
abbrev pub IsKeptImage : Bool → List Line → ℕ → Run → ℕ → List ℕ → Type 0
IsKeptImage work events steps g serial image = IsTrue work → IsCheckpoint events steps g serial image

-- What the vault kept then, where the last checkpoint was this one: after a turn that was answered it is the one that it has, as `recover` says it; after any other
-- that wasn't ended by a failure of the vault it has that one still.
abbrev pub TurnKeeps : VaultState → VaultState → Option Point → (ℕ → List ℕ → Type 0) → Result Turn Status → Type 0
TurnKeeps began now last IsImage (Ok (turn.Kept rest loaded point)) = Keeps began now point.serial IsImage × IsLast now (Some point)
TurnKeeps began now last IsImage (Ok (turn.Ended rest ended)) = Keeps began now (serial_of last) IsImage × IsLast now last
TurnKeeps began now last IsImage (Err status) = Keeps began now (serial_of last) IsImage × KeepsLast now (serial_of last) status

-- The machine was kept, under the next serial, and the disk has what the next leg begins with; or the run ended. P says which run the turn is of.
abbrev pub TurnLeaves : {H : Type 0} → Ghosts H → H → Row → List Line → ℕ → Cpu → (Meanings → Run → Course → Type 0) → Turn → Type 0
TurnLeaves host now row events serial cpu P (turn.Kept rest loaded point) = HasImage host now rest loaded × (row.room ≡ disk_room rest) × (point.serial ≡ serial + 1) × (serial < LAST_SERIAL)
    × ((before : Meanings) (g : Run) (c : Course) → P before g c
    → FromDisk host.tells row false events point.serial cpu (host.roles now Transcript).put loaded.state (heap_on host now rest loaded.next) before g c)
TurnLeaves host now row events serial cpu P (turn.Ended rest ended) = HasCounted ended.finished.end ended.finished.ran row.steps × (is_kept ended.finished.end ≡ false)
    × ((left : Heap) × (IsTrue (host.tells Work) → HasEnded host now rest ended.next left)
    × ((before : Meanings) (g : Run) (c : Course) → P before g c → CameThrough host.tells before (meanings host now) row ended.finished left c × (serial_at (guarded_on events row.steps g) ≡ serial)))
