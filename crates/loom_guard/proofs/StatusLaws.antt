-- What is said of each answer of a run with checkpoints.
use Rattle.std.proofs.Common.{◌≡◌, ℕ, Bool, refl, subst}
use Rattle.checkpoint.specs.Vault.{VaultState}
use Rattle.blue_model.specs.Endings.{IsParked}
use Rattle.blue_model.specs.Logs.{Course}
use Rattle.loom_run.specs.Ends.{GoesThrough, HasRun}
use Rattle.loom_run.specs.Parts.{unsaid}
use Rattle.loom_run.specs.Stages.{Stage, Opening, Reading, Listening, Making, Running, Finishing, Saving, Drawing, Telling, Ends}
use Rattle.loom_run.specs.Steps.{IsOfRun}
use Rattle.loom_words.specs.declared.status.Status.{Status}
use Rattle.loom_words.specs.declared.status.Status.TheVariants as answer
use Rattle.loom_guard.specs.Promise.{EndsKept}
use Rattle.loom_guard.specs.Vaults.{IsVaultCaused, IsVaultFault, RefusesVault}
use Rattle.loom_guard.specs.Ways.{Way, Guarding, Resuming}

-- ---- the answers of a stage

pub vault-never : (stage : Stage) (count : ℕ) → Ends stage (answer.VaultFault count) → ⊥
vault-never Opening count h = h
vault-never Reading count h = h
vault-never Listening count h = h
vault-never Making count h = h
vault-never Running count h = h
vault-never Finishing count h = h
vault-never Saving count h = h
vault-never Drawing count h = h
vault-never Telling count h = h

running-kept : (status : Status) → Ends Running status → EndsKept Running status
running-kept (answer.Done ran) h = h
running-kept (answer.Quit ran) h = h
running-kept (answer.Made objects) h = h
running-kept (answer.Listed objects) h = h
running-kept (answer.Assembled objects) h = h
running-kept (answer.Usage word) h = h
running-kept (answer.ImageBad rule place) h = h
running-kept (answer.EventsBad line) h = h
running-kept (answer.TextBad line rule) h = h
running-kept (answer.Stuck cause ran) h = h
running-kept (answer.CoreFull ran need) h = h
running-kept (answer.NamesSpent ran) h = h
running-kept (answer.WorkFull live room) h = h
running-kept (answer.ReadFault role count) h = h
running-kept (answer.WorkFault count) h = h
running-kept (answer.WriteFault role count) h = h
running-kept answer.OutOfMemory h = h
running-kept (answer.Damaged place name) h = h
running-kept (answer.VaultFault count) h = tt
running-kept answer.NoCheckpoint h = h
running-kept (answer.VaultBad place) h = h

pub ends-kept : (stage : Stage) (status : Status) → Ends stage status → EndsKept stage status
ends-kept Opening status h = h
ends-kept Reading status h = h
ends-kept Listening status h = h
ends-kept Making status h = h
ends-kept Running status h = running-kept status h
ends-kept Finishing status h = h
ends-kept Saving status h = h
ends-kept Drawing status h = h
ends-kept Telling status h = h

running-plain : (status : Status) → ((count : ℕ) → status ≡ answer.VaultFault count → ⊥) → EndsKept Running status → Ends Running status
running-plain (answer.Done ran) other h = h
running-plain (answer.Quit ran) other h = h
running-plain (answer.Made objects) other h = h
running-plain (answer.Listed objects) other h = h
running-plain (answer.Assembled objects) other h = h
running-plain (answer.Usage word) other h = h
running-plain (answer.ImageBad rule place) other h = h
running-plain (answer.EventsBad line) other h = h
running-plain (answer.TextBad line rule) other h = h
running-plain (answer.Stuck cause ran) other h = h
running-plain (answer.CoreFull ran need) other h = h
running-plain (answer.NamesSpent ran) other h = h
running-plain (answer.WorkFull live room) other h = h
running-plain (answer.ReadFault role count) other h = h
running-plain (answer.WorkFault count) other h = h
running-plain (answer.WriteFault role count) other h = h
running-plain answer.OutOfMemory other h = h
running-plain (answer.Damaged place name) other h = h
running-plain (answer.VaultFault count) other h = absurd (other count refl)
running-plain answer.NoCheckpoint other h = h
running-plain (answer.VaultBad place) other h = h

-- but for a fault of the vault they are those of a run
pub ends-plain : (stage : Stage) (status : Status) → ((count : ℕ) → status ≡ answer.VaultFault count → ⊥) → EndsKept stage status → Ends stage status
ends-plain Opening status other h = h
ends-plain Reading status other h = h
ends-plain Listening status other h = h
ends-plain Making status other h = h
ends-plain Running status other h = running-plain status other h
ends-plain Finishing status other h = h
ends-plain Saving status other h = h
ends-plain Drawing status other h = h
ends-plain Telling status other h = h

-- ---- faults of the vault

-- an answer of a run is none, where none of its calls failed
pub caused-none : (stage : Stage) (status : Status) (before now : ℕ) → now ≡ before → Ends stage status → IsVaultCaused status before now
caused-none stage (answer.Done ran) before now same h = same
caused-none stage (answer.Quit ran) before now same h = same
caused-none stage (answer.Made objects) before now same h = same
caused-none stage (answer.Listed objects) before now same h = same
caused-none stage (answer.Assembled objects) before now same h = same
caused-none stage (answer.Usage word) before now same h = same
caused-none stage (answer.ImageBad rule place) before now same h = same
caused-none stage (answer.EventsBad line) before now same h = same
caused-none stage (answer.TextBad line rule) before now same h = same
caused-none stage (answer.Stuck cause ran) before now same h = same
caused-none stage (answer.CoreFull ran need) before now same h = same
caused-none stage (answer.NamesSpent ran) before now same h = same
caused-none stage (answer.WorkFull live room) before now same h = same
caused-none stage (answer.ReadFault role count) before now same h = same
caused-none stage (answer.WorkFault count) before now same h = same
caused-none stage (answer.WriteFault role count) before now same h = same
caused-none stage answer.OutOfMemory before now same h = same
caused-none stage (answer.Damaged place name) before now same h = same
caused-none stage (answer.VaultFault count) before now same h = absurd (vault-never stage count h)
caused-none stage answer.NoCheckpoint before now same h = same
caused-none stage (answer.VaultBad place) before now same h = same

-- no call failed unless it is one
pub calm-caused : (status : Status) (before now : ℕ) → IsVaultCaused status before now → (IsVaultFault status → ⊥) → now ≡ before
calm-caused (answer.Done ran) before now h other = h
calm-caused (answer.Quit ran) before now h other = h
calm-caused (answer.Made objects) before now h other = h
calm-caused (answer.Listed objects) before now h other = h
calm-caused (answer.Assembled objects) before now h other = h
calm-caused (answer.Usage word) before now h other = h
calm-caused (answer.ImageBad rule place) before now h other = h
calm-caused (answer.EventsBad line) before now h other = h
calm-caused (answer.TextBad line rule) before now h other = h
calm-caused (answer.Stuck cause ran) before now h other = h
calm-caused (answer.CoreFull ran need) before now h other = h
calm-caused (answer.NamesSpent ran) before now h other = h
calm-caused (answer.WorkFull live room) before now h other = h
calm-caused (answer.ReadFault role count) before now h other = h
calm-caused (answer.WorkFault count) before now h other = h
calm-caused (answer.WriteFault role count) before now h other = h
calm-caused answer.OutOfMemory before now h other = h
calm-caused (answer.Damaged place name) before now h other = h
calm-caused (answer.VaultFault count) before now h other = absurd (other tt)
calm-caused answer.NoCheckpoint before now h other = h
calm-caused (answer.VaultBad place) before now h other = h

-- since an earlier moment, where no call failed until then
pub vault-since : (status : Status) (before mid now : ℕ) → mid ≡ before → IsVaultCaused status mid now → IsVaultCaused status before now
vault-since status before mid now same h = subst (λ (n : ℕ). IsVaultCaused status n now) same h

-- ---- a vault that was refused

-- what such an answer is: none about the words or the last line, and it stays as it is where that couldn't be put
pub record IsOther (status : Status) : Type 0 where
  pub of_run : IsOfRun status
  pub ran : (steps : ℕ) → HasRun status steps
  pub stays : (count : ℕ) → unsaid status count ≡ status

pub refusal-is : (way : Way) (told : Bool) (old : VaultState) (status : Status) → RefusesVault way told old status → IsOther status
refusal-is Guarding told old (answer.Done ran) h = absurd h
refusal-is Guarding told old (answer.Quit ran) h = absurd h
refusal-is Guarding told old (answer.Made objects) h = absurd h
refusal-is Guarding told old (answer.Listed objects) h = absurd h
refusal-is Guarding told old (answer.Assembled objects) h = absurd h
refusal-is Guarding told old (answer.Usage word) h = absurd h
refusal-is Guarding told old (answer.ImageBad rule place) h = absurd h
refusal-is Guarding told old (answer.EventsBad line) h = absurd h
refusal-is Guarding told old (answer.TextBad line rule) h = absurd h
refusal-is Guarding told old (answer.Stuck cause ran) h = absurd h
refusal-is Guarding told old (answer.CoreFull ran need) h = absurd h
refusal-is Guarding told old (answer.NamesSpent ran) h = absurd h
refusal-is Guarding told old (answer.WorkFull live room) h = absurd h
refusal-is Guarding told old (answer.ReadFault role count) h = absurd h
refusal-is Guarding told old (answer.WorkFault count) h = absurd h
refusal-is Guarding told old (answer.WriteFault role count) h = absurd h
refusal-is Guarding told old answer.OutOfMemory h = absurd h
refusal-is Guarding told old (answer.Damaged place name) h = absurd h
refusal-is Guarding told old (answer.VaultFault count) h = record { of_run = tt; ran = λ steps. tt; stays = λ count. refl }
refusal-is Guarding told old answer.NoCheckpoint h = absurd h
refusal-is Guarding told old (answer.VaultBad place) h = absurd h
refusal-is Resuming told old (answer.Done ran) h = absurd h
refusal-is Resuming told old (answer.Quit ran) h = absurd h
refusal-is Resuming told old (answer.Made objects) h = absurd h
refusal-is Resuming told old (answer.Listed objects) h = absurd h
refusal-is Resuming told old (answer.Assembled objects) h = absurd h
refusal-is Resuming told old (answer.Usage word) h = absurd h
refusal-is Resuming told old (answer.ImageBad rule place) h = absurd h
refusal-is Resuming told old (answer.EventsBad line) h = absurd h
refusal-is Resuming told old (answer.TextBad line rule) h = absurd h
refusal-is Resuming told old (answer.Stuck cause ran) h = absurd h
refusal-is Resuming told old (answer.CoreFull ran need) h = absurd h
refusal-is Resuming told old (answer.NamesSpent ran) h = absurd h
refusal-is Resuming told old (answer.WorkFull live room) h = absurd h
refusal-is Resuming told old (answer.ReadFault role count) h = absurd h
refusal-is Resuming told old (answer.WorkFault count) h = absurd h
refusal-is Resuming told old (answer.WriteFault role count) h = absurd h
refusal-is Resuming told old answer.OutOfMemory h = record { of_run = tt; ran = λ steps. tt; stays = λ count. refl }
refusal-is Resuming told old (answer.Damaged place name) h = absurd h
refusal-is Resuming told old (answer.VaultFault count) h = record { of_run = tt; ran = λ steps. tt; stays = λ count. refl }
refusal-is Resuming told old answer.NoCheckpoint h = record { of_run = tt; ran = λ steps. tt; stays = λ count. refl }
refusal-is Resuming told old (answer.VaultBad place) h = record { of_run = tt; ran = λ steps. tt; stays = λ count. refl }

-- ---- a memory that couldn't be wound up

pub goes-finishing : (status : Status) (c : Course) → Ends Finishing status → IsParked c.ending → GoesThrough status c
goes-finishing (answer.Done ran) c h went = absurd h
goes-finishing (answer.Quit ran) c h went = absurd h
goes-finishing (answer.Made objects) c h went = went
goes-finishing (answer.Listed objects) c h went = went
goes-finishing (answer.Assembled objects) c h went = went
goes-finishing (answer.Usage word) c h went = went
goes-finishing (answer.ImageBad rule place) c h went = went
goes-finishing (answer.EventsBad line) c h went = went
goes-finishing (answer.TextBad line rule) c h went = went
goes-finishing (answer.Stuck cause ran) c h went = went
goes-finishing (answer.CoreFull ran need) c h went = went
goes-finishing (answer.NamesSpent ran) c h went = went
goes-finishing (answer.WorkFull live room) c h went = went
goes-finishing (answer.ReadFault role count) c h went = went
goes-finishing (answer.WorkFault count) c h went = went
goes-finishing (answer.WriteFault role count) c h went = went
goes-finishing answer.OutOfMemory c h went = went
goes-finishing (answer.Damaged place name) c h went = went
goes-finishing (answer.VaultFault count) c h went = went
goes-finishing answer.NoCheckpoint c h went = went
goes-finishing (answer.VaultBad place) c h went = went
