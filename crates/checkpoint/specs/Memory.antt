-- What a vault in memory stands for. These words are not opened by themselves: who calls it goes by its clauses.
use Rattle.std.specs.Prelude.{◌≡◌, ℕ, ◌+◌, ◌-◌, ◌≤◌, Bool, vec_capacity, List, [], Option, None, Some, Result, IsErr, is_err, if◌then◌else◌}
use Rattle.std.specs.Option.{option_map}
use Rattle.long_names.specs.Counting.{counted}
use Rattle.checkpoint.specs.Journal.{HasRoomIn, state_in}
use Rattle.checkpoint.specs.Torn.{but_first, torn}
use Rattle.checkpoint.specs.Vault.{VaultState, contents_of, unsynced_of}
use Rattle.checkpoint.specs.declared.memory.MemoryVault.{MemoryVault}

-- as a vault that was opened so often, last by this name
abbrev pub opened_as : ℕ → Option (List ℕ) → VaultState → VaultState
opened_as openings name s = record s { openings = openings; name = name }

-- the name is told where the last opening answered Ok
abbrev pub name_of : MemoryVault → Option (List ℕ)
name_of v = if v.named then Some v.name.items else None

unfoldable pub state_of : MemoryVault → VaultState
state_of v = opened_as v.openings (name_of v) (state_in v.journal)

unfoldable pub faults_of : MemoryVault → ℕ
faults_of v = v.faults

-- how many calls pass before each is to fail; None where none is
unfoldable pub fuse_of : MemoryVault → Option ℕ
fuse_of v = v.fuse

-- after a stop: the first ranges that were written since the last sync that answered Ok stand, and the others hold this byte
abbrev pub stopped : ℕ → ℕ → VaultState → VaultState
stopped kept fill s = record s { began = torn (but_first kept (unsynced_of s)) fill (contents_of s); calls = [] }

-- one call: it fails where the fuse is out, and each failure is counted
pub record OneCall {T E : Type 0} (old new : MemoryVault) (result : Result T E) : Type 0 where
  pub due : fuse_of old ≡ Some 0 → IsErr result
  pub fuse : fuse_of new ≡ option_map (λ calls. calls - 1) (fuse_of old)
  pub faults : faults_of new ≡ (if is_err result then counted (faults_of old) else faults_of old)

-- room for a name of so many bytes, for so many further calls that the list may join, for so many bytes that they write, and for contents up to an end
unfoldable pub HasRoom : ℕ → ℕ → ℕ → ℕ → MemoryVault → Type 0
HasRoom name calls bytes end v = (name ≤ vec_capacity v.name) × HasRoomIn calls bytes end v.journal

-- no less room
abbrev pub Widens : MemoryVault → MemoryVault → Type 0
Widens old new = (name calls bytes end : ℕ) → HasRoom name calls bytes end old → HasRoom name calls bytes end new

-- with how many calls of the list an opening goes through
abbrev pub with_opening : Bool → ℕ → ℕ
with_opening fresh calls = if fresh then calls + 1 else calls
