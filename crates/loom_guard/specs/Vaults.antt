-- The vault of a guarded or a resumed run: what it means at one moment, how it is opened, and why it is refused.
use Rattle.std.specs.Prelude.{◌≡◌, ◌⊎◌, ℕ, ◌<◌, Bool, true, false, List, [], ◌∷◌, ◌++◌, Option, None, Some, IfSome, IsTrue, IsSome, length}
use Rattle.long_names.specs.Counting.{Rose, counted}
use Rattle.checkpoint.specs.History.{serial_in}
use Rattle.checkpoint.specs.Keeping.{HasSame}
use Rattle.checkpoint.specs.Layout.{bad_place, found}
use Rattle.checkpoint.specs.Vault.{Extends, MayLeave, Opened, Throughout, VaultState, contents_of}
use Rattle.checkpoint.specs.declared.point.Point.{Point}
use Rattle.checkpoint.specs.declared.vault.Vault.{Ghosts}
use Rattle.loom_words.specs.declared.status.Status.{Status}
use Rattle.loom_words.specs.declared.status.Status.TheVariants.{NoCheckpoint, OutOfMemory, VaultBad, VaultFault}
use Rattle.loom_guard.specs.Ways.{Way, Guarding, Resuming}

pub record VaultMeanings : Type 0 where
  -- what it tells of itself
  pub state : VaultState
  -- how often its calls failed, up to the greatest u64
  pub faults : ℕ

abbrev pub vault_meanings : {V : Type 0} → Ghosts V → V → VaultMeanings
vault_meanings vault now = record { state = vault.state now; faults = vault.faults now }

-- ---- the vault is opened

-- it was opened once, by its word and no other
pub record OpenedOnce (word : List ℕ) (old new : VaultState) : Type 0 where
  pub openings : new.openings ≡ counted old.openings
  pub name : IfSome new.name (λ name. name ≡ word)

-- It was opened afresh, which leaves nothing of what was there, and no stop since the opening leaves a checkpoint.
pub record IsEmptied (old start : VaultState) : Type 0 where
  pub opened : VaultState
  pub began : opened.began ≡ old.began
  pub calls : opened.calls ≡ old.calls ++ Opened true [] ∷ []
  pub extends : Extends opened start
  pub none : Throughout opened start (λ bytes. found bytes ≡ None)

-- the place of the second gate; the first one's is 0
abbrev pub SECOND_GATE : ℕ
SECOND_GATE = 512

-- And both gates were written: an opening alone leaves no byte.
pub record IsNew (old start : VaultState) : Type 0 where
  pub emptied : IsEmptied old start
  pub gates : SECOND_GATE < length (contents_of start)

-- It holds what it held, and a stop until then leaves what it could leave before.
pub record IsKept (old start : VaultState) : Type 0 where
  pub same : contents_of start ≡ contents_of old
  pub stops : Throughout old start (MayLeave old)

-- how a run finds its vault
abbrev pub Finds : Way → VaultState → VaultState → Type 0
Finds Guarding old start = IsNew old start
Finds Resuming old start = IsKept old start

-- The checkpoint that the run begins with, by what the vault held when it was opened: a guarded run begins with none.
abbrev pub IsFrom : Way → VaultState → Option Point → Type 0
IsFrom Guarding old point = point ≡ None
IsFrom Resuming old point = (bad_place (contents_of old) ≡ None) × (found (contents_of old) ≡ point) × IsSome point

-- ---- the last checkpoint

-- It has the checkpoint of this serial, none where that is 0, and so it has after a stop: the same one, whole.
pub record HasLast (s : VaultState) (serial : ℕ) : Type 0 where
  pub has : serial_in (contents_of s) ≡ serial
  pub outlives : (bytes : List ℕ) → MayLeave s bytes → HasSame (contents_of s) bytes

abbrev pub IsVaultFault : Status → Type 0
IsVaultFault (VaultFault count) = Unit {0}
IsVaultFault _ = ⊥

-- so it is at each end but a failure of the vault
abbrev pub KeepsLast : VaultState → ℕ → Status → Type 0
KeepsLast s serial status = (IsVaultFault status → ⊥) → HasLast s serial

-- ---- it is refused

-- A fault of the vault that is answered has risen, and comes with its count. With any other answer no call on the vault failed: the count of its faults is as it was.
abbrev pub IsVaultCaused : Status → ℕ → ℕ → Type 0
IsVaultCaused (VaultFault count) before now = (count ≡ now) × Rose before now
IsVaultCaused _ before now = now ≡ before

-- By a fault of the vault; or a resumed run found no checkpoint, or a gate that is bad, or had no memory for the image. Where the vault tells what it
-- held when it was opened, that says which.
abbrev pub RefusesVault : Way → Bool → VaultState → Status → Type 0
RefusesVault way told old (VaultFault count) = Unit {0}
RefusesVault Resuming told old NoCheckpoint = IsTrue told → (bad_place (contents_of old) ≡ None) × (found (contents_of old) ≡ None)
RefusesVault Resuming told old (VaultBad place) = IsTrue told → bad_place (contents_of old) ≡ Some place
RefusesVault Resuming told old OutOfMemory = IsTrue told → (bad_place (contents_of old) ≡ None) × IsSome (found (contents_of old))
RefusesVault _ told old _ = ⊥

-- and a fault comes with its cause; with any other answer no call failed
pub record IsVaultRefusal (way : Way) (told : Bool) (old new : VaultMeanings) (status : Status) : Type 0 where
  pub refuses : RefusesVault way told old.state status
  pub caused : IsVaultCaused status old.faults new.faults

-- Its opening failed: then nothing is known of what the vault holds.
pub record IsUnopened (old new : VaultState) : Type 0 where
  pub began : new.began ≡ old.began
  pub calls : (new.calls ≡ old.calls) ⊎ ((left : List ℕ) × (new.calls ≡ old.calls ++ Opened false left ∷ []))

-- What a run that is refused leaves of it. A resumed one leaves what the vault held, and what a stop could leave of it. Where a guarded one has opened it
-- afresh, nothing of what was there is left, and no stop since then leaves a checkpoint.
abbrev pub LeavesVault : Way → VaultState → VaultState → Type 0
LeavesVault Guarding old new = IsEmptied old new ⊎ IsUnopened old new
LeavesVault Resuming old new = IsKept old new
