-- What a vault tells of itself, and what a stop may leave of it.
use Rattle.std.specs.Prelude.{◌≡◌, ℕ, ◌+◌, ◌≤◌, ◌<◌, ◌&&◌, Bool, true, false, not, List, [], ◌∷◌, ◌++◌, ◌⊎◌, Option, None, Some, IfSome, Result, IsErr, OnOk, OnErr, is_ok, length, take, slice_index, nat_le, nat_lt, if◌then◌else◌}
use Rattle.long_names.specs.Counting.{counted}
use Rattle.loom_host.specs.Bytes.{overwritten}

-- A call behind which a stop may leave other bytes than before it: whether it answered Ok, and the contents that it left.
pub data Call : Type 0 where
  -- a fresh opening
  Opened : (ok : Bool) → (left : List ℕ) → Call
  -- a write of so many bytes from a place on
  Written : (ok : Bool) → (place : ℕ) → (len : ℕ) → (left : List ℕ) → Call
  Synced : (ok : Bool) → (left : List ℕ) → Call

abbrev pub left_by : Call → List ℕ
left_by (Opened ok left) = left
left_by (Written ok place len left) = left
left_by (Synced ok left) = left

-- what a vault that tells itself says
pub record VaultState : Type 0 where
  -- how often it was opened, openings that failed among them, and the name of the last
  pub openings : ℕ
  pub name : Option (List ℕ)
  -- the contents that it began with, and its fresh openings, writes and syncs since then, in order
  pub began : List ℕ
  pub calls : List Call

-- of a vault where nothing has been done yet
abbrev pub at_start : VaultState
at_start = record { openings = 0; name = None; began = []; calls = [] }

-- ---- what a read gives

abbrev pub contents_after : List ℕ → List Call → List ℕ
contents_after left [] = left
contents_after left (call ∷ calls) = contents_after (left_by call) calls

abbrev pub contents_of : VaultState → List ℕ
contents_of s = contents_after s.began s.calls

-- ---- what a stop may leave

-- bytes that may be lost: so many from a place on, or all
pub data Span : Type 0 where
  Run : (place : ℕ) → (len : ℕ) → Span
  Whole : Span

abbrev pub is_in : ℕ → Span → Bool
is_in i (Run place len) = nat_le place i && nat_lt i (place + len)
is_in i Whole = true

abbrev pub is_synced : List Span → ℕ → Bool
is_synced [] i = true
is_synced (span ∷ spans) i = not (is_in i span) && is_synced spans i

-- A write that failed counts as written, on its own range alone. Where a fresh opening failed nothing is known. One that went through leaves nothing
-- that a stop could bring back.
abbrev pub unsynced_by : List Span → Call → List Span
unsynced_by spans (Opened ok left) = if ok then [] else Whole ∷ spans
unsynced_by spans (Written ok place len left) = Run place len ∷ spans
unsynced_by spans (Synced ok left) = if ok then [] else spans

abbrev pub unsynced_after : List Span → List Call → List Span
unsynced_after spans [] = spans
unsynced_after spans (call ∷ calls) = unsynced_after (unsynced_by spans call) calls

abbrev pub unsynced_of : VaultState → List Span
unsynced_of s = unsynced_after [] s.calls

-- A stop now may leave these bytes: each range that was written since the last sync may hold any, and all others are as a read gives them. They are
-- read as 0 past the end.
abbrev pub MayLeave : VaultState → List ℕ → Type 0
MayLeave s bytes = (i : ℕ) → is_synced (unsynced_of s) i ≡ true → slice_index bytes i ≡ slice_index (contents_of s) i

-- the vault after the first of its calls. A stop within a call leaves what one before it or behind it may leave
abbrev pub moment : ℕ → VaultState → VaultState
moment k s = record s { calls = take k s.calls }

-- P holds of all bytes that a stop may leave, from one moment to another
abbrev pub Throughout : VaultState → VaultState → (List ℕ → Type 0) → Type 0
Throughout old new P = (k : ℕ) → length old.calls ≤ k → (bytes : List ℕ) → MayLeave (moment k new) bytes → P bytes

-- ---- what its calls do

-- after more calls, none of them an opening
abbrev pub behind : VaultState → List Call → VaultState
behind s more = record s { calls = s.calls ++ more }

-- calls joined the list, and nothing else changed
pub record Extends (old new : VaultState) : Type 0 where
  pub more : List Call
  pub is : new ≡ behind old more

-- a call that failed may have done nothing, and then it isn't in the list: a list that needs memory can't have each
abbrev pub DoesNothing : {T E : Type 0} → Result T E → VaultState → VaultState → Type 0
DoesNothing result old new = IsErr result × (new ≡ old)

-- a fresh opening, in the list. Where it failed nothing is known of what is left
pub record Opens {T E : Type 0} (result : Result T E) (old new : List Call) : Type 0 where
  pub left : List ℕ
  pub calls : new ≡ old ++ Opened (is_ok result) left ∷ []
  pub empty : OnOk result (left ≡ [])

-- what an opening does to the list. One that isn't fresh leaves it as it was, and with it the contents and what isn't synced
abbrev pub MayOpen : {T E : Type 0} → Bool → Result T E → List Call → List Call → Type 0
MayOpen true result old new = Opens result old new ⊎ (IsErr result × (new ≡ old))
MayOpen false result old new = new ≡ old

pub record IsOpened {T E : Type 0} (fresh : Bool) (text : List ℕ) (result : Result T E) (old new : VaultState) : Type 0 where
  pub openings : new.openings ≡ counted old.openings
  pub named : OnOk result (new.name ≡ Some text)
  pub no_other : IfSome new.name (λ name. name ≡ text)
  pub began : new.began ≡ old.began
  pub calls : MayOpen fresh result old.calls new.calls

-- outside of so many bytes from a place on the contents are as they were
abbrev pub IsSameOutside : ℕ → ℕ → List ℕ → List ℕ → Type 0
IsSameOutside place len old new = (i : ℕ) → (place ≤ i → i < place + len → ⊥) → slice_index new i ≡ slice_index old i

-- these bytes are written; where that failed, any may stand there
pub record Writes {T E : Type 0} (place : ℕ) (bytes : List ℕ) (result : Result T E) (old new : VaultState) : Type 0 where
  pub left : List ℕ
  pub is : new ≡ behind old (Written (is_ok result) place (length bytes) left ∷ [])
  pub written : OnOk result (left ≡ overwritten (contents_of old) place bytes)
  pub outside : OnErr result (IsSameOutside place (length bytes) (contents_of old) left)

abbrev pub IsWritten : {T E : Type 0} → ℕ → List ℕ → Result T E → VaultState → VaultState → Type 0
IsWritten place bytes result old new = Writes place bytes result old new ⊎ DoesNothing result old new

-- the contents stay, whatever it answers
pub record Syncs {T E : Type 0} (result : Result T E) (old new : VaultState) : Type 0 where
  pub is : new ≡ behind old (Synced (is_ok result) (contents_of old) ∷ [])

abbrev pub IsSynced : {T E : Type 0} → Result T E → VaultState → VaultState → Type 0
IsSynced result old new = Syncs result old new ⊎ DoesNothing result old new

-- it is empty, and nothing older can come back
pub record IsEmpty (s : VaultState) : Type 0 where
  pub contents : contents_of s ≡ []
  pub synced : unsynced_of s ≡ []
