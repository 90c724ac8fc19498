-- What a saving leaves of its name at each moment.
use Rattle.std.specs.Prelude.{◌≡◌, ◌≢◌, ◌⊎◌, ℕ, false, List, [], ◌∷◌, Option, None, Some}
use Rattle.file_system.specs.Calls.{opening}
use Rattle.file_system.specs.World.{Entry, Opening, World, Moments, MayLeave, Throughout, all, content_at, put_at}
use Rattle.file_system.specs.declared.system.Kind.TheVariants.{Regular}
use Rattle.file_system.specs.declared.system.Way.{Way}
use Rattle.file_system.specs.declared.system.Way.TheVariants.{Append}
use Rattle.std.specs.Option.{option_map}

-- ---- in the words of files

-- the name leads to bytes that it led to before (or nowhere, as before), or to these
abbrev pub HoldsOldOrNew : Entry → Option (List ℕ) → List ℕ → World → Type 0
HoldsOldOrNew e old bytes w = (content_at e w ≡ old) ⊎ (content_at e w ≡ Some bytes)

-- nothing of it would be lost
pub record IsSteady (e : Entry) (w : World) : Type 0 where
  pub name : w.earlier e ≡ []
  pub file : (i : ℕ) → w.names e ≡ Some i → (w.files i).unsure ≡ []

-- The name leads to the old file or to the whole new one; after a loss of power too, where the old one was on the disk.
pub record IsOldOrNew (e : Entry) (before : World) (bytes : List ℕ) (w : World) : Type 0 where
  pub now : HoldsOldOrNew e (content_at e before) bytes w
  pub lost : IsSteady e before → (left : World) → MayLeave w left → HoldsOldOrNew e (content_at e before) bytes left

-- and to the new one alone
pub record IsSaved (e : Entry) (bytes : List ℕ) (w : World) : Type 0 where
  pub now : content_at e w ≡ Some bytes
  pub lost : (left : World) → MayLeave w left → content_at e left ≡ Some bytes

-- which file a descriptor is of, and how it is used
pub record Use : Type 0 where
  pub file : ℕ
  pub way : Option Way

abbrev pub use_of : Opening → Use
use_of o = record { file = o.file; way = o.way }

abbrev pub use_at : ℕ → World → Option Use
use_at d w = option_map use_of (w.opened d)

-- every descriptor is of the file that it was of
abbrev pub KeepsUses : Moments → Moments → Type 0
KeepsUses old new = (d : ℕ) (u : Use) → use_at d old.now ≡ Some u → use_at d new.now ≡ Some u

-- what was accepted stays, through every descriptor
pub record KeepsPut (old new : Moments) : Type 0 where
  pub is : (d : ℕ) → put_at d new.now ≡ put_at d old.now
  pub uses : KeepsUses old new

-- and through every other one
pub record KeepsPutBut (d : ℕ) (old new : Moments) : Type 0 where
  pub is : (k : ℕ) → k ≢ d → put_at k new.now ≡ put_at k old.now
  pub uses : KeepsUses old new

-- ---- in the words of the proof

-- the name, and the file that it leads to, are as they were
pub record IsStill (e : Entry) (w v : World) : Type 0 where
  pub name : v.names e ≡ w.names e
  pub earlier : v.earlier e ≡ w.earlier e
  pub file : (i : ℕ) → w.names e ≡ Some i → v.files i ≡ w.files i

-- the new file has the name, or may have it, and is whole on the disk; the old one is as it was
pub record IsMoved (e : Entry) (file : ℕ) (bytes : List ℕ) (w v : World) : Type 0 where
  pub whole : (v.files file).bytes ≡ bytes
  pub sure : (v.files file).unsure ≡ []
  pub name : v.names e ≡ Some file
  pub earlier : (v.earlier e ≡ w.names e ∷ w.earlier e) ⊎ (v.earlier e ≡ [])
  pub old : (i : ℕ) → w.names e ≡ Some i → v.files i ≡ w.files i

-- and keeps it after a loss of power
pub record IsMovedForGood (e : Entry) (file : ℕ) (bytes : List ℕ) (w v : World) : Type 0 where
  pub moved : IsMoved e file bytes w v
  pub sure : v.earlier e ≡ []

-- the same at each moment between two
abbrev pub KeepsName : Entry → Moments → Moments → Type 0
KeepsName e old new = Throughout (IsStill e old.now) (all old) (all new)

abbrev pub IsStillOrMoved : Entry → ℕ → List ℕ → World → World → Type 0
IsStillOrMoved e file bytes w v = IsStill e w v ⊎ IsMoved e file bytes w v

-- the name is as it was, and so are all files
pub record IsUntouched (e : Entry) (w v : World) : Type 0 where
  pub name : v.names e ≡ w.names e
  pub earlier : v.earlier e ≡ w.earlier e
  pub files : (i : ℕ) → v.files i ≡ w.files i

abbrev pub LeavesName : Entry → Moments → Moments → Type 0
LeavesName e old new = Throughout (IsUntouched e old.now) (all old) (all new)

-- it isn't the name that the unfinished file stands under, while that one stands there
abbrev pub IsApart : Entry → Entry → ℕ → World → Type 0
IsApart e part file w = w.names part ≡ Some file → e ≢ part

-- what is open of a file that is written
abbrev pub being_written : ℕ → List ℕ → Opening
being_written file bytes = record { file = file; way = Some Append; place = 0; coming = []; put = bytes; shut = false }

-- an unfinished file: open, under its own name alone, with these bytes
pub record IsUnfinished (part : Entry) (d file : ℕ) (bytes : List ℕ) (w : World) : Type 0 where
  pub opened : w.opened d ≡ Some (being_written file bytes)
  pub regular : (w.files file).kind ≡ Regular
  pub holds : (w.files file).bytes ≡ bytes
  pub unspoiled : (w.files file).spoiled ≡ false
  pub only : (e : Entry) → e ≢ part → w.names e ≢ Some file

-- a finished one that has its own name still: it is on the disk
pub record IsFinished (part : Entry) (file : ℕ) (bytes : List ℕ) (w : World) : Type 0 where
  pub named : w.names part ≡ Some file
  pub regular : (w.files file).kind ≡ Regular
  pub holds : (w.files file).bytes ≡ bytes
  pub sure : (w.files file).unsure ≡ []
  pub only : (e : Entry) → e ≢ part → w.names e ≢ Some file

-- a descriptor of the folder of this number
pub record IsOpenFolder (d folder : ℕ) (w : World) : Type 0 where
  pub coming : List ℕ
  pub opened : w.opened d ≡ Some (opening folder None coming)
