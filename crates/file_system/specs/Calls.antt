-- What the calls of a system do to its files.
use Rattle.std.specs.Prelude.{◌≡◌, ◌≢◌, ◌⊎◌, ℕ, ◌+◌, Bool, true, false, List, [], ◌∷◌, ◌++◌, length, drop, Option, None, Some, if◌then◌else◌}
use Rattle.std.specs.Option.{option_map}
use Rattle.loom_host.specs.Bytes.{overwritten}
use Rattle.file_system.specs.World.{Entry, Run, Whole, FileState, Opening, World, Moments, is_regular}
use Rattle.file_system.specs.declared.system.Kind.TheVariants.{Regular}
use Rattle.file_system.specs.declared.system.Making.{Making}
use Rattle.file_system.specs.declared.system.Making.TheVariants.{Old, May, New}
use Rattle.file_system.specs.declared.system.Way.{Way}
use Rattle.file_system.specs.declared.system.Way.TheVariants.{Append, Stream}

-- one call: the files are another moment's, and P is between the two
pub record Does (P : World → World → Type 0) (old new : Moments) : Type 0 where
  pub past : new.past ≡ old.now ∷ old.past
  pub does : P old.now new.now

-- a call that failed may have done it all the same, or nothing
abbrev pub MayDo : (World → World → Type 0) → Moments → Moments → Type 0
MayDo P old new = (new ≡ old) ⊎ Does P old new

-- ---- parts of the world that stay

pub record SameNames (w v : World) : Type 0 where
  pub names : (e : Entry) → v.names e ≡ w.names e
  pub earlier : (e : Entry) → v.earlier e ≡ w.earlier e

pub record SameNamesBut (here : Entry) (w v : World) : Type 0 where
  pub names : (e : Entry) → e ≢ here → v.names e ≡ w.names e
  pub earlier : (e : Entry) → e ≢ here → v.earlier e ≡ w.earlier e

abbrev pub SameFilesBut : ℕ → World → World → Type 0
SameFilesBut i w v = (k : ℕ) → k ≢ i → v.files k ≡ w.files k

abbrev pub SameFiles : World → World → Type 0
SameFiles w v = (k : ℕ) → v.files k ≡ w.files k

abbrev pub SameOpenedBut : ℕ → World → World → Type 0
SameOpenedBut d w v = (k : ℕ) → k ≢ d → v.opened k ≡ w.opened k

abbrev pub SameOpened : World → World → Type 0
SameOpened w v = (k : ℕ) → v.opened k ≡ w.opened k

-- ---- opening and closing

-- it is written in order, and never read
abbrev pub is_in_order : Option Way → Bool
is_in_order (Some Append) = true
is_in_order (Some Stream) = true
is_in_order _ = false

abbrev pub opening : ℕ → Option Way → List ℕ → Opening
opening i way coming = record { file = i; way = way; place = 0; coming = coming; put = []; shut = false }

-- a descriptor that nobody had is of this file now
pub record Takes (d i : ℕ) (way : Option Way) (w v : World) : Type 0 where
  pub free : w.opened d ≡ None
  pub coming : List ℕ
  pub unread : is_in_order way ≡ true → coming ≡ []
  pub opened : v.opened d ≡ Some (opening i way coming)
  pub others : SameOpenedBut d w v

-- A file that is there.
pub record Finds (d i : ℕ) (way : Option Way) (w v : World) : Type 0 where
  pub takes : Takes d i way w v
  pub names : SameNames w v
  pub files : SameFiles w v

-- a file that no name led to since the last syncs, and that nobody has open
pub record IsNew (i : ℕ) (w : World) : Type 0 where
  pub unnamed : (e : Entry) → w.names e ≢ Some i
  pub unopened : (d : ℕ) (o : Opening) → w.opened d ≡ Some o → o.shut ≡ false → o.file ≢ i

abbrev pub empty_file : FileState
empty_file = record { kind = Regular; bytes = []; unsure = Whole ∷ []; spoiled = false }

-- A new and empty file under this name, where there was none.
pub record Makes (here : Entry) (i : ℕ) (w v : World) : Type 0 where
  pub fresh : IsNew i w
  pub missing : w.names here ≡ None
  pub name : v.names here ≡ Some i
  pub earlier : v.earlier here ≡ w.names here ∷ w.earlier here
  pub names : SameNamesBut here w v
  pub file : v.files i ≡ empty_file
  pub files : SameFilesBut i w v

pub record MakesOpen (here : Entry) (d i : ℕ) (way : Option Way) (w v : World) : Type 0 where
  pub makes : Makes here i w v
  pub takes : Takes d i way w v

-- where a link that leads nowhere stands for another name, the file is made under that one
pub record MakesBehind (here : Entry) (d i : ℕ) (way : Option Way) (w v : World) : Type 0 where
  pub there : Entry
  pub own : w.names here ≡ None → there ≡ here
  pub makes : MakesOpen there d i way w v

-- what an opening that answered Ok does
abbrev pub Opens : Making → Entry → ℕ → ℕ → Option Way → World → World → Type 0
Opens Old here d i way w v = Finds d i way w v
Opens New here d i way w v = MakesOpen here d i way w v
Opens May here d i way w v = Finds d i way w v ⊎ MakesBehind here d i way w v

-- and one that failed: it may have made the file
pub record MakesShut (here : Entry) (w v : World) : Type 0 where
  pub file : ℕ
  pub makes : Makes here file w v
  pub opened : SameOpened w v

pub record MakesShutBehind (here : Entry) (w v : World) : Type 0 where
  pub there : Entry
  pub own : w.names here ≡ None → there ≡ here
  pub makes : MakesShut there w v

abbrev pub FailsToOpen : Making → Entry → Moments → Moments → Type 0
FailsToOpen Old here old new = new ≡ old
FailsToOpen New here old new = MayDo (MakesShut here) old new
FailsToOpen May here old new = MayDo (MakesShutBehind here) old new

abbrev pub closed : Opening → Opening
closed o = record o { shut = true }

pub record Closes (d : ℕ) (w v : World) : Type 0 where
  pub opened : v.opened d ≡ option_map closed (w.opened d)
  pub others : SameOpenedBut d w v
  pub names : SameNames w v
  pub files : SameFiles w v

-- ---- bytes

abbrev pub taken_of : ℕ → Opening → Opening
taken_of n o = record o { place = o.place + n; coming = drop n o.coming }

-- so many bytes were taken through a descriptor
pub record Reads (d : ℕ) (o : Opening) (n : ℕ) (w v : World) : Type 0 where
  pub opened : v.opened d ≡ Some (taken_of n o)
  pub others : SameOpenedBut d w v
  pub names : SameNames w v
  pub files : SameFiles w v

-- these bytes stand behind all others
abbrev pub appended : List ℕ → FileState → FileState
appended bytes f = if is_regular f.kind then record f { bytes = f.bytes ++ bytes; unsure = Run (length f.bytes) (length bytes) ∷ f.unsure } else f

abbrev pub put_to : List ℕ → Opening → Opening
put_to bytes o = record o { put = o.put ++ bytes }

-- These bytes were accepted by a descriptor that is written in order. Where it appends they stand behind all others of its file.
pub record Appends (d : ℕ) (o : Opening) (bytes : List ℕ) (w v : World) : Type 0 where
  pub opened : v.opened d ≡ Some (put_to bytes o)
  pub others : SameOpenedBut d w v
  pub file : o.way ≡ Some Append → v.files o.file ≡ appended bytes (w.files o.file)
  pub files : SameFilesBut o.file w v
  pub names : SameNames w v

-- of the file of this number nothing is known but that it is there
pub record Spoils (i : ℕ) (w v : World) : Type 0 where
  pub opened : SameOpened w v
  pub files : SameFilesBut i w v
  pub names : SameNames w v

-- The file of this number is another; what was accepted stays.
pub record Changes (i : ℕ) (f : FileState) (w v : World) : Type 0 where
  pub file : v.files i ≡ f
  pub files : SameFilesBut i w v
  pub opened : SameOpened w v
  pub names : SameNames w v

-- the file of an opening is changed so
abbrev pub ChangesBy : (FileState → FileState) → Opening → World → World → Type 0
ChangesBy change o w v = Changes o.file (change (w.files o.file)) w v

abbrev pub written_at : ℕ → List ℕ → FileState → FileState
written_at place bytes f = if is_regular f.kind then record f { bytes = overwritten f.bytes place bytes; unsure = Run place (length bytes) ∷ f.unsure } else f

abbrev pub emptied : FileState → FileState
emptied f = record f { bytes = []; unsure = Whole ∷ f.unsure }

-- what it holds lasts, unless a sync of it failed before
abbrev pub synced : FileState → FileState
synced f = record f { unsure = if f.spoiled then f.unsure else [] }

abbrev pub unsynced : FileState → FileState
unsynced f = record f { spoiled = true }

-- ---- names

-- The names of this folder lead where they lead, also after a loss of power.
pub record Settles (folder : ℕ) (w v : World) : Type 0 where
  pub names : (e : Entry) → v.names e ≡ w.names e
  pub earlier : (e : Entry) → e.folder ≡ folder → v.earlier e ≡ []
  pub others : (e : Entry) → e.folder ≢ folder → v.earlier e ≡ w.earlier e
  pub files : SameFiles w v
  pub opened : SameOpened w v

-- a sync of a folder has its names last, and one of another file its bytes
abbrev pub Syncs : Option Way → Opening → World → World → Type 0
Syncs None o w v = Settles o.file w v
Syncs (Some way) o w v = ChangesBy synced o w v

abbrev pub FailsToSync : Option Way → Opening → Moments → Moments → Type 0
FailsToSync None o old new = new ≡ old
FailsToSync (Some way) o old new = MayDo (ChangesBy unsynced o) old new

-- A regular file can get another name: the one leads to it, and the other doesn't.
pub record CanRename (from to : Entry) (w : World) : Type 0 where
  pub file : ℕ
  pub named : w.names from ≡ Some file
  pub regular : (w.files file).kind ≡ Regular
  pub other : w.names to ≢ Some file

-- The one name leads to the file of the other, which leads nowhere. After a loss of power each may lead where it led.
pub record Renames (from to : Entry) (w v : World) : Type 0 where
  pub moved : v.names to ≡ w.names from
  pub gone : v.names from ≡ None
  pub earlier : v.earlier to ≡ w.names to ∷ w.earlier to
  pub earlier_from : v.earlier from ≡ w.names from ∷ w.earlier from
  pub names : (e : Entry) → e ≢ from → e ≢ to → v.names e ≡ w.names e
  pub others : (e : Entry) → e ≢ from → e ≢ to → v.earlier e ≡ w.earlier e
  pub files : SameFiles w v
  pub opened : SameOpened w v

pub record Removes (here : Entry) (w v : World) : Type 0 where
  pub gone : v.names here ≡ None
  pub earlier : v.earlier here ≡ w.names here ∷ w.earlier here
  pub names : SameNamesBut here w v
  pub files : SameFiles w v
  pub opened : SameOpened w v
