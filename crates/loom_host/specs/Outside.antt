-- What the roles of a host hold, and what its calls do to them.
use Rattle.std.specs.Prelude.{Bool, true, false, ◌≡◌, ◌≢◌, ℕ, ◌≤◌, List, [], ◌++◌, length, take, drop, Option, None, Some, Result, IsErr, OnOk, OnErr, IfSome}
use Rattle.long_names.specs.Counting.{counted, Rose}
use Rattle.loom_host.specs.declared.outside.Role.{Role}
use Rattle.loom_host.specs.declared.outside.Role.TheVariants.{Image, Events, Saved, Display, Transcript, Notes}
use Rattle.loom_host.specs.declared.outside.Failed.{Failed}

-- what a host that tells of a role says of it
pub record RoleState : Type 0 where
  -- the calls of `attach`, failed ones among them, and the name of the last
  pub attaches : ℕ
  pub name : Option (List ℕ)
  -- of a role that is read: the bytes taken since the last attach that went through, and those left
  pub taken : List ℕ
  pub left : List ℕ
  -- of a role that is written: the bytes put since then, and how many of them had been put when a piece of no bytes last ended it
  pub put : List ℕ
  pub ended : Option ℕ
  -- of Work
  pub contents : List ℕ

-- of a role where nothing has been done yet
abbrev pub at_start : RoleState
at_start = record { attaches = 0; name = None; taken = []; left = []; put = []; ended = None; contents = [] }

-- with no name told
abbrev pub unnamed : RoleState → RoleState
unnamed s = record s { name = None }

-- after these bytes are put
abbrev pub puts : List ℕ → RoleState → RoleState
puts bytes s = record s { put = s.put ++ bytes }

-- after a piece of no bytes is put
abbrev pub ends : RoleState → RoleState
ends s = record s { ended = Some (length s.put) }

-- after so many bytes are taken
abbrev pub takes : ℕ → RoleState → RoleState
takes n s = record s { taken = s.taken ++ take n s.left; left = drop n s.left }

-- these are Work's contents
abbrev pub holds : List ℕ → RoleState → RoleState
holds bytes s = record s { contents = bytes }

-- after an attach of this name; after one that failed the name may be lost, and the role is read and written on where it was
pub record Attached {T : Type 0} (text : List ℕ) (result : Result T Failed) (old new : RoleState) : Type 0 where
  pub attaches : new.attaches ≡ counted old.attaches
  pub named : OnOk result (new.name ≡ Some text)
  pub no_other : IfSome new.name (λ name. name ≡ text)
  pub still_taken : OnErr result (new.taken ≡ old.taken)
  pub still_left : OnErr result (new.left ≡ old.left)
  pub still_put : OnErr result (new.put ≡ old.put)
  pub still_ended : OnErr result (new.ended ≡ old.ended)

-- nothing is taken of it, put to it or held by it, and it isn't ended
pub record IsFresh (s : RoleState) : Type 0 where
  pub taken : s.taken ≡ []
  pub put : s.put ≡ []
  pub ended : s.ended ≡ None
  pub contents : s.contents ≡ []

-- n bytes were taken, and stand at the front of the buffer
pub record Took (n : ℕ) (buf : List ℕ) (old new : RoleState) : Type 0 where
  pub enough : n ≤ length old.left
  pub bytes : take n buf ≡ take n old.left
  pub state : new ≡ takes n old

-- at most so many bytes were taken
abbrev pub TookSome : ℕ → RoleState → RoleState → Type 0
TookSome most old new = (n : ℕ) × (n ≤ most) × (n ≤ length old.left) × (new ≡ takes n old)

-- a prefix of these bytes was put
abbrev pub PutPrefix : List ℕ → RoleState → RoleState → Type 0
PutPrefix bytes old new = (n : ℕ) × (n ≤ length bytes) × (new ≡ puts (take n bytes) old)

-- a failure is counted, until the greatest u64
pub record HasCause {T : Type 0} (before now : ℕ) (result : Result T Failed) : Type 0 where
  pub later : before ≤ now
  pub rose : IsErr result → Rose before now

-- the same at each other role
abbrev pub SameBut : {X : Type 0} → Role → (Role → X) → (Role → X) → Type 0
SameBut role old new = (r : Role) → r ≢ role → new r ≡ old r

-- the roles that have a file to attach
abbrev pub CanAttach : Role → Type 0
CanAttach Transcript = ⊥
CanAttach Notes = ⊥
CanAttach _ = Unit {0}

-- the roles that are read in order
abbrev pub CanRead : Role → Type 0
CanRead Image = Unit {0}
CanRead Events = Unit {0}
CanRead _ = ⊥

-- the roles that are written in order
abbrev pub CanWrite : Role → Type 0
CanWrite Saved = Unit {0}
CanWrite Display = Unit {0}
CanWrite Transcript = Unit {0}
CanWrite Notes = Unit {0}
CanWrite _ = ⊥

-- an attach makes a new file
abbrev pub makes_file : Role → Bool
makes_file Saved = true
makes_file Display = true
makes_file _ = false
