-- What is open for the roles, and what calls on it leave alone.
use Rattle.std.specs.Prelude.{◌≡◌, ◌≢◌, ℕ, List, [], ◌++◌, Option, None, Some}
use Rattle.file_system.specs.World.{Entry, World, Moments, put_at}
use Rattle.file_saving.specs.Saving.{IsUnfinished, KeepsPut, KeepsPutBut, Use, use_at}
use Rattle.file_roles.specs.declared.files.Used.{Used}
use Rattle.file_roles.specs.declared.table.Table.{Table}

-- which file it is, and how it is used
abbrev pub use_in : Used → Use
use_in u = record { file = u.found.file; way = Some u.way }

-- and its descriptor is of that one
abbrev pub HasUse : Used → World → Type 0
HasUse u w = use_at u.descriptor w ≡ Some (use_in u)

-- it was opened between the two, and nothing was put to it
pub record IsOpened (u : Used) (old new : Moments) : Type 0 where
  pub free : old.now.opened u.descriptor ≡ None
  pub used : HasUse u new.now
  pub empty : put_at u.descriptor new.now ≡ []

-- What was accepted stays, each descriptor is of the file that it was of, and so does an unfinished file where it is safe, by its descriptor and
-- its number.
pub record Leaves (IsSafe : ℕ → ℕ → Type 0) (old new : Moments) : Type 0 where
  pub puts : KeepsPut old new
  pub saving : (part : Entry) (d file : ℕ) (bytes : List ℕ) → IsSafe d file → IsUnfinished part d file bytes old.now → IsUnfinished part d file bytes new.now

-- these bytes were accepted through this descriptor, whose file has this number; all else is left
pub record Puts (d i : ℕ) (bytes : List ℕ) (old new : Moments) : Type 0 where
  pub put : put_at d new.now ≡ put_at d old.now ++ bytes
  pub others : KeepsPutBut d old new
  pub saving : (part : Entry) (k file : ℕ) (kept : List ℕ) → k ≢ d → file ≢ i → IsUnfinished part k file kept old.now → IsUnfinished part k file kept new.now

-- some bytes were accepted through this descriptor, or its file was changed otherwise; all else is left
pub record Writes (d i : ℕ) (old new : Moments) : Type 0 where
  pub others : KeepsPutBut d old new
  pub saving : (part : Entry) (k file : ℕ) (kept : List ℕ) → k ≢ d → file ≢ i → IsUnfinished part k file kept old.now → IsUnfinished part k file kept new.now

-- it is safe whatever it is
abbrev pub whatever : ℕ → ℕ → Type 0
whatever d file = Unit {0}

-- where it isn't this one
abbrev pub not_through : ℕ → ℕ → ℕ → Type 0
not_through i d file = d ≢ i

abbrev pub not_of : ℕ → ℕ → ℕ → Type 0
not_of i d file = file ≢ i

-- where its number is this
abbrev pub is_of : Option ℕ → ℕ → ℕ → Type 0
is_of saving d file = saving ≡ Some file

-- it holds of what is open, where something is
abbrev pub Each : (Used → Type 0) → Option Used → Type 0
Each P o = (u : Used) → o ≡ Some u → P u

-- no other role is written to the file of this number
pub record IsElse (t : Table) (file : ℕ) : Type 0 where
  pub work : Each (λ u. u.found.file ≢ file) t.work
  pub display : Each (λ u. u.found.file ≢ file) t.display
  pub output : t.output.found.file ≢ file
  pub errors : t.errors.found.file ≢ file
