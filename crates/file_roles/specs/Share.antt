-- Which files the roles may not share.
use Rattle.std.specs.Prelude.{◌≡◌, ◌≢◌, ℕ, Bool, false, Option, None, Some}
use Rattle.file_system.specs.declared.system.Found.{Found}
use Rattle.file_system.specs.declared.system.Kind.TheVariants.{Regular}
use Rattle.loom_host.specs.declared.outside.Role.{Role}
use Rattle.loom_host.specs.declared.outside.Role.TheVariants.{Image, Events, Work, Saved, Display, Transcript, Notes}
use Rattle.file_roles.specs.Open.{Each}
use Rattle.file_roles.specs.declared.files.Used.{Used}
use Rattle.file_roles.specs.declared.table.Expected.{Expected}
use Rattle.file_roles.specs.declared.table.Table.{Table}

-- what is open isn't the regular file of this number
abbrev pub IsNoInputOf : ℕ → Option Used → Type 0
IsNoInputOf file used = Each (λ u. u.found.kind ≡ Regular → u.found.file ≢ file) used

-- neither Image nor Events is read from it
pub record IsNoInput (t : Table) (file : ℕ) : Type 0 where
  pub image : IsNoInputOf file t.image
  pub events : IsNoInputOf file t.events

-- the file that a role will have
abbrev pub expected_at : Expected → Role → Option ℕ
expected_at e Image = e.image
expected_at e Events = e.events
expected_at e Saved = e.saved
expected_at e Display = e.display
expected_at e Work = None
expected_at e Transcript = None
expected_at e Notes = None

-- Saved may take the place of the file of this number: it isn't the one that is kept, and none that is read, where those aren't shared
pub record IsFree (t : Table) (kept : Option ℕ) (shares : Bool) (file : ℕ) : Type 0 where
  pub other : (k : ℕ) → kept ≡ Some k → file ≢ k
  pub inputs : shares ≡ false → IsNoInput t file

-- it was found, and has this number
abbrev pub IsOf : ℕ → Option Found → Type 0
IsOf i None = ⊥
IsOf i (Some found) = found.file ≡ i

-- it is told of the roles that have a file of their own, but for Work, which is told of none
abbrev pub IsNoted : Role → Option ℕ → Option ℕ → Type 0
IsNoted Work file told = told ≡ None
IsNoted Transcript file told = told ≡ None
IsNoted Notes file told = told ≡ None
IsNoted _ file told = told ≡ file
