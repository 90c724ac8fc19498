-- What a host over a system keeps, in the words of the system.
use Rattle.std.specs.Prelude.{◌≡◌, ◌≢◌, ℕ, Bool, true, false, List, Option, Some, is_some, string_bytes}
use Rattle.file_system.specs.World.{Entry, World, put_at}
use Rattle.file_system.specs.declared.system.Way.{Way}
use Rattle.file_system.specs.declared.system.Way.TheVariants.{Read, Append, Stream, Place}
use Rattle.file_saving.specs.Saving.{IsUnfinished, use_at}
use Rattle.file_saving.specs.declared.saving.Saving.{Saving}
use Rattle.file_roles.specs.Open.{Each, HasUse, IsElse}
use Rattle.file_roles.specs.declared.files.Used.{Used}
use Rattle.file_roles.specs.declared.table.Table.{Table}

-- it is open, to be used in this way
pub record IsFor (how : Way) (w : World) (u : Used) : Type 0 where
  pub way : u.way ≡ how
  pub used : HasUse u w

-- what is open for the roles is
pub record AreOpen (t : Table) (w : World) : Type 0 where
  pub image : Each (IsFor Read w) t.image
  pub events : Each (IsFor Read w) t.events
  pub work : Each (IsFor Place w) t.work
  pub display : Each (IsFor Append w) t.display
  pub output : IsFor Stream w t.output
  pub errors : IsFor Stream w t.errors

abbrev pub was_open : ℕ → World → Bool
was_open d w = is_some (use_at d w)

-- a descriptor that was opened, and that no other role is written through
pub record IsApartFrom (t : Table) (w : World) (d : ℕ) : Type 0 where
  pub known : was_open d w ≡ true
  pub work : Each (λ u. u.descriptor ≢ d) t.work
  pub display : Each (λ u. u.descriptor ≢ d) t.display
  pub output : t.output.descriptor ≢ d
  pub errors : t.errors.descriptor ≢ d

-- Saved while it isn't ended is an unfinished file that no other role is written to, with all bytes that were put to it
pub record IsWritten (entry : List ℕ → Entry) (descriptor : Option ℕ) (ended : Bool) (t : Table) (w : World) (s : Saving) : Type 0 where
  pub unfinished : IsUnfinished (entry (string_bytes s.part)) s.descriptor s.file (put_at s.descriptor w) w
  pub own : descriptor ≡ Some s.descriptor
  pub open_still : ended ≡ false
  pub alone : IsElse t s.file

pub record Stands (entry : List ℕ → Entry) (descriptor : Option ℕ) (ended : Bool) (t : Table) (saving : Option Saving) (w : World) : Type 0 where
  pub open_files : AreOpen t w
  pub apart : (d : ℕ) → descriptor ≡ Some d → IsApartFrom t w d
  pub saved : (s : Saving) → saving ≡ Some s → IsWritten entry descriptor ended t w s
