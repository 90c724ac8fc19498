-- The flag TOUCHED of an entry, by which what was used is passed over once when room is made.
use Rattle.std.specs.Prelude.{◌≡◌, ℕ}
use Rattle.object_table.specs.Entries.{with_touched}
use Rattle.core_view.specs.Core.{Core}

-- Nothing but this flag differs.
pub record IsTouching (old new : Core) : Type 0 where
  pub find : new.find ≡ old.find
  pub bound : new.bound ≡ old.bound
  pub chunks : new.chunks ≡ old.chunks
  pub entries : (q : ℕ) → new.entries q ≡ with_touched (old.entries q) (new.entries q).flags.touched
