-- How many records there are.
use Rattle.std.specs.Prelude.{ℕ, Option, is_some, if◌then◌else◌}
use Rattle.object_table.specs.Entries.{sum_below}
use Rattle.core_view.specs.Levels.{Stored, Levels}

-- 1 for a name that has a record
abbrev pub one_stored : Option Stored → ℕ
one_stored r = if is_some r then 1 else 0

-- how many names below the next one have a record
unfoldable pub stored_count : Levels → ℕ
stored_count t = sum_below t.next (λ q. one_stored (t.stored q))
