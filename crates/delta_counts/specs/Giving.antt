-- Leaves to which nothing refers, and what is left of parts when they are given up.
use Rattle.std.specs.Prelude.{◌≡◌, ◌⊎◌, ℕ, ◌+◌, ◌*◌, ◌<◌, ◌≤◌, true, false, None, Some}
use Rattle.object_table.specs.declared.entry.Entry.{Entry}
use Rattle.object_table.specs.Entries.{is_used, place_of}
use Rattle.object_table.specs.Table.{entry_at, bound_of, free_of}
use Rattle.core_segment.specs.Chunks.{Chunk}
use Rattle.core_view.specs.Counts.{outside}
use Rattle.core_view.specs.Kept.{IsCore, Stays}
use Rattle.resident_table.specs.Resident.{held_of, room_of}
use Rattle.resident_table.specs.declared.Parts2.{Parts2}
use Rattle.core_view.specs.LevelSteps.{with_change}
use Rattle.delta_counts.specs.Parts.{core_with}

pub record IsIdleEntry (e : Entry) : Type 0 where
  pub used : is_used e.state ≡ true
  pub leaf : place_of e.state ≡ None
  pub none : e.refs ≡ 0

-- Entries of idle leaves may be free now, and changes of counts differ; nothing else does.
pub record IsGiving (old new : Parts2) : Type 0 where
  pub core : (chunks : ℕ → Chunk) → IsCore (core_with chunks old) → IsCore (core_with chunks new)
  pub stays : (chunks : ℕ → Chunk) → IsCore (core_with chunks old) → Stays (core_with chunks old) (core_with chunks new)
  pub outside : (chunks : ℕ → Chunk) → IsCore (core_with chunks old) → (t : ℕ) → outside (core_with chunks new) t ≡ outside (core_with chunks old) t
  pub entries : (s : ℕ) → (entry_at new.table s ≡ with_change (entry_at old.table s) (entry_at new.table s).change) ⊎ (is_used (entry_at new.table s).state ≡ false)
  pub bodies : (s p : ℕ) → place_of (entry_at old.table s).state ≡ Some p → entry_at new.table s ≡ with_change (entry_at old.table s) (entry_at new.table s).change
  pub sum : held_of new.resident + free_of new.table ≡ held_of old.resident + free_of old.table
  pub more : free_of old.table ≤ free_of new.table
  pub room : room_of new.resident ≡ room_of old.resident
  pub bound : bound_of new.table ≡ bound_of old.table

-- no idle leaf below the n-th entry
abbrev pub NoneIdleBelow : ℕ → Parts2 → Type 0
NoneIdleBelow n p = (k : ℕ) → k < n → IsIdleEntry (entry_at p.table (2 * (k + 1))) → ⊥
