-- The entries of a core as a core, with the chunks of any segment, and what changes of counts leave of them.
use Rattle.std.specs.Prelude.{◌≡◌, ℕ, ℤ, pos, negsuc, ◌-◌, ◌^◌, ◌≤ℤ◌}
use Rattle.object_table.specs.Table.{entry_at, bound_of, free_of}
use Rattle.core_segment.specs.Chunks.{Chunk}
use Rattle.core_view.specs.Core.{Core}
use Rattle.core_view.specs.Counts.{one, outside}
use Rattle.core_view.specs.Kept.{IsCore, Stays}
use Rattle.resident_table.specs.Resident.{short_of}
use Rattle.resident_table.specs.declared.Parts2.{Parts2}
use Rattle.core_view.specs.LevelSteps.{with_change}

unfoldable pub core_with : (ℕ → Chunk) → Parts2 → Core
core_with chunks p = record { entries = entry_at p.table; find = short_of p.resident; chunks = chunks; bound = bound_of p.table }

-- with some chunks they are a core
abbrev pub IsNames : Parts2 → Type 0
IsNames p = (chunks : ℕ → Chunk) × IsCore (core_with chunks p)

-- a change of a count is a number of 64 bits with a sign
abbrev pub IsChange : ℤ → Type 0
IsChange z = (negsuc (2 ^ 63 - 1) ≤ℤ z) × (z ≤ℤ pos (2 ^ 63 - 1))

-- Changes of counts differ, and nothing else: over any chunks the core stays one, what is held stays, and so do the references from outside.
pub record IsCounting (old new : Parts2) : Type 0 where
  pub core : (chunks : ℕ → Chunk) → IsCore (core_with chunks old) → IsCore (core_with chunks new)
  pub stays : (chunks : ℕ → Chunk) → IsCore (core_with chunks old) → Stays (core_with chunks old) (core_with chunks new)
  pub outside : (chunks : ℕ → Chunk) → IsCore (core_with chunks old) → (t : ℕ) → outside (core_with chunks new) t ≡ outside (core_with chunks old) t
  pub entries : (s : ℕ) → entry_at new.table s ≡ with_change (entry_at old.table s) (entry_at new.table s).change
  pub resident : new.resident ≡ old.resident
  pub bound : bound_of new.table ≡ bound_of old.table
  pub free : free_of new.table ≡ free_of old.table
