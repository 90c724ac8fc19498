-- The short words of an object that is freed, none of which is a lambda.
use Rattle.std.specs.Prelude.{◌≡◌, ℕ, ◌%◌, ◌==◌, false, true, List, ◌++◌, if◌then◌else◌, slice_get, Some}
use Rattle.long_names.specs.declared.value.Value.{Value}
use Rattle.long_names.specs.declared.value.Value.TheVariants.{Int, Ref}
use Rattle.object_table.specs.declared.entry.Entry.{Entry}
use Rattle.object_table.specs.Entries.{is_used}
use Rattle.object_table.specs.Table.{entry_at}
use Rattle.core_segment.specs.Chunks.{Chunk}
use Rattle.core_view.specs.Words.{int_of_short}
use Rattle.core_view.specs.Levels.{Levels}
use Rattle.core_view.specs.Counted.{IsSound}
use Rattle.core_view.specs.LevelSteps.{with_core}
use Rattle.resident_table.specs.declared.Parts2.{Parts2}
use Rattle.delta_counts.specs.Parts.{core_with}

-- what a short word means that is no lambda
abbrev pub short_value : (ℕ → Entry) → ℕ → Value
short_value entries w = if w % 2 == 1 then Int (int_of_short w) else Ref (entries w).name

-- a word is a number, or the short name of an entry in use
abbrev pub IsAtHand : Parts2 → ℕ → Type 0
IsAtHand p w = (w % 2 == 1) ≡ false → is_used (entry_at p.table w).state ≡ true

abbrev pub AreAtHand : Parts2 → List ℕ → Type 0
AreAtHand p ws = (i w : ℕ) → slice_get ws i ≡ Some w → IsAtHand p w

-- of whatever levels stand there and owe these words and others, those are reached that owe the others alone
abbrev pub Lowers : Parts2 → Parts2 → List Value → Type 0
Lowers old new vs = (chunks : ℕ → Chunk) (t : Levels) (owed : List Value) → core_with chunks old ≡ t.core → IsSound t (vs ++ owed) → IsSound (with_core t (core_with chunks new)) owed
