-- How many words hold each name.
use Rattle.std.specs.Prelude.{ℕ}
use Rattle.std.specs.Ordering.{nat_cmp}
use Rattle.std.specs.BTreeMap.{get}
use Rattle.std.specs.Map.{count_at}
use Rattle.object_memory.specs.declared.plain.counts.Counts.{Counts}

-- the count of a name, 0 where it has none
abbrev pub count_in : Counts → ℕ → ℕ
count_in c name = count_at (get nat_cmp c.words) name
