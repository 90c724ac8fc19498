use Rattle.std.proofs.Common.{◌≡◌, ◌++◌, map}
use Rattle.object_memory.specs.Counts.{count_in}
use Rattle.object_memory.proofs.WordLaws.{rec_with}
use Rattle.object_memory.proofs.plain.kept.into_recs.Given as goal

-- the records so far, and those to come
abbrev pub invariant-loop-name : goal.invariant-loop-name
invariant-loop-name l = l.recs ++ map (rec_with (count_in l.counts)) l.name-iterator ≡ map (rec_with (count_in l.counts)) l.fn.heap.objects.entries
