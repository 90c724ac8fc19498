use Rattle.std.proofs.Common.{◌≡◌, ℕ, ◌+◌, take}
use Rattle.std.specs.List.{count_by}
use Rattle.long_names.specs.Objects.{is_ref}
use Rattle.object_memory.specs.Counts.{count_in}
use Rattle.object_memory.proofs.plain.kept.count_values.Given as goal

abbrev pub invariant-loop-i : goal.invariant-loop-i
invariant-loop-i l = (q : ℕ) → count_in l.counts q ≡ count_in l.initial.counts q + count_by (is_ref q) (take l.i l.values)
