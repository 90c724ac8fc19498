use Rattle.std.proofs.Common.{◌≡◌, ℕ, ◌+◌, take}
use Rattle.std.specs.List.{count_by}
use Rattle.long_names.specs.Objects.{is_ref}
use Rattle.image_builder.specs.Parts.{count_in}
use Rattle.image_builder.proofs.counts.Counts.add_values.Given as goal

abbrev pub invariant-loop-i : goal.invariant-loop-i
invariant-loop-i l = (q : ℕ) → count_in l.self q ≡ count_in l.initial.self q + count_by (is_ref q) (take l.i l.values)
