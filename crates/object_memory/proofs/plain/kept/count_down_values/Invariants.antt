use Rattle.std.proofs.Common.{take}
use Rattle.std.specs.List.{count_by}
use Rattle.long_names.specs.Objects.{is_ref}
use Rattle.object_memory.specs.Worklist.{CountsDown}
use Rattle.object_memory.proofs.plain.kept.count_down_values.Given as goal

abbrev pub invariant-loop-i : goal.invariant-loop-i
invariant-loop-i l = CountsDown (λ q. count_by (is_ref q) (take l.i l.values)) l.i l.initial.counts l.initial.dead.items l.counts l.dead.items
