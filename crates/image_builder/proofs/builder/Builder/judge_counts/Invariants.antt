use Rattle.std.proofs.Common.{◌≡◌}
use Rattle.image_builder.specs.Rules.{first_of, count_breaks}
use Rattle.image_builder.specs.Parts.{count_in}
use Rattle.image_builder.proofs.builder.Builder.judge_counts.Given as goal

abbrev pub invariant-loop-name : goal.invariant-loop-name
invariant-loop-name l = first_of (count_breaks (count_in l.counts)) l.name-iterator ≡ first_of (count_breaks (count_in l.counts)) l.fn.self.objects.entries
