use Rattle.std.proofs.Common.{◌≡◌}
use Rattle.image_builder.specs.Rules.{first_of, held_breaks}
use Rattle.image_builder.specs.Builder.{object_at}
use Rattle.image_builder.proofs.builder.Builder.judge_held.Given as goal

abbrev pub invariant-loop-name : goal.invariant-loop-name
invariant-loop-name l = first_of (held_breaks (object_at l.fn.self)) l.name-iterator ≡ first_of (held_breaks (object_at l.fn.self)) l.fn.self.objects.entries
