use Rattle.std.proofs.Common.{◌*◌}
use Rattle.image_builder.specs.Builder.{object_at}
use Rattle.loom_gen.proofs.BuildLaws.{HasBelow}
use Rattle.loom_gen.proofs.generator.objects.Given as goal

abbrev pub invariant-loop-index : goal.invariant-loop-index
invariant-loop-index l = HasBelow l.number (2 * l.index) (object_at l.builder)
