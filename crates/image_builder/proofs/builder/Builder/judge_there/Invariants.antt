use Rattle.std.proofs.Common.{◌≡◌, drop}
use Rattle.image_builder.specs.Rules.{missing}
use Rattle.image_builder.specs.Builder.{object_at}
use Rattle.image_builder.proofs.builder.Builder.judge_there.Given as goal

abbrev pub invariant-loop-name : goal.invariant-loop-name
invariant-loop-name l = missing (object_at l.self) (drop l.name-index l.names) ≡ missing (object_at l.self) l.names
