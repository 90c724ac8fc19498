use Rattle.std.proofs.Common.{◌≡◌, take, true}
use Rattle.std.specs.List.{list_all}
use Rattle.image_builder.specs.Rules.{is_there}
use Rattle.image_builder.specs.Builder.{object_at}
use Rattle.image_builder.proofs.builder.Builder.has_values.Given as goal

abbrev pub invariant-loop-i : goal.invariant-loop-i
invariant-loop-i l = list_all (is_there (object_at l.self)) (take l.i l.values) ≡ true
