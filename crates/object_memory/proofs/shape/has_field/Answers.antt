use Rattle.std.proofs.Common.{◌<◌}
use Rattle.std.proofs.lemmas.Bool.{ltb-true, lt-ltb}
use Rattle.long_names.specs.Objects.{pointers_of}
use Rattle.object_memory.proofs.ShapeLaws.{tests_part}
use Rattle.object_memory.proofs.shape.has_field.Goals as goal

pub returns-clause-field : goal.returns-clause-field
returns-clause-field g c = tests_part _ _ c.args.of pointers_of (λ n. c.args.i < n) _ c.in-Some.len _ c.in_ok-len.ensures.fields c.in-Some.is (ltb-true c.args.i c.in-Some.len, lt-ltb c.args.i c.in-Some.len)
