use Rattle.std.proofs.Common.{◌<◌}
use Rattle.std.proofs.lemmas.Bool.{ltb-true, lt-ltb}
use Rattle.long_names.specs.Objects.{literals_of}
use Rattle.object_memory.proofs.ShapeLaws.{tests_part}
use Rattle.object_memory.proofs.shape.has_literal.Goals as goal

pub returns-clause-literal : goal.returns-clause-literal
returns-clause-literal g c = tests_part _ _ c.args.of literals_of (λ n. c.args.i < n) _ c.in-Some.len _ c.in_ok-len.ensures.literals c.in-Some.is (ltb-true c.args.i c.in-Some.len, lt-ltb c.args.i c.in-Some.len)
