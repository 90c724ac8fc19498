use Rattle.std.proofs.Common.{◌+◌, sym, ◌∙◌, ap}
use Rattle.loom_gen.proofs.NumberLaws.{count-is}
use Rattle.loom_gen.proofs.generator.object_count.Goals as goal

pub returns-clause-objects : goal.returns-clause-objects
returns-clause-objects c = ap (λ n. 327 + n) c.node_count.ensures ∙ sym (count-is c.args.number)
