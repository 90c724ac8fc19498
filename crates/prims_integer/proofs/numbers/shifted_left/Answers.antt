use Rattle.std.proofs.Common.{◌∙◌}
use mir.Syntax.{w32}
use Rattle.std.proofs.lemmas.Int.{to_z-of_z}
use Rattle.prims_integer.proofs.NumberLaws.{wide}
use Rattle.prims_integer.proofs.ShiftLaws.{left_least, power_is, product_fits}
use Rattle.prims_integer.proofs.numbers.shifted_left.Goals as goal

pub overflow_mul-from : goal.overflow_mul-from
overflow_mul-from c = rw (wide _ _ c.from.ensures c.requires, power_is _ _ _ c.power.ensures c.min.ensures) (product_fits c.args.a c.args.n c.requires)

pub returns-clause-shifted : goal.returns-clause-shifted
returns-clause-shifted c = rw (wide _ _ c.from.ensures c.requires, power_is _ _ _ c.power.ensures c.min.ensures, to_z-of_z w32 _ (product_fits c.args.a c.args.n c.requires)) at c.small.ensures.small ∙ left_least c.args.a c.args.n
