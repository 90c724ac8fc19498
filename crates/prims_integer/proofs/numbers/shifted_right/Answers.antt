use Rattle.std.proofs.Common.{◌∙◌}
use mir.Syntax.{w32}
use Rattle.std.proofs.lemmas.Int.{to_z-of_z}
use Rattle.prims_integer.proofs.NumberLaws.{wide}
use Rattle.prims_integer.proofs.ShiftLaws.{right_least, power_is}
use Rattle.prims_integer.proofs.numbers.shifted_right.Goals as goal

pub returns : goal.returns
returns c =
    let quotient = rw (wide _ _ c.from.ensures c.requires, power_is _ _ _ c.power.ensures c.min.ensures) at c.div_euclid.ensures in
    to_z-of_z w32 _ (record { sfits = c.div_euclid.type_inv }) ∙ quotient ∙ right_least c.args.a c.args.n c.requires
