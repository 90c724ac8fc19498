use Rattle.std.proofs.Common.{◌∙◌}
use mir.Syntax.{w32}
use Rattle.std.proofs.lemmas.Int.{to_z-of_z}
use Rattle.object_memory.proofs.ShapeLaws.{small_number}
use Rattle.prims_integer.proofs.NumberLaws.{wide, rest_fits}
use Rattle.prims_integer.proofs.numbers.rest.Goals as goal

pub overflow_sub-result : goal.overflow_sub-result
overflow_sub-result c =
    let fits = rest_fits c.args.a c.args.b c.requires.receiver c.requires.argument c.requires.divisor in
    let quotient = to_z-of_z w32 _ (record { sfits = c.rounded_down.type_inv }) ∙ rw (small_number _ c.requires.receiver, small_number _ c.requires.argument) at c.rounded_down.ensures in
    rw (wide _ _ c.from.ensures c.requires.receiver, quotient, wide _ _ c.from-2.ensures c.requires.argument, to_z-of_z w32 _ fits.0) fits.1

pub returns : goal.returns
returns c =
    let fits = rest_fits c.args.a c.args.b c.requires.receiver c.requires.argument c.requires.divisor in
    let quotient = to_z-of_z w32 _ (record { sfits = c.rounded_down.type_inv }) ∙ rw (small_number _ c.requires.receiver, small_number _ c.requires.argument) at c.rounded_down.ensures in
    rw (wide _ _ c.from.ensures c.requires.receiver, quotient, wide _ _ c.from-2.ensures c.requires.argument, to_z-of_z w32 _ fits.0) (to_z-of_z w32 _ fits.1)
