use Rattle.std.proofs.Common.{◌∙◌}
use mir.Syntax.{w128}
use Rattle.std.proofs.lemmas.Int.{to_z-of_z}
use Rattle.large_ints.proofs.ShiftLaws.{right_least, right_fits}
use Rattle.large_ints.proofs.values.shifted_right.Goals as goal

pub returns : goal.returns
returns c =
    rw (to_z-of_z w128 _ c.ranges.a) (to_z-of_z w128 _ (right_fits c.args.a _ c.ranges.a) ∙ right_least c.args.a c.args.n _ c.ranges.a c.min.ensures)
