use Rattle.std.proofs.Common.{arith}
use Rattle.std.proofs.lemmas.Grind.{common_steps}
use Rattle.st80_picture.specs.Png.{head}
use Rattle.st80_picture.proofs.chunks.head.Goals as goal

pub returns : goal.returns
unfolding head
returns c = grind (arith, common_steps)
