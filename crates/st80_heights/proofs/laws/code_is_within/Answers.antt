use Rattle.st80_heights.proofs.Within.{within}
use Rattle.st80_heights.proofs.laws.code_is_within.Goals as goal

pub returns : goal.returns
returns c = within
