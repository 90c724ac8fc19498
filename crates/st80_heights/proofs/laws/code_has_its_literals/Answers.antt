use Rattle.st80_heights.proofs.Literals.{method-have}
use Rattle.st80_heights.proofs.laws.code_has_its_literals.Goals as goal

pub returns : goal.returns
returns c = method-have
