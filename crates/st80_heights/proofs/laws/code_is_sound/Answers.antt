use Rattle.st80_heights.proofs.Trees.{method-part}
use Rattle.st80_heights.proofs.laws.code_is_sound.Goals as goal

pub returns : goal.returns
returns c = λ frame m e. method-part frame m e
