use Rattle.core_view.proofs.Few.{refs-few}
use Rattle.core_view.proofs.laws.references_are_few.Goals as goal

pub returns : goal.returns
returns c = refs-few
