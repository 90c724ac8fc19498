use Rattle.long_names.proofs.AccessLaws.{agrees}
use Rattle.long_names.proofs.laws.access_in_a_thinning.Goals as goal

pub returns : goal.returns
returns c = agrees
