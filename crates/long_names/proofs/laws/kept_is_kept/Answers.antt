use Rattle.long_names.proofs.KeptLaws.{kept-again}
use Rattle.long_names.proofs.laws.kept_is_kept.Goals as goal

pub returns : goal.returns
returns c = kept-again
