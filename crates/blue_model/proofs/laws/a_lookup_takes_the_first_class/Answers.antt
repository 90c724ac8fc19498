use Rattle.blue_model.proofs.ClassLaws.{lookup_takes}
use Rattle.blue_model.proofs.laws.a_lookup_takes_the_first_class.Goals as goal

pub returns : goal.returns
returns c = lookup_takes
