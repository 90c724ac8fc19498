use Rattle.long_names.proofs.CycleLaws.{no-ring, thinner-no-ring}
use Rattle.long_names.proofs.laws.lost_objects_form_no_cycle.Goals as goal

pub returns-clause-no_cycle : goal.returns-clause-no_cycle
returns-clause-no_cycle c = no-ring

pub returns-clause-thinner : goal.returns-clause-thinner
returns-clause-thinner c = thinner-no-ring
