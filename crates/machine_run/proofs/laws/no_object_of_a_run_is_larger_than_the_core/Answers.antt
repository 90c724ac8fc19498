use Rattle.machine_run.proofs.RunningLaws.{rows_fit}
use Rattle.machine_run.proofs.laws.no_object_of_a_run_is_larger_than_the_core.Goals as goal

pub returns : goal.returns
returns c = rows_fit
