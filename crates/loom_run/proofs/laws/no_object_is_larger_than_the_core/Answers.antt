use Rattle.loom_run.proofs.HeadlineLaws.{small_from}
use Rattle.loom_run.proofs.laws.no_object_is_larger_than_the_core.Goals as goal

pub returns : goal.returns
returns c = small_from
