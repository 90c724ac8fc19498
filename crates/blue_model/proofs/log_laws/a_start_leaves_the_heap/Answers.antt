use Rattle.blue_model.proofs.StartLaws.{begin_leaves}
use Rattle.blue_model.proofs.log_laws.a_start_leaves_the_heap.Goals as goal

pub returns : goal.returns
returns c = begin_leaves
