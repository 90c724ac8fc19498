use Rattle.core_view.proofs.Bodies.{making-held, making-backed}
use Rattle.core_view.proofs.laws.an_object_is_made.Goals as goal

pub returns-clause-held : goal.returns-clause-held
returns-clause-held c = making-held

pub returns-clause-backed : goal.returns-clause-backed
returns-clause-backed c = making-backed
