use Rattle.core_view.proofs.Leaves.{leaf-core, idle-core}
use Rattle.core_view.proofs.Steps.{leaf-stays, idle-stays}
use Rattle.core_view.proofs.laws.leaves_come_and_go.Goals as goal

pub returns-clause-comes : goal.returns-clause-comes
returns-clause-comes c = λ d s n core spare. (leaf-core d s n core spare, leaf-stays d s n core spare)

pub returns-clause-goes : goal.returns-clause-goes
returns-clause-goes c = λ d s n core idle. (idle-core d s n core idle, idle-stays d s n core idle)
