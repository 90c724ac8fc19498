use Rattle.blue_model.specs.State.{begin}
use Rattle.blue_model.specs.Cycle.{cycle, park_and_draw}
use Rattle.blue_model.proofs.LargestLaws.{largest_made, largest_stays, whole_within}
use Rattle.blue_model.proofs.MakingLaws.{none-begin}
use Rattle.blue_model.proofs.MakingTurns.{few-cycle, none-park_and_draw}
use Rattle.blue_model.proofs.log_laws.a_machine_knows_its_largest_object.Goals as goal

pub returns-clause-cycle : goal.returns-clause-cycle
returns-clause-cycle c events m s end log e = largest_made 3 (cycle events) m s end log (few-cycle events) e

pub returns-clause-begin : goal.returns-clause-begin
returns-clause-begin c state m s log e = largest_stays (begin state) m s tt log (none-begin state) e

pub returns-clause-draw : goal.returns-clause-draw
returns-clause-draw c m s picture log e = largest_stays park_and_draw m s picture log none-park_and_draw e

pub returns-clause-whole : goal.returns-clause-whole
returns-clause-whole c = whole_within
