use Rattle.blue_model.specs.State.{begin}
use Rattle.blue_model.specs.Cycle.{cycle, park_and_draw}
use Rattle.blue_model.proofs.LiveLaws.{few_made, none_made}
use Rattle.blue_model.proofs.MakingLaws.{none-begin}
use Rattle.blue_model.proofs.MakingTurns.{few-cycle, none-park_and_draw}
use Rattle.blue_model.proofs.log_laws.a_cycle_makes_at_most_three.Goals as goal

pub returns-clause-cycle : goal.returns-clause-cycle
returns-clause-cycle c events m = few_made 3 (cycle events) m (few-cycle events)

pub returns-clause-begin : goal.returns-clause-begin
returns-clause-begin c state m = none_made (begin state) m (none-begin state)

pub returns-clause-draw : goal.returns-clause-draw
returns-clause-draw c m = none_made park_and_draw m none-park_and_draw
