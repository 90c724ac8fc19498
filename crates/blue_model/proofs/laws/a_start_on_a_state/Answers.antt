use Rattle.blue_model.proofs.StateLaws.{begins-agree, no_state-starts}
use Rattle.blue_model.proofs.laws.a_start_on_a_state.Goals as goal

pub returns-clause-thin : goal.returns-clause-thin
returns-clause-thin c = begins-agree

pub returns-clause-plain : goal.returns-clause-plain
returns-clause-plain c = no_state-starts
