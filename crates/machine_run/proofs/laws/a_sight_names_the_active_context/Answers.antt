use Rattle.machine_run.proofs.SightLaws.{names_the_context}
use Rattle.machine_run.proofs.laws.a_sight_names_the_active_context.Goals as goal

pub returns : goal.returns
returns c = names_the_context
