use Rattle.blue_model.proofs.CountLaws.{runs_count, last_counts}
use Rattle.blue_model.proofs.laws.runs_count_bytecodes.Goals as goal

pub returns-clause-through : goal.returns-clause-through
returns-clause-through c = runs_count

pub returns-clause-ended : goal.returns-clause-ended
returns-clause-ended c = last_counts
