use Rattle.blue_model.proofs.EarlierRules.{ignores-park, ignores-picture}
use Rattle.blue_model.proofs.EarlierTurns.{ignores-cycle, ignores-step, ignores-begin, ignores-restore, ignores-park_and_draw}
use Rattle.blue_model.proofs.EarlierLaws.{earlier_run}
use Rattle.blue_model.proofs.laws.what_was_said_before_changes_nothing.Goals as goal

pub returns-clause-cycle : goal.returns-clause-cycle
returns-clause-cycle c = ignores-cycle

pub returns-clause-step : goal.returns-clause-step
returns-clause-step c = ignores-step

pub returns-clause-begin : goal.returns-clause-begin
returns-clause-begin c = ignores-begin

pub returns-clause-restore : goal.returns-clause-restore
returns-clause-restore c = ignores-restore

pub returns-clause-park : goal.returns-clause-park
returns-clause-park c = ignores-park

pub returns-clause-draw : goal.returns-clause-draw
returns-clause-draw c = ignores-park_and_draw

pub returns-clause-picture : goal.returns-clause-picture
returns-clause-picture c = ignores-picture

pub returns-clause-run : goal.returns-clause-run
returns-clause-run c = earlier_run
