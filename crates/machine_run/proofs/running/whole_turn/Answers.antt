use Rattle.blue_model.specs.Cycle.{turn}
use Rattle.contexts.proofs.ServesLaws.{serves_then, serves_exit}
use Rattle.bytecodes.proofs.KeepLaws.{keeps_after}
use Rattle.machine_run.proofs.running.whole_turn.Goals as goal

pub returns-in_err-due-clause-serves : goal.returns-in_err-due-clause-serves
unfolding turn
returns-in_err-due-clause-serves g c = serves_exit _ _ c.in_err-due.ensures.serves c.from_residual.ensures.1

pub returns-in_err-check_switch-clause-serves : goal.returns-in_err-check_switch-clause-serves
unfolding turn
returns-in_err-check_switch-clause-serves g c = serves_then _ c.in_ok-due.ensures.serves (serves_exit _ _ c.in_err-check_switch.ensures.serves c.from_residual-in_err-check_switch.ensures.1)

pub returns-clause-serves : goal.returns-clause-serves
unfolding turn
returns-clause-serves g c = serves_then _ c.in_ok-due.ensures.serves (serves_then _ c.in_ok-check_switch.ensures.serves c.step.ensures.serves)

pub returns-clause-keeps : goal.returns-clause-keeps
returns-clause-keeps g c = keeps_after _ _ _ (λ k. c.in_ok-due.ensures.serves.vault (c.in_ok-check_switch.ensures.serves.vault k)) c.step.ensures.keeps
