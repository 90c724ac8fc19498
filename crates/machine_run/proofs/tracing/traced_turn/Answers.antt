use Rattle.std.proofs.Common.{refl}
use Rattle.blue_model.specs.Cycle.{step, turn}
use Rattle.contexts.proofs.ReadLaws.{quiet}
use Rattle.contexts.proofs.ServesLaws.{exits, serves_exit, serves_then}
use Rattle.contexts.proofs.Steps.{read_first}
use Rattle.machine_run.proofs.SightLaws.{end_exits, sees_in}
use Rattle.machine_run.proofs.tracing.traced_turn.Goals as goal

pub returns-in_err-due-clause-serves : goal.returns-in_err-due-clause-serves
unfolding turn
returns-in_err-due-clause-serves g c = serves_exit _ _ c.in_err-due.ensures.serves (end_exits _ _ c.from_residual.ensures.1)

pub returns-in_err-check_switch-clause-serves : goal.returns-in_err-check_switch-clause-serves
unfolding turn
returns-in_err-check_switch-clause-serves g c = serves_then _ c.in_ok-due.ensures.serves (serves_exit _ _ c.in_err-check_switch.ensures.serves (end_exits _ _ c.from_residual-in_err-check_switch.ensures.1))

pub returns-in_err-sight-clause-serves : goal.returns-in_err-sight-clause-serves
unfolding turn step
returns-in_err-sight-clause-serves g c = serves_then _ c.in_ok-due.ensures.serves (serves_then _ c.in_ok-check_switch.ensures.serves (serves_exit _ _ c.in_err-sight.ensures.stops (end_exits _ _ c.from_residual-in_err-sight.ensures.1)))

pub returns-in_err-end-clause-serves : goal.returns-in_err-end-clause-serves
unfolding turn
returns-in_err-end-clause-serves g c =
    let still = quiet _ _ _ refl c.in_ok-check_switch.ensures.fit.ready c.in_ok-sight.ensures.fit.ready c.in_ok-sight.ensures.looks in
    serves_then _ c.in_ok-due.ensures.serves (serves_then _ c.in_ok-check_switch.ensures.serves (read_first c.in_ok-check_switch.ensures.fit.ready still (exits _ (end_exits _ _ c.from_residual-in_err-end.ensures.1) c.in_err-end.ensures.serves)))

pub returns-clause-serves : goal.returns-clause-serves
unfolding turn
returns-clause-serves g c =
    let still = quiet _ _ _ refl c.in_ok-check_switch.ensures.fit.ready c.in_ok-sight.ensures.fit.ready c.in_ok-sight.ensures.looks in
    serves_then _ c.in_ok-due.ensures.serves (serves_then _ c.in_ok-check_switch.ensures.serves (read_first c.in_ok-check_switch.ensures.fit.ready still c.in_ok-end.ensures.serves))

pub returns-clause-sees : goal.returns-clause-sees
returns-clause-sees g c = sees_in _ _ _ _ _ _ _ _ _ _ c.in_ok-due.ensures.serves c.in_ok-check_switch.ensures.serves c.in_ok-sight.ensures.serves.1

pub returns-clause-keeps : goal.returns-clause-keeps
returns-clause-keeps g c = λ kept. c.in_ok-due.ensures.serves.vault (c.in_ok-check_switch.ensures.serves.vault (c.in_ok-end.ensures.keeps kept))
