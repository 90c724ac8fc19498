use Rattle.std.proofs.Common.{refl}
use Rattle.blue_model.specs.Cycle.{cycle, count_bytecode}
use Rattle.contexts.proofs.ServesLaws.{serves_then}
use Rattle.contexts.proofs.SpeaksLaws.{speaks_then, speaks_stop}
use Rattle.contexts.proofs.Steps.{numbers_then, set_numbers_at, done_serves}
use Rattle.machine_run.proofs.RunningLaws.{stop_numbers, counts_on}
use Rattle.machine_run.proofs.tracing.traced_cycle.Goals as goal

pub returns-in-Ok-clause-serves : goal.returns-in-Ok-clause-serves
unfolding cycle count_bytecode
returns-in-Ok-clause-serves g c =
    let ready = rw c.in-Ok.is at c.traced_turn.ensures.fit.ready in
    numbers_then _ (speaks_then _ (rw c.in-Ok.is at c.traced_turn.ensures.serves) (serves_then _ (numbers_then _ (set_numbers_at _ refl (λ may. may) ready)) (done_serves ready)) (λ e. e))

pub returns-in-Err-clause-serves : goal.returns-in-Err-clause-serves
unfolding cycle
returns-in-Err-clause-serves g c = stop_numbers _ (numbers_then _ (speaks_stop _ (rw c.in-Err.is at c.traced_turn.ensures.serves) (counts_on _)))

pub returns-in-Ok-clause-sees : goal.returns-in-Ok-clause-sees
returns-in-Ok-clause-sees g c = λ told m st. rw c.in-Ok.is at (c.traced_turn.ensures.sees told m st)

pub returns-in-Ok-clause-keeps : goal.returns-in-Ok-clause-keeps
returns-in-Ok-clause-keeps g c = rw c.in-Ok.is at c.traced_turn.ensures.keeps
