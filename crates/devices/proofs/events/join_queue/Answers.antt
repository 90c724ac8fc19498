use Rattle.std.proofs.Common.{refl, ap}
use Rattle.blue_model.specs.Devices.{join_queue}
use Rattle.contexts.proofs.ServesLaws.{serves_then}
use Rattle.contexts.proofs.Steps.{numbers_then, set_numbers_at, register_then, pick_true, pick_false, done_serves}
use Rattle.devices.proofs.events.join_queue.Goals as goal

pub returns-then-cpu-clause-serves : goal.returns-then-cpu-clause-serves
unfolding join_queue
returns-then-cpu-clause-serves g c =
    numbers_then _ (serves_then _ (set_numbers_at _ (ap (λ n. record c.args.cpu.now { words_in = n }) c.raised-cpu.ensures) (λ may. may) c.requires.fit.ready)
    (register_then 7 _ refl (pick_true _ _ _ c.if-cpu.true c.signal.ensures.serves)))

pub returns-clause-serves : goal.returns-clause-serves
unfolding join_queue
returns-clause-serves g c =
    numbers_then _ (serves_then _ (set_numbers_at _ (ap (λ n. record c.args.cpu.now { words_in = n }) c.raised-cpu.ensures) (λ may. may) c.requires.fit.ready)
    (register_then 7 _ refl (pick_false _ _ _ c.if-cpu.false (done_serves c.requires.fit.ready))))
