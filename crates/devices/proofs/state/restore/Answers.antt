use Rattle.std.proofs.Common.{sym, ◌∙◌}
use Rattle.blue_model.specs.State.{restore}
use Rattle.contexts.proofs.ServesLaws.{serves_then, serves_exit}
use Rattle.contexts.proofs.Steps.{numbers_then, set_numbers_at}
use Rattle.devices.proofs.StateLaws.{stays_on, restored, rests}
use Rattle.devices.proofs.state.restore.Goals as goal

pub hold-requires-2-clause-name : goal.hold-requires-2-clause-name
hold-requires-2-clause-name g c = λ told.
    let before = sym (c.in_ok-hold.ensures.serves c.args.cpu.now).later.tells ∙ told in
    stays_on _ _ c.args.input (c.in_ok-hold.ensures.kept before) (c.requires.input before)

pub hold-requires-3-clause-name : goal.hold-requires-3-clause-name
hold-requires-3-clause-name g c = λ told.
    let between = sym (c.in_ok-hold-2.ensures.serves c.args.cpu.now).later.tells ∙ told in
    let before = sym (c.in_ok-hold.ensures.serves c.args.cpu.now).later.tells ∙ between in
    stays_on _ _ c.args.timer (c.in_ok-hold-2.ensures.kept between ∙ c.in_ok-hold.ensures.kept before) (c.requires.timer before)

pub returns-in_err-hold-clause-serves : goal.returns-in_err-hold-clause-serves
unfolding restore
returns-in_err-hold-clause-serves g c = serves_exit _ _ (c.in_err-hold.ensures.serves _) c.from_residual.ensures.1

pub returns-in_err-hold-2-clause-serves : goal.returns-in_err-hold-2-clause-serves
unfolding restore
returns-in_err-hold-2-clause-serves g c =
    serves_then _ (c.in_ok-hold.ensures.serves _) (serves_exit _ _ (c.in_err-hold-2.ensures.serves _) c.from_residual-in_err-hold-2.ensures.1)

pub returns-in_err-hold-3-clause-serves : goal.returns-in_err-hold-3-clause-serves
unfolding restore
returns-in_err-hold-3-clause-serves g c =
    serves_then _ (c.in_ok-hold.ensures.serves _) (serves_then _ (c.in_ok-hold-2.ensures.serves _) (serves_exit _ _ (c.in_err-hold-3.ensures.serves _) c.from_residual-in_err-hold-3.ensures.1))

pub returns-clause-serves : goal.returns-clause-serves
unfolding restore
returns-clause-serves g c =
    let numbers = restored c.args.cpu.now c.args.clock c.args.display c.args.input c.args.timer c.args.tick c.is_some-cpu.result c.is_some-cpu-2.result c.is_some.result c.timer_at-cpu.result c.in_ok-hold.ensures.named c.in_ok-hold-2.ensures.named c.in_ok-hold-3.ensures.named c.is_some-cpu.ensures c.is_some-cpu-2.ensures c.is_some.ensures c.timer_at-cpu.ensures in
    serves_then _ (c.in_ok-hold.ensures.serves _) (serves_then _ (c.in_ok-hold-2.ensures.serves _) (serves_then _ (c.in_ok-hold-3.ensures.serves _)
    (numbers_then _ (set_numbers_at _ numbers (λ may. may) c.in_ok-hold-3.ensures.fit.ready))))

pub returns-clause-rest : goal.returns-clause-rest
returns-clause-rest g c = rests _ _ (λ r shown heard set. c.in_ok-hold-3.ensures.others r set ∙ c.in_ok-hold-2.ensures.others r heard ∙ c.in_ok-hold.ensures.others r shown)
