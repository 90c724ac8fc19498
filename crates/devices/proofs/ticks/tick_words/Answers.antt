use Rattle.std.proofs.Common.{refl}
use Rattle.blue_model.specs.Devices.{tick_words}
use Rattle.contexts.proofs.ServesLaws.{serves_then, serves_exit}
use Rattle.contexts.proofs.Steps.{numbers_then, done_serves}
use Rattle.contexts.proofs.TrialLaws.{found_then, none_found, finding_exit}
use Rattle.devices.proofs.ticks.tick_words.Goals as goal

pub returns-in_err-stack-clause-serves : goal.returns-in_err-stack-clause-serves
unfolding tick_words
returns-in_err-stack-clause-serves g c = serves_exit _ _ c.in_err-stack.ensures.serves c.from_residual.ensures.1

pub returns-in_err-tick_of-clause-serves : goal.returns-in_err-tick_of-clause-serves
unfolding tick_words
returns-in_err-tick_of-clause-serves g c =
    serves_then _ c.in_ok-stack.ensures.serves
    (finding_exit _ _ (c.in_err-tick_of.ensures.serves _) c.from_residual-in_err-tick_of.ensures.1)

pub returns-in_default-clause-serves : goal.returns-in_default-clause-serves
unfolding tick_words
returns-in_default-clause-serves g c =
    serves_then _ c.in_ok-stack.ensures.serves
    (none_found _ c.in_default.is (c.in_ok-tick_of.ensures.serves _))

pub returns-in_err-put_tick-clause-serves : goal.returns-in_err-put_tick-clause-serves
unfolding tick_words
returns-in_err-put_tick-clause-serves g c =
    let same = c.in_ok-tick_of.ensures.looks.regs 10 refl in
    serves_then _ c.in_ok-stack.ensures.serves
    (found_then _ c.in-Some.is (c.in_ok-tick_of.ensures.serves _)
    (numbers_then _ (serves_exit _ _ (rw (same, c.clock.ensures) at c.in_err-put_tick.ensures.serves c.args.cpu.now) c.from_residual-in_err-put_tick.ensures.1)))

pub returns-in_err-pop-clause-serves : goal.returns-in_err-pop-clause-serves
unfolding tick_words
returns-in_err-pop-clause-serves g c =
    let same = c.in_ok-tick_of.ensures.looks.regs 10 refl in
    serves_then _ c.in_ok-stack.ensures.serves
    (found_then _ c.in-Some.is (c.in_ok-tick_of.ensures.serves _)
    (numbers_then _ (serves_then _ (rw (same, c.clock.ensures) at c.in_ok-put_tick.ensures.serves c.args.cpu.now)
    (serves_exit _ _ (c.in_err-pop.ensures.serves _ c.in_ok-put_tick.ensures.fit.ready) c.from_residual-in_err-pop.ensures.1))))

pub returns-clause-serves : goal.returns-clause-serves
unfolding tick_words
returns-clause-serves g c =
    let same = c.in_ok-tick_of.ensures.looks.regs 10 refl in
    let ready = c.in_ok-put_tick.ensures.fit.ready in
    serves_then _ c.in_ok-stack.ensures.serves
    (found_then _ c.in-Some.is (c.in_ok-tick_of.ensures.serves _)
    (numbers_then _ (serves_then _ (rw (same, c.clock.ensures) at c.in_ok-put_tick.ensures.serves c.args.cpu.now)
    (serves_then _ (c.in_ok-pop.ensures.serves _ ready) (done_serves ready)))))
