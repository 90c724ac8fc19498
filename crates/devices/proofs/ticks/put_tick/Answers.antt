use Rattle.std.proofs.Common.{ap, ◌∙◌}
use Rattle.blue_model.specs.Devices.{put_tick}
use Rattle.contexts.proofs.ServesLaws.{serves_then, serves_exit}
use Rattle.devices.proofs.ticks.put_tick.Goals as goal

pub returns-in_err-store_byte-clause-serves : goal.returns-in_err-store_byte-clause-serves
unfolding put_tick
returns-in_err-store_byte-clause-serves g c = λ cpu. serves_exit _ _ (c.in_err-store_byte.ensures.serves cpu) c.from_residual.ensures.1

pub returns-in_err-store_byte-2-clause-serves : goal.returns-in_err-store_byte-2-clause-serves
unfolding put_tick
returns-in_err-store_byte-2-clause-serves g c = λ cpu.
    serves_then _ (c.in_ok-store_byte.ensures.serves cpu)
    (serves_exit _ _ (rw c.in_ok-store_byte.ensures.regs at c.in_err-store_byte-2.ensures.serves cpu) c.from_residual-in_err-store_byte-2.ensures.1)

pub returns-in_err-store_byte-3-clause-serves : goal.returns-in_err-store_byte-3-clause-serves
unfolding put_tick
returns-in_err-store_byte-3-clause-serves g c = λ cpu.
    let second = ap (λ f. f c.args.of) c.in_ok-store_byte.ensures.regs in
    let third = ap (λ f. f c.args.of) c.in_ok-store_byte-2.ensures.regs ∙ second in
    serves_then _ (c.in_ok-store_byte.ensures.serves cpu)
    (serves_then _ (rw second at c.in_ok-store_byte-2.ensures.serves cpu)
    (serves_exit _ _ (rw third at c.in_err-store_byte-3.ensures.serves cpu) c.from_residual-in_err-store_byte-3.ensures.1))

pub returns-clause-serves : goal.returns-clause-serves
unfolding put_tick
returns-clause-serves g c = λ cpu.
    let second = ap (λ f. f c.args.of) c.in_ok-store_byte.ensures.regs in
    let third = ap (λ f. f c.args.of) c.in_ok-store_byte-2.ensures.regs ∙ second in
    let fourth = ap (λ f. f c.args.of) c.in_ok-store_byte-3.ensures.regs ∙ third in
    serves_then _ (c.in_ok-store_byte.ensures.serves cpu)
    (serves_then _ (rw second at c.in_ok-store_byte-2.ensures.serves cpu)
    (serves_then _ (rw third at c.in_ok-store_byte-3.ensures.serves cpu)
    (rw fourth at c.store_byte-4.ensures.serves cpu)))
