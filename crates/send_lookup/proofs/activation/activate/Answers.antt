use Rattle.std.proofs.Common.{refl}
use Rattle.object_memory.proofs.ShapeLaws.{small_number}
use Rattle.blue_model.specs.Messages.{activate}
use Rattle.contexts.proofs.ServesLaws.{serves_then, serves_exit, exits}
use Rattle.contexts.proofs.Steps.{register_then, numbers_then}
use Rattle.send_lookup.proofs.activation.activate.Goals as goal

pub returns-in_err-header-clause-serves : goal.returns-in_err-header-clause-serves
unfolding activate
returns-in_err-header-clause-serves g c = numbers_then _ (register_then _ _ refl (serves_exit _ _ (c.in_err-header.ensures.serves _) c.from_residual.ensures.1))

pub returns-in_err-make_context-clause-serves : goal.returns-in_err-make_context-clause-serves
unfolding activate
returns-in_err-make_context-clause-serves g c =
    let method = c.in_ok-header.ensures.looks.regs 5 refl in
    let header = small_number _ c.in_ok-header.ensures.range in
    numbers_then _ (register_then _ _ refl (serves_then _ (c.in_ok-header.ensures.serves _)
    (serves_exit _ _ (rw (method, header, c.from-n.ensures) at c.in_err-make_context.ensures.serves) c.from_residual-in_err-make_context.ensures.1)))

pub returns-in_err-pop-clause-serves : goal.returns-in_err-pop-clause-serves
unfolding activate
returns-in_err-pop-clause-serves g c =
    let method = c.in_ok-header.ensures.looks.regs 5 refl in
    let header = small_number _ c.in_ok-header.ensures.range in
    numbers_then _ (register_then _ _ refl (serves_then _ (c.in_ok-header.ensures.serves _)
    (serves_then _ (rw (method, header, c.from-n.ensures) at c.in_ok-make_context.ensures.serves)
    (serves_exit _ _ (rw c.from-n.ensures at c.in_err-pop.ensures.serves _ c.in_ok-make_context.ensures.fit.ready) c.from_residual-in_err-pop.ensures.1))))

pub returns-in_err-enter-clause-serves : goal.returns-in_err-enter-clause-serves
unfolding activate
returns-in_err-enter-clause-serves g c =
    let method = c.in_ok-header.ensures.looks.regs 5 refl in
    let header = small_number _ c.in_ok-header.ensures.range in
    numbers_then _ (register_then _ _ refl (serves_then _ (c.in_ok-header.ensures.serves _)
    (serves_then _ (rw (method, header, c.from-n.ensures) at c.in_ok-make_context.ensures.serves)
    (serves_then _ (rw c.from-n.ensures at c.in_ok-pop.ensures.serves _ c.in_ok-make_context.ensures.fit.ready)
    (exits _ c.from_residual-in_err-enter.ensures.1 c.in_err-enter.ensures.serves)))))

pub returns-clause-serves : goal.returns-clause-serves
unfolding activate
returns-clause-serves g c =
    let method = c.in_ok-header.ensures.looks.regs 5 refl in
    let header = small_number _ c.in_ok-header.ensures.range in
    numbers_then _ (register_then _ _ refl (serves_then _ (c.in_ok-header.ensures.serves _)
    (serves_then _ (rw (method, header, c.from-n.ensures) at c.in_ok-make_context.ensures.serves)
    (serves_then _ (rw c.from-n.ensures at c.in_ok-pop.ensures.serves _ c.in_ok-make_context.ensures.fit.ready)
    c.in_ok-enter.ensures.serves))))
