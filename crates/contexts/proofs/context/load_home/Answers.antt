use Rattle.std.proofs.Common.{refl, ap, ◌∙◌, arith}
use Rattle.object_memory.proofs.LooksLaws.{regs_looked}
use Rattle.blue_model.specs.Contexts.{load_home}
use Rattle.contexts.proofs.Frames.{below}
use Rattle.contexts.proofs.ServesLaws.{serves_then, serves_exit}
use Rattle.contexts.proofs.Steps.{numbers_then, given_then, given_stuck, set_numbers_at}
use Rattle.contexts.proofs.context.load_home.Goals as goal

pub returns-in_err-pin-clause-serves : goal.returns-in_err-pin-clause-serves
unfolding load_home
returns-in_err-pin-clause-serves g c = serves_exit _ _ (c.in_err-pin.ensures.serves _) c.from_residual.ensures.1

pub returns-in_err-field-clause-serves : goal.returns-in_err-field-clause-serves
unfolding load_home
returns-in_err-field-clause-serves g c =
    serves_then _ (c.in_ok-pin.ensures.serves _)
    (serves_exit _ _ (rw c.in_ok-pin.ensures.regs at c.in_err-field.ensures.serves _) c.from_residual-in_err-field.ensures.1)

pub returns-in_err-pin-2-clause-serves : goal.returns-in_err-pin-2-clause-serves
unfolding load_home
returns-in_err-pin-2-clause-serves g c =
    serves_then _ (c.in_ok-pin.ensures.serves _)
    (serves_then _ (rw c.in_ok-pin.ensures.regs at c.in_ok-field.ensures.serves _)
    (serves_exit _ _ (c.in_err-pin-2.ensures.serves _) c.from_residual-in_err-pin-2.ensures.1))

pub returns-in_err-need_method-clause-serves : goal.returns-in_err-need_method-clause-serves
unfolding load_home
returns-in_err-need_method-clause-serves g c =
    serves_then _ (c.in_ok-pin.ensures.serves _)
    (serves_then _ (rw c.in_ok-pin.ensures.regs at c.in_ok-field.ensures.serves _)
    (serves_then _ (c.in_ok-pin-2.ensures.serves _)
    (serves_exit _ _ (rw c.in_ok-pin-2.ensures.regs at c.in_err-need_method.ensures.serves _) c.from_residual-in_err-need_method.ensures.1)))

pub returns-in_err-field-2-clause-serves : goal.returns-in_err-field-2-clause-serves
unfolding load_home
returns-in_err-field-2-clause-serves g c =
    let stays = regs_looked _ _ c.in_ok-need_method.ensures.looks in
    serves_then _ (c.in_ok-pin.ensures.serves _)
    (serves_then _ (rw c.in_ok-pin.ensures.regs at c.in_ok-field.ensures.serves _)
    (serves_then _ (c.in_ok-pin-2.ensures.serves _)
    (serves_then _ (rw c.in_ok-pin-2.ensures.regs at c.in_ok-need_method.ensures.serves _)
    (serves_exit _ _ (rw (stays, c.in_ok-pin-2.ensures.regs, c.in_ok-field.ensures.looks.regs 21 refl, c.in_ok-pin.ensures.regs) at c.in_err-field-2.ensures.serves _) c.from_residual-in_err-field-2.ensures.1))))

pub returns-then-not-take_stated-clause-serves : goal.returns-then-not-take_stated-clause-serves
unfolding load_home
returns-then-not-take_stated-clause-serves g c =
    let stays = regs_looked _ _ c.in_ok-need_method.ensures.looks in
    serves_then _ (c.in_ok-pin.ensures.serves _)
    (serves_then _ (rw c.in_ok-pin.ensures.regs at c.in_ok-field.ensures.serves _)
    (serves_then _ (c.in_ok-pin-2.ensures.serves _)
    (serves_then _ (rw c.in_ok-pin-2.ensures.regs at c.in_ok-need_method.ensures.serves _)
    (serves_then _ (rw (stays, c.in_ok-pin-2.ensures.regs, c.in_ok-field.ensures.looks.regs 21 refl, c.in_ok-pin.ensures.regs) at c.in_ok-field-2.ensures.serves _)
    (given_stuck _ _ (λ told. c.if-not-take_stated.ensures.depth))))))

pub returns-clause-serves : goal.returns-clause-serves
unfolding load_home
returns-clause-serves g c =
    let stays = regs_looked _ _ c.in_ok-need_method.ensures.looks in
    let context = c.in_ok-field-2.ensures.looks.regs c.args.context (below 23 c.args.context (let low = c.requires.context in omega arith)) ∙ ap (λ f. f c.args.context) stays ∙ ap (λ f. f c.args.context) c.in_ok-pin-2.ensures.regs ∙ c.in_ok-field.ensures.looks.regs c.args.context (below 22 c.args.context (let low = c.requires.context in omega arith)) ∙ ap (λ f. f c.args.context) c.in_ok-pin.ensures.regs in
    let home = c.in_ok-field-2.ensures.looks.regs 21 refl ∙ ap (λ f. f 21) stays ∙ ap (λ f. f 21) c.in_ok-pin-2.ensures.regs ∙ c.in_ok-field.ensures.looks.regs 21 refl ∙ ap (λ f. f 21) c.in_ok-pin.ensures.regs in
    let method = c.in_ok-field-2.ensures.looks.regs 22 refl ∙ ap (λ f. f 22) stays ∙ ap (λ f. f 22) c.in_ok-pin-2.ensures.regs in
    serves_then _ (c.in_ok-pin.ensures.serves _)
    (serves_then _ (rw c.in_ok-pin.ensures.regs at c.in_ok-field.ensures.serves _)
    (serves_then _ (c.in_ok-pin-2.ensures.serves _)
    (serves_then _ (rw c.in_ok-pin-2.ensures.regs at c.in_ok-need_method.ensures.serves _)
    (serves_then _ (rw (stays, c.in_ok-pin-2.ensures.regs, c.in_ok-field.ensures.looks.regs 21 refl, c.in_ok-pin.ensures.regs) at c.in_ok-field-2.ensures.serves _)
    (given_then _ _ _ _ (λ told. c.if-not-take_stated.ensures.depth)
    (serves_then _ (rw (context, home, method) at c.put_context.ensures.serves _)
    (numbers_then _ (set_numbers_at _ c.if-not-take_stated.ensures.numbers (λ may. may) c.put_context.ensures.fit.ready))))))))
