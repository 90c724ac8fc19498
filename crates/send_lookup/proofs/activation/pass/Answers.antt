use Rattle.std.proofs.Common.{refl}
use Rattle.blue_model.specs.Messages.{pass}
use Rattle.contexts.proofs.ServesLaws.{serves_then, serves_exit, exits}
use Rattle.contexts.proofs.Steps.{given_then, given_stuck}
use Rattle.send_lookup.proofs.ActivationLaws.{place_there, place_lacking}
use Rattle.send_lookup.proofs.activation.pass.Goals as goal

pub returns-then-k-len-clause-serves : goal.returns-then-k-len-clause-serves
unfolding pass
returns-then-k-len-clause-serves g c = given_stuck _ _ (λ told. place_lacking c.args.len c.args.k c.if-k-len.true)

pub returns-in_err-stack-clause-serves : goal.returns-in_err-stack-clause-serves
unfolding pass
returns-in_err-stack-clause-serves g c = given_then _ _ _ _ (λ told. place_there c.args.len c.args.k c.if-k-len.false) (serves_exit _ _ c.in_err-stack.ensures.serves c.from_residual.ensures.1)

pub returns-in_err-store_field-clause-serves : goal.returns-in_err-store_field-clause-serves
unfolding pass
returns-in_err-store_field-clause-serves g c =
    let context = c.in_ok-stack.ensures.looks.regs 16 refl in
    given_then _ _ _ _ (λ told. place_there c.args.len c.args.k c.if-k-len.false)
    (serves_then _ c.in_ok-stack.ensures.serves (exits _ c.from_residual-in_err-store_field.ensures.1 (rw context at c.in_err-store_field.ensures.serves _)))

pub returns-clause-serves : goal.returns-clause-serves
unfolding pass
returns-clause-serves g c =
    let context = c.in_ok-stack.ensures.looks.regs 16 refl in
    given_then _ _ _ _ (λ told. place_there c.args.len c.args.k c.if-k-len.false)
    (serves_then _ c.in_ok-stack.ensures.serves (rw context at c.in_ok-store_field.ensures.serves _))
