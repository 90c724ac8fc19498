use Rattle.blue_model.specs.Contexts.{back}
use Rattle.contexts.proofs.ServesLaws.{serves_then, serves_exit, exits}
use Rattle.contexts.proofs.context.back.Goals as goal

pub returns-in_err-nil_context-clause-serves : goal.returns-in_err-nil_context-clause-serves
unfolding back
returns-in_err-nil_context-clause-serves g c = serves_exit _ _ (c.in_err-nil_context.ensures.serves _) c.from_residual.ensures.1

pub returns-in_err-load-clause-serves : goal.returns-in_err-load-clause-serves
unfolding back
returns-in_err-load-clause-serves g c =
    let same = c.in_ok-nil_context.ensures.regs c.args.context c.requires.context in
    serves_then _ (c.in_ok-nil_context.ensures.serves _) (exits _ c.from_residual-in_err-load.ensures.1 (rw same at c.in_err-load.ensures.serves))

pub returns-clause-serves : goal.returns-clause-serves
unfolding back
returns-clause-serves g c =
    let same = c.in_ok-nil_context.ensures.regs c.args.context c.requires.context in
    serves_then _ (c.in_ok-nil_context.ensures.serves _) (rw same at c.in_ok-load.ensures.serves)
