use Rattle.blue_model.specs.Contexts.{enter}
use Rattle.contexts.proofs.ServesLaws.{serves_then, serves_exit, exits}
use Rattle.contexts.proofs.context.enter.Goals as goal

pub returns-in_err-store_registers-clause-serves : goal.returns-in_err-store_registers-clause-serves
unfolding enter
returns-in_err-store_registers-clause-serves g c = serves_exit _ _ c.in_err-store_registers.ensures.serves c.from_residual.ensures.1

pub returns-in_err-load-clause-serves : goal.returns-in_err-load-clause-serves
unfolding enter
returns-in_err-load-clause-serves g c =
    let same = c.in_ok-store_registers.ensures.regs c.args.context c.requires.context in
    serves_then _ c.in_ok-store_registers.ensures.serves (exits _ c.from_residual-in_err-load.ensures.1 (rw same at c.in_err-load.ensures.serves))

pub returns-clause-serves : goal.returns-clause-serves
unfolding enter
returns-clause-serves g c =
    let same = c.in_ok-store_registers.ensures.regs c.args.context c.requires.context in
    serves_then _ c.in_ok-store_registers.ensures.serves (rw same at c.in_ok-load.ensures.serves)
