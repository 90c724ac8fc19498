use Rattle.blue_model.specs.Bytecodes.{store_and_pop}
use Rattle.contexts.proofs.ServesLaws.{serves_then, serves_exit, exits}
use Rattle.bytecodes.proofs.stacks.store_and_pop.Goals as goal

pub returns-in_err-store_top-clause-serves : goal.returns-in_err-store_top-clause-serves
unfolding store_and_pop
returns-in_err-store_top-clause-serves g c = serves_exit _ _ c.in_err-store_top.ensures.serves c.from_residual.ensures.1

pub returns-in_err-pop-clause-serves : goal.returns-in_err-pop-clause-serves
unfolding store_and_pop
returns-in_err-pop-clause-serves g c = serves_then _ c.in_ok-store_top.ensures.serves (exits _ c.from_residual-in_err-pop.ensures.1 (c.in_err-pop.ensures.serves _ c.in_ok-store_top.ensures.fit.ready))

pub returns-clause-serves : goal.returns-clause-serves
unfolding store_and_pop
returns-clause-serves g c = serves_then _ c.in_ok-store_top.ensures.serves (c.in_ok-pop.ensures.serves _ c.in_ok-store_top.ensures.fit.ready)
