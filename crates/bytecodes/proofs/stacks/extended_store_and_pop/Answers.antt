use Rattle.blue_model.specs.Bytecodes.{extended_store_and_pop}
use Rattle.contexts.proofs.ServesLaws.{serves_then, serves_exit, exits}
use Rattle.bytecodes.proofs.stacks.extended_store_and_pop.Goals as goal

pub returns-in_err-byte-clause-serves : goal.returns-in_err-byte-clause-serves
unfolding extended_store_and_pop
returns-in_err-byte-clause-serves g c = serves_exit _ _ c.in_err-byte.ensures.serves c.from_residual.ensures.1

pub returns-in_err-extended_store_of-clause-serves : goal.returns-in_err-extended_store_of-clause-serves
unfolding extended_store_and_pop
returns-in_err-extended_store_of-clause-serves g c = serves_then _ c.in_ok-byte.ensures.serves (serves_exit _ _ c.in_err-extended_store_of.ensures.serves c.from_residual-in_err-extended_store_of.ensures.1)

pub returns-in_err-pop-clause-serves : goal.returns-in_err-pop-clause-serves
unfolding extended_store_and_pop
returns-in_err-pop-clause-serves g c =
    let ready = c.in_ok-extended_store_of.ensures.fit.ready in
    serves_then _ c.in_ok-byte.ensures.serves (serves_then _ c.in_ok-extended_store_of.ensures.serves (exits _ c.from_residual-in_err-pop.ensures.1 (c.in_err-pop.ensures.serves _ ready)))

pub returns-clause-serves : goal.returns-clause-serves
unfolding extended_store_and_pop
returns-clause-serves g c =
    let ready = c.in_ok-extended_store_of.ensures.fit.ready in
    serves_then _ c.in_ok-byte.ensures.serves (serves_then _ c.in_ok-extended_store_of.ensures.serves (c.in_ok-pop.ensures.serves _ ready))
