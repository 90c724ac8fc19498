use Rattle.blue_model.specs.Bytecodes.{jump_on}
use Rattle.contexts.proofs.ServesLaws.{serves_then, serves_exit}
use Rattle.bytecodes.proofs.KeepLaws.{keeps_after}
use Rattle.bytecodes.proofs.jumps.jump_on.Goals as goal

pub returns-in_err-pop_top-clause-serves : goal.returns-in_err-pop_top-clause-serves
unfolding jump_on
returns-in_err-pop_top-clause-serves g c = serves_exit _ _ c.in_err-pop_top.ensures.serves c.from_residual.ensures.1

pub returns-clause-serves : goal.returns-clause-serves
unfolding jump_on
returns-clause-serves g c = serves_then _ c.in_ok-pop_top.ensures.serves c.jump_where.ensures.serves

pub returns-clause-keeps : goal.returns-clause-keeps
returns-clause-keeps g c = keeps_after _ _ _ c.in_ok-pop_top.ensures.serves.vault c.jump_where.ensures.keeps
