use Rattle.std.proofs.Common.{refl}
use Rattle.blue_model.specs.Bytecodes.{return_from_block}
use Rattle.contexts.proofs.ServesLaws.{serves_then, serves_exit}
use Rattle.contexts.proofs.Steps.{register_then}
use Rattle.bytecodes.proofs.KeepLaws.{keeps_after}
use Rattle.bytecodes.proofs.returns.return_from_block.Goals as goal

pub returns-in_err-pop_top-clause-serves : goal.returns-in_err-pop_top-clause-serves
unfolding return_from_block
returns-in_err-pop_top-clause-serves g c = serves_exit _ _ c.in_err-pop_top.ensures.serves c.from_residual.ensures.1

pub returns-in_err-field-clause-serves : goal.returns-in_err-field-clause-serves
unfolding return_from_block
returns-in_err-field-clause-serves g c =
    serves_then _ c.in_ok-pop_top.ensures.serves (register_then _ _ refl (serves_exit _ _ (c.in_err-field.ensures.serves _) c.from_residual-in_err-field.ensures.1))

pub returns-clause-serves : goal.returns-clause-serves
unfolding return_from_block
returns-clause-serves g c =
    let value = c.in_ok-field.ensures.looks.regs 10 refl in
    serves_then _ c.in_ok-pop_top.ensures.serves (register_then _ _ refl (serves_then _ (c.in_ok-field.ensures.serves _)
    (rw value at c.return_to.ensures.serves)))

pub returns-clause-keeps : goal.returns-clause-keeps
returns-clause-keeps g c = keeps_after _ _ _ c.in_ok-pop_top.ensures.serves.vault c.return_to.ensures.keeps
