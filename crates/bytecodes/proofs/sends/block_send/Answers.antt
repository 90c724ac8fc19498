use Rattle.std.proofs.Common.{sym, ◌∙◌}
use Rattle.blue_model.specs.Sends.{special_send}
use Rattle.blue_model.specs.Bytecodes.{tried_for, block_send}
use Rattle.contexts.proofs.ServesLaws.{serves_then, serves_exit}
use Rattle.contexts.proofs.Steps.{pick_true, pick_false}
use Rattle.bytecodes.proofs.SendLaws.{is_block}
use Rattle.bytecodes.proofs.sends.block_send.Goals as goal

pub returns-in_err-stack-clause-serves : goal.returns-in_err-stack-clause-serves
unfolding block_send
returns-in_err-stack-clause-serves g c = serves_exit _ _ (rw c.from.ensures at c.in_err-stack.ensures.serves) c.from_residual.ensures.1

pub returns-in_err-class_of-clause-serves : goal.returns-in_err-class_of-clause-serves
unfolding block_send
returns-in_err-class_of-clause-serves g c = serves_then _ (rw c.from.ensures at c.in_ok-stack.ensures.serves) (serves_exit _ _ (c.in_err-class_of.ensures.serves _) c.from_residual-in_err-class_of.ensures.1)

pub returns-then-is-clause-serves : goal.returns-then-is-clause-serves
unfolding block_send
returns-then-is-clause-serves g c =
    serves_then _ (rw c.from.ensures at c.in_ok-stack.ensures.serves) (serves_then _ (c.in_ok-class_of.ensures.serves _)
    (pick_true _ (tried_for c.args.events.now 81 c.args.n c.args.s) (special_send c.args.events.now c.args.s) (is_block ((g.M.ObjectMemory.told c.class_of.new.m).regs 10) ∙ sym c.if-is.ensures) c.tried_for.ensures.serves))

pub returns-clause-serves : goal.returns-clause-serves
unfolding block_send
returns-clause-serves g c =
    serves_then _ (rw c.from.ensures at c.in_ok-stack.ensures.serves) (serves_then _ (c.in_ok-class_of.ensures.serves _)
    (pick_false _ (tried_for c.args.events.now 81 c.args.n c.args.s) (special_send c.args.events.now c.args.s) (is_block ((g.M.ObjectMemory.told c.class_of.new.m).regs 10) ∙ sym c.if-is.ensures) c.special_send.ensures.serves))
