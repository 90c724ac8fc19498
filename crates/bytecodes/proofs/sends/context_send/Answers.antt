use Rattle.std.proofs.Common.{sym, ◌∙◌, inl, inr}
use Rattle.blue_model.specs.Sends.{special_send}
use Rattle.blue_model.specs.Bytecodes.{tried_for, block_send}
use Rattle.contexts.proofs.ServesLaws.{serves_then, serves_exit}
use Rattle.contexts.proofs.Steps.{pick_true, pick_false}
use Rattle.bytecodes.proofs.SendLaws.{either, neither}
use Rattle.bytecodes.proofs.sends.context_send.Goals.{then-is-via-then-is, then-is-via-else-is+then-is-2}
use Rattle.bytecodes.proofs.sends.context_send.Goals as goal

pub returns-in_err-stack-clause-serves : goal.returns-in_err-stack-clause-serves
unfolding block_send
returns-in_err-stack-clause-serves g c = serves_exit _ _ c.in_err-stack.ensures.serves c.from_residual.ensures.1

pub returns-in_err-class_of-clause-serves : goal.returns-in_err-class_of-clause-serves
unfolding block_send
returns-in_err-class_of-clause-serves g c = serves_then _ c.in_ok-stack.ensures.serves (serves_exit _ _ (c.in_err-class_of.ensures.serves _) c.from_residual-in_err-class_of.ensures.1)

pub returns-then-is-clause-serves : goal.returns-then-is-clause-serves
unfolding block_send
returns-then-is-clause-serves g c =
    serves_then _ c.in_ok-stack.ensures.serves (serves_then _ (c.in_ok-class_of.ensures.serves _)
    (pick_true _ (tried_for c.args.events.now 80 1 24) (special_send c.args.events.now 24) (either ((g.M.ObjectMemory.told c.class_of.new.m).regs 10) (elim c.then-is.branch [ then-is-via-then-is w ↦ inl (sym w.if-is.ensures) | then-is-via-else-is+then-is-2 w ↦ inr (sym w.if-is-2.ensures) ])) c.tried_for.ensures.serves))

pub returns-clause-serves : goal.returns-clause-serves
unfolding block_send
returns-clause-serves g c =
    serves_then _ c.in_ok-stack.ensures.serves (serves_then _ (c.in_ok-class_of.ensures.serves _)
    (pick_false _ (tried_for c.args.events.now 80 1 24) (special_send c.args.events.now 24) (neither ((g.M.ObjectMemory.told c.class_of.new.m).regs 10) (sym c.is.ensures ∙ c.if-is.false) (sym c.if-is-2.ensures)) c.special_send.ensures.serves))
