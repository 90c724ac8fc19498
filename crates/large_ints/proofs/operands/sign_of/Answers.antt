use Rattle.std.proofs.Common.{sym, ◌∙◌}
use Rattle.contexts.proofs.ServesLaws.{serves_then, serves_exit}
use Rattle.contexts.proofs.Steps.{done_same}
use Rattle.large_ints.proofs.OperandLaws.{by_class, positive_class, negative_class, other_class}
use Rattle.large_ints.proofs.operands.sign_of.Goals as goal

pub returns-in_err-class_of-clause-serves : goal.returns-in_err-class_of-clause-serves
returns-in_err-class_of-clause-serves g c = λ cpu. by_class _ c.requires.named (serves_exit _ _ (c.in_err-class_of.ensures.serves cpu) c.from_residual.ensures.1)

pub returns-then-is-clause-serves : goal.returns-then-is-clause-serves
returns-then-is-clause-serves g c = λ cpu.
    let class = c.in_ok-class_of.ensures in
    by_class _ c.requires.named (serves_then _ (class.serves cpu) (done_same (positive_class ((g.M.ObjectMemory.told c.class_of.new.m).regs 19) (sym c.is.ensures ∙ c.if-is.true)) class.fit.ready))

pub returns-then-is-2-clause-serves : goal.returns-then-is-2-clause-serves
returns-then-is-2-clause-serves g c = λ cpu.
    let class = c.in_ok-class_of.ensures in
    by_class _ c.requires.named (serves_then _ (class.serves cpu) (done_same (negative_class ((g.M.ObjectMemory.told c.class_of.new.m).regs 19) (sym c.is.ensures ∙ c.if-is.false) (sym c.is-2.ensures ∙ c.if-is-2.true)) class.fit.ready))

pub returns-clause-serves : goal.returns-clause-serves
returns-clause-serves g c = λ cpu.
    let class = c.in_ok-class_of.ensures in
    by_class _ c.requires.named (serves_then _ (class.serves cpu) (done_same (other_class ((g.M.ObjectMemory.told c.class_of.new.m).regs 19) (sym c.is.ensures ∙ c.if-is.false) (sym c.is-2.ensures ∙ c.if-is-2.false)) class.fit.ready))
