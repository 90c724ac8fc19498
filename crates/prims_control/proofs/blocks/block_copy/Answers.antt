use Rattle.std.proofs.Common.{refl, sym, ◌∙◌, ap}
use Rattle.blue_model.specs.Control.{argument_number, block_copy}
use Rattle.contexts.proofs.ServesLaws.{serves_then, serves_exit}
use Rattle.contexts.proofs.TrialLaws.{some_then, none_fails, found_then, none_found, finding_exit}
use Rattle.prims_control.proofs.blocks.block_copy.Goals as goal

pub returns-in_err-stack-clause-serves : goal.returns-in_err-stack-clause-serves
unfolding block_copy
returns-in_err-stack-clause-serves g c = serves_exit _ _ c.in_err-stack.ensures.serves c.from_residual.ensures.1

pub returns-in_err-stack-2-clause-serves : goal.returns-in_err-stack-2-clause-serves
unfolding block_copy
returns-in_err-stack-2-clause-serves g c = serves_then _ c.in_ok-stack.ensures.serves
    (serves_exit _ _ c.in_err-stack-2.ensures.serves c.from_residual-in_err-stack-2.ensures.1)

pub returns-in_err-peek_home-clause-serves : goal.returns-in_err-peek_home-clause-serves
unfolding block_copy
returns-in_err-peek_home-clause-serves g c =
    let context = c.in_ok-stack-2.ensures.looks.regs 10 refl in
    serves_then _ c.in_ok-stack.ensures.serves
    (serves_then _ c.in_ok-stack-2.ensures.serves
    (finding_exit _ _ (rw context at (c.in_err-peek_home.ensures.serves c.args.cpu.now)) c.from_residual-in_err-peek_home.ensures.1))

pub returns-then-not-branch-clause-serves : goal.returns-then-not-branch-clause-serves
unfolding block_copy
returns-then-not-branch-clause-serves g c =
    let context = c.in_ok-stack-2.ensures.looks.regs 10 refl in
    serves_then _ c.in_ok-stack.ensures.serves
    (serves_then _ c.in_ok-stack-2.ensures.serves
    (none_found _ refl (rw (context, c.if-not-branch.true) at (c.in_ok-peek_home.ensures.serves c.args.cpu.now))))

pub returns-in_default-clause-serves : goal.returns-in_default-clause-serves
unfolding block_copy
returns-in_default-clause-serves g c =
    let context = c.in_ok-stack-2.ensures.looks.regs 10 refl in
    let argument = ap argument_number (sym (c.in_ok-peek_home.ensures.looks.regs 11 refl)) ∙ sym c.argument_number.ensures.number in
    serves_then _ c.in_ok-stack.ensures.serves
    (serves_then _ c.in_ok-stack-2.ensures.serves
    (found_then _ refl (rw (context, c.if-not-branch.false) at (c.in_ok-peek_home.ensures.serves c.args.cpu.now))
    (none_fails _ _ c.in_ok-peek_home.ensures.fit.ready (λ told. argument ∙ c.in_default.is))))

pub returns-in_err-len-clause-serves : goal.returns-in_err-len-clause-serves
unfolding block_copy
returns-in_err-len-clause-serves g c =
    let context = c.in_ok-stack-2.ensures.looks.regs 10 refl in
    let argument = ap argument_number (sym (c.in_ok-peek_home.ensures.looks.regs 11 refl)) ∙ sym c.argument_number.ensures.number in
    serves_then _ c.in_ok-stack.ensures.serves
    (serves_then _ c.in_ok-stack-2.ensures.serves
    (found_then _ refl (rw (context, c.if-not-branch.false) at (c.in_ok-peek_home.ensures.serves c.args.cpu.now))
    (some_then _ _ _ (λ told. argument ∙ c.in-Some.is)
    (finding_exit _ _ (c.in_err-len.ensures.serves c.args.cpu.now) c.from_residual-in_err-len.ensures.1))))

pub returns-in_default-2-clause-serves : goal.returns-in_default-2-clause-serves
unfolding block_copy
returns-in_default-2-clause-serves g c =
    let context = c.in_ok-stack-2.ensures.looks.regs 10 refl in
    let argument = ap argument_number (sym (c.in_ok-peek_home.ensures.looks.regs 11 refl)) ∙ sym c.argument_number.ensures.number in
    serves_then _ c.in_ok-stack.ensures.serves
    (serves_then _ c.in_ok-stack-2.ensures.serves
    (found_then _ refl (rw (context, c.if-not-branch.false) at (c.in_ok-peek_home.ensures.serves c.args.cpu.now))
    (some_then _ _ _ (λ told. argument ∙ c.in-Some.is)
    (none_found _ c.in_default-2.is (c.in_ok-len.ensures.serves c.args.cpu.now)))))

pub returns-in_err-make_block-clause-serves : goal.returns-in_err-make_block-clause-serves
unfolding block_copy
returns-in_err-make_block-clause-serves g c =
    let context = c.in_ok-stack-2.ensures.looks.regs 10 refl in
    let argument = ap argument_number (sym (c.in_ok-peek_home.ensures.looks.regs 11 refl)) ∙ sym c.argument_number.ensures.number in
    let home = c.in_ok-len.ensures.looks.regs 12 refl in
    serves_then _ c.in_ok-stack.ensures.serves
    (serves_then _ c.in_ok-stack-2.ensures.serves
    (found_then _ refl (rw (context, c.if-not-branch.false) at (c.in_ok-peek_home.ensures.serves c.args.cpu.now))
    (some_then _ _ _ (λ told. argument ∙ c.in-Some.is)
    (found_then _ c.in-Some-2.is (c.in_ok-len.ensures.serves c.args.cpu.now)
    (serves_exit _ _ (rw home at c.in_err-make_block.ensures.serves) c.from_residual-in_err-make_block.ensures.1)))))

pub returns-clause-serves : goal.returns-clause-serves
unfolding block_copy
returns-clause-serves g c =
    let context = c.in_ok-stack-2.ensures.looks.regs 10 refl in
    let argument = ap argument_number (sym (c.in_ok-peek_home.ensures.looks.regs 11 refl)) ∙ sym c.argument_number.ensures.number in
    let home = c.in_ok-len.ensures.looks.regs 12 refl in
    serves_then _ c.in_ok-stack.ensures.serves
    (serves_then _ c.in_ok-stack-2.ensures.serves
    (found_then _ refl (rw (context, c.if-not-branch.false) at (c.in_ok-peek_home.ensures.serves c.args.cpu.now))
    (some_then _ _ _ (λ told. argument ∙ c.in-Some.is)
    (found_then _ c.in-Some-2.is (c.in_ok-len.ensures.serves c.args.cpu.now)
    (serves_then _ (rw home at c.in_ok-make_block.ensures.serves) c.answer.ensures.serves)))))
