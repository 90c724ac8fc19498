use Rattle.std.proofs.Common.{refl, ◌∙◌}
use Rattle.object_memory.proofs.ShapeLaws.{small_number}
use Rattle.long_names.specs.Words.{IsSmallInteger}
use Rattle.blue_model.specs.Control.{value_with_arguments}
use Rattle.contexts.proofs.ServesLaws.{serves_then, serves_exit}
use Rattle.contexts.proofs.TrialLaws.{found_then, none_found, finding_exit}
use Rattle.prims_control.proofs.StepLaws.{of_some, entered_as}
use Rattle.send_lookup.proofs.MessageLaws.{unequal}
use Rattle.prims_control.proofs.values.value_with_arguments.Goals as goal

pub returns-in_err-stack-clause-serves : goal.returns-in_err-stack-clause-serves
unfolding value_with_arguments
returns-in_err-stack-clause-serves g c = serves_exit _ _ c.in_err-stack.ensures.serves c.from_residual.ensures.1

pub returns-in_err-stack-2-clause-serves : goal.returns-in_err-stack-2-clause-serves
unfolding value_with_arguments
returns-in_err-stack-2-clause-serves g c = serves_then _ c.in_ok-stack.ensures.serves
    (serves_exit _ _ c.in_err-stack-2.ensures.serves c.from_residual-in_err-stack-2.ensures.1)

pub returns-in_err-n-clause-serves : goal.returns-in_err-n-clause-serves
unfolding value_with_arguments
returns-in_err-n-clause-serves g c = serves_then _ c.in_ok-stack.ensures.serves
    (serves_then _ c.in_ok-stack-2.ensures.serves
    (finding_exit _ _ (c.in_err-n.ensures.serves c.args.cpu.now) c.from_residual-in_err-n.ensures.1))

pub returns-in_default-clause-serves : goal.returns-in_default-clause-serves
unfolding value_with_arguments
returns-in_default-clause-serves g c = serves_then _ c.in_ok-stack.ensures.serves
    (serves_then _ c.in_ok-stack-2.ensures.serves
    (none_found _ c.in_default.is (c.in_ok-n.ensures.serves c.args.cpu.now)))

pub returns-in_err-ip-clause-serves : goal.returns-in_err-ip-clause-serves
unfolding value_with_arguments
returns-in_err-ip-clause-serves g c =
    let block = c.in_ok-n.ensures.looks.regs 10 refl ∙ c.in_ok-stack-2.ensures.looks.regs 10 refl in
    serves_then _ c.in_ok-stack.ensures.serves
    (serves_then _ c.in_ok-stack-2.ensures.serves
    (found_then _ c.in-Some.is (c.in_ok-n.ensures.serves c.args.cpu.now)
    (finding_exit _ _ (rw block at (c.in_err-ip.ensures.serves c.args.cpu.now)) c.from_residual-in_err-ip.ensures.1)))

pub returns-in_default-2-clause-serves : goal.returns-in_default-2-clause-serves
unfolding value_with_arguments
returns-in_default-2-clause-serves g c =
    let block = c.in_ok-n.ensures.looks.regs 10 refl ∙ c.in_ok-stack-2.ensures.looks.regs 10 refl in
    serves_then _ c.in_ok-stack.ensures.serves
    (serves_then _ c.in_ok-stack-2.ensures.serves
    (found_then _ c.in-Some.is (c.in_ok-n.ensures.serves c.args.cpu.now)
    (none_found _ c.in_default-2.is (rw block at (c.in_ok-ip.ensures.serves c.args.cpu.now)))))

pub returns-in_err-pass_elements-clause-serves : goal.returns-in_err-pass_elements-clause-serves
unfolding value_with_arguments
returns-in_err-pass_elements-clause-serves g c =
    let block = c.in_ok-n.ensures.looks.regs 10 refl ∙ c.in_ok-stack-2.ensures.looks.regs 10 refl in
    let array = c.in_ok-ip.ensures.looks.regs 12 refl ∙ c.in_ok-n.ensures.looks.regs 12 refl in
    let same = c.in_ok-ip.ensures.looks.regs 10 refl ∙ block in
    serves_then _ c.in_ok-stack.ensures.serves
    (serves_then _ c.in_ok-stack-2.ensures.serves
    (found_then _ c.in-Some.is (c.in_ok-n.ensures.serves c.args.cpu.now)
    (found_then _ c.in-Some-2.is (rw block at (c.in_ok-ip.ensures.serves c.args.cpu.now))
    (serves_exit _ _ (rw (array, same) at (c.in_err-pass_elements.ensures.serves c.args.cpu.now)) c.from_residual-in_err-pass_elements.ensures.1))))

pub returns-in_err-pop-clause-serves : goal.returns-in_err-pop-clause-serves
unfolding value_with_arguments
returns-in_err-pop-clause-serves g c =
    let block = c.in_ok-n.ensures.looks.regs 10 refl ∙ c.in_ok-stack-2.ensures.looks.regs 10 refl in
    let array = c.in_ok-ip.ensures.looks.regs 12 refl ∙ c.in_ok-n.ensures.looks.regs 12 refl in
    let same = c.in_ok-ip.ensures.looks.regs 10 refl ∙ block in
    serves_then _ c.in_ok-stack.ensures.serves
    (serves_then _ c.in_ok-stack-2.ensures.serves
    (found_then _ c.in-Some.is (c.in_ok-n.ensures.serves c.args.cpu.now)
    (found_then _ c.in-Some-2.is (rw block at (c.in_ok-ip.ensures.serves c.args.cpu.now))
    (serves_then _ (rw (array, same) at (c.in_ok-pass_elements.ensures.serves c.args.cpu.now))
    (serves_exit _ _ (c.in_err-pop.ensures.serves _ c.in_ok-pass_elements.ensures.fit.ready) c.from_residual-in_err-pop.ensures.1)))))

pub returns-clause-serves : goal.returns-clause-serves
unfolding value_with_arguments
returns-clause-serves g c =
    let block = c.in_ok-n.ensures.looks.regs 10 refl ∙ c.in_ok-stack-2.ensures.looks.regs 10 refl in
    let array = c.in_ok-ip.ensures.looks.regs 12 refl ∙ c.in_ok-n.ensures.looks.regs 12 refl in
    let same = c.in_ok-ip.ensures.looks.regs 10 refl ∙ block in
    let ip = small_number _ (of_some IsSmallInteger _ c.in-Some-2.is c.in_ok-ip.ensures.range) in
    let still = c.in_ok-pass_elements.ensures.regs 10 (unequal 10 19 refl) ∙ same in
    serves_then _ c.in_ok-stack.ensures.serves
    (serves_then _ c.in_ok-stack-2.ensures.serves
    (found_then _ c.in-Some.is (c.in_ok-n.ensures.serves c.args.cpu.now)
    (found_then _ c.in-Some-2.is (rw block at (c.in_ok-ip.ensures.serves c.args.cpu.now))
    (serves_then _ (rw (array, same) at (c.in_ok-pass_elements.ensures.serves c.args.cpu.now))
    (serves_then _ (c.in_ok-pop.ensures.serves _ c.in_ok-pass_elements.ensures.fit.ready)
    (entered_as _ _ _ _ _ _ still refl ip c.enter_block.ensures.serves))))))
