use Rattle.std.proofs.Common.{refl, ◌∙◌}
use Rattle.object_memory.proofs.ShapeLaws.{small_number}
use Rattle.long_names.specs.Words.{IsSmallInteger}
use Rattle.blue_model.specs.Control.{value}
use Rattle.contexts.proofs.ServesLaws.{serves_then, serves_exit}
use Rattle.contexts.proofs.Steps.{numbers_then}
use Rattle.contexts.proofs.TrialLaws.{found_then, none_found, finding_exit}
use Rattle.prims_control.proofs.StepLaws.{of_some, entered_as}
use Rattle.send_lookup.proofs.MessageLaws.{unequal}
use Rattle.prims_control.proofs.values.value.Goals as goal

pub returns-in_err-stack-clause-serves : goal.returns-in_err-stack-clause-serves
unfolding value
returns-in_err-stack-clause-serves g c =
    let count = c.from-n.ensures in
    numbers_then _
    (serves_exit _ _ (rw count at c.in_err-stack.ensures.serves) c.from_residual.ensures.1)

pub returns-in_err-ip-clause-serves : goal.returns-in_err-ip-clause-serves
unfolding value
returns-in_err-ip-clause-serves g c =
    let count = c.from-n.ensures in
    numbers_then _
    (serves_then _ (rw count at c.in_ok-stack.ensures.serves)
    (finding_exit _ _ (rw count at (c.in_err-ip.ensures.serves c.args.cpu.now)) c.from_residual-in_err-ip.ensures.1))

pub returns-in_default-clause-serves : goal.returns-in_default-clause-serves
unfolding value
returns-in_default-clause-serves g c =
    let count = c.from-n.ensures in
    numbers_then _
    (serves_then _ (rw count at c.in_ok-stack.ensures.serves)
    (none_found _ c.in_default.is (rw count at (c.in_ok-ip.ensures.serves c.args.cpu.now))))

pub returns-in_err-pass_arguments-clause-serves : goal.returns-in_err-pass_arguments-clause-serves
unfolding value
returns-in_err-pass_arguments-clause-serves g c =
    let count = c.from-n.ensures in
    let block = c.in_ok-ip.ensures.looks.regs 10 refl in
    numbers_then _
    (serves_then _ (rw count at c.in_ok-stack.ensures.serves)
    (found_then _ c.in-Some.is (rw count at (c.in_ok-ip.ensures.serves c.args.cpu.now))
    (serves_exit _ _ (rw (block, count) at c.in_err-pass_arguments.ensures.serves) c.from_residual-in_err-pass_arguments.ensures.1)))

pub returns-in_err-pop-clause-serves : goal.returns-in_err-pop-clause-serves
unfolding value
returns-in_err-pop-clause-serves g c =
    let count = c.from-n.ensures in
    let block = c.in_ok-ip.ensures.looks.regs 10 refl in
    numbers_then _
    (serves_then _ (rw count at c.in_ok-stack.ensures.serves)
    (found_then _ c.in-Some.is (rw count at (c.in_ok-ip.ensures.serves c.args.cpu.now))
    (serves_then _ (rw (block, count) at c.in_ok-pass_arguments.ensures.serves)
    (serves_exit _ _ (rw count at (c.in_err-pop.ensures.serves _ c.in_ok-pass_arguments.ensures.fit.ready)) c.from_residual-in_err-pop.ensures.1))))

pub returns-clause-serves : goal.returns-clause-serves
unfolding value
returns-clause-serves g c =
    let count = c.from-n.ensures in
    let block = c.in_ok-ip.ensures.looks.regs 10 refl in
    let ip = small_number _ (of_some IsSmallInteger _ c.in-Some.is c.in_ok-ip.ensures.range) in
    let still = c.in_ok-pass_arguments.ensures.regs 10 (unequal 10 19 refl) ∙ block in
    numbers_then _
    (serves_then _ (rw count at c.in_ok-stack.ensures.serves)
    (found_then _ c.in-Some.is (rw count at (c.in_ok-ip.ensures.serves c.args.cpu.now))
    (serves_then _ (rw (block, count) at c.in_ok-pass_arguments.ensures.serves)
    (serves_then _ (rw count at (c.in_ok-pop.ensures.serves _ c.in_ok-pass_arguments.ensures.fit.ready))
    (entered_as _ _ _ _ _ _ still count ip c.enter_block.ensures.serves)))))
