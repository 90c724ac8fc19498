use Rattle.std.proofs.Common.{Ok, refl, arith}
use Rattle.blue_model.specs.declared.answer.Answer.TheVariants.{Done}
use Rattle.object_memory.proofs.ShapeLaws.{small_number}
use Rattle.bytecodes.proofs.SendLaws.{equal, unequal}
use Rattle.blue_model.specs.Sends.{execute_method}
use Rattle.contexts.proofs.ServesLaws.{speaks_quiet, serves_then, serves_exit}
use Rattle.contexts.proofs.Steps.{register_then, pick_true, pick_false, done_serves}
use Rattle.devices.proofs.KeepLaws.{keeps_never}
use Rattle.bytecodes.proofs.execution.execute_method.Goals as goal

pub returns-in_err-header-clause-serves : goal.returns-in_err-header-clause-serves
unfolding execute_method
returns-in_err-header-clause-serves g c = register_then _ _ refl (serves_exit _ _ (c.in_err-header.ensures.serves _) c.from_residual.ensures.1)

pub returns-in-5-clause-serves : goal.returns-in-5-clause-serves
unfolding execute_method
returns-in-5-clause-serves g c =
    let z = small_number _ c.in_ok-header.ensures.range in
    let flag = rw z at c.flag.ensures.flag in
    register_then _ _ refl (serves_then _ (c.in_ok-header.ensures.serves _)
    (pick_true _ _ _ (equal _ _ 5 flag c.in-5.is) (done_serves c.in_ok-header.ensures.fit.ready)))

pub returns-in_err-answer_field-in-6-clause-serves : goal.returns-in_err-answer_field-in-6-clause-serves
unfolding execute_method
returns-in_err-answer_field-in-6-clause-serves g c =
    let z = small_number _ c.in_ok-header.ensures.range in
    let flag = rw z at c.flag.ensures.flag in
    register_then _ _ refl (serves_then _ (c.in_ok-header.ensures.serves _)
    (pick_false _ _ _ (unequal _ _ 5 flag (λ e. absurd (let is = c.in-6.is in omega arith))) (pick_true _ _ _ (equal _ _ 6 flag c.in-6.is) (serves_exit _ _ (rw (rw z at c.temporaries.ensures.temporaries) at c.in_err-answer_field-in-6.ensures.serves) c.from_residual-in_err-answer_field-in-6.ensures.1))))

pub returns-in_ok-answer_field-in-6-clause-serves : goal.returns-in_ok-answer_field-in-6-clause-serves
unfolding execute_method
returns-in_ok-answer_field-in-6-clause-serves g c =
    let z = small_number _ c.in_ok-header.ensures.range in
    let flag = rw z at c.flag.ensures.flag in
    register_then _ _ refl (serves_then _ (c.in_ok-header.ensures.serves _)
    (pick_false _ _ _ (unequal _ _ 5 flag (λ e. absurd (let is = c.in-6.is in omega arith))) (pick_true _ _ _ (equal _ _ 6 flag c.in-6.is) (serves_then _ (rw (rw z at c.temporaries.ensures.temporaries) at c.in_ok-answer_field-in-6.ensures.serves) (done_serves c.in_ok-answer_field-in-6.ensures.fit.ready)))))

pub returns-in-7-clause-serves : goal.returns-in-7-clause-serves
unfolding execute_method
returns-in-7-clause-serves g c =
    let z = small_number _ c.in_ok-header.ensures.range in
    let flag = rw z at c.flag.ensures.flag in
    register_then _ _ refl (serves_then _ (c.in_ok-header.ensures.serves _)
    (pick_false _ _ _ (unequal _ _ 5 flag (λ e. absurd (let is = c.in-7.is in omega arith))) (pick_false _ _ _ (unequal _ _ 6 flag (λ e. absurd (let is = c.in-7.is in omega arith))) (pick_true _ _ _ (equal _ _ 7 flag c.in-7.is) (rw (c.in_ok-header.ensures.looks.regs 5 refl) at c.execute_extended.ensures.serves)))))

pub returns-in_default-clause-serves : goal.returns-in_default-clause-serves
unfolding execute_method
returns-in_default-clause-serves g c =
    let z = small_number _ c.in_ok-header.ensures.range in
    let flag = rw z at c.flag.ensures.flag in
    register_then _ _ refl (serves_then _ (c.in_ok-header.ensures.serves _)
    (pick_false _ _ _ (unequal _ _ 5 flag (λ e. absurd (omega arith))) (pick_false _ _ _ (unequal _ _ 6 flag (λ e. absurd (omega arith))) (pick_false _ _ _ (unequal _ _ 7 flag (λ e. absurd (omega arith))) (speaks_quiet c.activated.ensures.serves)))))

pub returns-in-5-clause-keeps : goal.returns-in-5-clause-keeps
returns-in-5-clause-keeps g c = keeps_never _ (Ok Done) refl

pub returns-in_ok-answer_field-in-6-clause-keeps : goal.returns-in_ok-answer_field-in-6-clause-keeps
returns-in_ok-answer_field-in-6-clause-keeps g c = keeps_never _ (Ok Done) refl

pub returns-in_default-clause-keeps : goal.returns-in_default-clause-keeps
returns-in_default-clause-keeps g c = keeps_never _ _ c.activated.ensures.never_keeps
