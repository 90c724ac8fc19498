use Rattle.std.proofs.Common.{refl, ◌∙◌, ap}
use Rattle.object_memory.proofs.ShapeLaws.{small_number}
use Rattle.blue_model.specs.Control.{enter_block}
use Rattle.contexts.proofs.ServesLaws.{serves_then, serves_exit}
use Rattle.contexts.proofs.Steps.{register_then, done_serves}
use Rattle.prims_control.proofs.StepLaws.{stored_as, count_kept}
use Rattle.send_lookup.proofs.MessageLaws.{unequal}
use Rattle.prims_control.proofs.values.enter_block.Goals as goal

pub returns-in_err-store_number-clause-serves : goal.returns-in_err-store_number-clause-serves
unfolding enter_block
returns-in_err-store_number-clause-serves g c =
    let ip = small_number _ c.requires.range in
    serves_exit _ _ (stored_as _ _ 1 _ _ refl ip (c.in_err-store_number.ensures.serves _)) c.from_residual.ensures.1

pub returns-in_err-store_number-2-clause-serves : goal.returns-in_err-store_number-2-clause-serves
unfolding enter_block
returns-in_err-store_number-2-clause-serves g c =
    let ip = small_number _ c.requires.range in
    let block = c.in_ok-store_number.ensures.regs 10 (unequal 10 19 refl) in
    serves_then _ (stored_as _ _ 1 _ _ refl ip (c.in_ok-store_number.ensures.serves _))
    (serves_exit _ _ (stored_as _ _ 2 _ _ block (count_kept _ c.requires.few) (c.in_err-store_number-2.ensures.serves _)) c.from_residual-in_err-store_number-2.ensures.1)

pub returns-in_err-store_field-clause-serves : goal.returns-in_err-store_field-clause-serves
unfolding enter_block
returns-in_err-store_field-clause-serves g c =
    let ip = small_number _ c.requires.range in
    let block = c.in_ok-store_number.ensures.regs 10 (unequal 10 19 refl) in
    let still = c.in_ok-store_number-2.ensures.regs 10 (unequal 10 19 refl) ∙ block in
    serves_then _ (stored_as _ _ 1 _ _ refl ip (c.in_ok-store_number.ensures.serves _))
    (serves_then _ (stored_as _ _ 2 _ _ block (count_kept _ c.requires.few) (c.in_ok-store_number-2.ensures.serves _))
    (register_then 0 _ refl
    (serves_exit _ _ (rw still at c.in_err-store_field.ensures.serves _) c.from_residual-in_err-store_field.ensures.1)))

pub returns-in_err-enter-clause-serves : goal.returns-in_err-enter-clause-serves
unfolding enter_block
returns-in_err-enter-clause-serves g c =
    let ip = small_number _ c.requires.range in
    let block = c.in_ok-store_number.ensures.regs 10 (unequal 10 19 refl) in
    let still = c.in_ok-store_number-2.ensures.regs 10 (unequal 10 19 refl) ∙ block in
    let last = ap (λ f. f 10) c.in_ok-store_field.ensures.regs ∙ still in
    serves_then _ (stored_as _ _ 1 _ _ refl ip (c.in_ok-store_number.ensures.serves _))
    (serves_then _ (stored_as _ _ 2 _ _ block (count_kept _ c.requires.few) (c.in_ok-store_number-2.ensures.serves _))
    (register_then 0 _ refl
    (serves_then _ (rw still at c.in_ok-store_field.ensures.serves _)
    (serves_exit _ _ (rw last at c.in_err-enter.ensures.serves) c.from_residual-in_err-enter.ensures.1))))

pub returns-clause-serves : goal.returns-clause-serves
unfolding enter_block
returns-clause-serves g c =
    let ip = small_number _ c.requires.range in
    let block = c.in_ok-store_number.ensures.regs 10 (unequal 10 19 refl) in
    let still = c.in_ok-store_number-2.ensures.regs 10 (unequal 10 19 refl) ∙ block in
    let last = ap (λ f. f 10) c.in_ok-store_field.ensures.regs ∙ still in
    serves_then _ (stored_as _ _ 1 _ _ refl ip (c.in_ok-store_number.ensures.serves _))
    (serves_then _ (stored_as _ _ 2 _ _ block (count_kept _ c.requires.few) (c.in_ok-store_number-2.ensures.serves _))
    (register_then 0 _ refl
    (serves_then _ (rw still at c.in_ok-store_field.ensures.serves _)
    (serves_then _ (rw last at c.in_ok-enter.ensures.serves) (done_serves c.in_ok-enter.ensures.fit.ready)))))
