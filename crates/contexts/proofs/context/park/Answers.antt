use Rattle.std.proofs.Common.{refl, ◌∙◌, ap}
use Rattle.blue_model.specs.Contexts.{park}
use Rattle.contexts.proofs.ServesLaws.{serves_then, serves_exit, exits}
use Rattle.contexts.proofs.Steps.{register_then}
use Rattle.contexts.proofs.context.park.Goals as goal

pub returns-in_err-store_registers-clause-serves : goal.returns-in_err-store_registers-clause-serves
unfolding park
returns-in_err-store_registers-clause-serves g c = serves_exit _ _ c.in_err-store_registers.ensures.serves c.from_residual.ensures.1

pub returns-in_err-scheduler-clause-serves : goal.returns-in_err-scheduler-clause-serves
unfolding park
returns-in_err-scheduler-clause-serves g c =
    serves_then _ c.in_ok-store_registers.ensures.serves (register_then _ _ refl (serves_exit _ _ (c.in_err-scheduler.ensures.serves _) c.from_residual-in_err-scheduler.ensures.1))

pub returns-in_err-field-clause-serves : goal.returns-in_err-field-clause-serves
unfolding park
returns-in_err-field-clause-serves g c =
    serves_then _ c.in_ok-store_registers.ensures.serves (register_then _ _ refl (serves_then _ (c.in_ok-scheduler.ensures.serves _)
    (serves_exit _ _ (c.in_err-field.ensures.serves _) c.from_residual-in_err-field.ensures.1)))

pub returns-in_err-store_field-clause-serves : goal.returns-in_err-store_field-clause-serves
unfolding park
returns-in_err-store_field-clause-serves g c =
    let active = c.in_ok-field.ensures.looks.regs 0 refl ∙ c.in_ok-scheduler.ensures.looks.regs 0 refl in
    serves_then _ c.in_ok-store_registers.ensures.serves (register_then _ _ refl (serves_then _ (c.in_ok-scheduler.ensures.serves _) (serves_then _ (c.in_ok-field.ensures.serves _)
    (serves_exit _ _ (rw active at c.in_err-store_field.ensures.serves _) c.from_residual-in_err-store_field.ensures.1))))

pub returns-in_err-park_new-clause-serves : goal.returns-in_err-park_new-clause-serves
unfolding park
returns-in_err-park_new-clause-serves g c =
    let active = c.in_ok-field.ensures.looks.regs 0 refl ∙ c.in_ok-scheduler.ensures.looks.regs 0 refl in
    let scheduler = ap (λ f. f 11) c.in_ok-store_field.ensures.regs ∙ c.in_ok-field.ensures.looks.regs 11 refl in
    serves_then _ c.in_ok-store_registers.ensures.serves (register_then _ _ refl (serves_then _ (c.in_ok-scheduler.ensures.serves _) (serves_then _ (c.in_ok-field.ensures.serves _)
    (serves_then _ (rw active at c.in_ok-store_field.ensures.serves _) (exits _ c.from_residual-in_err-park_new.ensures.1 (rw scheduler at c.in_err-park_new.ensures.serves))))))

pub returns-clause-serves : goal.returns-clause-serves
unfolding park
returns-clause-serves g c =
    let active = c.in_ok-field.ensures.looks.regs 0 refl ∙ c.in_ok-scheduler.ensures.looks.regs 0 refl in
    let scheduler = ap (λ f. f 11) c.in_ok-store_field.ensures.regs ∙ c.in_ok-field.ensures.looks.regs 11 refl in
    serves_then _ c.in_ok-store_registers.ensures.serves (register_then _ _ refl (serves_then _ (c.in_ok-scheduler.ensures.serves _) (serves_then _ (c.in_ok-field.ensures.serves _)
    (serves_then _ (rw active at c.in_ok-store_field.ensures.serves _) (rw scheduler at c.in_ok-park_new.ensures.serves)))))
