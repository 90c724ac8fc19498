use Rattle.contexts.proofs.Steps.{done_same}
use Rattle.std.proofs.Common.{refl, ap, ◌∙◌}
use Rattle.blue_model.specs.Messages.{make_message}
use Rattle.contexts.proofs.ServesLaws.{serves_then, serves_stop}
use Rattle.contexts.proofs.ReadLaws.{exits_with}
use Rattle.send_lookup.proofs.MessageLaws.{unequal}
use Rattle.send_lookup.proofs.message.make_message.Goals as goal

pub returns-in_err-known-clause-serves : goal.returns-in_err-known-clause-serves
unfolding make_message
returns-in_err-known-clause-serves g c = λ cpu. exits_with _ _ c.from_residual.ensures.1 (serves_stop _ (c.in_err-known.ensures.serves cpu))

pub returns-in_err-make_pointers-clause-serves : goal.returns-in_err-make_pointers-clause-serves
unfolding make_message
returns-in_err-make_pointers-clause-serves g c = λ cpu.
    exits_with _ _ c.from_residual-in_err-make_pointers.ensures.1
    (serves_then _ (c.in_ok-known.ensures.serves cpu) (serves_stop _ (c.in_err-make_pointers.ensures.serves cpu)))

pub returns-in_err-store_field-clause-serves : goal.returns-in_err-store_field-clause-serves
unfolding make_message
returns-in_err-store_field-clause-serves g c = λ cpu.
    let selector = c.in_ok-make_pointers.ensures.regs 4 (unequal 4 17 refl) ∙ c.in_ok-known.ensures.looks.regs 4 refl in
    exits_with _ _ c.from_residual-in_err-store_field.ensures.1
    (serves_then _ (c.in_ok-known.ensures.serves cpu)
    (serves_then _ (c.in_ok-make_pointers.ensures.serves cpu)
    (serves_stop _ (rw selector at c.in_err-store_field.ensures.serves cpu))))

pub returns-in_err-store_field-2-clause-serves : goal.returns-in_err-store_field-2-clause-serves
unfolding make_message
returns-in_err-store_field-2-clause-serves g c = λ cpu.
    let selector = c.in_ok-make_pointers.ensures.regs 4 (unequal 4 17 refl) ∙ c.in_ok-known.ensures.looks.regs 4 refl in
    let array = c.in_ok-make_pointers.ensures.regs 16 (unequal 16 17 refl) ∙ c.in_ok-known.ensures.looks.regs 16 refl in
    exits_with _ _ c.from_residual-in_err-store_field-2.ensures.1
    (serves_then _ (c.in_ok-known.ensures.serves cpu)
    (serves_then _ (c.in_ok-make_pointers.ensures.serves cpu)
    (serves_then _ (rw selector at c.in_ok-store_field.ensures.serves cpu)
    (serves_stop _ (rw (c.in_ok-store_field.ensures.regs, array) at c.in_err-store_field-2.ensures.serves cpu)))))

pub returns-clause-serves : goal.returns-clause-serves
unfolding make_message
returns-clause-serves g c = λ cpu.
    let selector = c.in_ok-make_pointers.ensures.regs 4 (unequal 4 17 refl) ∙ c.in_ok-known.ensures.looks.regs 4 refl in
    let array = c.in_ok-make_pointers.ensures.regs 16 (unequal 16 17 refl) ∙ c.in_ok-known.ensures.looks.regs 16 refl in
    let stored = c.in_ok-store_field-2.ensures in
    let message = ap (λ f. f 17) stored.regs ∙ ap (λ f. f 17) c.in_ok-store_field.ensures.regs in
    serves_then _ (c.in_ok-known.ensures.serves cpu)
    (serves_then _ (c.in_ok-make_pointers.ensures.serves cpu)
    (serves_then _ (rw selector at c.in_ok-store_field.ensures.serves cpu)
    (serves_then _ (rw (c.in_ok-store_field.ensures.regs, array) at stored.serves cpu)
    (done_same message stored.fit.ready))))
