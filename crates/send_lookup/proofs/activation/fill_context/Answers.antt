use Rattle.std.proofs.Common.{refl, ◌∙◌, ap}
use Rattle.object_memory.proofs.LooksLaws.{Looks-put}
use Rattle.object_memory.proofs.ShapeLaws.{small_number}
use Rattle.blue_model.specs.Messages.{temporaries_of, first_pointer, fill_context}
use Rattle.contexts.proofs.ServesLaws.{serves_then, serves_exit, exits}
use Rattle.contexts.proofs.Steps.{register_then}
use Rattle.send_lookup.proofs.ActivationLaws.{number_first, count_kept}
use Rattle.send_lookup.proofs.activation.fill_context.Goals as goal

pub returns-in_err-store_field-clause-serves : goal.returns-in_err-store_field-clause-serves
unfolding fill_context
returns-in_err-store_field-clause-serves g c = λ cpu. register_then _ _ refl (serves_exit _ _ (c.in_err-store_field.ensures.serves cpu) c.from_residual.ensures.1)

pub returns-in_err-store_field-2-clause-serves : goal.returns-in_err-store_field-2-clause-serves
unfolding fill_context
returns-in_err-store_field-2-clause-serves g c = λ cpu.
    let first = c.in_ok-store_field.ensures in
    let context = ap (λ f. f 16) first.regs in
    let pointer = small_number _ c.first_pointer.ensures.range ∙ c.first_pointer.ensures.pointer ∙ ap (λ z. first_pointer z) (small_number _ c.requires.header) in
    register_then _ _ refl (serves_then _ (first.serves cpu)
    (serves_exit _ _ (number_first 1 _ _ _ context pointer first.fit.ready (c.int.ensures.fit.ready first.fit.ready) c.int.ensures.told (c.in_err-store_field-2.ensures.serves cpu)) c.from_residual-in_err-store_field-2.ensures.1))

pub returns-in_err-store_field-3-clause-serves : goal.returns-in_err-store_field-3-clause-serves
unfolding fill_context
returns-in_err-store_field-3-clause-serves g c = λ cpu.
    let first = c.in_ok-store_field.ensures in
    let context = ap (λ f. f 16) first.regs in
    let pointer = small_number _ c.first_pointer.ensures.range ∙ c.first_pointer.ensures.pointer ∙ ap (λ z. first_pointer z) (small_number _ c.requires.header) in
    let second = c.in_ok-store_field-2.ensures in
    let temporaries = count_kept _ _ c.temporaries.ensures.few (c.temporaries.ensures.temporaries ∙ ap (λ z. temporaries_of z) (small_number _ c.requires.header)) in
    let again = ap (λ f. f 16) second.regs ∙ (Looks-put _ _ 15 _ c.int.ensures.told).regs 16 refl ∙ context in
    register_then _ _ refl (serves_then _ (first.serves cpu)
    (serves_then _ (number_first 1 _ _ _ context pointer first.fit.ready (c.int.ensures.fit.ready first.fit.ready) c.int.ensures.told (second.serves cpu))
    (serves_exit _ _ (number_first 2 _ _ _ again temporaries second.fit.ready (c.int-2.ensures.fit.ready second.fit.ready) c.int-2.ensures.told (c.in_err-store_field-3.ensures.serves cpu)) c.from_residual-in_err-store_field-3.ensures.1)))

pub returns-in_err-store_field-4-clause-serves : goal.returns-in_err-store_field-4-clause-serves
unfolding fill_context
returns-in_err-store_field-4-clause-serves g c = λ cpu.
    let first = c.in_ok-store_field.ensures in
    let context = ap (λ f. f 16) first.regs in
    let pointer = small_number _ c.first_pointer.ensures.range ∙ c.first_pointer.ensures.pointer ∙ ap (λ z. first_pointer z) (small_number _ c.requires.header) in
    let second = c.in_ok-store_field-2.ensures in
    let temporaries = count_kept _ _ c.temporaries.ensures.few (c.temporaries.ensures.temporaries ∙ ap (λ z. temporaries_of z) (small_number _ c.requires.header)) in
    let again = ap (λ f. f 16) second.regs ∙ (Looks-put _ _ 15 _ c.int.ensures.told).regs 16 refl ∙ context in
    let third = c.in_ok-store_field-3.ensures in
    let still = ap (λ f. f 16) third.regs ∙ (Looks-put _ _ 15 _ c.int-2.ensures.told).regs 16 refl ∙ again in
    let method = ap (λ f. f 5) third.regs ∙ (Looks-put _ _ 15 _ c.int-2.ensures.told).regs 5 refl ∙ ap (λ f. f 5) second.regs ∙ (Looks-put _ _ 15 _ c.int.ensures.told).regs 5 refl ∙ ap (λ f. f 5) first.regs in
    register_then _ _ refl (serves_then _ (first.serves cpu)
    (serves_then _ (number_first 1 _ _ _ context pointer first.fit.ready (c.int.ensures.fit.ready first.fit.ready) c.int.ensures.told (second.serves cpu))
    (serves_then _ (number_first 2 _ _ _ again temporaries second.fit.ready (c.int-2.ensures.fit.ready second.fit.ready) c.int-2.ensures.told (third.serves cpu))
    (exits _ c.from_residual-in_err-store_field-4.ensures.1 (rw (still, method) at c.in_err-store_field-4.ensures.serves cpu)))))

pub returns-clause-serves : goal.returns-clause-serves
unfolding fill_context
returns-clause-serves g c = λ cpu.
    let first = c.in_ok-store_field.ensures in
    let context = ap (λ f. f 16) first.regs in
    let pointer = small_number _ c.first_pointer.ensures.range ∙ c.first_pointer.ensures.pointer ∙ ap (λ z. first_pointer z) (small_number _ c.requires.header) in
    let second = c.in_ok-store_field-2.ensures in
    let temporaries = count_kept _ _ c.temporaries.ensures.few (c.temporaries.ensures.temporaries ∙ ap (λ z. temporaries_of z) (small_number _ c.requires.header)) in
    let again = ap (λ f. f 16) second.regs ∙ (Looks-put _ _ 15 _ c.int.ensures.told).regs 16 refl ∙ context in
    let third = c.in_ok-store_field-3.ensures in
    let still = ap (λ f. f 16) third.regs ∙ (Looks-put _ _ 15 _ c.int-2.ensures.told).regs 16 refl ∙ again in
    let method = ap (λ f. f 5) third.regs ∙ (Looks-put _ _ 15 _ c.int-2.ensures.told).regs 5 refl ∙ ap (λ f. f 5) second.regs ∙ (Looks-put _ _ 15 _ c.int.ensures.told).regs 5 refl ∙ ap (λ f. f 5) first.regs in
    register_then _ _ refl (serves_then _ (first.serves cpu)
    (serves_then _ (number_first 1 _ _ _ context pointer first.fit.ready (c.int.ensures.fit.ready first.fit.ready) c.int.ensures.told (second.serves cpu))
    (serves_then _ (number_first 2 _ _ _ again temporaries second.fit.ready (c.int-2.ensures.fit.ready second.fit.ready) c.int-2.ensures.told (third.serves cpu))
    (rw (still, method) at c.in_ok-store_field-4.ensures.serves cpu))))
