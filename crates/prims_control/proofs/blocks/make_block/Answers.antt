use Rattle.std.proofs.Common.{refl, sym, ◌∙◌, ap}
use Rattle.object_memory.proofs.ShapeLaws.{small_number}
use Rattle.blue_model.specs.Control.{make_block}
use Rattle.contexts.proofs.ServesLaws.{serves_then, serves_stop}
use Rattle.contexts.proofs.Steps.{numbers_then, given_then, given_stuck, done_same}
use Rattle.contexts.proofs.ReadLaws.{exits_with}
use Rattle.prims_control.proofs.StepLaws.{stored_as, count_kept}
use Rattle.send_lookup.proofs.MessageLaws.{unequal}
use Rattle.prims_control.proofs.blocks.make_block.Goals as goal

pub returns-in_err-known-clause-serves : goal.returns-in_err-known-clause-serves
unfolding make_block
returns-in_err-known-clause-serves g c = exits_with _ _ c.from_residual.ensures.1 (serves_stop _ (c.in_err-known.ensures.serves _))

pub returns-in_err-make_pointers-clause-serves : goal.returns-in_err-make_pointers-clause-serves
unfolding make_block
returns-in_err-make_pointers-clause-serves g c = exits_with _ _ c.from_residual-in_err-make_pointers.ensures.1
    (serves_then _ (c.in_ok-known.ensures.serves _)
    (serves_stop _ (c.in_err-make_pointers.ensures.serves _)))

pub returns-in_default-clause-serves : goal.returns-in_default-clause-serves
unfolding make_block
returns-in_default-clause-serves g c = serves_then _ (c.in_ok-known.ensures.serves _)
    (serves_then _ (c.in_ok-make_pointers.ensures.serves _)
    (numbers_then _ (given_stuck _ _ (λ told. sym c.in_default.ensures.value))))

pub returns-in_err-store_number-clause-serves : goal.returns-in_err-store_number-clause-serves
unfolding make_block
returns-in_err-store_number-clause-serves g c =
    let ip = small_number _ c.in-Some.ensures.range in
    exits_with _ _ c.from_residual-in_err-store_number.ensures.1
    (serves_then _ (c.in_ok-known.ensures.serves _)
    (serves_then _ (c.in_ok-make_pointers.ensures.serves _)
    (numbers_then _ (given_then _ _ _ _ (λ told. sym c.in-Some.ensures.value)
    (serves_stop _ (stored_as _ _ 1 _ _ refl ip (c.in_err-store_number.ensures.serves _)))))))

pub returns-in_err-store_number-2-clause-serves : goal.returns-in_err-store_number-2-clause-serves
unfolding make_block
returns-in_err-store_number-2-clause-serves g c =
    let ip = small_number _ c.in-Some.ensures.range in
    let off = unequal 13 19 refl in
    let b2 = c.in_ok-store_number.ensures.regs 13 off in
    exits_with _ _ c.from_residual-in_err-store_number-2.ensures.1
    (serves_then _ (c.in_ok-known.ensures.serves _)
    (serves_then _ (c.in_ok-make_pointers.ensures.serves _)
    (numbers_then _ (given_then _ _ _ _ (λ told. sym c.in-Some.ensures.value)
    (serves_then _ (stored_as _ _ 1 _ _ refl ip (c.in_ok-store_number.ensures.serves _))
    (serves_stop _ (stored_as _ _ 2 _ _ b2 refl (c.in_err-store_number-2.ensures.serves _))))))))

pub returns-in_err-store_number-3-clause-serves : goal.returns-in_err-store_number-3-clause-serves
unfolding make_block
returns-in_err-store_number-3-clause-serves g c =
    let ip = small_number _ c.in-Some.ensures.range in
    let off = unequal 13 19 refl in
    let b2 = c.in_ok-store_number.ensures.regs 13 off in
    let b3 = c.in_ok-store_number-2.ensures.regs 13 off ∙ b2 in
    let few = count_kept _ c.requires.few in
    exits_with _ _ c.from_residual-in_err-store_number-3.ensures.1
    (serves_then _ (c.in_ok-known.ensures.serves _)
    (serves_then _ (c.in_ok-make_pointers.ensures.serves _)
    (numbers_then _ (given_then _ _ _ _ (λ told. sym c.in-Some.ensures.value)
    (serves_then _ (stored_as _ _ 1 _ _ refl ip (c.in_ok-store_number.ensures.serves _))
    (serves_then _ (stored_as _ _ 2 _ _ b2 refl (c.in_ok-store_number-2.ensures.serves _))
    (serves_stop _ (stored_as _ _ 3 _ _ b3 few (c.in_err-store_number-3.ensures.serves _)))))))))

pub returns-in_err-store_number-4-clause-serves : goal.returns-in_err-store_number-4-clause-serves
unfolding make_block
returns-in_err-store_number-4-clause-serves g c =
    let ip = small_number _ c.in-Some.ensures.range in
    let off = unequal 13 19 refl in
    let b2 = c.in_ok-store_number.ensures.regs 13 off in
    let b3 = c.in_ok-store_number-2.ensures.regs 13 off ∙ b2 in
    let b4 = c.in_ok-store_number-3.ensures.regs 13 off ∙ b3 in
    let few = count_kept _ c.requires.few in
    exits_with _ _ c.from_residual-in_err-store_number-4.ensures.1
    (serves_then _ (c.in_ok-known.ensures.serves _)
    (serves_then _ (c.in_ok-make_pointers.ensures.serves _)
    (numbers_then _ (given_then _ _ _ _ (λ told. sym c.in-Some.ensures.value)
    (serves_then _ (stored_as _ _ 1 _ _ refl ip (c.in_ok-store_number.ensures.serves _))
    (serves_then _ (stored_as _ _ 2 _ _ b2 refl (c.in_ok-store_number-2.ensures.serves _))
    (serves_then _ (stored_as _ _ 3 _ _ b3 few (c.in_ok-store_number-3.ensures.serves _))
    (serves_stop _ (stored_as _ _ 4 _ _ b4 ip (c.in_err-store_number-4.ensures.serves _))))))))))

pub returns-in_err-store_field-clause-serves : goal.returns-in_err-store_field-clause-serves
unfolding make_block
returns-in_err-store_field-clause-serves g c =
    let ip = small_number _ c.in-Some.ensures.range in
    let off = unequal 13 19 refl in
    let b2 = c.in_ok-store_number.ensures.regs 13 off in
    let b3 = c.in_ok-store_number-2.ensures.regs 13 off ∙ b2 in
    let b4 = c.in_ok-store_number-3.ensures.regs 13 off ∙ b3 in
    let b5 = c.in_ok-store_number-4.ensures.regs 13 off ∙ b4 in
    let few = count_kept _ c.requires.few in
    let aside = unequal 12 19 refl in
    let home = c.in_ok-store_number-4.ensures.regs 12 aside ∙ c.in_ok-store_number-3.ensures.regs 12 aside ∙ c.in_ok-store_number-2.ensures.regs 12 aside ∙ c.in_ok-store_number.ensures.regs 12 aside ∙ c.in_ok-make_pointers.ensures.regs 12 (unequal 12 13 refl) ∙ c.in_ok-known.ensures.looks.regs 12 refl in
    exits_with _ _ c.from_residual-in_err-store_field.ensures.1
    (serves_then _ (c.in_ok-known.ensures.serves _)
    (serves_then _ (c.in_ok-make_pointers.ensures.serves _)
    (numbers_then _ (given_then _ _ _ _ (λ told. sym c.in-Some.ensures.value)
    (serves_then _ (stored_as _ _ 1 _ _ refl ip (c.in_ok-store_number.ensures.serves _))
    (serves_then _ (stored_as _ _ 2 _ _ b2 refl (c.in_ok-store_number-2.ensures.serves _))
    (serves_then _ (stored_as _ _ 3 _ _ b3 few (c.in_ok-store_number-3.ensures.serves _))
    (serves_then _ (stored_as _ _ 4 _ _ b4 ip (c.in_ok-store_number-4.ensures.serves _))
    (serves_stop _ (rw (b5, home) at c.in_err-store_field.ensures.serves _))))))))))

pub returns-clause-serves : goal.returns-clause-serves
unfolding make_block
returns-clause-serves g c =
    let ip = small_number _ c.in-Some.ensures.range in
    let off = unequal 13 19 refl in
    let b2 = c.in_ok-store_number.ensures.regs 13 off in
    let b3 = c.in_ok-store_number-2.ensures.regs 13 off ∙ b2 in
    let b4 = c.in_ok-store_number-3.ensures.regs 13 off ∙ b3 in
    let b5 = c.in_ok-store_number-4.ensures.regs 13 off ∙ b4 in
    let few = count_kept _ c.requires.few in
    let aside = unequal 12 19 refl in
    let home = c.in_ok-store_number-4.ensures.regs 12 aside ∙ c.in_ok-store_number-3.ensures.regs 12 aside ∙ c.in_ok-store_number-2.ensures.regs 12 aside ∙ c.in_ok-store_number.ensures.regs 12 aside ∙ c.in_ok-make_pointers.ensures.regs 12 (unequal 12 13 refl) ∙ c.in_ok-known.ensures.looks.regs 12 refl in
    serves_then _ (c.in_ok-known.ensures.serves _)
    (serves_then _ (c.in_ok-make_pointers.ensures.serves _)
    (numbers_then _ (given_then _ _ _ _ (λ told. sym c.in-Some.ensures.value)
    (serves_then _ (stored_as _ _ 1 _ _ refl ip (c.in_ok-store_number.ensures.serves _))
    (serves_then _ (stored_as _ _ 2 _ _ b2 refl (c.in_ok-store_number-2.ensures.serves _))
    (serves_then _ (stored_as _ _ 3 _ _ b3 few (c.in_ok-store_number-3.ensures.serves _))
    (serves_then _ (stored_as _ _ 4 _ _ b4 ip (c.in_ok-store_number-4.ensures.serves _))
    (serves_then _ (rw (b5, home) at c.in_ok-store_field.ensures.serves _) (done_same (ap (λ f. f 13) c.in_ok-store_field.ensures.regs ∙ b5) c.in_ok-store_field.ensures.fit.ready)))))))))
