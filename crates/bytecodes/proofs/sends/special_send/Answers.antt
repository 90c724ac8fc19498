use Rattle.std.proofs.Common.{refl, sym, ◌∙◌}
use Rattle.object_memory.proofs.ShapeLaws.{small_number}
use Rattle.blue_model.specs.Sends.{special_send}
use Rattle.contexts.proofs.ServesLaws.{serves_then, serves_exit}
use Rattle.contexts.proofs.Steps.{given_then, given_stuck}
use Rattle.bytecodes.proofs.sends.special_send.Goals as goal

pub returns-in_err-known-clause-serves : goal.returns-in_err-known-clause-serves
unfolding special_send
returns-in_err-known-clause-serves g c = serves_exit _ _ (c.in_err-known.ensures.serves _) c.from_residual.ensures.1

pub returns-in_err-field-clause-serves : goal.returns-in_err-field-clause-serves
unfolding special_send
returns-in_err-field-clause-serves g c =
    serves_then _ (c.in_ok-known.ensures.serves _)
    (serves_exit _ _ (c.in_err-field.ensures.serves _) c.from_residual-in_err-field.ensures.1)

pub returns-in_err-count-clause-serves : goal.returns-in_err-count-clause-serves
unfolding special_send
returns-in_err-count-clause-serves g c =
    let specials = c.in_ok-field.ensures.looks.regs 12 refl in
    serves_then _ (c.in_ok-known.ensures.serves _)
    (serves_then _ (c.in_ok-field.ensures.serves _)
    (serves_exit _ _ (rw specials at c.in_err-count.ensures.serves _) c.from_residual-in_err-count.ensures.1))

pub returns-in_default-clause-serves : goal.returns-in_default-clause-serves
unfolding special_send
returns-in_default-clause-serves g c =
    let specials = c.in_ok-field.ensures.looks.regs 12 refl in
    let z = small_number _ c.in_ok-count.ensures.range in
    let specials = c.in_ok-field.ensures.looks.regs 12 refl in
    serves_then _ (c.in_ok-known.ensures.serves _)
    (serves_then _ (c.in_ok-field.ensures.serves _)
    (serves_then _ (rw specials at c.in_ok-count.ensures.serves _)
    (given_stuck _ _ (λ told. sym (rw z at c.argument_count.ensures) ∙ c.in_default.is))))

pub returns-clause-serves : goal.returns-clause-serves
unfolding special_send
returns-clause-serves g c =
    let z = small_number _ c.in_ok-count.ensures.range in
    let specials = c.in_ok-field.ensures.looks.regs 12 refl in
    let selector = c.in_ok-count.ensures.looks.regs 10 refl in
    serves_then _ (c.in_ok-known.ensures.serves _)
    (serves_then _ (c.in_ok-field.ensures.serves _)
    (serves_then _ (rw specials at c.in_ok-count.ensures.serves _)
    (given_then _ _ _ _ (λ told. sym (rw z at c.argument_count.ensures) ∙ c.in-Some.is) (rw selector at c.send.ensures.serves))))
