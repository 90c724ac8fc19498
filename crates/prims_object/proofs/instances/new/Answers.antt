use Rattle.std.proofs.Common.{refl}
use Rattle.long_names.specs.Words.{IsSmallInteger}
use Rattle.object_memory.proofs.ShapeLaws.{small_number}
use Rattle.blue_model.specs.Storage.{new}
use Rattle.contexts.proofs.ServesLaws.{serves_then, serves_exit}
use Rattle.contexts.proofs.TrialLaws.{true_then, false_fails, found_then, none_found, finding_exit}
use Rattle.prims_object.proofs.TestLaws.{of_some}
use Rattle.prims_object.proofs.InstanceLaws.{by_new, fields_made}
use Rattle.prims_object.proofs.instances.new.Goals as goal

pub returns-in_err-stack-clause-serves : goal.returns-in_err-stack-clause-serves
unfolding new
returns-in_err-stack-clause-serves g c = serves_exit _ _ c.in_err-stack.ensures.serves c.from_residual.ensures.1

pub returns-in_err-specification-clause-serves : goal.returns-in_err-specification-clause-serves
unfolding new
returns-in_err-specification-clause-serves g c = serves_then _ c.in_ok-stack.ensures.serves (finding_exit _ _ (c.in_err-specification.ensures.serves _) c.from_residual-in_err-specification.ensures.1)

pub returns-in_default-clause-serves : goal.returns-in_default-clause-serves
unfolding new
returns-in_default-clause-serves g c = serves_then _ c.in_ok-stack.ensures.serves (none_found _ c.in_default.is (c.in_ok-specification.ensures.serves _))

pub returns-then-not-is_made_by_new-clause-serves : goal.returns-then-not-is_made_by_new-clause-serves
unfolding new
returns-then-not-is_made_by_new-clause-serves g c =
    let z = small_number _ (of_some IsSmallInteger _ c.in-Some.is c.in_ok-specification.ensures.range) in
    let class = c.in_ok-specification.ensures.looks.regs 10 refl in
    serves_then _ c.in_ok-stack.ensures.serves (found_then _ c.in-Some.is (c.in_ok-specification.ensures.serves _)
    (false_fails _ _ c.in_ok-specification.ensures.fit.ready (λ told. by_new _ _ _ _ _ _ _ class z c.is_made_by_new.ensures c.if-not-is_made_by_new.true)))

pub returns-in_err-make_fields-clause-serves : goal.returns-in_err-make_fields-clause-serves
unfolding new
returns-in_err-make_fields-clause-serves g c =
    let z = small_number _ (of_some IsSmallInteger _ c.in-Some.is c.in_ok-specification.ensures.range) in
    let class = c.in_ok-specification.ensures.looks.regs 10 refl in
    serves_then _ c.in_ok-stack.ensures.serves (found_then _ c.in-Some.is (c.in_ok-specification.ensures.serves _)
    (true_then _ _ (λ told. by_new _ _ _ _ _ _ _ class z c.is_made_by_new.ensures c.if-not-is_made_by_new.false)
    (serves_exit _ _ (fields_made _ _ _ _ class z (c.in_err-make_fields.ensures.serves _)) c.from_residual-in_err-make_fields.ensures.1)))

pub returns-clause-serves : goal.returns-clause-serves
unfolding new
returns-clause-serves g c =
    let z = small_number _ (of_some IsSmallInteger _ c.in-Some.is c.in_ok-specification.ensures.range) in
    let class = c.in_ok-specification.ensures.looks.regs 10 refl in
    serves_then _ c.in_ok-stack.ensures.serves (found_then _ c.in-Some.is (c.in_ok-specification.ensures.serves _)
    (true_then _ _ (λ told. by_new _ _ _ _ _ _ _ class z c.is_made_by_new.ensures c.if-not-is_made_by_new.false)
    (serves_then _ (fields_made _ _ _ _ class z (c.in_ok-make_fields.ensures.serves _)) c.answer.ensures.serves)))
