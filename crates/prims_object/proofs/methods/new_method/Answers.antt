use Rattle.std.proofs.Common.{refl, sym}
use Rattle.object_memory.proofs.ShapeLaws.{small_number}
use Rattle.blue_model.specs.Storage.{new_method}
use Rattle.contexts.proofs.ServesLaws.{serves_then, serves_exit, exits}
use Rattle.contexts.proofs.TrialLaws.{some_then, none_fails}
use Rattle.prims_object.proofs.TestLaws.{differs}
use Rattle.prims_object.proofs.ValueLaws.{unnamed, its_name, coded}
use Rattle.prims_object.proofs.methods.new_method.Goals as goal

pub returns-in_err-two_arguments-clause-serves : goal.returns-in_err-two_arguments-clause-serves
unfolding new_method
returns-in_err-two_arguments-clause-serves g c = exits _ c.from_residual.ensures.1 (c.in_err-two_arguments.ensures.leads _)

pub returns-in_default-clause-serves : goal.returns-in_default-clause-serves
unfolding new_method
returns-in_default-clause-serves g c =
    c.in_ok-two_arguments.ensures.leads _ _ _ _
    (none_fails _ _ c.in_ok-two_arguments.ensures.fit.ready (λ told. coded _ _ _ _ _ refl c.as_int.ensures.number c.code_size.ensures.size c.in_default.is))

pub returns-in_default-as_int-clause-serves : goal.returns-in_default-as_int-clause-serves
unfolding new_method
returns-in_default-as_int-clause-serves g c =
    c.in_ok-two_arguments.ensures.leads _ _ _ _
    (some_then _ _ _ (λ told. coded _ _ _ _ _ refl c.as_int.ensures.number c.code_size.ensures.size c.in-Some.is)
    (none_fails _ _ c.in_ok-two_arguments.ensures.fit.ready (λ told. sym c.in_default-as_int.ensures.number)))

pub returns-then-not-is_name-clause-serves : goal.returns-then-not-is_name-clause-serves
unfolding new_method
returns-then-not-is_name-clause-serves g c =
    c.in_ok-two_arguments.ensures.leads _ _ _ _
    (some_then _ _ _ (λ told. coded _ _ _ _ _ refl c.as_int.ensures.number c.code_size.ensures.size c.in-Some.is)
    (some_then _ _ _ (λ told. sym c.in-Some-as_int.ensures.number)
    (none_fails _ _ c.in_ok-two_arguments.ensures.fit.ready (λ told. unnamed _ _ refl (differs _ _ c.is_name.ensures c.if-not-is_name.true)))))

pub returns-in_err-make_method-clause-serves : goal.returns-in_err-make_method-clause-serves
unfolding new_method
returns-in_err-make_method-clause-serves g c =
    let z = small_number _ c.in-Some-as_int.ensures.range in
    c.in_ok-two_arguments.ensures.leads _ _ _ _
    (some_then _ _ _ (λ told. coded _ _ _ _ _ refl c.as_int.ensures.number c.code_size.ensures.size c.in-Some.is)
    (some_then _ _ _ (λ told. sym c.in-Some-as_int.ensures.number)
    (some_then _ _ _ (λ told. its_name _ _ refl (c.is_name.ensures.0 c.if-not-is_name.false))
    (serves_exit _ _ (rw z at (c.in_err-make_method.ensures.serves c.args.cpu.now)) c.from_residual-in_err-make_method.ensures.1))))

pub returns-clause-serves : goal.returns-clause-serves
unfolding new_method
returns-clause-serves g c =
    let z = small_number _ c.in-Some-as_int.ensures.range in
    c.in_ok-two_arguments.ensures.leads _ _ _ _
    (some_then _ _ _ (λ told. coded _ _ _ _ _ refl c.as_int.ensures.number c.code_size.ensures.size c.in-Some.is)
    (some_then _ _ _ (λ told. sym c.in-Some-as_int.ensures.number)
    (some_then _ _ _ (λ told. its_name _ _ refl (c.is_name.ensures.0 c.if-not-is_name.false))
    (serves_then _ (rw z at (c.in_ok-make_method.ensures.serves c.args.cpu.now)) c.answer.ensures.serves))))
