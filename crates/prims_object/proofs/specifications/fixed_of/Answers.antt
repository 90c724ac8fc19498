use Rattle.std.proofs.Common.{Some, sym, ap, ◌∙◌}
use Rattle.long_names.specs.Words.{IsSmallInteger}
use Rattle.object_memory.proofs.ShapeLaws.{small_number}
use Rattle.blue_model.specs.Elements.{fixed_fields, fixed_of}
use Rattle.contexts.proofs.ServesLaws.{serves_then, serves_exit}
use Rattle.contexts.proofs.ReadLaws.{looks_again}
use Rattle.contexts.proofs.Steps.{pick_true, pick_false, done_serves}
use Rattle.prims_object.proofs.TestLaws.{differs, of_some, done_as, is_number, is_name}
use Rattle.prims_object.proofs.specifications.fixed_of.Goals as goal

pub returns-then-not-is_name-clause-serves : goal.returns-then-not-is_name-clause-serves
unfolding fixed_of
returns-then-not-is_name-clause-serves g c = λ cpu. pick_true _ _ _ (is_number _ (differs _ _ c.is_name.ensures c.if-not-is_name.true)) (done_serves c.requires.fit.ready)

pub returns-in_err-class_of-clause-serves : goal.returns-in_err-class_of-clause-serves
unfolding fixed_of
returns-in_err-class_of-clause-serves g c = λ cpu. pick_false _ _ _ (is_name _ (c.is_name.ensures.0 c.if-not-is_name.false)) (serves_exit _ _ (c.in_err-class_of.ensures.serves cpu) c.from_residual.ensures.1)

pub returns-in_err-specification-clause-serves : goal.returns-in_err-specification-clause-serves
unfolding fixed_of
returns-in_err-specification-clause-serves g c = λ cpu.
    pick_false _ _ _ (is_name _ (c.is_name.ensures.0 c.if-not-is_name.false)) (serves_then _ (c.in_ok-class_of.ensures.serves cpu)
    (serves_exit _ _ (c.in_err-specification.ensures.serves cpu) c.from_residual-in_err-specification.ensures.1))

pub returns-in_default-clause-serves : goal.returns-in_default-clause-serves
unfolding fixed_of
returns-in_default-clause-serves g c = λ cpu.
    pick_false _ _ _ (is_name _ (c.is_name.ensures.0 c.if-not-is_name.false)) (serves_then _ (c.in_ok-class_of.ensures.serves cpu)
    (serves_then _ (rw c.in_default.is at (c.in_ok-specification.ensures.serves cpu)) (done_serves c.in_ok-specification.ensures.fit.ready)))

pub returns-in_default-clause-looks : goal.returns-in_default-clause-looks
returns-in_default-clause-looks g c = looks_again 19 _ _ _ c.in_ok-class_of.ensures.fit.ready c.in_ok-class_of.ensures.looks c.in_ok-specification.ensures.looks

pub returns-clause-serves : goal.returns-clause-serves
unfolding fixed_of
returns-clause-serves g c = λ cpu.
    let z = small_number _ (of_some IsSmallInteger _ c.in-Some.is c.in_ok-specification.ensures.range) in
    let fixed = c.fixed_fields.ensures.fixed ∙ ap (λ z. fixed_fields z) z in
    pick_false _ _ _ (is_name _ (c.is_name.ensures.0 c.if-not-is_name.false)) (serves_then _ (c.in_ok-class_of.ensures.serves cpu)
    (serves_then _ (rw c.in-Some.is at (c.in_ok-specification.ensures.serves cpu)) (done_as _ _ (ap (λ n. Some n) (sym fixed)) c.in_ok-specification.ensures.fit.ready)))

pub returns-clause-looks : goal.returns-clause-looks
returns-clause-looks g c = looks_again 19 _ _ _ c.in_ok-class_of.ensures.fit.ready c.in_ok-class_of.ensures.looks c.in_ok-specification.ensures.looks
