use Rattle.std.proofs.Common.{refl, arith}
use Rattle.object_memory.proofs.LooksLaws.{put_value}
use Rattle.blue_model.specs.Storage.{hash}
use Rattle.contexts.proofs.ServesLaws.{serves_then, serves_exit}
use Rattle.contexts.proofs.Steps.{read_first}
use Rattle.contexts.proofs.RegisterLaws.{int_quiet}
use Rattle.contexts.proofs.TrialLaws.{some_then, none_fails}
use Rattle.prims_object.proofs.TestLaws.{differs}
use Rattle.prims_object.proofs.ValueLaws.{unnamed, its_name, index_passed}
use Rattle.prims_object.proofs.names.hash.Goals as goal

pub returns-in_err-stack-clause-serves : goal.returns-in_err-stack-clause-serves
unfolding hash
returns-in_err-stack-clause-serves g c = serves_exit _ _ c.in_err-stack.ensures.serves c.from_residual.ensures.1

pub returns-then-not-is_name-clause-serves : goal.returns-then-not-is_name-clause-serves
unfolding hash
returns-then-not-is_name-clause-serves g c =
    serves_then _ c.in_ok-stack.ensures.serves
    (none_fails _ _ c.in_ok-stack.ensures.fit.ready (λ told. unnamed _ _ refl (differs _ _ c.is_name.ensures c.if-not-is_name.true)))

pub returns-clause-serves : goal.returns-clause-serves
unfolding hash
returns-clause-serves g c =
    let ready = c.in_ok-stack.ensures.fit.ready in
    let value = put_value _ _ 12 _ c.int.ensures.told in
    serves_then _ c.in_ok-stack.ensures.serves
    (some_then _ _ _ (λ told. its_name _ _ refl (c.is_name.ensures.0 c.if-not-is_name.false))
    (read_first ready (int_quiet _ _ 12 _ (omega arith) ready (c.int.ensures.fit.ready ready) c.int.ensures.told) (rw (value, index_passed _ _ c.hash-index.ensures) at c.answer.ensures.serves)))
