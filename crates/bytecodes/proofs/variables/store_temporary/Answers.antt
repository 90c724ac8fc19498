use Rattle.std.proofs.Common.{refl, sym}
use Rattle.object_memory.proofs.LooksLaws.{regs_looked}
use Rattle.blue_model.specs.Bytecodes.{store_temporary}
use Rattle.contexts.proofs.ServesLaws.{serves_then, serves_exit, exits}
use Rattle.contexts.proofs.Steps.{register_then, given_then, given_stuck}
use Rattle.bytecodes.proofs.variables.store_temporary.Goals as goal

pub returns-in_err-len-clause-serves : goal.returns-in_err-len-clause-serves
unfolding store_temporary
returns-in_err-len-clause-serves g c = λ cpu. register_then _ _ refl (serves_exit _ _ (c.in_err-len.ensures.serves cpu) c.from_residual.ensures.1)

pub returns-in_default-clause-serves : goal.returns-in_default-clause-serves
unfolding store_temporary
returns-in_default-clause-serves g c = λ cpu. register_then _ _ refl (serves_then _ (c.in_ok-len.ensures.serves cpu) (given_stuck _ _ (λ told. sym c.in_default.ensures.place)))

pub returns-in_err-store_field-clause-serves : goal.returns-in_err-store_field-clause-serves
unfolding store_temporary
returns-in_err-store_field-clause-serves g c = λ cpu.
    let same = regs_looked _ _ c.in_ok-len.ensures.looks in
    register_then _ _ refl (serves_then _ (c.in_ok-len.ensures.serves cpu) (given_then _ _ _ _ (λ told. sym c.in-Some.ensures.place)
    (exits _ c.from_residual-in_err-store_field.ensures.1 (rw same at c.in_err-store_field.ensures.serves cpu))))

pub returns-clause-serves : goal.returns-clause-serves
unfolding store_temporary
returns-clause-serves g c = λ cpu.
    let same = regs_looked _ _ c.in_ok-len.ensures.looks in
    register_then _ _ refl (serves_then _ (c.in_ok-len.ensures.serves cpu) (given_then _ _ _ _ (λ told. sym c.in-Some.ensures.place) (rw same at c.in_ok-store_field.ensures.serves cpu)))
