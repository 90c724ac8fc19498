use Rattle.object_memory.proofs.LooksLaws.{not_among}
use Rattle.blue_model.specs.Bytecodes.{store_literal_variable}
use Rattle.contexts.proofs.ServesLaws.{serves_then, serves_exit, exits}
use Rattle.bytecodes.proofs.variables.store_literal_variable.Goals as goal

pub returns-in_err-literal_constant-clause-serves : goal.returns-in_err-literal_constant-clause-serves
unfolding store_literal_variable
returns-in_err-literal_constant-clause-serves g c = λ cpu. serves_exit _ _ (c.in_err-literal_constant.ensures.serves cpu) c.from_residual.ensures.1

pub returns-in_err-store_field-clause-serves : goal.returns-in_err-store_field-clause-serves
unfolding store_literal_variable
returns-in_err-store_field-clause-serves g c = λ cpu.
    let value = c.in_ok-literal_constant.ensures.looks.regs c.args.from (not_among 11 c.args.from c.requires.from) in
    serves_then _ (c.in_ok-literal_constant.ensures.serves cpu) (exits _ c.from_residual-in_err-store_field.ensures.1 (rw value at c.in_err-store_field.ensures.serves cpu))

pub returns-clause-serves : goal.returns-clause-serves
unfolding store_literal_variable
returns-clause-serves g c = λ cpu.
    let value = c.in_ok-literal_constant.ensures.looks.regs c.args.from (not_among 11 c.args.from c.requires.from) in
    serves_then _ (c.in_ok-literal_constant.ensures.serves cpu) (rw value at c.in_ok-store_field.ensures.serves cpu)
