use Rattle.std.proofs.Common.{Some, sym, ◌∙◌, ap}
use Rattle.long_names.specs.Objects.{int_of}
use Rattle.object_memory.proofs.ShapeLaws.{small_number}
use Rattle.blue_model.specs.declared.cause.Cause.TheVariants.{Shape}
use Rattle.blue_model.specs.Machine.{given}
use Rattle.blue_model.specs.Parts.{number}
use Rattle.contexts.proofs.ServesLaws.{serves_then, serves_stop, exits}
use Rattle.contexts.proofs.Steps.{given_serves, given_ends}
use Rattle.contexts.proofs.ReadLaws.{part_serves}
use Rattle.contexts.proofs.PartLaws.{number_by, number_tested}
use Rattle.contexts.proofs.parts.number_within.Goals as goal

pub returns-in-Some-clause-serves : goal.returns-in-Some-clause-serves
returns-in-Some-clause-serves g c = λ cpu. rw (small_number c.in-Some.number c.in-Some.ensures.range) (part_serves Shape (number c.args.least c.args.i) c.args.of c.in-Some.number c.requires.fit.ready (λ told. number_tested c.args.least c.args.i c.requires.within told ∙ c.in-Some.ensures.number.there told))

pub returns-in_err-field_within-clause-serves : goal.returns-in_err-field_within-clause-serves
returns-in_err-field_within-clause-serves g c = λ cpu. exits _ c.from_residual.ensures.1 (number_by c.args.least c.args.i _ (serves_stop (λ x. given Shape (int_of x)) (c.in_err-field_within.ensures.serves cpu)))

pub returns-in_default-as_int-clause-serves : goal.returns-in_default-as_int-clause-serves
returns-in_default-as_int-clause-serves g c = λ cpu.
    let w = g.M.ObjectMemory.told c.field_within.new.m in
    number_by c.args.least c.args.i _ (serves_then (λ x. given Shape (int_of x)) (c.in_ok-field_within.ensures.serves cpu) (given_ends Shape (int_of (w.regs c.args.to)) (λ told. sym c.as_int.ensures.number ∙ c.in_default-as_int.is)))

pub returns-clause-serves : goal.returns-clause-serves
returns-clause-serves g c = λ cpu.
    let w = g.M.ObjectMemory.told c.field_within.new.m in
    number_by c.args.least c.args.i _ (serves_then (λ x. given Shape (int_of x)) (c.in_ok-field_within.ensures.serves cpu)
    (given_serves Shape (int_of (w.regs c.args.to)) _ c.in_ok-field_within.ensures.fit.ready (λ told. sym c.as_int.ensures.number ∙ c.in-Some-as_int.is ∙ ap (λ z. Some z) (sym (small_number c.in-Some-as_int.number c.in-Some-as_int.ensures.range)))))
