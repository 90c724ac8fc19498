use Rattle.std.proofs.Common.{refl, ◌∙◌}
use Rattle.long_names.specs.Words.{IsSmallInteger}
use Rattle.object_memory.proofs.ShapeLaws.{small_number}
use Rattle.blue_model.specs.Storage.{object_at_index}
use Rattle.contexts.proofs.ServesLaws.{exits}
use Rattle.contexts.proofs.TrialLaws.{found_then, none_found, finding_exit}
use Rattle.prims_object.proofs.TestLaws.{of_some}
use Rattle.prims_object.proofs.NaturalLaws.{natural_then, natural_fails, natural_stops}
use Rattle.prims_object.proofs.methods.object_at.Goals as goal

pub returns-in_err-one_argument-clause-serves : goal.returns-in_err-one_argument-clause-serves
unfolding object_at_index
returns-in_err-one_argument-clause-serves g c = exits _ c.from_residual.ensures.1 (c.in_err-one_argument.ensures.leads _)

pub returns-in_err-header-clause-serves : goal.returns-in_err-header-clause-serves
unfolding object_at_index
returns-in_err-header-clause-serves g c =
    c.in_ok-one_argument.ensures.leads _ _ _ _
    (finding_exit _ _ (c.in_err-header.ensures.serves c.args.cpu.now) c.from_residual-in_err-header.ensures.1)

pub returns-in_default-clause-serves : goal.returns-in_default-clause-serves
unfolding object_at_index
returns-in_default-clause-serves g c =
    c.in_ok-one_argument.ensures.leads _ _ _ _
    (none_found _ c.in_default.is (c.in_ok-header.ensures.serves c.args.cpu.now))

pub returns-in_err-n-clause-serves : goal.returns-in_err-n-clause-serves
unfolding object_at_index
returns-in_err-n-clause-serves g c =
    let argument = c.in_ok-header.ensures.looks.regs 11 refl in
    c.in_ok-one_argument.ensures.leads _ _ _ _
    (found_then _ c.in-Some.is (c.in_ok-header.ensures.serves c.args.cpu.now)
    (natural_stops _ _ _ _ argument (c.in_err-n.ensures.leads _) c.from_residual-in_err-n.ensures.1))

pub returns-in_default-2-clause-serves : goal.returns-in_default-2-clause-serves
unfolding object_at_index
returns-in_default-2-clause-serves g c =
    let argument = c.in_ok-header.ensures.looks.regs 11 refl in
    c.in_ok-one_argument.ensures.leads _ _ _ _
    (found_then _ c.in-Some.is (c.in_ok-header.ensures.serves c.args.cpu.now)
    (natural_fails _ _ _ _ argument c.in_default-2.is (c.in_ok-n.ensures.leads _)))

pub returns-clause-serves : goal.returns-clause-serves
unfolding object_at_index
returns-clause-serves g c =
    let argument = c.in_ok-header.ensures.looks.regs 11 refl in
    let still = c.in_ok-n.ensures.looks.regs 10 refl ∙ c.in_ok-header.ensures.looks.regs 10 refl in
    let z = small_number _ (of_some IsSmallInteger _ c.in-Some.is c.in_ok-header.ensures.range) in
    c.in_ok-one_argument.ensures.leads _ _ _ _
    (found_then _ c.in-Some.is (c.in_ok-header.ensures.serves c.args.cpu.now)
    (natural_then _ _ _ _ _ argument c.in-Some-2.is (c.in_ok-n.ensures.leads _) (rw (still, z) at c.method_object.ensures.serves)))
