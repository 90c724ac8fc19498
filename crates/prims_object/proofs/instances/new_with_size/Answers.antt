use Rattle.std.proofs.Common.{refl, ◌∙◌}
use Rattle.long_names.specs.Words.{IsSmallInteger}
use Rattle.object_memory.proofs.ShapeLaws.{small_number}
use Rattle.blue_model.specs.Storage.{new_with_size}
use Rattle.contexts.proofs.ServesLaws.{serves_then, serves_exit, exits}
use Rattle.contexts.proofs.TrialLaws.{true_then, false_fails, found_then, none_found, finding_exit}
use Rattle.prims_object.proofs.TestLaws.{of_some}
use Rattle.prims_object.proofs.NaturalLaws.{natural_then, natural_fails, natural_stops}
use Rattle.prims_object.proofs.InstanceLaws.{by_new, sized_made, too_many, few_enough}
use Rattle.prims_object.proofs.instances.new_with_size.Goals as goal

pub returns-in_err-one_argument-clause-serves : goal.returns-in_err-one_argument-clause-serves
unfolding new_with_size
returns-in_err-one_argument-clause-serves g c = exits _ c.from_residual.ensures.1 (c.in_err-one_argument.ensures.leads _)

pub returns-in_err-specification-clause-serves : goal.returns-in_err-specification-clause-serves
unfolding new_with_size
returns-in_err-specification-clause-serves g c =
    c.in_ok-one_argument.ensures.leads _ _ _ _
    (finding_exit _ _ (c.in_err-specification.ensures.serves c.args.cpu.now) c.from_residual-in_err-specification.ensures.1)

pub returns-in_default-clause-serves : goal.returns-in_default-clause-serves
unfolding new_with_size
returns-in_default-clause-serves g c =
    c.in_ok-one_argument.ensures.leads _ _ _ _
    (none_found _ c.in_default.is (c.in_ok-specification.ensures.serves c.args.cpu.now))

pub returns-then-not-is_made_by_new-clause-serves : goal.returns-then-not-is_made_by_new-clause-serves
unfolding new_with_size
returns-then-not-is_made_by_new-clause-serves g c =
    let still = c.in_ok-specification.ensures.looks.regs 10 refl in
    let z = small_number _ (of_some IsSmallInteger _ c.in-Some.is c.in_ok-specification.ensures.range) in
    c.in_ok-one_argument.ensures.leads _ _ _ _
    (found_then _ c.in-Some.is (c.in_ok-specification.ensures.serves c.args.cpu.now)
    (false_fails _ _ c.in_ok-specification.ensures.fit.ready (λ told. by_new _ _ _ _ _ _ _ still z c.is_made_by_new.ensures c.if-not-is_made_by_new.true)))

pub returns-in_err-elements-clause-serves : goal.returns-in_err-elements-clause-serves
unfolding new_with_size
returns-in_err-elements-clause-serves g c =
    let still = c.in_ok-specification.ensures.looks.regs 10 refl in
    let argument = c.in_ok-specification.ensures.looks.regs 11 refl in
    let z = small_number _ (of_some IsSmallInteger _ c.in-Some.is c.in_ok-specification.ensures.range) in
    c.in_ok-one_argument.ensures.leads _ _ _ _
    (found_then _ c.in-Some.is (c.in_ok-specification.ensures.serves c.args.cpu.now)
    (true_then _ _ (λ told. by_new _ _ _ _ _ _ _ still z c.is_made_by_new.ensures c.if-not-is_made_by_new.false)
    (natural_stops _ _ _ _ argument (c.in_err-elements.ensures.leads _) c.from_residual-in_err-elements.ensures.1)))

pub returns-in_default-2-clause-serves : goal.returns-in_default-2-clause-serves
unfolding new_with_size
returns-in_default-2-clause-serves g c =
    let still = c.in_ok-specification.ensures.looks.regs 10 refl in
    let argument = c.in_ok-specification.ensures.looks.regs 11 refl in
    let z = small_number _ (of_some IsSmallInteger _ c.in-Some.is c.in_ok-specification.ensures.range) in
    c.in_ok-one_argument.ensures.leads _ _ _ _
    (found_then _ c.in-Some.is (c.in_ok-specification.ensures.serves c.args.cpu.now)
    (true_then _ _ (λ told. by_new _ _ _ _ _ _ _ still z c.is_made_by_new.ensures c.if-not-is_made_by_new.false)
    (natural_fails _ _ _ _ argument c.in_default-2.is (c.in_ok-elements.ensures.leads _))))

pub returns-then-n-gt-MOST_FIELDS-clause-serves : goal.returns-then-n-gt-MOST_FIELDS-clause-serves
unfolding new_with_size
returns-then-n-gt-MOST_FIELDS-clause-serves g c =
    let still = c.in_ok-specification.ensures.looks.regs 10 refl in
    let argument = c.in_ok-specification.ensures.looks.regs 11 refl in
    let z = small_number _ (of_some IsSmallInteger _ c.in-Some.is c.in_ok-specification.ensures.range) in
    c.in_ok-one_argument.ensures.leads _ _ _ _
    (found_then _ c.in-Some.is (c.in_ok-specification.ensures.serves c.args.cpu.now)
    (true_then _ _ (λ told. by_new _ _ _ _ _ _ _ still z c.is_made_by_new.ensures c.if-not-is_made_by_new.false)
    (natural_then _ _ _ _ _ argument c.in-Some-2.is (c.in_ok-elements.ensures.leads _)
    (false_fails _ _ c.in_ok-elements.ensures.fit.ready (λ told. too_many _ _ _ _ z c.fixed_fields.ensures.fixed c.if-n-gt-MOST_FIELDS.true)))))

pub returns-in_err-make_sized-clause-serves : goal.returns-in_err-make_sized-clause-serves
unfolding new_with_size
returns-in_err-make_sized-clause-serves g c =
    let still = c.in_ok-specification.ensures.looks.regs 10 refl in
    let made = c.in_ok-elements.ensures.looks.regs 10 refl ∙ still in
    let argument = c.in_ok-specification.ensures.looks.regs 11 refl in
    let z = small_number _ (of_some IsSmallInteger _ c.in-Some.is c.in_ok-specification.ensures.range) in
    c.in_ok-one_argument.ensures.leads _ _ _ _
    (found_then _ c.in-Some.is (c.in_ok-specification.ensures.serves c.args.cpu.now)
    (true_then _ _ (λ told. by_new _ _ _ _ _ _ _ still z c.is_made_by_new.ensures c.if-not-is_made_by_new.false)
    (natural_then _ _ _ _ _ argument c.in-Some-2.is (c.in_ok-elements.ensures.leads _)
    (true_then _ _ (λ told. few_enough _ _ _ _ z c.fixed_fields.ensures.fixed c.if-n-gt-MOST_FIELDS.false)
    (serves_exit _ _ (sized_made _ _ _ _ _ _ made z c.fixed_fields.ensures.fixed (c.in_err-make_sized.ensures.serves _)) c.from_residual-in_err-make_sized.ensures.1)))))

pub returns-clause-serves : goal.returns-clause-serves
unfolding new_with_size
returns-clause-serves g c =
    let still = c.in_ok-specification.ensures.looks.regs 10 refl in
    let made = c.in_ok-elements.ensures.looks.regs 10 refl ∙ still in
    let argument = c.in_ok-specification.ensures.looks.regs 11 refl in
    let z = small_number _ (of_some IsSmallInteger _ c.in-Some.is c.in_ok-specification.ensures.range) in
    c.in_ok-one_argument.ensures.leads _ _ _ _
    (found_then _ c.in-Some.is (c.in_ok-specification.ensures.serves c.args.cpu.now)
    (true_then _ _ (λ told. by_new _ _ _ _ _ _ _ still z c.is_made_by_new.ensures c.if-not-is_made_by_new.false)
    (natural_then _ _ _ _ _ argument c.in-Some-2.is (c.in_ok-elements.ensures.leads _)
    (true_then _ _ (λ told. few_enough _ _ _ _ z c.fixed_fields.ensures.fixed c.if-n-gt-MOST_FIELDS.false)
    (serves_then _ (sized_made _ _ _ _ _ _ made z c.fixed_fields.ensures.fixed (c.in_ok-make_sized.ensures.serves _)) c.answer.ensures.serves)))))
