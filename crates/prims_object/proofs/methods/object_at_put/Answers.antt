use Rattle.std.proofs.Common.{refl, ap, ◌∙◌}
use borrow.Author.Tests.{le-leb, lt-leb}
use Rattle.blue_model.specs.Storage.{object_at_put}
use Rattle.contexts.proofs.ServesLaws.{serves_then, serves_exit, exits}
use Rattle.contexts.proofs.TrialLaws.{true_then, false_fails, found_then, none_found, finding_exit}
use Rattle.prims_object.proofs.NaturalLaws.{natural_then, natural_fails, natural_stops}
use Rattle.prims_object.proofs.methods.object_at_put.Goals as goal

pub returns-in_err-two_arguments-clause-serves : goal.returns-in_err-two_arguments-clause-serves
unfolding object_at_put
returns-in_err-two_arguments-clause-serves g c = exits _ c.from_residual.ensures.1 (c.in_err-two_arguments.ensures.leads _)

pub returns-in_err-peek_header-clause-serves : goal.returns-in_err-peek_header-clause-serves
unfolding object_at_put
returns-in_err-peek_header-clause-serves g c =
    c.in_ok-two_arguments.ensures.leads _ _ _ _
    (finding_exit _ _ (c.in_err-peek_header.ensures.serves c.args.cpu.now) c.from_residual-in_err-peek_header.ensures.1)

pub returns-in_default-clause-serves : goal.returns-in_default-clause-serves
unfolding object_at_put
returns-in_default-clause-serves g c =
    c.in_ok-two_arguments.ensures.leads _ _ _ _
    (none_found _ c.in_default.is (c.in_ok-peek_header.ensures.serves c.args.cpu.now))

pub returns-in_err-n-clause-serves : goal.returns-in_err-n-clause-serves
unfolding object_at_put
returns-in_err-n-clause-serves g c =
    let argument = c.in_ok-peek_header.ensures.looks.regs 11 refl in
    c.in_ok-two_arguments.ensures.leads _ _ _ _
    (found_then _ c.in-Some.is (c.in_ok-peek_header.ensures.serves c.args.cpu.now)
    (natural_stops _ _ _ _ argument (c.in_err-n.ensures.leads _) c.from_residual-in_err-n.ensures.1))

pub returns-in_default-2-clause-serves : goal.returns-in_default-2-clause-serves
unfolding object_at_put
returns-in_default-2-clause-serves g c =
    let argument = c.in_ok-peek_header.ensures.looks.regs 11 refl in
    c.in_ok-two_arguments.ensures.leads _ _ _ _
    (found_then _ c.in-Some.is (c.in_ok-peek_header.ensures.serves c.args.cpu.now)
    (natural_fails _ _ _ _ argument c.in_default-2.is (c.in_ok-n.ensures.leads _)))

pub returns-then-n-lt2-clause-serves : goal.returns-then-n-lt2-clause-serves
unfolding object_at_put
returns-then-n-lt2-clause-serves g c =
    let argument = c.in_ok-peek_header.ensures.looks.regs 11 refl in
    c.in_ok-two_arguments.ensures.leads _ _ _ _
    (found_then _ c.in-Some.is (c.in_ok-peek_header.ensures.serves c.args.cpu.now)
    (natural_then _ _ _ _ _ argument c.in-Some-2.is (c.in_ok-n.ensures.leads _)
    (false_fails _ _ c.in_ok-n.ensures.fit.ready (λ told. lt-leb 2 _ c.if-n-lt2.true))))

pub returns-in_err-peek_literal-clause-serves : goal.returns-in_err-peek_literal-clause-serves
unfolding object_at_put
returns-in_err-peek_literal-clause-serves g c =
    let argument = c.in_ok-peek_header.ensures.looks.regs 11 refl in
    let still = c.in_ok-n.ensures.looks.regs 10 refl ∙ c.in_ok-peek_header.ensures.looks.regs 10 refl in
    c.in_ok-two_arguments.ensures.leads _ _ _ _
    (found_then _ c.in-Some.is (c.in_ok-peek_header.ensures.serves c.args.cpu.now)
    (natural_then _ _ _ _ _ argument c.in-Some-2.is (c.in_ok-n.ensures.leads _)
    (true_then _ _ (λ told. le-leb 2 _ c.if-n-lt2.false)
    (finding_exit _ _ (rw still at (c.in_err-peek_literal.ensures.serves c.args.cpu.now)) c.from_residual-in_err-peek_literal.ensures.1))))

pub returns-then-not-branch-clause-serves : goal.returns-then-not-branch-clause-serves
unfolding object_at_put
returns-then-not-branch-clause-serves g c =
    let argument = c.in_ok-peek_header.ensures.looks.regs 11 refl in
    let still = c.in_ok-n.ensures.looks.regs 10 refl ∙ c.in_ok-peek_header.ensures.looks.regs 10 refl in
    c.in_ok-two_arguments.ensures.leads _ _ _ _
    (found_then _ c.in-Some.is (c.in_ok-peek_header.ensures.serves c.args.cpu.now)
    (natural_then _ _ _ _ _ argument c.in-Some-2.is (c.in_ok-n.ensures.leads _)
    (true_then _ _ (λ told. le-leb 2 _ c.if-n-lt2.false)
    (none_found _ refl (rw (still, c.if-not-branch.true) at (c.in_ok-peek_literal.ensures.serves c.args.cpu.now))))))

pub returns-in_err-store_value-clause-serves : goal.returns-in_err-store_value-clause-serves
unfolding object_at_put
returns-in_err-store_value-clause-serves g c =
    let argument = c.in_ok-peek_header.ensures.looks.regs 11 refl in
    let still = c.in_ok-n.ensures.looks.regs 10 refl ∙ c.in_ok-peek_header.ensures.looks.regs 10 refl in
    let into = c.in_ok-peek_literal.ensures.looks.regs 10 refl ∙ still in
    let value = c.in_ok-peek_literal.ensures.looks.regs 12 refl ∙ c.in_ok-n.ensures.looks.regs 12 refl ∙ c.in_ok-peek_header.ensures.looks.regs 12 refl in
    c.in_ok-two_arguments.ensures.leads _ _ _ _
    (found_then _ c.in-Some.is (c.in_ok-peek_header.ensures.serves c.args.cpu.now)
    (natural_then _ _ _ _ _ argument c.in-Some-2.is (c.in_ok-n.ensures.leads _)
    (true_then _ _ (λ told. le-leb 2 _ c.if-n-lt2.false)
    (found_then _ refl (rw (still, c.if-not-branch.false) at (c.in_ok-peek_literal.ensures.serves c.args.cpu.now))
    (serves_exit _ _ (rw (into, value) at (c.in_err-store_value.ensures.serves c.args.cpu.now)) c.from_residual-in_err-store_value.ensures.1)))))

pub returns-clause-serves : goal.returns-clause-serves
unfolding object_at_put
returns-clause-serves g c =
    let argument = c.in_ok-peek_header.ensures.looks.regs 11 refl in
    let still = c.in_ok-n.ensures.looks.regs 10 refl ∙ c.in_ok-peek_header.ensures.looks.regs 10 refl in
    let into = c.in_ok-peek_literal.ensures.looks.regs 10 refl ∙ still in
    let value = c.in_ok-peek_literal.ensures.looks.regs 12 refl ∙ c.in_ok-n.ensures.looks.regs 12 refl ∙ c.in_ok-peek_header.ensures.looks.regs 12 refl in
    let kept = ap (λ f. f 12) c.in_ok-store_value.ensures.regs ∙ value in
    c.in_ok-two_arguments.ensures.leads _ _ _ _
    (found_then _ c.in-Some.is (c.in_ok-peek_header.ensures.serves c.args.cpu.now)
    (natural_then _ _ _ _ _ argument c.in-Some-2.is (c.in_ok-n.ensures.leads _)
    (true_then _ _ (λ told. le-leb 2 _ c.if-n-lt2.false)
    (found_then _ refl (rw (still, c.if-not-branch.false) at (c.in_ok-peek_literal.ensures.serves c.args.cpu.now))
    (serves_then _ (rw (into, value) at (c.in_ok-store_value.ensures.serves c.args.cpu.now)) (rw kept at c.answer.ensures.serves))))))
