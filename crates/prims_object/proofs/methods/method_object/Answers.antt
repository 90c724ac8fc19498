use Rattle.std.proofs.Common.{refl, arith}
use borrow.Author.Tests.{le-leb, lt-leb, eq-eqb, ne_eqb}
use Rattle.object_memory.proofs.LooksLaws.{put_value}
use Rattle.object_memory.proofs.ShapeLaws.{small_number}
use Rattle.contexts.proofs.Steps.{pick_true, pick_false, read_first}
use Rattle.contexts.proofs.RegisterLaws.{int_quiet}
use Rattle.contexts.proofs.TrialLaws.{true_then, false_fails, found_then, none_found, finding_exit}
use Rattle.prims_object.proofs.methods.method_object.Goals as goal

pub returns-then-n-eq1-clause-serves : goal.returns-then-n-eq1-clause-serves
returns-then-n-eq1-clause-serves g c =
    let ready = c.requires.fit.ready in
    let value = put_value _ _ 12 _ c.int.ensures.told in
    pick_true _ _ _ (eq-eqb _ 1 c.if-n-eq1.true)
    (read_first ready (int_quiet _ _ 12 _ (omega arith) ready (c.int.ensures.fit.ready ready) c.int.ensures.told) (rw (value, small_number _ c.requires.header) at c.answer.ensures.serves))

pub returns-then-n-lt2-clause-serves : goal.returns-then-n-lt2-clause-serves
returns-then-n-lt2-clause-serves g c = pick_false _ _ _ (ne_eqb _ 1 c.if-n-eq1.false) (false_fails _ _ c.requires.fit.ready (λ told. lt-leb 2 _ c.if-n-lt2.true))

pub returns-in_err-peek_literal-clause-serves : goal.returns-in_err-peek_literal-clause-serves
returns-in_err-peek_literal-clause-serves g c =
    pick_false _ _ _ (ne_eqb _ 1 c.if-n-eq1.false) (true_then _ _ (λ told. le-leb 2 _ c.if-n-lt2.false)
    (finding_exit _ _ (c.in_err-peek_literal.ensures.serves _) c.from_residual.ensures.1))

pub returns-then-not-branch-clause-serves : goal.returns-then-not-branch-clause-serves
returns-then-not-branch-clause-serves g c =
    pick_false _ _ _ (ne_eqb _ 1 c.if-n-eq1.false) (true_then _ _ (λ told. le-leb 2 _ c.if-n-lt2.false)
    (none_found _ refl (rw c.if-not-branch.true at (c.in_ok-peek_literal.ensures.serves c.args.cpu.now))))

pub returns-clause-serves : goal.returns-clause-serves
returns-clause-serves g c =
    pick_false _ _ _ (ne_eqb _ 1 c.if-n-eq1.false) (true_then _ _ (λ told. le-leb 2 _ c.if-n-lt2.false)
    (found_then _ refl (rw c.if-not-branch.false at (c.in_ok-peek_literal.ensures.serves c.args.cpu.now)) c.answer-2.ensures.serves))
