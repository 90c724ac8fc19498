use Rattle.std.proofs.Common.{sym, ◌∙◌, ap, is_some, arith}
use mir.Syntax.{w128}
use Rattle.std.proofs.lemmas.Int.{to_z-of_z}
use Rattle.long_names.specs.Words.{IsSmallInteger}
use Rattle.object_memory.proofs.ShapeLaws.{small_number}
use Rattle.blue_model.specs.LargeInts.{large_answer}
use Rattle.contexts.proofs.PeekPairs.{of_some}
use Rattle.contexts.proofs.ReadLaws.{exits_with}
use Rattle.contexts.proofs.Steps.{pick_true, pick_false}
use Rattle.large_ints.proofs.AnswerLaws.{number_serves, stated_number}
use Rattle.large_ints.proofs.answers.large_answer.Goals as goal

pub returns-in-Some-clause-serves : goal.returns-in-Some-clause-serves
unfolding large_answer
returns-in-Some-clause-serves g c = λ cpu.
    let small = of_some IsSmallInteger _ _ c.in-Some.is c.small.ensures.range in
    let stated = stated_number c.args.z c.in-Some.number (sym (rw (to_z-of_z w128 _ c.ranges.z) at c.small.ensures.small) ∙ c.in-Some.is) in
    pick_true _ _ _ stated.0 (number_serves 12 _ c.args.z (omega arith) (small_number _ small ∙ stated.1) c.requires.fit.ready (c.int.ensures.fit.ready c.requires.fit.ready) c.int.ensures.told)

pub returns-in_err-make_large_integer-clause-serves : goal.returns-in_err-make_large_integer-clause-serves
unfolding large_answer
returns-in_err-make_large_integer-clause-serves g c = λ cpu.
    exits_with _ _ c.from_residual.ensures.1 (pick_false _ _ _ (ap is_some (sym (rw (to_z-of_z w128 _ c.ranges.z) at c.small.ensures.small) ∙ c.in_default.is)) (rw (to_z-of_z w128 _ c.ranges.z) at (c.in_err-make_large_integer.ensures.serves cpu)))

pub returns-clause-serves : goal.returns-clause-serves
unfolding large_answer
returns-clause-serves g c = λ cpu. pick_false _ _ _ (ap is_some (sym (rw (to_z-of_z w128 _ c.ranges.z) at c.small.ensures.small) ∙ c.in_default.is)) (rw (to_z-of_z w128 _ c.ranges.z) at (c.in_ok-make_large_integer.ensures.serves cpu))
