use Rattle.std.proofs.Common.{arith}
use Rattle.std.proofs.lemmas.Int.{to_z_pos}
use mir.Syntax.{w16}
use Rattle.blue_model.specs.Elements.{number_object}
use Rattle.contexts.proofs.Steps.{pick_true, pick_false}
use Rattle.prims_object.proofs.NumberLaws.{number_serves, is_small, is_large}
use Rattle.prims_object.proofs.indexes.number_object.Goals as goal

pub returns-then-n-lt-SMALL_INTEGERS-clause-serves : goal.returns-then-n-lt-SMALL_INTEGERS-clause-serves
unfolding number_object
returns-then-n-lt-SMALL_INTEGERS-clause-serves g c = λ cpu. pick_true _ _ _ (is_small _ c.if-n-lt-SMALL_INTEGERS.true) (number_serves 12 _ _ (omega arith) (to_z_pos w16 c.args.n (omega (arith, c.if-n-lt-SMALL_INTEGERS.true))) c.requires.fit.ready (c.int.ensures.fit.ready c.requires.fit.ready) c.int.ensures.told)

pub returns-clause-serves : goal.returns-clause-serves
unfolding number_object
returns-clause-serves g c = λ cpu. pick_false _ _ _ (is_large _ (omega (arith, c.if-n-lt-SMALL_INTEGERS.false))) (c.make_large.ensures.serves cpu)
