use mir.Syntax.{w128}
use Rattle.std.proofs.lemmas.Int.{to_z-of_z}
use Rattle.blue_model.specs.LargeInts.{make_large_integer}
use Rattle.contexts.proofs.ServesLaws.{serves_then, serves_stop}
use Rattle.contexts.proofs.ReadLaws.{exits_with}
use Rattle.large_ints.specs.Answers.{make_bytes_of}
use Rattle.large_ints.proofs.AnswerLaws.{named_by}
use Rattle.large_ints.proofs.answers.make_large_integer.Goals as goal

pub returns-in_err-known-clause-serves : goal.returns-in_err-known-clause-serves
unfolding make_large_integer
returns-in_err-known-clause-serves g c = λ cpu. exits_with _ _ c.from_residual.ensures.1 (serves_stop _ (rw (c.class_of_sign.ensures.class, to_z-of_z w128 _ c.ranges.z) at (c.in_err-known.ensures.serves cpu)))

pub make_bytes_of-requires-clause-class : goal.make_bytes_of-requires-clause-class
make_bytes_of-requires-clause-class g c = named_by _ _ c.in_ok-known.ensures.name

pub returns-in_err-make_bytes_of-clause-serves : goal.returns-in_err-make_bytes_of-clause-serves
unfolding make_large_integer make_bytes_of
returns-in_err-make_bytes_of-clause-serves g c = λ cpu.
    exits_with _ _ c.from_residual-in_err-make_bytes_of.ensures.1
    (serves_then _ (rw (c.class_of_sign.ensures.class, to_z-of_z w128 _ c.ranges.z) at (c.in_ok-known.ensures.serves cpu)) (rw (c.unsigned_abs.ensures.value, to_z-of_z w128 _ c.ranges.z) at (c.in_err-make_bytes_of.ensures.serves cpu)))

pub returns-clause-serves : goal.returns-clause-serves
unfolding make_large_integer make_bytes_of
returns-clause-serves g c = λ cpu.
    serves_then _ (rw (c.class_of_sign.ensures.class, to_z-of_z w128 _ c.ranges.z) at (c.in_ok-known.ensures.serves cpu)) (rw (c.unsigned_abs.ensures.value, to_z-of_z w128 _ c.ranges.z) at (c.in_ok-make_bytes_of.ensures.serves cpu))
