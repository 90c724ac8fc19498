use Rattle.std.proofs.Common.{arith}
use Rattle.object_memory.proofs.LooksLaws.{put_value}
use Rattle.blue_model.specs.Bytecodes.{push_number}
use Rattle.contexts.proofs.ServesLaws.{exits}
use Rattle.contexts.proofs.Steps.{read_first}
use Rattle.contexts.proofs.RegisterLaws.{int_quiet}
use Rattle.bytecodes.proofs.VariableLaws.{before_kept}
use Rattle.bytecodes.proofs.stacks.push_number.Goals as goal

pub returns-in_err-push-clause-serves : goal.returns-in_err-push-clause-serves
unfolding push_number
returns-in_err-push-clause-serves g c =
    let value = put_value _ _ 10 _ c.int.ensures.told in
    let number = before_kept c.from.result c.args.i c.ranges.i.fits c.from.ensures in
    read_first c.requires.fit.ready (int_quiet _ _ 10 _ (omega arith) c.requires.fit.ready (c.int.ensures.fit.ready c.requires.fit.ready) c.int.ensures.told)
    (exits _ c.from_residual.ensures.1 (rw (value, number) at c.in_err-push.ensures.serves))

pub returns-clause-serves : goal.returns-clause-serves
unfolding push_number
returns-clause-serves g c =
    let value = put_value _ _ 10 _ c.int.ensures.told in
    let number = before_kept c.from.result c.args.i c.ranges.i.fits c.from.ensures in
    read_first c.requires.fit.ready (int_quiet _ _ 10 _ (omega arith) c.requires.fit.ready (c.int.ensures.fit.ready c.requires.fit.ready) c.int.ensures.told)
    (rw (value, number) at c.in_ok-push.ensures.serves)
