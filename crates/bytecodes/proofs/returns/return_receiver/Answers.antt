use Rattle.std.proofs.Common.{refl, arith}
use Rattle.object_memory.proofs.LooksLaws.{put_value}
use Rattle.blue_model.specs.Bytecodes.{return_of}
use Rattle.contexts.proofs.Steps.{register_then, read_first}
use Rattle.contexts.proofs.RegisterLaws.{copy_quiet}
use Rattle.bytecodes.proofs.returns.return_receiver.Goals as goal

pub returns-clause-serves : goal.returns-clause-serves
unfolding return_of
returns-clause-serves g c =
    let ready = c.requires.fit.ready in
    let value = put_value _ _ 10 _ c.copy.ensures.told in
    register_then _ _ refl (read_first ready (copy_quiet _ _ 10 3 (omega arith) ready (c.copy.ensures.fit.ready ready) c.copy.ensures.told)
    (rw value at c.return_home.ensures.serves))
