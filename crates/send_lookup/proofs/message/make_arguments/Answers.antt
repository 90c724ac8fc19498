use Rattle.contexts.proofs.Steps.{done_same}
use Rattle.std.proofs.Common.{refl}
use Rattle.blue_model.specs.Messages.{make_arguments}
use Rattle.contexts.proofs.ServesLaws.{serves_then, serves_stop}
use Rattle.contexts.proofs.ReadLaws.{exits_with}
use Rattle.send_lookup.proofs.MessageLaws.{unequal}
use Rattle.send_lookup.proofs.message.make_arguments.Goals as goal

pub returns-in_err-known-clause-serves : goal.returns-in_err-known-clause-serves
unfolding make_arguments
returns-in_err-known-clause-serves g c = exits_with _ _ c.from_residual.ensures.1 (serves_stop _ (c.in_err-known.ensures.serves _))

pub returns-in_err-make_pointers-clause-serves : goal.returns-in_err-make_pointers-clause-serves
unfolding make_arguments
returns-in_err-make_pointers-clause-serves g c =
    exits_with _ _ c.from_residual-in_err-make_pointers.ensures.1
    (serves_then _ (c.in_ok-known.ensures.serves _) (serves_stop _ (c.in_err-make_pointers.ensures.serves _)))

pub returns-in_err-copy_arguments-clause-serves : goal.returns-in_err-copy_arguments-clause-serves
unfolding make_arguments
returns-in_err-copy_arguments-clause-serves g c =
    exits_with _ _ c.from_residual-in_err-copy_arguments.ensures.1
    (serves_then _ (c.in_ok-known.ensures.serves _) (serves_then _ (c.in_ok-make_pointers.ensures.serves _) (serves_stop _ c.in_err-copy_arguments.ensures.serves)))

pub returns-clause-serves : goal.returns-clause-serves
unfolding make_arguments
returns-clause-serves g c =
    let copied = c.in_ok-copy_arguments.ensures in
    serves_then _ (c.in_ok-known.ensures.serves _)
    (serves_then _ (c.in_ok-make_pointers.ensures.serves _)
    (serves_then _ copied.serves
    (done_same (copied.regs 16 (unequal 16 17 refl)) copied.fit.ready)))
