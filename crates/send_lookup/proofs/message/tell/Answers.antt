use Rattle.std.proofs.Common.{refl, ◌∙◌}
use Rattle.object_memory.proofs.LooksLaws.{Looks-put, not_among}
use Rattle.blue_model.specs.Messages.{tell}
use Rattle.contexts.proofs.Frames.{below}
use Rattle.contexts.proofs.ServesLaws.{serves_then, serves_exit}
use Rattle.contexts.proofs.Steps.{numbers_then, pick_true, pick_false, done_serves, halt_serves}
use Rattle.contexts.proofs.RegisterLaws.{put_serves}
use Rattle.send_lookup.proofs.message.tell.Goals as goal

pub returns-in_err-create_message-clause-serves : goal.returns-in_err-create_message-clause-serves
unfolding tell
returns-in_err-create_message-clause-serves g c = numbers_then _ (serves_exit _ _ c.in_err-create_message.ensures.serves c.from_residual.ensures.1)

pub returns-in_err-known-clause-serves : goal.returns-in_err-known-clause-serves
unfolding tell
returns-in_err-known-clause-serves g c =
    numbers_then _ (serves_then _ c.in_ok-create_message.ensures.serves
    (serves_exit _ _ (c.in_err-known.ensures.serves _) c.from_residual-in_err-known.ensures.1))

pub returns-in_err-find-clause-serves : goal.returns-in_err-find-clause-serves
unfolding tell
returns-in_err-find-clause-serves g c =
    let name = c.in_ok-known.ensures in
    let ready = c.copy.ensures.fit.ready name.fit.ready in
    let class = (Looks-put _ _ 4 _ c.copy.ensures.told).regs c.args.class (not_among 4 c.args.class c.requires.apart) ∙ name.looks.regs c.args.class (below 15 c.args.class c.requires.class) ∙ c.in_ok-create_message.ensures.regs c.args.class c.requires.class in
    numbers_then _ (serves_then _ c.in_ok-create_message.ensures.serves
    (serves_then _ (name.serves _)
    (serves_then _ (put_serves 4 15 refl name.fit.ready ready c.copy.ensures.told)
    (serves_then _ (c.set_arguments.ensures.serves _ ready)
    (serves_exit _ _ (rw class at c.in_err-find.ensures.serves _) c.from_residual-in_err-find.ensures.1)))))

pub returns-then-not-branch-clause-serves : goal.returns-then-not-branch-clause-serves
unfolding tell
returns-then-not-branch-clause-serves g c =
    let name = c.in_ok-known.ensures in
    let ready = c.copy.ensures.fit.ready name.fit.ready in
    let class = (Looks-put _ _ 4 _ c.copy.ensures.told).regs c.args.class (not_among 4 c.args.class c.requires.apart) ∙ name.looks.regs c.args.class (below 15 c.args.class c.requires.class) ∙ c.in_ok-create_message.ensures.regs c.args.class c.requires.class in
    numbers_then _ (serves_then _ c.in_ok-create_message.ensures.serves
    (serves_then _ (name.serves _)
    (serves_then _ (put_serves 4 15 refl name.fit.ready ready c.copy.ensures.told)
    (serves_then _ (c.set_arguments.ensures.serves _ ready)
    (serves_then _ (rw class at c.in_ok-find.ensures.serves _)
    (pick_false _ _ _ c.if-not-branch.true halt_serves))))))

pub returns-clause-serves : goal.returns-clause-serves
unfolding tell
returns-clause-serves g c =
    let name = c.in_ok-known.ensures in
    let ready = c.copy.ensures.fit.ready name.fit.ready in
    let class = (Looks-put _ _ 4 _ c.copy.ensures.told).regs c.args.class (not_among 4 c.args.class c.requires.apart) ∙ name.looks.regs c.args.class (below 15 c.args.class c.requires.class) ∙ c.in_ok-create_message.ensures.regs c.args.class c.requires.class in
    numbers_then _ (serves_then _ c.in_ok-create_message.ensures.serves
    (serves_then _ (name.serves _)
    (serves_then _ (put_serves 4 15 refl name.fit.ready ready c.copy.ensures.told)
    (serves_then _ (c.set_arguments.ensures.serves _ ready)
    (serves_then _ (rw class at c.in_ok-find.ensures.serves _)
    (pick_true _ _ _ c.if-not-branch.false (done_serves c.in_ok-find.ensures.fit.ready)))))))
