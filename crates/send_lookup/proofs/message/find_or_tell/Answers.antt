use Rattle.std.proofs.Common.{refl, sym, ◌∙◌, arith}
use Rattle.blue_model.specs.Messages.{find_or_tell}
use Rattle.contexts.proofs.ServesLaws.{serves_then, serves_exit, exits}
use Rattle.contexts.proofs.Steps.{register_then, pick_true, pick_false, done_serves, halt_serves}
use Rattle.send_lookup.proofs.message.find_or_tell.Goals as goal

pub returns-in_err-find-clause-serves : goal.returns-in_err-find-clause-serves
unfolding find_or_tell
returns-in_err-find-clause-serves g c = serves_exit _ _ (c.in_err-find.ensures.serves _) c.from_residual.ensures.1

pub returns-then-branch-clause-serves : goal.returns-then-branch-clause-serves
unfolding find_or_tell
returns-then-branch-clause-serves g c =
    serves_then _ (c.in_ok-find.ensures.serves _) (register_then 4 _ refl (pick_true _ _ _ c.if-branch.true (done_serves c.in_ok-find.ensures.fit.ready)))

pub returns-then-is-clause-serves : goal.returns-then-is-clause-serves
unfolding find_or_tell
returns-then-is-clause-serves g c =
    serves_then _ (c.in_ok-find.ensures.serves _) (register_then 4 _ refl (pick_false _ _ _ c.if-branch.false
    (pick_true _ _ _ (sym c.is.ensures ∙ c.if-is.true) halt_serves)))

pub returns-in_err-tell-clause-serves : goal.returns-in_err-tell-clause-serves
unfolding find_or_tell
returns-in_err-tell-clause-serves g c =
    let low = c.requires.class in
    let class = c.in_ok-find.ensures.others c.args.class (omega arith) c.requires.other in
    serves_then _ (c.in_ok-find.ensures.serves _) (register_then 4 _ refl (pick_false _ _ _ c.if-branch.false
    (pick_false _ _ _ (sym c.is.ensures ∙ c.if-is.false) (exits _ c.from_residual-in_err-tell.ensures.1 (rw class at c.in_err-tell.ensures.serves)))))

pub returns-clause-serves : goal.returns-clause-serves
unfolding find_or_tell
returns-clause-serves g c =
    let low = c.requires.class in
    let class = c.in_ok-find.ensures.others c.args.class (omega arith) c.requires.other in
    serves_then _ (c.in_ok-find.ensures.serves _) (register_then 4 _ refl (pick_false _ _ _ c.if-branch.false
    (pick_false _ _ _ (sym c.is.ensures ∙ c.if-is.false) (rw class at c.in_ok-tell.ensures.serves))))
