use Rattle.std.proofs.Common.{sym, arith, w32}
use Rattle.std.proofs.lemmas.Int.{to_z_pos}
use Rattle.blue_model.specs.Primitives.{then_next}
use Rattle.blue_model.specs.Bytecodes.{jump_where}
use Rattle.contexts.proofs.ServesLaws.{serves_then, serves_exit}
use Rattle.contexts.proofs.Steps.{pick_true, pick_false, done_serves}
use Rattle.bytecodes.proofs.KeepLaws.{goes_next}
use Rattle.bytecodes.proofs.jumps.jump_where.Goals as goal

pub returns-in_err-jump-clause-serves : goal.returns-in_err-jump-clause-serves
unfolding jump_where then_next
returns-in_err-jump-clause-serves g c =
    let distance = to_z_pos w32 c.args.distance (let low = c.requires.distance in omega arith) in
    pick_true _ _ _ (sym c.if-is.ensures) (serves_exit _ _ (rw distance at c.in_err-jump.ensures.serves) c.from_residual.ensures.1)

pub returns-then-is-clause-serves : goal.returns-then-is-clause-serves
unfolding jump_where then_next
returns-then-is-clause-serves g c =
    let distance = to_z_pos w32 c.args.distance (let low = c.requires.distance in omega arith) in
    pick_true _ _ _ (sym c.if-is.ensures) (serves_then _ (rw distance at c.in_ok-jump.ensures.serves) (done_serves c.in_ok-jump.ensures.fit.ready))

pub returns-then-is-2-clause-serves : goal.returns-then-is-2-clause-serves
unfolding jump_where
returns-then-is-2-clause-serves g c = pick_false _ _ _ (sym c.if-is.ensures) (pick_true _ _ _ (sym c.if-is-2.ensures) (done_serves c.requires.fit.ready))

pub returns-clause-serves : goal.returns-clause-serves
unfolding jump_where
returns-clause-serves g c = pick_false _ _ _ (sym c.if-is.ensures) (pick_false _ _ _ (sym c.if-is-2.ensures) c.must_be_boolean.ensures.serves)

pub returns-then-is-clause-keeps : goal.returns-then-is-clause-keeps
returns-then-is-clause-keeps g c = goes_next

pub returns-then-is-2-clause-keeps : goal.returns-then-is-2-clause-keeps
returns-then-is-2-clause-keeps g c = goes_next
