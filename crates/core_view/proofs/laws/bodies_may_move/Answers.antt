use Rattle.core_view.proofs.Moves.{move-core, move-stays, move-outside}
use Rattle.core_view.proofs.laws.bodies_may_move.Goals as goal

pub returns : goal.returns
returns c = λ a d core move. (move-core a d core move, move-stays a d core move, λ t. move-outside a d t move)
