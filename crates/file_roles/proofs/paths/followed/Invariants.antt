use Rattle.std.proofs.Common.{◌≡◌, IsTrue}
use Rattle.file_roles.proofs.paths.followed.Given as goal

abbrev pub invariant-loop-left : goal.invariant-loop-left
invariant-loop-left g l = IsTrue g.S.System.tells → g.S.System.moments l.system ≡ g.S.System.moments l.initial.system

abbrev pub decreases-loop-left : goal.decreases-loop-left
decreases-loop-left g l = l.left
