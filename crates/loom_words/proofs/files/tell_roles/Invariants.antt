use Rattle.std.proofs.Common.{◌≡◌, ◌++◌, IsTrue, take}
use Rattle.loom_words.proofs.FileLaws.{told_of}
use Rattle.loom_words.specs.Words.{texts_of}
use Rattle.loom_words.proofs.files.tell_roles.Given as goal

abbrev pub invariant-loop-role : goal.invariant-loop-role
invariant-loop-role g l = IsTrue g.K.KeepsApart.tells → g.K.KeepsApart.told l.keeper ≡ g.K.KeepsApart.told l.initial.keeper ++ told_of l.listener (texts_of l.words) (take l.role-index l.roles)
