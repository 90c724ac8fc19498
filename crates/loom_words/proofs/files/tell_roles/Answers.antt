-- One role more is told in each turn.
use Rattle.loom_words.proofs.FileLaws.{one-told}
use Rattle.loom_words.specs.Words.{texts_of}
use Rattle.loom_words.proofs.files.tell_roles.Goals as goal

pub loop-role-preserved : goal.loop-role-preserved
loop-role-preserved g c = λ tells.
    one-told c.args.listener (texts_of c.args.words.now) c.args.roles.now c.loop-role.role-index _ _ _ _ c.loop-role-test.true (c.loop-role.invariant tells) (c.tell_role.ensures.told tells)
