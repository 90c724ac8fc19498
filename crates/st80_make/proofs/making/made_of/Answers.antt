use Rattle.std.proofs.lemmas.Result.{IfOk-weaker}
use Rattle.st80_make.proofs.making.made_of.Goals as goal

pub returns-clause-made : goal.returns-clause-made
returns-clause-made c = IfOk-weaker c.built_in.result _ _ (λ made is. record { program = c.in_ok-program.program; trees = c.in_ok-trees.trees; read = c.in_ok-program.ensures.read; resolved = c.in_ok-trees.ensures.resolved; valid = rw is at c.in_ok-built.ensures }) c.built_in.ensures.made
