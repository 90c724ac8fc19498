use Rattle.std.proofs.Common.{refl}
use Rattle.file_saving.proofs.SavingLaws.{entry-apart, keeps-same, keeps-untouched}
use Rattle.file_roles.proofs.saved.apart.Goals as goal

pub returns-then-is_apart-clause-keeps : goal.returns-then-is_apart-clause-keeps
returns-then-is_apart-clause-keeps g c told = keeps-same _ _ _ refl

pub returns-clause-keeps : goal.returns-clause-keeps
returns-clause-keeps g c told = keeps-untouched _ _ _ (c.discard.ensures.untouched told _ (λ named. entry-apart g.S.System.entry g.met.S.System.beside _ _ c.args.saving.beside))
