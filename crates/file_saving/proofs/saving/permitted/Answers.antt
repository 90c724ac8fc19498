use Rattle.std.proofs.Common.{refl}
use Rattle.file_saving.proofs.SavingLaws.{apart-same, keeps-same, keeps-then, keeps-untouched}
use Rattle.file_saving.proofs.saving.permitted.Goals as goal

pub returns-in_default-clause-keeps : goal.returns-in_default-clause-keeps
returns-in_default-clause-keeps g c told e apart = keeps-same e _ _ refl

pub returns-in-Ok-clause-keeps : goal.returns-in-Ok-clause-keeps
returns-in-Ok-clause-keeps g c told e apart = keeps-same e _ _ (c.permit.ensures told)

pub returns-in-Err-clause-keeps : goal.returns-in-Err-clause-keeps
returns-in-Err-clause-keeps g c told e apart = keeps-then e _ _ _ (keeps-same e _ _ (c.permit.ensures told)) (keeps-untouched e _ _ (c.discard.ensures.untouched told e (apart-same e _ _ _ _ (c.permit.ensures told) apart)))
