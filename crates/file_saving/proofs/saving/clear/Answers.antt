use Rattle.file_saving.proofs.SavingLaws.{keeps-removed, keeps-same, keeps-then}
use Rattle.file_saving.proofs.PutLaws.{puts-same}
use Rattle.file_saving.proofs.saving.clear.Goals as goal

pub returns-then-ne-clause-keeps : goal.returns-then-ne-clause-keeps
returns-then-ne-clause-keeps g c told e other = keeps-same e _ _ (c.look.ensures.still told)

pub returns-else-ne-clause-keeps : goal.returns-else-ne-clause-keeps
returns-else-ne-clause-keeps g c told e other = keeps-then e _ _ _ (keeps-same e _ _ (c.look.ensures.still told)) (keeps-removed _ e _ _ c.remove.result other (c.remove.ensures.removed told) (c.remove.ensures.failed told))

pub returns-in-Err-Missing-clause-keeps : goal.returns-in-Err-Missing-clause-keeps
returns-in-Err-Missing-clause-keeps g c told e other = keeps-same e _ _ (c.look.ensures.still told)

pub returns-in-Err : goal.returns-in-Err
returns-in-Err g c = record { keeps = λ told e other. keeps-same e _ _ (c.look.ensures.still told); puts = λ told. puts-same _ _ (c.look.ensures.still told) }
