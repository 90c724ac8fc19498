use Rattle.file_saving.proofs.SavingLaws.{apart-closed, leaves-closed, leaves-then}
use Rattle.file_saving.proofs.PutLaws.{puts-closed, puts-then}
use Rattle.file_saving.proofs.saving.discard.Goals as goal

pub returns-clause-untouched : goal.returns-clause-untouched
returns-clause-untouched g c told e apart = leaves-then e _ _ _ (leaves-closed e _ _ _ (c.close.ensures told)) (c.remove_part.ensures.untouched told e (apart-closed e _ _ _ _ _ (c.close.ensures told) apart))

pub returns-clause-puts : goal.returns-clause-puts
returns-clause-puts g c told = puts-then _ _ _ (puts-closed _ _ _ (c.close.ensures told)) (c.remove_part.ensures.puts told)
