use Rattle.file_saving.proofs.SavingLaws.{leaves-same}
use Rattle.file_saving.proofs.PutLaws.{puts-same}
use Rattle.file_saving.proofs.saving.give_up_for.Goals as goal

pub returns-then-other-saving-clause-untouched : goal.returns-then-other-saving-clause-untouched
returns-then-other-saving-clause-untouched g c told = leaves-same _ _ _ (c.look.ensures.still told)

pub returns-in-Err : goal.returns-in-Err
returns-in-Err g c = record { untouched = λ told. leaves-same _ _ _ (c.look.ensures.still told); failed = λ told. c.look.ensures.still told; puts = λ told. puts-same _ _ (c.look.ensures.still told) }
