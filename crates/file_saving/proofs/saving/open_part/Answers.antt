use Rattle.file_saving.proofs.SavingLaws.{keeps-unmade, keeps-made}
use Rattle.file_saving.proofs.PutLaws.{takes-apart}
use Rattle.file_saving.proofs.saving.open_part.Goals as goal

pub returns-in_err-opened-clause-keeps : goal.returns-in_err-opened-clause-keeps
returns-in_err-opened-clause-keeps g c told e other = keeps-unmade _ e _ _ other (rw c.as_str.ensures.value at c.in_err-opened.ensures.failed told)

pub returns-clause-keeps : goal.returns-clause-keeps
returns-clause-keeps g c told e other = keeps-made _ e _ _ _ _ _ other (rw c.as_str.ensures.value at c.in_ok-opened.ensures.opened told)

pub returns-clause-fresh : goal.returns-clause-fresh
returns-clause-fresh g c told d u is = takes-apart _ _ _ _ _ (c.in_ok-opened.ensures.opened told).does.takes d u is
