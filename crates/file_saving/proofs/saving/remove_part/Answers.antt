use Rattle.std.proofs.Common.{ap, refl}
use Rattle.std.proofs.lemmas.Result.{IfOk-at_ok}
use Rattle.file_saving.proofs.SavingLaws.{leaves-found, leaves-same}
use Rattle.file_saving.proofs.saving.remove_part.Goals as goal

pub returns-then-found-saving-clause-untouched : goal.returns-then-found-saving-clause-untouched
returns-then-found-saving-clause-untouched g c told e apart = leaves-found _ _ e _ _ _ _ _ c.remove.result apart (ap g.S.System.entry c.as_str.ensures.value) (IfOk-at_ok _ c.in-Ok.is (c.look.ensures.found told refl)) c.if-found-saving.true (c.look.ensures.still told)
    (rw c.as_str-then-found-saving.ensures.value at c.remove.ensures.removed told) (rw c.as_str-then-found-saving.ensures.value at c.remove.ensures.failed told)

pub returns-else-found-saving-clause-untouched : goal.returns-else-found-saving-clause-untouched
returns-else-found-saving-clause-untouched g c told e apart = leaves-same e _ _ (c.look.ensures.still told)

pub returns-in_default-clause-untouched : goal.returns-in_default-clause-untouched
returns-in_default-clause-untouched g c told e apart = leaves-same e _ _ (c.look.ensures.still told)
