use Rattle.std.proofs.Common.{refl}
use Rattle.file_saving.proofs.PutLaws.{puts-closed, puts-found, puts-same, puts-then}
use Rattle.file_saving.proofs.SavingLaws.{keeps-closed, keeps-same, keeps-then}
use Rattle.file_roles.proofs.SavedLaws.{found-same, keeps-found, none-found}
use Rattle.file_roles.proofs.saved.find_old.Goals as goal

pub returns-in_ok-old-in-Ok-clause-keeps : goal.returns-in_ok-old-in-Ok-clause-keeps
returns-in_ok-old-in-Ok-clause-keeps g c told e = keeps-then e _ _ _ (keeps-same e _ _ (c.look.ensures.still told)) (keeps-then e _ _ _ (keeps-found e _ _ _ _ _ (c.in_ok-old-in-Ok.ensures.opened told)) (keeps-closed e _ _ _ (c.close.ensures told)))

pub returns-in_ok-old-in-Ok-clause-puts : goal.returns-in_ok-old-in-Ok-clause-puts
returns-in_ok-old-in-Ok-clause-puts g c told = puts-then _ _ _ (puts-same _ _ (c.look.ensures.still told)) (puts-then _ _ _ (puts-found _ _ _ _ _ (c.in_ok-old-in-Ok.ensures.opened told)) (puts-closed _ _ _ (c.close.ensures told)))

pub returns-in_ok-old-in-Ok-clause-named : goal.returns-in_ok-old-in-Ok-clause-named
returns-in_ok-old-in-Ok-clause-named g c told i is = found-same _ i _ is (c.in-Ok.ensures.found told refl)

pub returns-in_err-old-in-Ok-clause-keeps : goal.returns-in_err-old-in-Ok-clause-keeps
returns-in_err-old-in-Ok-clause-keeps g c told e = keeps-then e _ _ _ (keeps-same e _ _ (c.look.ensures.still told)) (keeps-same e _ _ (c.in_err-old-in-Ok.ensures.failed told))

pub returns-in_err-old-in-Ok-clause-puts : goal.returns-in_err-old-in-Ok-clause-puts
returns-in_err-old-in-Ok-clause-puts g c told = puts-then _ _ _ (puts-same _ _ (c.look.ensures.still told)) (puts-same _ _ (c.in_err-old-in-Ok.ensures.failed told))

pub returns-in-Err-Missing-clause-keeps : goal.returns-in-Err-Missing-clause-keeps
returns-in-Err-Missing-clause-keeps g c told e = keeps-same e _ _ (c.look.ensures.still told)

pub returns-in-Err-Missing-clause-puts : goal.returns-in-Err-Missing-clause-puts
returns-in-Err-Missing-clause-puts g c told = puts-same _ _ (c.look.ensures.still told)

pub returns-in-Err-Missing-clause-named : goal.returns-in-Err-Missing-clause-named
returns-in-Err-Missing-clause-named g c told i is = none-found _ i is (c.in-Err-Missing.ensures.missing told refl c.in-Err-Missing.field-0-is)

pub returns-in-Err-clause-keeps : goal.returns-in-Err-clause-keeps
returns-in-Err-clause-keeps g c told e = keeps-same e _ _ (c.look.ensures.still told)

pub returns-in-Err-clause-puts : goal.returns-in-Err-clause-puts
returns-in-Err-clause-puts g c told = puts-same _ _ (c.look.ensures.still told)
