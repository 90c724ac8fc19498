use Rattle.std.proofs.Common.{ap, refl}
use Rattle.file_system.specs.Calls.{synced}
use Rattle.file_saving.proofs.SavingLaws.{finished-through, keeps-changed, keeps-closed, keeps-same, keeps-then, keeps-unsynced}
use Rattle.file_saving.proofs.PutLaws.{puts-changed, puts-closed, puts-same, puts-then, puts-unsynced}
use Rattle.file_saving.proofs.saving.settle.Goals as goal

pub returns-in_err-sync-clause-keeps : goal.returns-in_err-sync-clause-keeps
returns-in_err-sync-clause-keeps g c told bytes u e other = keeps-unsynced _ e _ _ bytes _ _ other u (c.in_err-sync.ensures.failed told _ u.opened)

pub returns-in_err-found-clause-keeps : goal.returns-in_err-found-clause-keeps
returns-in_err-found-clause-keeps g c told bytes u e other = keeps-then e _ _ _ (keeps-changed _ e _ _ bytes synced _ _ other u (c.in_ok-sync.ensures.synced told _ u.opened)) (keeps-same e _ _ (c.in_err-found.ensures.still told))

pub returns-then-found-saving-clause-keeps : goal.returns-then-found-saving-clause-keeps
returns-then-found-saving-clause-keeps g c told bytes u e other = keeps-then e _ _ _ (keeps-changed _ e _ _ bytes synced _ _ other u (c.in_ok-sync.ensures.synced told _ u.opened)) (keeps-same e _ _ (c.in_ok-found.ensures.still told))

pub returns-clause-keeps : goal.returns-clause-keeps
returns-clause-keeps g c told bytes u e other = keeps-then e _ _ _ (keeps-changed _ e _ _ bytes synced _ _ other u (c.in_ok-sync.ensures.synced told _ u.opened)) (keeps-then e _ _ _ (keeps-same e _ _ (c.in_ok-found.ensures.still told)) (keeps-closed e _ _ _ (c.close.ensures told)))

pub returns-in_err-sync-clause-puts : goal.returns-in_err-sync-clause-puts
returns-in_err-sync-clause-puts g c told bytes u = puts-unsynced _ bytes _ _ (c.in_err-sync.ensures.failed told _ u.opened)

pub returns-clause-finished : goal.returns-clause-finished
returns-clause-finished g c told bytes u = finished-through _ _ _ _ _ bytes _ _ _ _ u (c.in_ok-sync.ensures.synced told _ u.opened) (c.in_ok-found.ensures.still told) (c.in_ok-found.ensures.found told refl) (ap g.S.System.entry c.as_str.ensures.value) c.if-found-saving.false (c.close.ensures told)

pub returns-clause-puts : goal.returns-clause-puts
returns-clause-puts g c told bytes u = puts-then _ _ _ (puts-changed _ bytes synced _ _ (c.in_ok-sync.ensures.synced told _ u.opened)) (puts-then _ _ _ (puts-same _ _ (c.in_ok-found.ensures.still told)) (puts-closed _ _ _ (c.close.ensures told)))
