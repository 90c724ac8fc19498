use Rattle.std.proofs.Common.{refl}
use Rattle.file_saving.specs.Saving.{being_written}
use Rattle.file_saving.proofs.SavingLaws.{keeps-appended, unfinished-put}
use Rattle.file_saving.proofs.PutLaws.{puts-else-ok, puts-spoiled}
use Rattle.file_saving.proofs.saving.write.Goals as goal

pub returns-clause-keeps : goal.returns-clause-keeps
returns-clause-keeps g c told bytes u e other =
    let o = being_written c.args.saving.now.file bytes in
    keeps-appended _ e _ _ bytes c.args.buf.now _ _ c.append.result other u (c.append.ensures.put told o u.opened refl) (c.append.ensures.failed told o u.opened refl)

pub returns-clause-put : goal.returns-clause-put
returns-clause-put g c told bytes u =
    let o = being_written c.args.saving.now.file bytes in
    unfinished-put _ _ _ bytes c.args.buf.now _ _ c.append.result u (c.append.ensures.put told o u.opened refl)

pub returns-clause-puts : goal.returns-clause-puts
returns-clause-puts g c told bytes u =
    let o = being_written c.args.saving.now.file bytes in
    puts-spoiled _ _ _ c.append.result (c.append.ensures.failed told o u.opened refl)

pub returns-clause-others : goal.returns-clause-others
returns-clause-others g c told bytes u =
    let o = being_written c.args.saving.now.file bytes in
    puts-else-ok _ o c.args.buf.now _ _ c.append.result u.opened (c.append.ensures.put told o u.opened refl)
