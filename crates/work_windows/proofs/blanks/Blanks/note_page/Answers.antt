use Rattle.std.proofs.Common.{◌≡◌, length, arith, rules}
use Rattle.work_windows.specs.Blanks.{may_hold}
use Rattle.work_windows.proofs.BlankLaws.{note-kept, note-noted}
use Rattle.work_windows.proofs.blanks.Blanks.note_page.Goals as goal

pub returns-clause-kept : goal.returns-clause-kept
unfolding may_hold
returns-clause-kept c =
    let size : length c.args.self.now.words ≡ 1024 = search rules in
    let few = c.requires.few in
    note-kept c.args.self.now.words c.args.page (omega (arith, size, few)) c.args.self.now.known

pub returns-clause-noted : goal.returns-clause-noted
unfolding may_hold
returns-clause-noted c =
    let size : length c.args.self.now.words ≡ 1024 = search rules in
    let few = c.requires.few in
    note-noted c.args.self.now.words c.args.page (omega (arith, size, few)) c.args.self.now.known
