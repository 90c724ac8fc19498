use Rattle.std.proofs.Common.{arith}
use Rattle.work_windows.proofs.KeptLaws.{resized-kept}
use Rattle.work_windows.proofs.ListLaws.{resized-show}
use Rattle.work_windows.proofs.row.Row.grow.Goals as goal

pub returns-then-index-capacity-clause-shows : goal.returns-then-index-capacity-clause-shows
returns-then-index-capacity-clause-shows g c = λ work shows.
    resized-show _ work c.args.self.now.items.items _ _ _ c.unread.result _ c.resize.ensures.items c.unread.ensures shows

pub returns-then-index-capacity-clause-kept : goal.returns-then-index-capacity-clause-kept
returns-then-index-capacity-clause-kept g c = λ k.
    resized-kept _ c.args.self.now.items.items _ _ _ c.unread.result _ c.resize.ensures.items (omega (arith, c.requires, c.grown.ensures)) c.unread.ensures k
