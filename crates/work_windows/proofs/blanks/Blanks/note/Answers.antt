use Rattle.std.proofs.Common.{inl, inr, ◌/◌}
use Rattle.loom_host.proofs.Windows.{below_or_past}
use Rattle.work_windows.proofs.BlankLaws.{far-may, note-far}
use Rattle.work_windows.proofs.blanks.Blanks.note.Goals as goal

pub returns-clause-noted : goal.returns-clause-noted
returns-clause-noted c = λ k low high. elim (below_or_past (k / 4096) c.loop-page.page) [
  | inl below ↦ c.loop-page.invariant.noted k low below
  | inr past ↦ far-may c.loop-page.self (k / 4096) (note-far c.args.place c.args.n k c.saturating_add.result c.min-end.result c.loop-page.page c.saturating_add.ensures c.min-end.ensures c.loop-page-test.false past high)
]
