use Rattle.std.proofs.Common.{ℕ, ◌≡◌, ◌≤◌, ◌-◌, List, None, length, take}
use Rattle.loom_host.specs.Bytes.{overwritten}
use Rattle.work_windows.specs.Windows.{AllShow, kept_at}
use Rattle.work_windows.proofs.row.Row.follow.Given as goal

-- the windows show what was written up to here, and keep what they kept
abbrev pub invariant-loop-done : goal.invariant-loop-done
invariant-loop-done g l =
    (l.done ≤ length l.piece)
    × ((work : List ℕ) → AllShow g.row.COUNT work l.initial.self.items.items → AllShow g.row.COUNT (overwritten work l.place (take l.done l.piece)) l.self.items.items)
    × ((k : ℕ) → kept_at g.row.COUNT l.self.items.items k ≡ None → kept_at g.row.COUNT l.initial.self.items.items k ≡ None)

abbrev pub decreases-loop-done : goal.decreases-loop-done
decreases-loop-done g l = length l.piece - l.done
