use Rattle.std.proofs.Common.{ℕ, ◌≡◌, ◌≤◌, ◌-◌, List, length}
use Rattle.loom_host.specs.Bytes.{window}
use Rattle.work_windows.specs.Windows.{Over}
use Rattle.work_windows.proofs.CoverLaws.{Half}
use Rattle.work_windows.proofs.windows.Windows.cover.Given as goal

-- up to here it is what Work holds, and behind that what the host inside holds
abbrev pub invariant-loop-done : goal.invariant-loop-done
invariant-loop-done l =
    (l.done ≤ length l.initial.buf)
    × (length l.buf ≡ length l.initial.buf)
    × ((work all : List ℕ) → Over work l.self.written.items.items l.self.limit all → l.initial.buf ≡ window work l.place (length l.initial.buf) → Half work all l.place l.done l.buf)

abbrev pub decreases-loop-done : goal.decreases-loop-done
decreases-loop-done l = length l.initial.buf - l.done
