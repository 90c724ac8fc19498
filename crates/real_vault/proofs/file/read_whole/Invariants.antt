use Rattle.std.proofs.Common.{◌-◌, ◌≤◌, length}
use Rattle.real_vault.proofs.file.read_whole.Given as goal

abbrev pub invariant-loop-done : goal.invariant-loop-done
invariant-loop-done g l = l.done ≤ length l.buf

abbrev pub decreases-loop-done : goal.decreases-loop-done
decreases-loop-done g l = length l.buf - l.done
